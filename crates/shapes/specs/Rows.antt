-- A Version read in a row, for the proofs of the code.
use Rattle.std.specs.Prelude.{ℕ, suc, [], ◌∷◌}
use Rattle.number.specs.Bytes.{Bytes, pick, digit}

-- how many digits stand first
unfoldable pub figures : Bytes → ℕ
figures [] = 0
figures (b ∷ s) = pick (digit b) (suc (figures s)) 0
