-- A text is one: in which quotes it could stand makes no difference to what it reads as.
use Rattle.std.specs.Prelude.{Bool, not, ℕ, eqb}
use Rattle.grammar.specs.Bytes.{Bytes, every}

-- no byte of w is b
abbrev pub lacks : ℕ → Bytes → Bool
lacks q w = every (λ b. not (eqb q b)) w
