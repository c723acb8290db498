-- Bytes of a text that are written as they are.
use Rattle.std.specs.Prelude.{◌≡◌, [], ◌∷◌, ℕ, ◌+◌, ◌-◌, ◌≤◌, ◌<◌, length, get_or}
use Rattle.grammar.specs.Bytes.{Bytes}
use Rattle.spelling.specs.Written.{escape_byte}

-- n bytes from i on
abbrev pub Stay : Bytes → ℕ → ℕ → Type 0
Stay s i n = (k : ℕ) → k < n → escape_byte (get_or s (i + k) 0) ≡ get_or s (i + k) 0 ∷ []

-- the bytes from i up to j
pub record Kept (s : Bytes) (i j : ℕ) : Type 0 where
  pub from : i ≤ j
  pub upto : j ≤ length s
  pub same : Stay s i (j - i)
