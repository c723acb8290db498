-- Names of elements and attributes.
use Rattle.std.specs.Prelude.{◌≡◌, [], ◌∷◌, Bool, true, ◌&&◌, ◌||◌, ℕ, ◌≤◌, length, eqb}
use Prim.Native.Char.{code}
use Rattle.grammar.specs.Bytes.{Bytes, within, digit, every, non_empty}
use Rattle.grammar.specs.Limits.{NAME}

unfoldable pub letter : ℕ → Bool
letter b = within (code "A") (code "Z") b || within (code "a") (code "z") b

-- "first a letter or `_`"
unfoldable pub name_start : ℕ → Bool
name_start b = letter b || eqb (code "_") b

-- "then letters, digits, `_ - . :` (ASCII)"
unfoldable pub name_byte : ℕ → Bool
name_byte b = name_start b || (digit b || (eqb (code "-") b || (eqb (code ".") b || eqb (code ":") b)))

abbrev pub shaped : Bytes → Bool
shaped [] = true
shaped (b ∷ n) = name_start b && every name_byte n

-- "Names: 1 to 64 bytes; first a letter or `_`, then letters, digits, `_ - . :` (ASCII)."
pub record Name (n : Bytes) : Type 0 where
  pub shape : shaped n ≡ true
  pub one : non_empty n ≡ true
  pub short : length n ≤ NAME
