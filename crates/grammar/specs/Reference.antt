-- References: the five named ones, and those by a number.
use Rattle.std.specs.Prelude.{◌≡◌, [], ◌∷◌, ◌++◌, Bool, true, ◌||◌, cond, ℕ, ◌+◌, ◌-◌, ◌*◌, ◌≤◌, length, leb}
use Prim.Native.Char.{code}
use Rattle.grammar.specs.Bytes.{Bytes, text, within, digit, every, non_empty}
use Rattle.grammar.specs.Character.{is_char}

-- "`&` only in the five named references and in `&#` with 1 to 7 decimal or `&#x` with 1 to 6 hex digits"
pub data Named : Type 0 where
  amp lt gt quot apos : Named

pub data Reference : Type 0 where
  named : Named → Reference
  decimal hexadecimal : Bytes → Reference

abbrev pub spell_named : Named → Bytes
spell_named amp = text "amp;"
spell_named lt = text "lt;"
spell_named gt = text "gt;"
spell_named quot = text "quot;"
spell_named apos = text "apos;"

abbrev pub spell_reference : Reference → Bytes
spell_reference (named n) = code "&" ∷ spell_named n
spell_reference (decimal n) = code "&" ∷ code "#" ∷ (n ++ text ";")
spell_reference (hexadecimal n) = code "&" ∷ code "#" ∷ code "x" ∷ (n ++ text ";")

unfoldable pub hex_digit : ℕ → Bool
hex_digit b = digit b || (within (code "A") (code "F") b || within (code "a") (code "f") b)

-- what a digit is worth
unfoldable pub worth : ℕ → ℕ
worth b = cond (leb b (code "9")) (b - code "0") (cond (leb b (code "F")) (b - code "A" + 10) (b - code "a" + 10))

-- the number that is v, followed by these digits
abbrev pub number : ℕ → ℕ → Bytes → ℕ
number base v [] = v
number base v (b ∷ n) = number base (v * base + worth b) n

-- "1 to 7 decimal" or "1 to 6 hex digits, naming such a character"
pub record Digits (is_digit : ℕ → Bool) (base most : ℕ) (n : Bytes) : Type 0 where
  pub digits : every is_digit n ≡ true
  pub one : non_empty n ≡ true
  pub short : length n ≤ most
  pub names : is_char (number base 0 n) ≡ true

pub data GoodReference : Reference → Type 0 where
  good_named : {n : Named} → GoodReference (named n)
  good_decimal : {n : Bytes} → Digits digit 10 7 n → GoodReference (decimal n)
  good_hexadecimal : {n : Bytes} → Digits hex_digit 16 6 n → GoodReference (hexadecimal n)

abbrev pub read_named : Named → ℕ
read_named amp = code "&"
read_named lt = code "<"
read_named gt = code ">"
read_named quot = code "\""
read_named apos = code "'"

-- the character that a reference names
abbrev pub read_reference : Reference → ℕ
read_reference (named n) = read_named n
read_reference (decimal n) = number 10 0 n
read_reference (hexadecimal n) = number 16 0 n
