-- Positive number: what a byte string is worth as a decimal above zero.
use Rattle.std.specs.Prelude.{ℕ, ◌+◌, ◌-◌, ◌*◌, ◌^◌, ◌≤◌, min, ◌≡◌, Bool, true, false, [], ◌∷◌, ◌++◌, eqb, leb, ltb, length, take, drop, replicate, Option, Some, None}
use Prim.Native.Char.{code}
use Rattle.number.specs.Bytes.{Bytes, pick, and, or, digit, zero_digit, non_empty, all, trim, drop_front, drop_back, value, before, behind}
use Rattle.number.specs.declared.Positive.{Positive}

-- "at most 7 digits before the point", "at most 6 behind it"
abbrev pub BEFORE : ℕ
BEFORE = 7

abbrev pub BEHIND : ℕ
BEHIND = 6

-- no positive number; or one, with its millionths
pub data Number : Type 0 where
  no_number : Number
  number : ℕ → Number

-- "digits with at most one point, at least one digit": what stands before the point and what behind it
unfoldable pub written : Bytes → Bytes → Bool
written f g = and (all digit f) (and (all digit g) (non_empty (f ++ g)))

-- "After leading zeros are dropped, at most 7 digits before the point; after trailing zeros are dropped, at most 6 behind it"
unfoldable pub short : Bytes → Bytes → Bool
short f g = and (leb (length (drop_front zero_digit f)) BEFORE) (leb (length (drop_back zero_digit g)) BEHIND)

-- "Its value is the whole number of millionths."
unfoldable pub millionths : Bytes → Bytes → ℕ
millionths f g =
    value f * 10 ^ BEHIND + value (drop_back zero_digit g) * 10 ^ (BEHIND - length (drop_back zero_digit g))

-- "above zero"
unfoldable pub above : Bytes → Bytes → Bool
above f g = ltb 0 (millionths f g)

unfoldable pub decimal : Bytes → Bytes → Number
decimal f g = pick (and (written f g) (and (short f g) (above f g))) (number (millionths f g)) no_number

-- "optional `+`"
unfoldable pub unsigned : Bytes → Bytes
unsigned [] = []
unsigned (b ∷ s) = pick (eqb b (code "+")) s (b ∷ s)

unfoldable pub parted : Bytes → Number
parted s = decimal (before s) (behind s)

-- order 2: "Accept an exponent `e` or `E` with optional sign and one or more digits."
abbrev pub mark : ℕ → Bool
mark b = or (eqb b (code "e")) (eqb b (code "E"))

-- what stands before the first mark, what stands behind it, and whether there is one
abbrev pub mantissa : Bytes → Bytes
mantissa [] = []
mantissa (b ∷ s) = pick (mark b) [] (b ∷ mantissa s)

abbrev pub power : Bytes → Bytes
power [] = []
power (b ∷ s) = pick (mark b) s (power s)

abbrev pub powered : Bytes → Bool
powered [] = false
powered (b ∷ s) = pick (mark b) true (powered s)

-- "optional sign": the digits of an exponent, and whether it is below zero
abbrev pub power_digits : Bytes → Bytes
power_digits [] = []
power_digits (b ∷ s) = pick (or (eqb b (code "+")) (eqb b (code "-"))) s (b ∷ s)

abbrev pub below : Bytes → Bool
below [] = false
below (b ∷ s) = eqb b (code "-")

-- "one or more digits"
abbrev pub power_written : Bytes → Bool
power_written x = and (non_empty (power_digits x)) (all digit (power_digits x))

abbrev pub zeros : ℕ → Bytes
zeros e = replicate e (code "0")

-- "the number written out": the point stands e places further right, or left, with zeros where no digit stands
abbrev pub right : ℕ → Bytes → Bytes → Number
right e f g = decimal (f ++ take e (g ++ zeros e)) (drop e (g ++ zeros e))

abbrev pub left : ℕ → Bytes → Bytes → Number
left e f g = decimal (take (length f) (zeros e ++ f)) (drop (length f) (zeros e ++ f) ++ g)

-- "The value is the exact decimal, and the digit limits apply to the number written out."
abbrev pub out : Bytes → Bytes → Bytes → Number
out f g x =
    pick (and (written f g) (power_written x))
    (pick (below x) (left (value (power_digits x)) f g) (right (value (power_digits x)) f g))
    no_number

abbrev pub decimal_of : Bytes → Number
decimal_of s = pick (powered s) (out (before (mantissa s)) (behind (mantissa s)) (power s)) (parted s)

-- "Positive number: optional `+`, digits with at most one point ..", with an exponent or without; blanks at the ends dropped
unfoldable pub number_of : Bytes → Number
number_of v = decimal_of (unsigned (trim v))

-- what the limits leave: one millionth, up to seven digits before the point and six behind it
abbrev pub NumberRange : Type 0
NumberRange = (v : Bytes) (n : ℕ) → number_of v ≡ number n → (1 ≤ n) × (n ≤ 9999999999999)

-- order 6: "how many digits stood behind the point, 0 to 6, trailing zeros counted and more than 6 told as 6; a number with an exponent tells 0"
abbrev pub decimals_in : Bytes → ℕ
decimals_in s = pick (powered s) 0 (min BEHIND (length (behind s)))

unfoldable pub decimals_of : Bytes → ℕ
decimals_of v = decimals_in (unsigned (trim v))

-- the answer that tells both
unfoldable pub number_read : Number → ℕ → Option Positive
number_read no_number d = None
number_read (number n) d = Some (record { millionths = n; decimals = d })
