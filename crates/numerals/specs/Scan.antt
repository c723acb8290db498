-- Reading numbers byte by byte. A scan is a state and a step for a byte, so that a caller can feed bytes that stand nowhere in a row, as the
-- decoded bytes of a value with references in it. One scan reads Ints and positive numbers; which of them it is, is told at the end.
--   start            the state before any byte            the call `Scan::start()`
--   step s b         the state s after one more byte b    the call `s.step(b)`
--   run step start w the state after the bytes w: the steps from start, one for each byte
--   int_end s         the answer as an Int                 the call `int_end(s)`
--   number_end s      the answer as a positive number      the call `number_end(s)`
-- and laws, which `proofs/Theorems.antt` proves:
--   scanned-more     the state after w ++ b ∷ [] is the step by b of the state after w
--   scanned-on       the state after w ++ u is the state after u from the state after w
--   int-exact, number-exact   the end of the state after w says what the definition says of w; of a positive number if w has fewer bytes than a slice may
--                    have, since the digits before and behind the point and the exponent are counted
-- Whoever keeps "s ≡ run step start w" in a loop over the bytes w has, by the first law, the same of one byte more, and, by the last, the
-- answer of the definition at the end. The steps are defined on every state, so no call asks anything of its caller.
use Rattle.std.specs.Prelude.{ℕ, zero, suc, ◌+◌, ◌-◌, ◌*◌, ◌/◌, ◌%◌, ◌^◌, ◌<◌, min, ◌≡◌, Bool, true, false, [], ◌∷◌, ◌++◌, eqb, leb, ltb, length, Option, Some, None}
use Prim.Native.Char.{code}
use Rattle.number.specs.Bytes.{Bytes, pick, and, blank, digit, zero_digit, figure}
use Rattle.number.specs.Whole.{CAP, int_of, capped, paper}
use Rattle.number.specs.Positive.{BEFORE, BEHIND, Number, no_number, number, mark, number_of, decimals_of, number_read}
use Rattle.number.specs.declared.Int.{Int}
use Rattle.number.specs.declared.Positive.{Positive}
use Rattle.numerals.specs.declared.ends.Ends.{Ends}
use Rattle.numerals.specs.declared.scan.Digits.{Digits}
use Rattle.numerals.specs.declared.scan.Body.{Body}
use Rattle.numerals.specs.declared.scan.Scan.{Scan}

-- the state after the bytes w, from the state s
unfoldable pub run : {S : Type 0} → (S → ℕ → S) → S → Bytes → S
run step s [] = s
run step s (b ∷ w) = run step (step s b) w

-- the law of one more byte, for every step
abbrev pub ScannedMore : Type 1
ScannedMore =
    (S : Type 0) (step : S → ℕ → S) (s : S) (w : Bytes) (b : ℕ) → run step s (w ++ b ∷ []) ≡ step (run step s w) b

-- the law of more bytes
abbrev pub ScannedOn : Type 1
ScannedOn = (S : Type 0) (step : S → ℕ → S) (s : S) (w u : Bytes) → run step s (w ++ u) ≡ run step (run step s w) u

-- Blanks at the ends: before the first other byte, among others, behind the last of them, and broken: a blank stood inside.
unfoldable pub ends_step : Ends → ℕ → Ends
ends_step Ends.Front b = pick (blank b) Ends.Front Ends.Inside
ends_step Ends.Inside b = pick (blank b) Ends.Behind Ends.Inside
ends_step Ends.Behind b = pick (blank b) Ends.Behind Ends.Broken
ends_step Ends.Broken b = Ends.Broken

unfoldable pub inside : Ends → Bool
inside Ends.Front = false
inside Ends.Inside = true
inside Ends.Behind = false
inside Ends.Broken = false

unfoldable pub broken : Ends → Bool
broken Ends.Front = false
broken Ends.Inside = false
broken Ends.Behind = false
broken Ends.Broken = true

-- The number between the blanks: a sign, digits, a point, digits, an exponent.

-- a positive number has no more digits than may stand before and behind the point: it is below this, and digits are counted up to it
abbrev pub TOP : ℕ
TOP = 10 ^ (BEFORE + BEHIND)

-- below this one digit more stays below the top
abbrev pub TENTH : ℕ
TENTH = 10 ^ (BEFORE + BEHIND - 1)

-- exponents, and the digits that are counted, are told up to here
abbrev pub FAR : ℕ
FAR = 10 ^ 19

-- n with one more digit: zeros that would bring it to the top are left out
unfoldable pub joined : ℕ → ℕ → ℕ
joined n b = pick (ltb n TENTH) (10 * n + figure b) (pick (and (ltb n TOP) (zero_digit b)) n TOP)

-- and how many are left out
unfoldable pub zeros_more : ℕ → ℕ → ℕ
zeros_more n zeros = pick (ltb n TENTH) zeros (min FAR (zeros + 1))

abbrev pub with_digit : Digits → ℕ → ℕ → Digits
with_digit d places b = record { n = joined d.n b; zeros = zeros_more d.n d.zeros; places = places }

abbrev pub no_digits : Digits
no_digits = record { n = 0; zeros = 0; places = 0 }

-- one more digit before the point, and behind it
abbrev pub whole_digit : Bool → Digits → ℕ → Body
whole_digit minus d b = Body.Whole minus (with_digit d 0 b)

unfoldable pub part_digit : Digits → ℕ → Body
part_digit d b = pick (digit b) (Body.Part (with_digit d (min FAR (d.places + 1)) b)) Body.Dead

-- behind a point and a digit before or behind it: an exponent too
unfoldable pub part_step : Digits → ℕ → Body
part_step d b = pick (mark b) (Body.Mark d) (part_digit d b)

-- behind a sign: a minus has no point
unfoldable pub sign_step : Bool → ℕ → Body
sign_step minus b = pick (digit b) (whole_digit minus no_digits b) (pick minus Body.Dead (pick (eqb b (code ".")) Body.Point Body.Dead))

-- behind digits: behind a minus there are only digits
unfoldable pub whole_step : Bool → Digits → ℕ → Body
whole_step minus d b =
    pick (digit b) (whole_digit minus d b)
    (pick minus Body.Dead (pick (eqb b (code ".")) (Body.Part d) (pick (mark b) (Body.Mark d) Body.Dead)))

unfoldable pub first_step : ℕ → Body
first_step b =
    pick (eqb b (code "-")) (Body.Signed true)
    (pick (eqb b (code "+")) (Body.Signed false) (sign_step false b))

-- the exponent e with one more digit
abbrev pub power_more : ℕ → ℕ → ℕ
power_more e b = min FAR (10 * e + figure b)

unfoldable pub power_digit : Bool → ℕ → Digits → ℕ → Body
power_digit minus e d b = pick (digit b) (Body.Power minus (power_more e b) d) Body.Dead

-- its sign
unfoldable pub mark_step : Digits → ℕ → Body
mark_step d b =
    pick (eqb b (code "-")) (Body.Turned true d)
    (pick (eqb b (code "+")) (Body.Turned false d) (power_digit false 0 d b))

unfoldable pub body_step : Body → ℕ → Body
body_step Body.Start b = first_step b
body_step (Body.Signed minus) b = sign_step minus b
body_step (Body.Whole minus d) b = whole_step minus d b
body_step Body.Point b = part_digit no_digits b
body_step (Body.Part d) b = part_step d b
body_step (Body.Mark d) b = mark_step d b
body_step (Body.Turned minus d) b = power_digit minus 0 d b
body_step (Body.Power minus e d) b = power_digit minus e d b
body_step Body.Dead b = Body.Dead

-- The scan: the body takes the bytes that stand inside.
abbrev pub start : Scan
start = record { ends = Ends.Front; body = Body.Start }

unfoldable pub step : Scan → ℕ → Scan
step s b =
    record {
      ends = ends_step s.ends b;
      body = pick (inside (ends_step s.ends b)) (body_step s.body b) s.body;
    }

-- As an Int: minus zero is zero, and an exponent is none.
unfoldable pub sized_as : Bool → Digits → Int
sized_as minus d = pick (eqb d.n 0) (record { negative = false; size = 0 }) (record { negative = minus; size = min CAP (d.n * 10 ^ d.zeros) })

unfoldable pub int_body_end : Body → Option Int
int_body_end Body.Start = None
int_body_end (Body.Signed minus) = None
int_body_end (Body.Whole minus d) = Some (sized_as minus d)
int_body_end Body.Point = None
int_body_end (Body.Part d) = None
int_body_end (Body.Mark d) = None
int_body_end (Body.Turned minus d) = None
int_body_end (Body.Power minus e d) = None
int_body_end Body.Dead = None

unfoldable pub int_end : Scan → Option Int
int_end s = pick (broken s.ends) None (int_body_end s.body)

abbrev pub IntExact : Type 0
IntExact = (w : Bytes) → paper (int_end (run step start w)) ≡ capped (int_of w)

-- As a positive number: the millionths, where it is one.
unfoldable pub millionths_of : Number → Option ℕ
millionths_of no_number = None
millionths_of (number n) = Some n

-- So many, where they are above zero and have no more digits than may stand before and behind the point.
unfoldable pub limited : ℕ → Number
limited m = pick (and (ltb 0 m) (ltb m TOP)) (number m) no_number

-- n / 10^k, where nothing is left over
unfoldable pub tenths : ℕ → ℕ → Number
tenths zero n = limited n
tenths (suc k) n = pick (eqb (n % 10) 0) (tenths k (n / 10)) no_number

-- n * 10^up / 10^down
unfoldable pub exactly : ℕ → ℕ → ℕ → Number
exactly n up down = pick (leb down up) (limited (n * 10 ^ (up - down))) (tenths (down - up) n)

-- none if n has too many digits that matter
unfoldable pub ended : ℕ → ℕ → ℕ → Number
ended n up down = pick (ltb n TOP) (exactly n up down) no_number

-- digits with the exponent e, or minus e
unfoldable pub power_end : Bool → ℕ → Digits → Number
power_end minus e d =
    pick minus (ended d.n (min FAR (d.zeros + BEHIND)) (min FAR (d.places + e)))
    (ended d.n (min FAR (min FAR (d.zeros + BEHIND) + e)) d.places)

unfoldable pub whole_end : Bool → Digits → Number
whole_end minus d = pick minus no_number (power_end false 0 d)

unfoldable pub number_body_end : Body → Number
number_body_end Body.Start = no_number
number_body_end (Body.Signed minus) = no_number
number_body_end (Body.Whole minus d) = whole_end minus d
number_body_end Body.Point = no_number
number_body_end (Body.Part d) = power_end false 0 d
number_body_end (Body.Mark d) = no_number
number_body_end (Body.Turned minus d) = no_number
number_body_end (Body.Power minus e d) = power_end minus e d
number_body_end Body.Dead = no_number

-- the digits behind the point; an exponent tells none
unfoldable pub body_decimals : Body → ℕ
body_decimals Body.Start = 0
body_decimals (Body.Signed minus) = 0
body_decimals (Body.Whole minus d) = 0
body_decimals Body.Point = 0
body_decimals (Body.Part d) = min BEHIND d.places
body_decimals (Body.Mark d) = 0
body_decimals (Body.Turned minus d) = 0
body_decimals (Body.Power minus e d) = 0
body_decimals Body.Dead = 0

unfoldable pub body_end : Body → Option Positive
body_end b = number_read (number_body_end b) (body_decimals b)

unfoldable pub number_end : Scan → Option Positive
number_end s = pick (broken s.ends) None (body_end s.body)

-- a slice has fewer bytes: so many are counted one by one
abbrev pub SLICE : ℕ
SLICE = 2 ^ 63

abbrev pub NumberExact : Type 0
NumberExact = (w : Bytes) → length w < SLICE → number_end (run step start w) ≡ number_read (number_of w) (decimals_of w)
