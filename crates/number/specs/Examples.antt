-- Worked examples: which bytes each class has, and what the definitions say at the ends of their ranges and just beyond. They hold by computation.
use Rattle.std.specs.Prelude.{◌≡◌, refl, Bool, true, false, List, [], ◌∷◌, ℕ, zero, suc, ◌+◌, Some, None}
use Prim.Native.String.{String}
use Rattle.number.specs.Bytes.{Bytes, text, and, or, blank, digit, hex, non_empty, all, trim, drop_front, drop_back, keep_before, value_from, before, behind, pointed}
use Rattle.number.specs.Whole.{no_int, int, sized, signed, int_of, capped, paper, whole_read}
use Rattle.number.specs.Positive.{no_number, number, written, short, millionths, above, decimal, unsigned, parted, number_of, decimals_of, number_read}
use Rattle.number.specs.Guid.{may, filled, guid_of}
use Rattle.number.specs.Version.{one_to_three, version_of}
use Rattle.number.specs.Digits.{digits_of, print_int}
use Rattle.number.specs.Bench.{Case, whole, positive}

-- the bytes of a class: n of them are tried, from b on
abbrev keep : Bool → ℕ → Bytes → Bytes
keep true b l = b ∷ l
keep false b l = l

abbrev tried : (ℕ → Bool) → ℕ → ℕ → Bytes
tried class zero b = []
tried class (suc n) b = keep (class b) b (tried class n (b + 1))

abbrev pub bytes_of : (ℕ → Bool) → Bytes
bytes_of class = tried class 256 0

-- "Blanks (9, 10, 13, 32)", digits, "`0-9a-f`": these bytes and no other
pub classes : (bytes_of blank ≡ 9 ∷ 10 ∷ 13 ∷ 32 ∷ []) × (bytes_of digit ≡ text "0123456789") × (bytes_of hex ≡ text "0123456789abcdef")
unfolding blank digit hex
classes = (refl, refl, refl)

-- "Int: optional sign, one or more digits." Blanks stand at the ends only
abbrev pub ints : List Case
ints =
    whole (text "0") (int false 0)
    ∷ whole (text "9") (int false 9)
    ∷ whole (text "+7") (int false 7)
    ∷ whole (text "-7") (int true 7)
    ∷ whole (text "+0") (int false 0)
    ∷ whole (text "0065536") (int false 65536)
    ∷ whole (text "123456789") (int false 123456789)
    ∷ whole (9 ∷ 10 ∷ 13 ∷ 32 ∷ 49 ∷ 32 ∷ 13 ∷ 10 ∷ 9 ∷ []) (int false 1)
    ∷ whole (8 ∷ 49 ∷ []) no_int
    ∷ whole (11 ∷ 49 ∷ []) no_int
    ∷ whole (49 ∷ 12 ∷ []) no_int
    ∷ whole (text "") no_int
    ∷ whole (text " ") no_int
    ∷ whole (text "+") no_int
    ∷ whole (text "-") no_int
    ∷ whole (text "+-1") no_int
    ∷ whole (text "- 1") no_int
    ∷ whole (text "1 2") no_int
    ∷ whole (text "1-") no_int
    ∷ whole (text "1/") no_int
    ∷ whole (text "1:") no_int
    ∷ []

-- "Positive number: .. at most one point, at least one digit. After leading zeros are dropped, at most 7 digits before the point; after
-- trailing zeros are dropped, at most 6 behind it; above zero. Its value is the whole number of millionths."
abbrev pub numbers : List Case
numbers =
    positive (text "0.000001") (number 1)
    ∷ positive (text "1") (number 1000000)
    ∷ positive (text "1.") (number 1000000)
    ∷ positive (text "+1") (number 1000000)
    ∷ positive (text " 1\t") (number 1000000)
    ∷ positive (text "0.123456") (number 123456)
    ∷ positive (text "0.12345600") (number 123456)
    ∷ positive (text "9999999") (number 9999999000000)
    ∷ positive (text "009999999.999999000") (number 9999999999999)
    ∷ positive (text "10000000") no_number
    ∷ positive (text "99999999.9") no_number
    ∷ positive (text "0.1234567") no_number
    ∷ positive (text "9.9999999") no_number
    ∷ positive (text "") no_number
    ∷ positive (text ".") no_number
    ∷ positive (text "+") no_number
    ∷ positive (text "+.") no_number
    ∷ positive (text "0.0") no_number
    ∷ positive (text "-1") no_number
    ∷ positive (text "++1") no_number
    ∷ positive (text "1.2.3") no_number
    ∷ positive (text "1..2") no_number
    ∷ positive (text "1 2") no_number
    ∷ positive (text "1,5") no_number
    ∷ []

-- order 2: "an exponent `e` or `E` with optional sign and one or more digits. The value is the exact decimal, and the digit limits apply to the
-- number written out. `0E5` stays bad, as do INF and NaN."
abbrev pub powers : List Case
powers =
    positive (text "1.6E2") (number 160000000)
    ∷ positive (text "1.E5") (number 100000000000)
    ∷ positive (text ".5e+1") (number 5000000)
    ∷ positive (text "1e3") (number 1000000000)
    ∷ positive (text "1E-6") (number 1)
    ∷ positive (text "10E-7") (number 1)
    ∷ positive (text "12345678E-1") (number 1234567800000)
    ∷ positive (text "0.0000001E1") (number 1)
    ∷ positive (text "9.999999999999E6") (number 9999999999999)
    ∷ positive (text "1E00000001") (number 10000000)
    ∷ positive (text " +1E-0 ") (number 1000000)
    ∷ positive (text "1E") no_number
    ∷ positive (text "E5") no_number
    ∷ positive (text ".E5") no_number
    ∷ positive (text "1E7") no_number
    ∷ positive (text "1E-7") no_number
    ∷ positive (text "0E5") no_number
    ∷ positive (text "1E 2") no_number
    ∷ positive (text "1E+") no_number
    ∷ positive (text "1E+-2") no_number
    ∷ positive (text "1EE2") no_number
    ∷ positive (text "1E2.0") no_number
    ∷ positive (text "-1E2") no_number
    ∷ positive (text "INF") no_number
    ∷ positive (text "NaN") no_number
    ∷ whole (text "1E2") no_int
    ∷ []

-- each case with what the definition says of its text
abbrev found : List Case → List Case
found [] = []
found (whole w x ∷ l) = whole w (int_of w) ∷ found l
found (positive w x ∷ l) = positive w (number_of w) ∷ found l

pub ints_hold : found ints ≡ ints
unfolding int_of signed sized trim drop_back drop_front keep_before blank non_empty all digit value_from
ints_hold = refl

pub numbers_hold : found numbers ≡ numbers
unfolding number_of parted unsigned decimal written short above millionths before behind trim drop_back drop_front keep_before blank non_empty all digit value_from
numbers_hold = refl

pub powers_hold : found powers ≡ powers
unfolding int_of signed sized number_of parted unsigned decimal written short above millionths before behind trim drop_back drop_front keep_before blank non_empty all digit value_from
powers_hold = refl

-- order 6: `160.00` tells 2
pub decimals :
    (decimals_of (text "160.00") ≡ 2)
    × (decimals_of (text "160.") ≡ 0)
    × (decimals_of (text "160") ≡ 0)
    × (decimals_of (text " +.50 ") ≡ 2)
    × (decimals_of (text "1.2345670") ≡ 6)
    × (decimals_of (text "1.6E2") ≡ 0)
    × (decimals_of (text "1.60E-1") ≡ 0)
unfolding decimals_of unsigned behind trim drop_back drop_front keep_before blank
decimals = (refl, refl, refl, refl, refl, refl, refl)

-- the cap is one above the largest size of a table, 65,535: it is told apart from all that a table has
pub caps :
    (capped (int false 65535) ≡ int false 65535)
    × (capped (int false 65536) ≡ int false 65536)
    × (capped (int false 65537) ≡ int false 65536)
    × (capped (int true 70000) ≡ int true 65536)
    × (capped no_int ≡ no_int)
unfolding capped
caps = (refl, refl, refl, refl, refl)

-- the answers, case by case
pub answers :
    (paper None ≡ no_int)
    × (paper (Some (record { negative = true; size = 7 })) ≡ int true 7)
    × (whole_read (int false 65537) ≡ Some (record { negative = false; size = 65536 }))
    × (number_read no_number 5 ≡ None)
    × (number_read (number 5) 6 ≡ Some (record { millionths = 5; decimals = 6 }))
unfolding paper whole_read number_read
answers = (refl, refl, refl, refl, refl)

-- every text passes the test, and none does
abbrev pub every : (Bytes → Bool) → List String → Bool
every test [] = true
every test (s ∷ l) = and (test (text s)) (every test l)

abbrev pub any : (Bytes → Bool) → List String → Bool
any test [] = false
any test (s ∷ l) = or (test (text s)) (any test l)

-- "GUID: exactly 36 bytes, groups of 8-4-4-4-12 of `0-9a-f` with hyphens."
abbrev pub guids : List String
guids = "01234567-89ab-cdef-0123-456789abcdef" ∷ "00000000-0000-0000-0000-000000000000" ∷ "ffffffff-ffff-ffff-ffff-ffffffffffff" ∷ []

-- 35, 37 and no bytes; a hyphen too early, too late, missing, too many; a capital, and the bytes beside the ranges; a blank at an end
abbrev pub no_guids : List String
no_guids =
    "01234567-89ab-cdef-0123-456789abcde"
    ∷ "01234567-89ab-cdef-0123-456789abcdef0"
    ∷ ""
    ∷ "0123456-789ab-cdef-0123-456789abcdef"
    ∷ "01234567-89ab-cdef-01234-56789abcdef"
    ∷ "01234567-89ab-cdef-01230456789abcdef"
    ∷ "01234567-89ab-cdef-0123-456789-bcdef"
    ∷ "01234567-89AB-cdef-0123-456789abcdef"
    ∷ "g1234567-89ab-cdef-0123-456789abcdef"
    ∷ "01234567-89ab-cdef-0123-456789abcde`"
    ∷ "01234567-89ab-cdef-0123-456789abcde/"
    ∷ "01234567-89ab-cdef-0123-456789abcde:"
    ∷ " 1234567-89ab-cdef-0123-456789abcdef"
    ∷ []

pub guids_hold : (every guid_of guids ≡ true) × (any guid_of no_guids ≡ false)
unfolding guid_of filled may hex digit
guids_hold = (refl, refl)

-- "Version: text of 1 to 3 digits, point, 1 to 3 digits."
abbrev pub versions : List String
versions = "1.6" ∷ "0.0" ∷ "123.456" ∷ "999.9" ∷ "1.000" ∷ []

abbrev pub no_versions : List String
no_versions = "" ∷ "1" ∷ "." ∷ ".1" ∷ "1." ∷ "1234.5" ∷ "1.2345" ∷ "1.2.3" ∷ "1,2" ∷ " 1.2" ∷ "1.2 " ∷ "+1.2" ∷ "a.1" ∷ []

pub versions_hold : (every version_of versions ≡ true) × (any version_of no_versions ≡ false)
unfolding version_of one_to_three before behind pointed all digit
versions_hold = (refl, refl)

-- digits
printed : (print_int 0 ≡ text "0") × (print_int 7 ≡ text "7") × (print_int 10 ≡ text "10") × (print_int 65535 ≡ text "65535")
unfolding print_int digits_of
printed = (refl, refl, refl, refl)
