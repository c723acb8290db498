-- The theorems of the crate, for a reader to find: what is written reads back, how long it gets, and that no second answer meets a promise.
use mathlib.Core.Path.{◌≡◌, subst, ◌∙◌}
use mathlib.Core.Bool.{Bool, true, false}
use Prim.Native.Nat.{ℕ, ◌*◌, ◌≤◌, max}
use native.Mathlib.Omega.{arith}
use lib.ListN.{length}
use Rattle.grammar.specs.Bytes.{Bytes, text}
use Rattle.model.specs.Tests.{same_test}
use Rattle.number.specs.Bytes.{drop_back, keep_before}
use Rattle.number.specs.Whole.{int, int_of}
use Rattle.number.specs.Positive.{BEHIND, number, number_of, decimals_of}
use Rattle.number.specs.Guid.{guid_of}
use Rattle.number.specs.Version.{version_of}
use Rattle.value.specs.Text.{Text}
use Rattle.number.specs.Digits.{print_int, places}
use Rattle.number.proofs.DigitLaws.{print_small, print_more, int_digital, int_short}
use Rattle.spelling.specs.Written.{escape, behind_point, matter, print_decimal}
use Rattle.spelling.specs.Characters.{IsText, TextSays}
use Rattle.spelling.specs.Quoted.{InQuotes, AsIs}
use Rattle.spelling.specs.Decided.{is_text}
use Rattle.spelling.proofs.EscapeLaws as escapes
use Rattle.spelling.proofs.MarkLaws.{digits_marks, marks_as_is, guid_marks, version_marks, digits_int}
use Rattle.spelling.proofs.DecimalLaws as decimals
use Rattle.spelling.proofs.DecidedLaws as decided

-- the test decides which bytes are a text
pub text_decided : (v : Bytes) → TextSays v (is_text v)
text_decided v = decided.text_decided v

-- a text, written between double quotes, reads as itself
pub escape_inverse : {v : Bytes} → IsText v → InQuotes (escape v) v
escape_inverse t = escapes.escape_inverse t

-- in the words of `value`: the bytes could stand as a value, and read as the text
pub escape_text : {v : Bytes} → IsText v → Text (escape v) v
escape_text t = escapes.quoted_text (escape_inverse t)

-- what is written as it is reads as itself too
pub as_is_inverse : {v : Bytes} → AsIs v → InQuotes v v
as_is_inverse {v} a = subst (λ (w : Bytes). InQuotes w v) a.same (escape_inverse a.is_text_holds)

-- so are Ints, decimals, ids and versions written
pub int_as_is : (n : ℕ) → AsIs (print_int n)
int_as_is n = marks_as_is (print_int n) (digits_marks (print_int n) (int_digital n).digits)

pub decimal_as_is : (x d : ℕ) → AsIs (print_decimal x d)
decimal_as_is x d = marks_as_is (print_decimal x d) (decimals.decimal_marks x d)

pub guid_as_is : (v : Bytes) → guid_of v ≡ true → AsIs v
guid_as_is v h = marks_as_is v (guid_marks v h)

pub version_as_is : (v : Bytes) → version_of v ≡ true → AsIs v
version_as_is v h = marks_as_is v (version_marks v h)

-- numbers read back
pub int_inverse : (n : ℕ) → int_of (print_int n) ≡ int false n
int_inverse n = let d = int_digital n in digits_int (print_int n) d.digits d.one ∙ rw d.worth

pub decimal_inverse : (x d : ℕ) → 1 ≤ x → x ≤ 9999999999999 → number_of (print_decimal x d) ≡ number x
decimal_inverse x d l h = decimals.decimal_inverse x d l h

-- order 6: "Reading back gives the value and the count, or the number of digits that matter if that is more."
pub decimals_inverse : (x d : ℕ) → d ≤ BEHIND → decimals_of (print_decimal x d) ≡ max d (matter x)
decimals_inverse x d h = decimals.decimals_inverse x d h

-- the largest; its digits are too many to compute at once
pub largest : print_decimal 9999999999999 0 ≡ text "9999999.999999"
unfolding print_decimal places drop_back keep_before behind_point
largest = rw (print_more 9999999 (omega arith), print_more 999999 (omega arith), print_more 99999 (omega arith), print_more 9999 (omega arith), print_more 999 (omega arith), print_more 99 (omega arith), print_small 9 (omega arith))

-- lengths
pub escape_long : (v : Bytes) → length (escape v) ≤ 6 * length v
escape_long v = escapes.escape_long v

pub int_long : (n : ℕ) → n ≤ 65535 → length (print_int n) ≤ 5
int_long n h = int_short 4 n (omega arith)

pub decimal_long : (x d : ℕ) → x ≤ 9999999999999 → length (print_decimal x d) ≤ 14
decimal_long x d h = decimals.decimal_short x d h

-- no second result meets the promise of `is_text`
pub text_only : {v : Bytes} {r q : Bool} → TextSays v r → TextSays v q → r ≡ q
text_only {v} {r} {q} x y = same_test r q (λ h. y.complete (x.sound h)) (λ h. x.complete (y.sound h))
