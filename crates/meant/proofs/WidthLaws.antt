-- How many bytes a value of a form takes at most, as it is written.
use mathlib.Core.Path.{◌≡◌, refl, ap}
use mathlib.Core.List.{[], ◌∷◌}
use mathlib.Core.Bool.{true, cond}
use Prim.Native.Nat.{ℕ, zero, suc, ◌+◌, ◌*◌, ◌/◌, ◌≤◌}
use native.Mathlib.Omega.{arith}
use lib.ListN.{length, length-append}
use lib.Dec.{eqb, ltb, leb}
use borrow.Author.Tests.{ltb-true, leb-true}
use Rattle.grammar.specs.Bytes.{Bytes}
use Rattle.number.specs.Bytes.{digit, all, and, before, behind, pointed}
use Rattle.number.specs.Guid.{guid_of}
use Rattle.number.specs.Version.{one_to_three, version_of}
use Rattle.number.proofs.Tests.{cases, and_left, and_right}
use Rattle.number.specs.Digits.{last_digit, digits_of, print_int}
use Rattle.spelling.specs.Written.{escape, print_decimal}
use Rattle.spelling.specs.Quoted.{AsIs}
use Rattle.number.proofs.DigitLaws.{int_short}
use Rattle.spelling.proofs.Theorems.{int_as_is, decimal_as_is, guid_as_is, version_as_is, decimal_long}
use Rattle.value.proofs.IdLaws.{id_long}
use Rattle.table.specs.Table.{Form, words, some_words, whole, guid, version, positive, features}

-- the digits of a number up to hi: one, five to 65,535, and never more than itself and one
abbrev pub digits_to : ℕ → ℕ
digits_to hi = cond (ltb hi 10) 1 (cond (ltb hi 100000) 5 (suc hi))

-- a text is written with at most six bytes for one
abbrev pub width : Form → ℕ
width (words n) = 6 * n
width (some_words n) = 6 * n
width (whole lo hi) = digits_to hi
width guid = 36
width version = 7
width positive = 14
width features = 0

digits_few : (j n : ℕ) → length (digits_of j n) ≤ j
unfolding digits_of
digits_few zero n = omega arith
digits_few (suc j) n =
    cases (ltb n 10) (λ e. rw e (omega arith))
    (λ e. rw (e, length-append (digits_of j (n / 10)) (last_digit n ∷ [])) (let z = digits_few j (n / 10) in omega arith))

int_few : (n : ℕ) → length (print_int n) ≤ suc n
unfolding print_int
int_few n = digits_few (suc n) n

int_to : (n hi : ℕ) → n ≤ hi → length (print_int n) ≤ digits_to hi
int_to n hi h =
    cases (ltb hi 10) (λ e. rw e (let z = ltb-true hi 10 e in int_short 0 n (omega arith)))
    (λ e. rw e (cases (ltb hi 100000) (λ f. rw f (let z = ltb-true hi 100000 f in int_short 4 n (omega arith))) (λ f. rw f (let z = int_few n in omega arith))))

-- before the first point, the point, and behind it
parts_long : (v : Bytes) → length v ≤ length (before v) + 1 + length (behind v)
unfolding before behind
parts_long [] = omega arith
parts_long (b ∷ v) = cases (eqb b 46) (λ e. rw e (omega arith)) (λ e. rw e (let z = parts_long v in omega arith))

three : (s : Bytes) → one_to_three s ≡ true → length s ≤ 3
unfolding one_to_three
three s h = leb-true (length s) 3 (and_right (leb 1 (length s)) (leb (length s) 3) (and_right (all digit s) (and (leb 1 (length s)) (leb (length s) 3)) h))

version_long : (v : Bytes) → version_of v ≡ true → length v ≤ 7
unfolding version_of
version_long v h =
    let k = and_right (pointed v) (and (one_to_three (before v)) (one_to_three (behind v))) h in
    let a = three (before v) (and_left (one_to_three (before v)) (one_to_three (behind v)) k) in
    let b = three (behind v) (and_right (one_to_three (before v)) (one_to_three (behind v)) k) in
    let z = parts_long v in
    omega arith

-- what is written as it is
as_long : {v : Bytes} {n : ℕ} → AsIs v → length v ≤ n → length (escape v) ≤ n
as_long {v} a h = let e : length (escape v) ≡ length v = ap length a.same in omega arith

pub int_width : (n hi : ℕ) → n ≤ hi → length (escape (print_int n)) ≤ digits_to hi
int_width n hi h = as_long (int_as_is n) (int_to n hi h)

pub decimal_width : (x d : ℕ) → x ≤ 9999999999999 → length (escape (print_decimal x d)) ≤ 14
decimal_width x d h = as_long (decimal_as_is x d) (decimal_long x d h)

pub guid_width : (v : Bytes) → guid_of v ≡ true → length (escape v) ≤ 36
guid_width v h = as_long (guid_as_is v h) (let e = id_long v refl h in omega arith)

pub version_width : (v : Bytes) → version_of v ≡ true → length (escape v) ≤ 7
version_width v h = as_long (version_as_is v h) (version_long v h)
