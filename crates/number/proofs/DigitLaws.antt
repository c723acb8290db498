-- The digits of a number: how they grow, what they are worth, and how many there are.
use mathlib.Core.Path.{◌≡◌, refl, ap, ◌∙◌}
use mathlib.Core.List.{[], ◌∷◌, ◌++◌}
use mathlib.Core.Bool.{Bool, true, false}
use Prim.Native.Nat.{ℕ, zero, suc, ◌+◌, ◌-◌, ◌*◌, ◌/◌, ◌%◌, ◌^◌, ◌≤◌, ◌<◌}
use native.Mathlib.Nat.{pow-succ'}
use native.Mathlib.Omega.{arith}
use lib.Dec.{ltb}
use lib.ListN.{length, length-append}
use borrow.Author.Tests.{ltb-true, ltb-false, lt-ltb, le-ltb, le-leb, ne_eqb}
use Rattle.number.proofs.Tests.{cases, and_left, and_right, digit_high}
use Rattle.number.specs.Bytes.{Bytes, and, digit, figure, non_empty, all, value_from, value}
use Rattle.number.specs.Positive.{mark, zeros}
use Rattle.number.specs.Digits.{last_digit, digits_of, print_int, places}

-- one digit more
value_snoc : (n : ℕ) (s : Bytes) (b : ℕ) → value_from n (s ++ b ∷ []) ≡ 10 * value_from n s + figure b
unfolding value_from
value_snoc n [] b = refl
value_snoc n (c ∷ s) b = value_snoc (10 * n + figure c) s b

all_snoc : (t : ℕ → Bool) (s : Bytes) (b : ℕ) → all t s ≡ true → t b ≡ true → all t (s ++ b ∷ []) ≡ true
unfolding all
all_snoc t [] b h k = rw k
all_snoc t (c ∷ s) b h k = rw (and_left (t c) (all t s) h) (all_snoc t s b (and_right (t c) (all t s) h) k)

last_digit_lem : (n : ℕ) → digit (last_digit n) ≡ true
unfolding digit
last_digit_lem n = rw (le-leb 48 (48 + n % 10) (omega arith), le-leb (48 + n % 10) 57 (omega arith))

-- the digits of a number, whichever bound of their count is given
digits_enough : (k j n : ℕ) → n < k → n < j → digits_of k n ≡ digits_of j n
unfolding digits_of
digits_enough zero j n h g = absurd (omega arith)
digits_enough (suc k) zero n h g = absurd (omega arith)
digits_enough (suc k) (suc j) n h g =
    cases (ltb n 10) (λ e. rw e)
    (λ e. let m = ltb-false n 10 e in rw (e, digits_enough k j (n / 10) (omega arith) (omega arith)))

pub print_small : (n : ℕ) → n < 10 → print_int n ≡ last_digit n ∷ []
unfolding print_int digits_of
print_small n h = rw (lt-ltb n 10 h)

pub print_more : (n : ℕ) → 10 ≤ n → print_int n ≡ print_int (n / 10) ++ last_digit n ∷ []
unfolding print_int digits_of
print_more n h = rw (le-ltb n 10 h, digits_enough n (suc (n / 10)) (n / 10) (omega arith) (omega arith))

pub print_length : (n : ℕ) → 10 ≤ n → length (print_int n) ≡ length (print_int (n / 10)) + 1
print_length n h = ap length (print_more n h) ∙ length-append (print_int (n / 10)) (last_digit n ∷ [])

-- what digits are
pub record Digital (n : ℕ) (s : Bytes) : Type 0 where
  pub digits : all digit s ≡ true
  pub one : non_empty s ≡ true
  pub worth : value s ≡ n

one_digital : (n : ℕ) → n < 10 → Digital n (last_digit n ∷ [])
unfolding all non_empty value_from
one_digital n h = record { digits = rw (last_digit_lem n); one = refl; worth = omega arith }

some_snoc : (s : Bytes) (b : ℕ) → non_empty (s ++ b ∷ []) ≡ true
unfolding non_empty
some_snoc [] b = refl
some_snoc (c ∷ s) b = refl

more_digital : (n : ℕ) (s : Bytes) → Digital (n / 10) s → Digital n (s ++ last_digit n ∷ [])
more_digital n s d = record {
  digits = all_snoc digit s (last_digit n) d.digits (last_digit_lem n);
  one = some_snoc s (last_digit n);
  worth = value_snoc 0 s (last_digit n) ∙ (let e = d.worth in omega arith);
}

digits_digital : (k n : ℕ) → n < k → Digital n (digits_of k n)
unfolding digits_of
digits_digital zero n h = absurd (omega arith)
digits_digital (suc k) n h =
    cases (ltb n 10) (λ e. rw e (one_digital n (ltb-true n 10 e)))
    (λ e. let m = ltb-false n 10 e in rw e (more_digital n (digits_of k (n / 10)) (digits_digital k (n / 10) (omega arith))))

pub int_digital : (n : ℕ) → Digital n (print_int n)
unfolding print_int
int_digital n = digits_digital (suc n) n (omega arith)

-- a number below 10 ^ k has at most k digits, and one at least
digits_short : (j k n : ℕ) → n < 10 ^ suc k → length (digits_of j n) ≤ suc k
unfolding digits_of
digits_short zero k n h = omega arith
digits_short (suc j) zero n h = rw (lt-ltb n 10 (omega arith)) (omega arith)
digits_short (suc j) (suc k) n h =
    let p : 10 ^ suc (suc k) ≡ 10 * 10 ^ suc k = pow-succ' 10 (suc k) in
    cases (ltb n 10) (λ e. rw e (omega arith))
    (λ e. rw (e, length-append) (let z = digits_short j k (n / 10) (omega arith) in omega arith))

pub int_short : (k n : ℕ) → n < 10 ^ suc k → length (print_int n) ≤ suc k
unfolding print_int
int_short k n h = digits_short (suc n) k n h

-- the last k digits of a number
pub places_none : (k n : ℕ) → k ≡ 0 → places k n ≡ []
unfolding places
places_none k n h = rw h

pub places_more : (k n : ℕ) → (k ≡ 0 → ⊥) → places k n ≡ places (k - 1) (n / 10) ++ last_digit n ∷ []
unfolding places
places_more zero n h = absurd (h refl)
places_more (suc k) n h = let e : suc k - 1 ≡ k = omega arith in rw e

pub places_length : (k n : ℕ) → (k ≡ 0 → ⊥) → length (places k n) ≡ length (places (k - 1) (n / 10)) + 1
places_length k n h = ap length (places_more k n h) ∙ length-append (places (k - 1) (n / 10)) (last_digit n ∷ [])

pub length_places : (k n : ℕ) → length (places k n) ≡ k
unfolding places
length_places zero n = refl
length_places (suc k) n = rw length-append (let z = length_places k (n / 10) in omega arith)

pub places_digits : (k n : ℕ) → all digit (places k n) ≡ true
unfolding places all
places_digits zero n = refl
places_digits (suc k) n = all_snoc digit (places k (n / 10)) (last_digit n) (places_digits k (n / 10)) (last_digit_lem n)

pub places_value : (k n : ℕ) → n < 10 ^ k → value (places k n) ≡ n
unfolding places value_from
places_value zero n h = omega arith
places_value (suc k) n h =
    let p : 10 ^ suc k ≡ 10 * 10 ^ k = pow-succ' 10 k in
    value_snoc 0 (places k (n / 10)) (last_digit n) ∙ (let z = places_value k (n / 10) (omega arith) in omega arith)

-- zeros are digits
pub zeros_digits : (e : ℕ) → all digit (zeros e) ≡ true
unfolding all digit
zeros_digits zero = refl
zeros_digits (suc e) = zeros_digits e

pub all_append : (class : ℕ → Bool) (x y : Bytes) → all class (x ++ y) ≡ and (all class x) (all class y)
unfolding all
all_append class [] y = refl
all_append class (b ∷ x) y = cases (class b) (λ t. rw t (all_append class x y)) (λ t. rw t)

pub both_digits : (x y : Bytes) → all digit x ≡ true → all digit y ≡ true → all digit (x ++ y) ≡ true
both_digits x y a b = all_append digit x y ∙ rw (a, b)

-- a digit is no mark of an exponent
pub digit_no_mark : (b : ℕ) → digit b ≡ true → mark b ≡ false
digit_no_mark b d = let h = digit_high b d in rw (ne_eqb b 101 (λ e. omega arith), ne_eqb b 69 (λ e. omega arith))
