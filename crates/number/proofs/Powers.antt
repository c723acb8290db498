-- The value of digits and powers of ten: what digits in front add, and how many digits a value has.
use mathlib.Core.Path.{◌≡◌, sym, ap, ◌∙◌}
use mathlib.Core.Bool.{true, false}
use mathlib.Core.List.{[], ◌∷◌}
use Prim.Native.Nat.{ℕ, zero, suc, ◌+◌, ◌*◌, ◌^◌, ◌≤◌, ◌<◌}
use native.Mathlib.Omega.{arith}
use native.Mathlib.Nat.{pow-succ', mul_assoc, mul_comm, add-mul, mul-le-mul_right, pow-le-pow_right}
use lib.Dec.{leb, ltb}
use lib.ListN.{length}
use borrow.Author.Tests.{eqb-true, eqb-false, leb-true, leb-false, lt-ltb, le-ltb}
use Rattle.number.specs.Bytes.{Bytes, digit, zero_digit, figure, all, drop_front, value_from, value}
use Rattle.number.proofs.Tests.{cases, and_left, and_right, digit_low, digit_high}

pub ten_pos : (k : ℕ) → 0 < 10 ^ k
ten_pos zero = omega arith
ten_pos (suc k) = rw (pow-succ' 10 k) (let h : 0 < 10 ^ k = ten_pos k in omega arith)

-- a shift moves one place
pub shift : (n k : ℕ) → n * 10 ^ suc k ≡ (10 * n) * 10 ^ k
shift n k = ap (λ (x : ℕ). n * x) (pow-succ' 10 k) ∙ sym (mul_assoc n 10 (10 ^ k)) ∙ ap (λ (x : ℕ). x * 10 ^ k) (mul_comm n 10)

-- n in front of digits counts n with a zero for each of them
pub in_front : (n : ℕ) (s : Bytes) → value_from n s ≡ n * 10 ^ length s + value s
unfolding value_from
in_front n [] = omega arith
in_front n (b ∷ s) =
    let here : value_from (10 * n + figure b) s ≡ (10 * n + figure b) * 10 ^ length s + value s = in_front (10 * n + figure b) s in
    let alone : value_from (10 * 0 + figure b) s ≡ (10 * 0 + figure b) * 10 ^ length s + value s = in_front (10 * 0 + figure b) s in
    let apart : (10 * n + figure b) * 10 ^ length s ≡ (10 * n) * 10 ^ length s + figure b * 10 ^ length s = add-mul (10 * n) (figure b) (10 ^ length s) in
    let moved : n * 10 ^ suc (length s) ≡ (10 * n) * 10 ^ length s = shift n (length s) in
    omega arith

-- so many digits write less than that power of ten
pub value_lt : (s : Bytes) → all digit s ≡ true → value s < 10 ^ length s
unfolding value_from all
value_lt [] h = omega arith
value_lt (b ∷ s) h =
    let d : digit b ≡ true = and_left (digit b) (all digit s) h in
    let rest : value s < 10 ^ length s = value_lt s (and_right (digit b) (all digit s) h) in
    let low : 48 ≤ b = digit_low b d in
    let high : b ≤ 57 = digit_high b d in
    let split : value_from (10 * 0 + figure b) s ≡ (10 * 0 + figure b) * 10 ^ length s + value s = in_front (10 * 0 + figure b) s in
    let most : (10 * 0 + figure b) * 10 ^ length s ≤ 9 * 10 ^ length s = mul-le-mul_right (10 ^ length s) (omega arith) in
    let next : 10 ^ suc (length s) ≡ 10 * 10 ^ length s = pow-succ' 10 (length s) in
    omega arith

-- a first digit above zero counts at least its power of ten
pub lead_le : (b : ℕ) (s : Bytes) → digit b ≡ true → zero_digit b ≡ false → 10 ^ length s ≤ value (b ∷ s)
unfolding value_from
lead_le b s d z =
    let low : 48 ≤ b = digit_low b d in
    let other : b ≡ 48 → ⊥ = eqb-false b 48 z in
    let split : value_from (10 * 0 + figure b) s ≡ (10 * 0 + figure b) * 10 ^ length s + value s = in_front (10 * 0 + figure b) s in
    let least : 1 * 10 ^ length s ≤ (10 * 0 + figure b) * 10 ^ length s = mul-le-mul_right (10 ^ length s) (omega arith) in
    omega arith

pub zero_front : (b : ℕ) (s : Bytes) → zero_digit b ≡ true → value (b ∷ s) ≡ value s
unfolding value_from
zero_front b s z = rw (eqb-true b 48 z)

few_lt : (k : ℕ) (s : Bytes) → all digit s ≡ true → length (drop_front zero_digit s) ≤ k → value s < 10 ^ k
unfolding drop_front all value_from
few_lt k [] h = λ l. ten_pos k
few_lt k (b ∷ s) h =
    cases (zero_digit b)
    (λ z. rw (z, zero_front b s z) (few_lt k s (and_right (digit b) (all digit s) h)))
    (λ z. rw z
    (λ l.
    let below : value (b ∷ s) < 10 ^ suc (length s) = value_lt (b ∷ s) h in
    let more : 10 ^ suc (length s) ≤ 10 ^ k = pow-le-pow_right (omega arith) l in
    omega arith))

many_le : (k : ℕ) (s : Bytes) → all digit s ≡ true → k < length (drop_front zero_digit s) → 10 ^ k ≤ value s
unfolding drop_front all
many_le k [] h = λ l. absurd (omega arith)
many_le k (b ∷ s) h =
    cases (zero_digit b)
    (λ z. rw (z, zero_front b s z) (many_le k s (and_right (digit b) (all digit s) h)))
    (λ z. rw z
    (λ l.
    let lead : 10 ^ length s ≤ value (b ∷ s) = lead_le b s (and_left (digit b) (all digit s) h) z in
    let more : 10 ^ k ≤ 10 ^ length s = pow-le-pow_right (omega arith) (omega arith) in
    omega arith))

-- "After leading zeros are dropped, at most k digits" says that the value is below 10 ^ k
pub few : (k : ℕ) (s : Bytes) → all digit s ≡ true → leb (length (drop_front zero_digit s)) k ≡ ltb (value s) (10 ^ k)
few k s h =
    cases (leb (length (drop_front zero_digit s)) k)
    (λ y. y ∙ sym (lt-ltb (value s) (10 ^ k) (few_lt k s h (leb-true (length (drop_front zero_digit s)) k y))))
    (λ n. n ∙ sym (le-ltb (value s) (10 ^ k) (many_le k s h (leb-false (length (drop_front zero_digit s)) k n))))
