-- What the digits of a scan stand for: the number q that they write, wherever the point stands.
use mathlib.Core.Path.{◌≡◌, refl, sym, ap, ◌∙◌}
use mathlib.Core.Bool.{Bool, true, false}
use Prim.Native.Nat.{ℕ, zero, suc, ◌+◌, ◌-◌, ◌*◌, ◌^◌, ◌≤◌, ◌<◌, min}
use native.Mathlib.Omega.{arith}
use native.Mathlib.Nat.{mul_assoc, le-mul_of_pos_right}
use lib.Dec.{ltb}
use borrow.Author.Tests.{eqb-true, eqb-false, ltb-true, ltb-false, lt-ltb, le-ltb}
use Rattle.number.specs.Bytes.{pick, digit, zero_digit, figure}
use Rattle.number.specs.Positive.{Number}
use Rattle.numerals.specs.Scan.{TOP, TENTH, FAR, joined, zeros_more, exactly, ended, power_end}
use Rattle.numerals.specs.declared.scan.Digits.{Digits}
use Rattle.number.proofs.Tests.{cases, digit_low, digit_high}
use Rattle.number.proofs.Powers.{ten_pos, shift}
use Rattle.numerals.proofs.TenLaws.{Exact, split, cancel, exactly_none, exactly_tens, far_up, far_down}

-- more digits that matter than a positive number may have, wherever the point stands
pub record Many (q : ℕ) : Type 0 where
  pub is : (m k : ℕ) → q ≡ m * 10 ^ k → TOP ≤ m

-- the digits write q
pub data Holds (q n z : ℕ) : Type 0 where
  fewer : n < TENTH → z ≡ 0 → q ≡ n → Holds q n z
  fits : TENTH ≤ n → n < TOP → q ≡ n * 10 ^ z → Holds q n z
  many : TOP ≤ n → Many q → Holds q n z

pub holds_none : Holds 0 0 0
holds_none = fewer (omega arith) refl refl

-- a last digit above zero behind enough others, and any digit behind too many
too_many : (q x : ℕ) → 1 ≤ x → x ≤ 9 → TENTH ≤ q → Many (10 * q + x)
too_many q x a b l = record { is = go }
  where
    go : (m k : ℕ) → 10 * q + x ≡ m * 10 ^ k → TOP ≤ m
    go m zero e = omega arith
    go m (suc k) e = let s = shift m k in let t = mul_assoc 10 m (10 ^ k) in absurd (omega arith)

more_many : (q x : ℕ) → x ≤ 9 → Many q → Many (10 * q + x)
more_many q x b h = record { is = go }
  where
    least : TOP ≤ q
    least = h.is q 0 (omega arith)

    go : (m k : ℕ) → 10 * q + x ≡ m * 10 ^ k → TOP ≤ m
    go m zero e = let l = least in omega arith
    go m (suc k) e = let s = shift m k in let t = mul_assoc 10 m (10 ^ k) in h.is m k (omega arith)

pub holds_more : {q n z : ℕ} (b : ℕ) → digit b ≡ true → z < FAR → Holds q n z → Holds (10 * q + figure b) (joined n b) (zeros_more n z)
unfolding joined zeros_more
holds_more {q} {n} {z} b d l (fewer h e f) =
    let hi = digit_high b d in
    rw (lt-ltb n TENTH h)
    (cases (ltb (10 * n + figure b) TENTH)
    (λ t. fewer (ltb-true (10 * n + figure b) TENTH t) e (omega arith))
    (λ t. fits (ltb-false (10 * n + figure b) TENTH t) (omega arith) (rw e (omega arith))))
holds_more {q} {n} {z} b d l (fits g h e) =
    let lo = digit_low b d in
    let hi = digit_high b d in
    rw (le-ltb n TENTH g, lt-ltb n TOP h)
    (cases (zero_digit b)
    (λ t.
    let zero : b ≡ 48 = eqb-true b 48 t in
    let next : min FAR (z + 1) ≡ suc z = omega arith in
    let s = shift n z in
    let m = mul_assoc 10 n (10 ^ z) in
    rw (t, next) (fits g h (omega arith)))
    (λ t.
    let other = eqb-false b 48 t in
    let least : n ≤ n * 10 ^ z = le-mul_of_pos_right n (ten_pos z) in
    rw t (many (omega arith) (too_many q (figure b) (omega arith) (omega arith) (omega arith)))))
holds_more {q} {n} {z} b d l (many g h) =
    let hi = digit_high b d in
    rw (le-ltb n TENTH (omega arith), le-ltb n TOP g) (many (omega arith) (more_many q (figure b) (omega arith) h))

-- their answer is that of q
pub holds_ended : {q n z : ℕ} (up down : ℕ) → Holds q n z → ended n (z + up) down ≡ exactly q up down
unfolding ended
holds_ended {q} {n} {z} up down (fewer h e f) = rw (lt-ltb n TOP (omega arith)) (ap (λ (y : ℕ). exactly n y down) (omega arith) ∙ ap (λ (y : ℕ). exactly y up down) (sym f))
holds_ended {q} {n} {z} up down (fits g h e) = rw (lt-ltb n TOP h) (sym (exactly_tens n z up down) ∙ ap (λ (y : ℕ). exactly y up down) (sym e))
holds_ended {q} {n} {z} up down (many g h) = rw (le-ltb n TOP g) (sym (exactly_none q up down none))
  where
    none : (m : ℕ) → Exact q up down m → ⊥
    none m x = go (ltb up down) refl
      where
        go : (t : Bool) → ltb up down ≡ t → ⊥
        go true t =
            let l = ltb-true up down t in
            let s : m * 10 ^ (down - up) ≡ q = cancel (m * 10 ^ (down - up)) q up (sym (split m (down - up) up down (omega arith)) ∙ x.same) in
            let y = h.is m (down - up) (sym s) in
            let z = x.few in
            omega arith
        go false t =
            let l = ltb-false up down t in
            let s : m ≡ q * 10 ^ (up - down) = cancel m (q * 10 ^ (up - down)) down (x.same ∙ split q (up - down) down up (omega arith)) in
            let y = h.is q 0 (omega arith) in
            let w : q ≤ q * 10 ^ (up - down) = le-mul_of_pos_right q (ten_pos (up - down)) in
            let z = x.few in
            omega arith

-- the answer of digits that write q, p of them behind the point, with the exponent e
abbrev pub answer : Bool → ℕ → ℕ → ℕ → Number
answer minus e q p = pick minus (exactly q 6 (p + e)) (exactly q (6 + e) p)

pub holds_answer : (minus : Bool) (e q : ℕ) (d : Digits) → Holds q d.n d.zeros → d.zeros + 19 ≤ FAR → d.places + 13 ≤ FAR → power_end minus (min FAR e) d ≡ answer minus e q d.places
unfolding power_end
holds_answer true e q d h a b =
    let u : min FAR (d.zeros + 6) ≡ d.zeros + 6 = omega arith in
    let v : min FAR (d.places + min FAR e) ≡ min FAR (d.places + e) = omega arith in
    rw (u, v) (far_down d.n (d.zeros + 6) (d.places + e) (omega arith) ∙ holds_ended 6 (d.places + e) h)
holds_answer false e q d h a b =
    let u : min FAR (min FAR (d.zeros + 6) + min FAR e) ≡ min FAR (d.zeros + (6 + e)) = omega arith in
    rw u (far_up d.n (d.zeros + (6 + e)) d.places (omega arith) ∙ holds_ended (6 + e) d.places h)
