-- `exactly q up down` is the number m with m * 10^down ≡ q * 10^up, if there is one within the limits. So two such answers are compared by their
-- equations alone.
use mathlib.Core.Path.{◌≡◌, refl, sym, ap, ◌∙◌}
use mathlib.Core.Bool.{Bool, true, false}
use Prim.Native.Nat.{ℕ, zero, suc, ◌+◌, ◌-◌, ◌*◌, ◌/◌, ◌%◌, ◌^◌, ◌≤◌, ◌<◌, min}
use native.Mathlib.Omega.{arith}
use native.Mathlib.Nat.{mul_assoc, mul-div_cancel, mul-le-mul_right, mul-lt-mul_of_pos_right, pow-le-pow_right}
use lib.Pow.{pow-add}
use lib.Dec.{eqb, leb, ltb}
use borrow.Author.Tests.{eqb-true, eqb-false, ltb-true, leb-true, leb-false, lt-ltb, eq-eqb}
use Rattle.number.specs.Bytes.{pick, and}
use Rattle.number.specs.Positive.{Number, no_number, number}
use Rattle.numerals.specs.Scan.{TOP, FAR, limited, tenths, exactly, ended}
use Rattle.number.proofs.Tests.{cases, and_left, and_right}
use Rattle.number.proofs.Powers.{ten_pos, shift}

pub record Exact (q up down m : ℕ) : Type 0 where
  pub some : 0 < m
  pub few : m < TOP
  pub same : m * 10 ^ down ≡ q * 10 ^ up

-- an accepted number is the one that is picked, and its test holds
pub picked : (t : Bool) (m n : ℕ) → pick t (number m) no_number ≡ number n → (t ≡ true) × (m ≡ n)
picked true m n h = (refl, cc)
picked false m n h = absurd (let z : ◌≡◌ {A = ℕ} 0 1 = cc in omega arith)

limited_to : (x m : ℕ) → limited x ≡ number m → (0 < x) × (x < TOP) × (x ≡ m)
unfolding limited
limited_to x m h =
    let (t, e) = picked (and (ltb 0 x) (ltb x TOP)) x m h in
    (ltb-true 0 x (and_left (ltb 0 x) (ltb x TOP) t), ltb-true x TOP (and_right (ltb 0 x) (ltb x TOP) t), e)

limited_from : (x m : ℕ) → 0 < m → m < TOP → m ≡ x → limited x ≡ number m
unfolding limited
limited_from x m a b e = rw (sym e, lt-ltb 0 m a, lt-ltb m TOP b)

-- m * 10^(k + 1) is ten times m * 10^k
ten_more : (m k : ℕ) → m * 10 ^ suc k ≡ 10 * (m * 10 ^ k)
ten_more m k = shift m k ∙ mul_assoc 10 m (10 ^ k)

-- a power of ten in two factors
pub split : (m a b c : ℕ) → c ≡ a + b → m * 10 ^ c ≡ (m * 10 ^ a) * 10 ^ b
split m a b c e = ap (λ (j : ℕ). m * 10 ^ j) e ∙ ap (λ (y : ℕ). m * y) (pow-add 10 a b) ∙ sym (mul_assoc m (10 ^ a) (10 ^ b))

pub cancel : (x y k : ℕ) → x * 10 ^ k ≡ y * 10 ^ k → x ≡ y
cancel x y k e = sym (mul-div_cancel x (ten_pos k)) ∙ ap (λ (z : ℕ). z / 10 ^ k) e ∙ mul-div_cancel y (ten_pos k)

tenths_to : (k n m : ℕ) → tenths k n ≡ number m → (0 < m) × (m < TOP) × (m * 10 ^ k ≡ n)
unfolding tenths
tenths_to zero n m h = let (a, b, e) = limited_to n m h in (omega arith, omega arith, omega arith)
tenths_to (suc k) n m h =
    cases (eqb (n % 10) 0)
    (λ t. let (a, b, e) = tenths_to k (n / 10) m (rw t at h) in let r = eqb-true (n % 10) 0 t in let g = ten_more m k in (a, b, omega arith))
    (λ t. absurd (let i : no_number ≡ number m = rw t at h in let z : ◌≡◌ {A = ℕ} 0 1 = cc in omega arith))

tenths_from : (k n m : ℕ) → 0 < m → m < TOP → m * 10 ^ k ≡ n → tenths k n ≡ number m
unfolding tenths
tenths_from zero n m a b e = limited_from n m a b (omega arith)
tenths_from (suc k) n m a b e =
    let g = ten_more m k in
    rw (eq-eqb (n % 10) 0 (omega arith)) (tenths_from k (n / 10) m a b (omega arith))

pub exactly_to : (q up down m : ℕ) → exactly q up down ≡ number m → Exact q up down m
unfolding exactly
exactly_to q up down m h =
    cases (leb down up)
    (λ t.
    let (a, b, e) = limited_to (q * 10 ^ (up - down)) m (rw t at h) in
    let l = leb-true down up t in
    record { some = omega arith; few = omega arith; same = ap (λ (y : ℕ). y * 10 ^ down) (sym e) ∙ sym (split q (up - down) down up (omega arith)) })
    (λ t.
    let (a, b, e) = tenths_to (down - up) q m (rw t at h) in
    let l = leb-false down up t in
    record { some = a; few = b; same = split m (down - up) up down (omega arith) ∙ ap (λ (y : ℕ). y * 10 ^ up) e })

pub exactly_from : (q up down m : ℕ) → Exact q up down m → exactly q up down ≡ number m
unfolding exactly
exactly_from q up down m x =
    cases (leb down up)
    (λ t.
    let l = leb-true down up t in
    rw t (limited_from (q * 10 ^ (up - down)) m x.some x.few (cancel m (q * 10 ^ (up - down)) down (x.same ∙ split q (up - down) down up (omega arith)))))
    (λ t.
    let l = leb-false down up t in
    rw t (tenths_from (down - up) q m x.some x.few (cancel (m * 10 ^ (down - up)) q up (sym (split m (down - up) up down (omega arith)) ∙ x.same))))

same_number : (x y : Number) → ((m : ℕ) → x ≡ number m → y ≡ number m) → ((m : ℕ) → y ≡ number m → x ≡ number m) → x ≡ y
same_number no_number no_number f g = refl
same_number no_number (number m) f g = g m refl
same_number (number m) y f g = sym (f m refl)

pub exactly_same : {q up down q' up' down' : ℕ} → ((m : ℕ) → Exact q up down m → Exact q' up' down' m) → ((m : ℕ) → Exact q' up' down' m → Exact q up down m) → exactly q up down ≡ exactly q' up' down'
exactly_same {q} {up} {down} {q'} {up'} {down'} f g =
    same_number (exactly q up down) (exactly q' up' down')
    (λ m e. exactly_from q' up' down' m (f m (exactly_to q up down m e)))
    (λ m e. exactly_from q up down m (g m (exactly_to q' up' down' m e)))

pub exactly_none : (q up down : ℕ) → ((m : ℕ) → Exact q up down m → ⊥) → exactly q up down ≡ no_number
exactly_none q up down f = same_number (exactly q up down) no_number (λ m e. absurd (f m (exactly_to q up down m e))) (λ m e. absurd (let z : ◌≡◌ {A = ℕ} 0 1 = cc in omega arith))

-- zeros behind the digits are tens
pub exactly_tens : (q k up down : ℕ) → exactly (q * 10 ^ k) up down ≡ exactly q (k + up) down
exactly_tens q k up down =
    exactly_same (λ m x. record { some = x.some; few = x.few; same = x.same ∙ sym (split q k up (k + up) refl) })
    (λ m x. record { some = x.some; few = x.few; same = x.same ∙ split q k up (k + up) refl })

-- a ten less on both sides
pub exactly_suc : (q up down : ℕ) → exactly q (suc up) (suc down) ≡ exactly q up down
exactly_suc q up down =
    exactly_same
    (λ m x. let a = ten_more m down in let b = ten_more q up in let s = x.same in record { some = x.some; few = x.few; same = omega arith })
    (λ m x. let a = ten_more m down in let b = ten_more q up in let s = x.same in record { some = x.some; few = x.few; same = omega arith })

-- powers that lie too far apart: too many digits before the point, or behind it
high : (n up down : ℕ) → down + 13 ≤ up → exactly n up down ≡ no_number
high n up down l = exactly_none n up down (λ m x. none m x)
  where
    none : (m : ℕ) → Exact n up down m → ⊥
    none m x =
        let less : m * 10 ^ down < 10 ^ 13 * 10 ^ down = mul-lt-mul_of_pos_right x.few (ten_pos down) in
        let wide : 10 ^ 13 * 10 ^ down ≡ 10 ^ (13 + down) = sym (pow-add 10 13 down) in
        let more : 10 ^ (13 + down) ≤ 10 ^ up = pow-le-pow_right (omega arith) (omega arith) in
        let s = x.same in
        cases (eqb n 0)
        (λ z.
        let e : n * 10 ^ up ≡ 0 * 10 ^ up = ap (λ (y : ℕ). y * 10 ^ up) (eqb-true n 0 z) in
        let p : 1 * 10 ^ down ≤ m * 10 ^ down = mul-le-mul_right (10 ^ down) x.some in
        let q = ten_pos down in
        omega arith)
        (λ z. let p : 1 * 10 ^ up ≤ n * 10 ^ up = mul-le-mul_right (10 ^ up) (let y = eqb-false n 0 z in omega arith) in omega arith)

low : (n up down : ℕ) → n < TOP → up + 13 ≤ down → exactly n up down ≡ no_number
low n up down h l = exactly_none n up down (λ m x. none m x)
  where
    none : (m : ℕ) → Exact n up down m → ⊥
    none m x =
        let less : n * 10 ^ up < 10 ^ 13 * 10 ^ up = mul-lt-mul_of_pos_right h (ten_pos up) in
        let wide : 10 ^ 13 * 10 ^ up ≡ 10 ^ (13 + up) = sym (pow-add 10 13 up) in
        let more : 10 ^ (13 + up) ≤ 10 ^ down = pow-le-pow_right (omega arith) (omega arith) in
        let p : 1 * 10 ^ down ≤ m * 10 ^ down = mul-le-mul_right (10 ^ down) x.some in
        let s = x.same in
        omega arith

-- so the bound of counts does not show
pub far_up : (n up down : ℕ) → down + 13 ≤ FAR → ended n (min FAR up) down ≡ ended n up down
unfolding ended
far_up n up down l =
    cases (leb up FAR)
    (λ t. let h = leb-true up FAR t in ap (λ (y : ℕ). ended n y down) (omega arith))
    (λ t. let h = leb-false up FAR t in both (high n (min FAR up) down (omega arith)) (high n up down (omega arith)))
  where
    both : exactly n (min FAR up) down ≡ no_number → exactly n up down ≡ no_number → ended n (min FAR up) down ≡ ended n up down
    both e f = ap (λ (y : Number). pick (ltb n TOP) y no_number) (e ∙ sym f)

pub far_down : (n up down : ℕ) → up + 13 ≤ FAR → ended n up (min FAR down) ≡ ended n up down
unfolding ended
far_down n up down l =
    cases (ltb n TOP)
    (λ h.
    let g = ltb-true n TOP h in
    rw h
    (cases (leb down FAR)
    (λ t. let k = leb-true down FAR t in ap (λ (y : ℕ). exactly n up y) (omega arith))
    (λ t. let k = leb-false down FAR t in low n up (min FAR down) g (omega arith) ∙ sym (low n up down g (omega arith)))))
    (λ h. rw h)
