-- What the needs of the code ask beyond a test or a case, each over plain values.
use mathlib.Core.Path.{◌≡◌, refl, sym, ap, ◌∙◌}
use mathlib.Core.Bool.{Bool, true, false}
use mathlib.Core.List.{[], ◌∷◌, ◌++◌}
use Prim.Native.Nat.{ℕ, zero, suc, ◌+◌, ◌-◌, ◌*◌, ◌/◌, ◌%◌, ◌^◌, ◌≤◌, ◌<◌, min}
use native.Mathlib.Omega.{arith}
use native.Mathlib.Numerals.{add-one}
use native.Mathlib.Nat.{mul-le-mul_right, pow-le-pow_right}
use lib.Dec.{eqb, leb, ltb}
use lib.ListN.{length, get_or, take}
use lib.Seq.{take-suc, take_all}
use borrow.Author.Tests.{lt-ltb, le-ltb, le-leb, lt-leb, ne_eqb, eq-eqb, eqb-true, eqb-false, leb-true, leb-false}
use Rattle.number.specs.Bytes.{Bytes, pick}
use Rattle.number.specs.Whole.{CAP}
use Rattle.number.specs.Positive.{Number, no_number, number, number_read}
use Rattle.numerals.specs.Scan.{run, ends_step, inside, TOP, body_step, step, sized_as, millionths_of, limited, tenths, exactly, ended}
use mathlib.Core.Logic.{◌⊎◌, inl, inr}
use Rattle.std.specs.Prelude.{Option, Some, None}
use Rattle.number.specs.declared.Positive.{Positive}
use Rattle.number.specs.declared.Int.{Int}
use Rattle.numerals.specs.declared.ends.Ends.{Ends}
use Rattle.numerals.specs.declared.scan.Digits.{Digits}
use Rattle.numerals.specs.declared.scan.Body.{Body}
use Rattle.numerals.specs.declared.scan.Scan.{Scan}
use Rattle.number.proofs.Tests.{cases, and_false}
use Rattle.numerals.proofs.Theorems.{scanned_more}

-- a scan that has passed the first i bytes of v, in a loop over v
pub record Passed (from : Scan) (v : Bytes) (i : ℕ) (s : Scan) : Type 0 where
  pub upto : i ≤ length v
  pub is : s ≡ run step from (take i v)

module _ (from : Scan) (v : Bytes) where
  pub passed_none : {s : Scan} → s ≡ from → Passed from v 0 s
  unfolding run
  passed_none h = record { upto = omega arith; is = h }

  pub passed_more : {i : ℕ} {s t : Scan} {b : ℕ} → Passed from v i s → i < length v → b ≡ get_or v i 0 → t ≡ step s b → Passed from v (i + 1) t
  passed_more {i} {s} {t} {b} p l e h =
      let u : take (i + 1) v ≡ take i v ++ get_or v i 0 ∷ [] = rw add-one (take-suc v i 0 l) in
      record { upto = omega arith; is = h ∙ ap (step s) e ∙ ap (λ (x : Scan). step x (get_or v i 0)) p.is ∙ sym (scanned_more Scan step from (take i v) (get_or v i 0)) ∙ ap (run step from) (sym u) }

  pub passed_all : {i : ℕ} {s : Scan} → Passed from v i s → length v ≤ i → s ≡ run step from v
  passed_all {i} p l = p.is ∙ ap (run step from) (take_all i v l)

-- a byte inside goes to the body, another only to the ends
pub byte_inside : (s : Scan) (b : ℕ) (e : Ends) (n : Body) → e ≡ ends_step s.ends b → inside e ≡ true → n ≡ body_step s.body b → ◌≡◌ {A = Scan} (record { ends = e; body = n }) (step s b)
unfolding step
byte_inside s b e n p i h = rw (p, h, ap inside (sym p) ∙ i)

pub byte_outside : (s : Scan) (b : ℕ) (e : Ends) → e ≡ ends_step s.ends b → inside e ≡ false → ◌≡◌ {A = Scan} (record { ends = e; body = s.body }) (step s b)
unfolding step
byte_outside s b e p i = rw (p, ap inside (sym p) ∙ i)

-- a size up to the cap
pub size_told : (minus : Bool) (d : Digits) (m : ℕ) → (d.n ≡ 0 → ⊥) → m ≡ min CAP (d.n * 10 ^ d.zeros) → ◌≡◌ {A = Int} (record { negative = minus; size = m }) (sized_as minus d)
unfolding sized_as
size_told minus d m h e = rw (ne_eqb d.n 0 h, e)

-- the limits of a number x that was cut at the top
module _ (x : ℕ) {m : ℕ} (e : m ≡ min TOP x) where
  pub limit_in : 0 < m → m < TOP → number m ≡ limited x
  unfolding limited
  limit_in z h = let y : x ≡ m = omega arith in rw (y, lt-ltb 0 m z, lt-ltb m TOP h)

  pub limit_out : (0 < m × TOP ≤ m) ⊎ (m ≤ 0) → no_number ≡ limited x
  unfolding limited
  limit_out (inl (z, h)) = rw (le-ltb x TOP (omega arith), and_false (ltb 0 x))
  limit_out (inr z) = let y : x ≡ 0 = omega arith in rw y

-- a product by a power of ten, where both are told up to the largest number: 10^20 is above it
pub shift_capped : (n k p q : ℕ) → p ≡ min (10 ^ min k 20) (2 ^ 64 - 1) → q ≡ min (n * p) (2 ^ 64 - 1) → min q TOP ≡ min TOP (n * 10 ^ k)
shift_capped n k p q e f =
    cases (leb k 19)
    (λ t.
    let l = leb-true k 19 t in
    let x : min k 20 ≡ k = omega arith in
    let y : 10 ^ k ≤ 10 ^ 19 = let d : k ≤ 19 = omega arith in pow-le-pow_right (omega arith) d in
    let z : min (10 ^ k) (2 ^ 64 - 1) ≡ 10 ^ k = omega arith in
    let w : p ≡ 10 ^ k = e ∙ ap (λ (j : ℕ). min (10 ^ j) (2 ^ 64 - 1)) x ∙ z in
    let v : n * p ≡ n * 10 ^ k = ap (λ (j : ℕ). n * j) w in
    omega arith)
    (λ t.
    let l = leb-false k 19 t in
    let x : min k 20 ≡ 20 = omega arith in
    let w : p ≡ 2 ^ 64 - 1 = e ∙ ap (λ (j : ℕ). min (10 ^ j) (2 ^ 64 - 1)) x in
    let y : 10 ^ 20 ≤ 10 ^ k = let d : 20 ≤ k = omega arith in pow-le-pow_right (omega arith) d in
    many w y)
  where
    many : p ≡ 2 ^ 64 - 1 → 10 ^ 20 ≤ 10 ^ k → min q TOP ≡ min TOP (n * 10 ^ k)
    many w y =
        cases (eqb n 0)
        (λ z.
        let a : n * p ≡ 0 * p = ap (λ (j : ℕ). j * p) (eqb-true n 0 z) in
        let b : n * 10 ^ k ≡ 0 * 10 ^ k = ap (λ (j : ℕ). j * 10 ^ k) (eqb-true n 0 z) in
        omega arith)
        (λ z.
        let s : 1 ≤ n = let r = eqb-false n 0 z in omega arith in
        let a : 1 * p ≤ n * p = mul-le-mul_right p s in
        let b : 1 * 10 ^ k ≤ n * 10 ^ k = mul-le-mul_right (10 ^ k) s in
        omega arith)

-- a quotient by a power of ten, factor by factor: what is left of it is the same
pub record Lowering (n k m left : ℕ) : Type 0 where
  pub some : 0 < m
  pub same : tenths left m ≡ tenths k n

pub low_start : (n k left : ℕ) → (n ≡ 0 → ⊥) → left ≡ k → Lowering n k n left
low_start n k left h e = record { some = omega arith; same = ap (λ (j : ℕ). tenths j n) e }

pub low_zero : (k : ℕ) → no_number ≡ tenths k 0
unfolding tenths limited
low_zero zero = refl
low_zero (suc k) = low_zero k

pub low_more : (n k m left next : ℕ) → Lowering n k m left → left ≡ suc next → m % 10 ≡ 0 → Lowering n k (m / 10) next
unfolding tenths
low_more n k m left next p l e =
    let s = p.some in
    record { some = omega arith; same = ap (λ (t : Bool). pick t (tenths next (m / 10)) no_number) (sym (eq-eqb (m % 10) 0 e)) ∙ ap (λ (j : ℕ). tenths j m) (sym l) ∙ p.same }

pub low_over : (n k m left : ℕ) → Lowering n k m left → 0 < left → (m % 10 ≡ 0 → ⊥) → no_number ≡ tenths k n
unfolding tenths
low_over n k m zero p l e = absurd (omega arith)
low_over n k m (suc left) p l e = ap (λ (t : Bool). pick t (tenths left (m / 10)) no_number) (sym (ne_eqb (m % 10) 0 e)) ∙ p.same

pub low_end : (n k m left : ℕ) → Lowering n k m left → left ≤ 0 → limited (m * 10 ^ 0) ≡ tenths k n
unfolding tenths
low_end n k m zero p l = ap limited (omega arith) ∙ p.same
low_end n k m (suc left) p l = absurd (omega arith)

-- n times or by a power of ten
pub scaled_top : (n up down : ℕ) → TOP ≤ n → no_number ≡ ended n up down
unfolding ended
scaled_top n up down h = rw (le-ltb n TOP h)

pub scaled_up : (n up down : ℕ) → n < TOP → down ≤ up → limited (n * 10 ^ (up - down)) ≡ ended n up down
unfolding ended exactly
scaled_up n up down h l = rw (lt-ltb n TOP h, le-leb down up l)

pub scaled_down : (n up down : ℕ) → n < TOP → up < down → tenths (down - up) n ≡ ended n up down
unfolding ended exactly
scaled_down n up down h l = rw (lt-ltb n TOP h, lt-leb down up l)

-- an answer with its digits behind the point, from the millionths
pub told_none : {r : Option ℕ} {q : Option Positive} (x : Number) (d : ℕ) → r ≡ millionths_of x → r ≡ None → q ≡ None → q ≡ number_read x d
unfolding number_read millionths_of
told_none no_number d e f h = h
told_none (number n) d e f h = cc

pub told_some : {r : Option ℕ} {m : ℕ} (x : Number) (c d : ℕ) → r ≡ millionths_of x → r ≡ Some m → c ≡ d → Some (record { millionths = m; decimals = c }) ≡ number_read x d
unfolding number_read millionths_of
told_some no_number c d e f h = cc
told_some {m = m} (number n) c d e f h = let g : m ≡ n = cc in rw (g, h)
