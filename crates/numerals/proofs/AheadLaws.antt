-- Runs of digits taken at once: what one digit more, and a point, make of the state.
use mathlib.Core.Path.{◌≡◌, refl, sym, ap, ◌∙◌}
use mathlib.Core.Bool.{true}
use mathlib.Core.List.{[], ◌∷◌, ◌++◌}
use Prim.Native.Nat.{ℕ, ◌+◌, ◌-◌, ◌*◌, ◌≤◌, ◌<◌, min}
use native.Mathlib.Omega.{arith}
use native.Mathlib.Numerals.{add-one}
use lib.ListN.{length, take, drop, get_or}
use lib.Seq.{take-suc, take_all}
use Rattle.std.proofs.Common.{length-drop}
use Rattle.std.proofs.lemmas.List.{take-append-drop}
use borrow.Author.Tests.{lt-ltb, ne_eqb}
use Rattle.number.specs.Bytes.{Bytes, blank, digit, figure}
use Rattle.number.proofs.Tests.{digit_low, digit_no_blank}
use Rattle.numerals.specs.Scan.{FAR, TENTH, SLICE, run, ends_step, inside, joined, zeros_more, part_digit, part_step, sign_step, whole_step, first_step, body_step, start, step}
use Rattle.numerals.specs.Ahead.{whole_of, part_of, Steps, Runs}
use Rattle.numerals.specs.declared.scan.Scan.{Scan}
use Rattle.number.proofs.DigitLaws.{digit_no_mark}
use Rattle.numerals.specs.declared.ahead.Run.{Run}
use Rattle.numerals.proofs.Theorems.{scanned_more, scanned_on}

pub whole_steps : Steps whole_of
unfolding step ends_step inside body_step whole_step joined zeros_more
whole_steps n k b h l d = rw (digit_no_blank b d, d, lt-ltb n TENTH h)

counted : (k : ℕ) → k < SLICE → min FAR (k + 1) ≡ k + 1
counted k l = omega arith

pub part_steps : Steps part_of
unfolding step ends_step inside body_step part_step part_digit joined zeros_more
part_steps n k b h l d = rw (digit_no_blank b d, digit_no_mark b d, d, lt-ltb n TENTH h, counted k l)

first_digit : (b : ℕ) → digit b ≡ true → step start b ≡ whole_of (figure b) 0
unfolding step ends_step inside body_step first_step sign_step joined zeros_more
first_digit b d =
    let low = digit_low b d in
    let z : 10 * 0 + figure b ≡ figure b = omega arith in
    rw (digit_no_blank b d, ne_eqb b 45 (λ e. omega arith), ne_eqb b 43 (λ e. omega arith), d, z)

pub point_step : (n k : ℕ) → step (whole_of n k) 46 ≡ part_of n 0
unfolding step ends_step inside body_step whole_step blank digit
point_step n k = refl

-- the runs of a state: none yet, and one digit more
pub runs_none : (v : Bytes) (n : ℕ) → Runs v n (record { n = n; len = 0 })
unfolding run
runs_none v n = record { upto = omega arith; says = λ f h. refl }

module _ (v : Bytes) (n m i : ℕ) {j f : ℕ} where
  pub runs_more : Runs v n (record { n = m; len = i }) → i ≡ j → j < length v → length v < SLICE → m < TENTH → f ≡ figure (get_or v j 0) → digit (get_or v j 0) ≡ true → Runs v n (record { n = 10 * m + f; len = i + 1 })
  runs_more r e l few h g d = record {
    upto = omega arith;
    says = λ f s.
        let u : take (i + 1) v ≡ take i v ++ get_or v i 0 ∷ [] = rw add-one (take-suc v i 0 (omega arith)) in
        let b : get_or v i 0 ≡ get_or v j 0 = ap (λ (k : ℕ). get_or v k 0) e in
        ap (run step (f n 0)) u ∙ scanned_more Scan step (f n 0) (take i v) (get_or v i 0) ∙ ap (λ (x : Scan). step x (get_or v i 0)) (r.says f s) ∙ ap (step (f m i)) b ∙ s m i (get_or v j 0) h (omega arith) d ∙ ap (λ (x : ℕ). f (10 * m + x) (i + 1)) (sym g);
  }

-- what stands behind the first i bytes
pub rest_is : (v : Bytes) (i : ℕ) → take (length v - i) (drop i v) ≡ drop i v
rest_is v i = take_all (length v - i) (drop i v) (omega (arith, length-drop i v))

-- the scan behind the run
pub behind_run : (v : Bytes) (n : ℕ) {r : Run} (f : ℕ → ℕ → Scan) → Steps f → Runs v n r → run step (f r.n r.len) (take (length v - r.len) (drop r.len v)) ≡ run step (f n 0) v
behind_run v n {r} f s h =
    ap (run step (f r.n r.len)) (rest_is v r.len)
    ∙ ap (λ (x : Scan). run step x (drop r.len v)) (sym (h.says f s))
    ∙ sym (scanned_on Scan step (f n 0) (take r.len v) (drop r.len v))
    ∙ ap (run step (f n 0)) (take-append-drop r.len v)

-- bytes by their first and the rest
pub first_rest : (v : Bytes) (b : ℕ) → 1 ≤ length v → get_or v 0 0 ≡ b → v ≡ b ∷ take (length v - 1) (drop 1 v)
first_rest [] b l e = absurd (omega arith)
first_rest (c ∷ v) b l e = rw (rest_is (c ∷ v) 1, sym e)

-- a first digit, and a point
pub digit_first : (v : Bytes) {f : ℕ} → 1 ≤ length v → digit (get_or v 0 0) ≡ true → f ≡ figure (get_or v 0 0) → run step (whole_of f 0) (take (length v - 1) (drop 1 v)) ≡ run step start v
unfolding run
digit_first v l d e =
    ap (λ (x : ℕ). run step (whole_of x 0) (take (length v - 1) (drop 1 v))) e
    ∙ ap (λ (x : Scan). run step x (take (length v - 1) (drop 1 v))) (sym (first_digit (get_or v 0 0) d))
    ∙ ap (run step start) (sym (first_rest v (get_or v 0 0) l refl))

pub point_first : (v : Bytes) (n k : ℕ) → 1 ≤ length v → get_or v 0 0 ≡ 46 → run step (part_of n 0) (take (length v - 1) (drop 1 v)) ≡ run step (whole_of n k) v
unfolding run
point_first v n k l e =
    ap (λ (x : Scan). run step x (take (length v - 1) (drop 1 v))) (sym (point_step n k))
    ∙ ap (run step (whole_of n k)) (sym (first_rest v 46 l e))
