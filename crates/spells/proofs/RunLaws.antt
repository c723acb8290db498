-- Runs of bytes that are written as they are: tested, made longer, and put down whole.
use mathlib.Core.Path.{◌≡◌, refl, sym, ap, subst, ◌∙◌}
use mathlib.Core.List.{[], ◌∷◌, ◌++◌, append-nil}
use mathlib.Core.Bool.{true, ◌&&◌, not}
use Prim.Native.Nat.{ℕ, zero, suc, ◌+◌, ◌-◌, ◌≤◌, ◌<◌}
use native.Mathlib.Omega.{arith}
use lib.Dec.{eqb, ltb}
use lib.ListN.{length, take, drop, get_or, length-append, length-drop, take-append-drop}
use lib.Seq.{take-suc, take_all, take-add, get_or-drop}
use borrow.Author.Tests.{leb-true, ne_eqb, not-true, eqb-false, ltb-true, ltb-false}
use Rattle.grammar.specs.Bytes.{Bytes}
use Rattle.model.specs.Tests.{and_left, and_right}
use Rattle.number.proofs.Tests.{cases}
use Rattle.printing.specs.Put.{Wrote}
use Rattle.printing.specs.Writes.{◌then◌}
use Rattle.spelling.specs.Written.{escape_byte, escape}
use Rattle.spells.specs.Runs.{Stay, Kept}
use Rattle.spelling.proofs.EscapeLaws.{other_same, escape_append, escape_more}

-- no control character, and none of the four
pub test_same : (b : ℕ) → (((ltb 31 b && not (eqb b 38)) && not (eqb b 60)) && not (eqb b 62)) && not (eqb b 34) ≡ true → escape_byte b ≡ b ∷ []
test_same b h =
    let a = and_left (((ltb 31 b && not (eqb b 38)) && not (eqb b 60)) && not (eqb b 62)) (not (eqb b 34)) h in
    let c = and_left ((ltb 31 b && not (eqb b 38)) && not (eqb b 60)) (not (eqb b 62)) a in
    let d = and_left (ltb 31 b && not (eqb b 38)) (not (eqb b 60)) c in
    let low = leb-true 32 b (and_left (ltb 31 b) (not (eqb b 38)) d) in
    let amp = eqb-false b 38 (not-true (eqb b 38) (and_right (ltb 31 b) (not (eqb b 38)) d)) in
    let lt = eqb-false b 60 (not-true (eqb b 60) (and_right (ltb 31 b && not (eqb b 38)) (not (eqb b 60)) c)) in
    let gt = eqb-false b 62 (not-true (eqb b 62) (and_right ((ltb 31 b && not (eqb b 38)) && not (eqb b 60)) (not (eqb b 62)) a)) in
    let quot = eqb-false b 34 (not-true (eqb b 34) (and_right (((ltb 31 b && not (eqb b 38)) && not (eqb b 60)) && not (eqb b 62)) (not (eqb b 34)) h)) in
    other_same (record {
      amp_not = ne_eqb 38 b (λ e. amp (sym e));
      lt_not = ne_eqb 60 b (λ e. lt (sym e));
      gt_not = ne_eqb 62 b (λ e. gt (sym e));
      quot_not = ne_eqb 34 b (λ e. quot (sym e));
      tab_not = ne_eqb 9 b (λ e. omega arith);
      lf_not = ne_eqb 10 b (λ e. omega arith);
      cr_not = ne_eqb 13 b (λ e. omega arith);
    })

pub kept_none : (s : Bytes) (i : ℕ) → i ≤ length s → Kept s i i
kept_none s i h = record { from = omega arith; upto = h; same = λ k l. absurd (omega arith) }

-- n bytes further
pub kept_on : {s : Bytes} {i j : ℕ} (n : ℕ) → Kept s i j → j + n ≤ length s → Stay s j n → Kept s i (j + n)
kept_on {s} {i} {j} n a h p = record {
  from = omega (arith, a.from);
  upto = h;
  same = λ k l. cases (ltb k (j - i)) (λ e. a.same k (ltb-true k (j - i) e)) (λ e. behind k l (ltb-false k (j - i) e));
}
  where
    behind : (k : ℕ) → k < j + n - i → j - i ≤ k → escape_byte (get_or s (i + k) 0) ≡ get_or s (i + k) 0 ∷ []
    behind k l g = let x : j + (i + k - j) ≡ i + k = omega (arith, a.from) in rw x at (p (i + k - j) (omega (arith, a.from)))

pub kept_one : {s : Bytes} {i j : ℕ} → Kept s i j → j < length s → escape_byte (get_or s j 0) ≡ get_or s j 0 ∷ [] → Kept s i (j + 1)
kept_one {s} {i} {j} a h e = kept_on 1 a (omega arith) (λ k l. let x : j + k ≡ j = omega arith in rw x e)

pub kept_all : {s : Bytes} {i j : ℕ} → Kept s i j → length s ≤ j → Kept s i (length s)
kept_all {s} {i} {j} k h = let e : j ≡ length s = omega (arith, k.upto) in subst (λ (n : ℕ). Kept s i n) e k

stays_part : (s : Bytes) (i n : ℕ) → i + n ≤ length s → Stay s i n → escape (take n (drop i s)) ≡ take n (drop i s)
unfolding escape
stays_part s i zero h p = refl
stays_part s i (suc n) h p =
    let b : ℕ = get_or s (i + n) 0 in
    let l : n < length (drop i s) = rw length-drop (omega arith) in
    let e : take (suc n) (drop i s) ≡ take n (drop i s) ++ (b ∷ []) = take-suc (drop i s) n 0 l ∙ ap (λ (x : ℕ). take n (drop i s) ++ (x ∷ [])) (get_or-drop i s n 0) in
    let one : escape (b ∷ []) ≡ b ∷ [] = append-nil (escape_byte b) ∙ p n (omega arith) in
    let less : escape (take n (drop i s)) ≡ take n (drop i s) = stays_part s i n (omega arith) (λ k m. p k (omega arith)) in
    ap escape e ∙ escape_append (take n (drop i s)) (b ∷ []) ∙ ap (λ (x : Bytes). x ++ escape (b ∷ [])) less ∙ ap (λ (x : Bytes). take n (drop i s) ++ x) one ∙ sym e

-- up to the end of a run
run_more : {s : Bytes} {i j : ℕ} → Kept s i j → escape (take j s) ≡ escape (take i s) ++ take (j - i) (drop i s)
run_more {s} {i} {j} a =
    let x : j ≡ i + (j - i) = omega (arith, a.from) in
    ap (λ (k : ℕ). escape (take k s)) x ∙ ap escape (take-add i (j - i) s) ∙ escape_append (take i s) (take (j - i) (drop i s))
    ∙ ap (λ (y : Bytes). escape (take i s) ++ y) (stays_part s i (j - i) (omega (arith, a.from, a.upto)) a.same)

pub run_fits : {s : Bytes} {i j : ℕ} → Kept s i j → length (escape (take i s)) + length (take (j - i) (drop i s)) ≤ length (escape s)
run_fits {s} {i} {j} a =
    let e : escape s ≡ escape (take j s) ++ escape (drop j s) = rw take-append-drop at (escape_append (take j s) (drop j s)) in
    omega (arith, simp length-append at (ap length (run_more a)), simp length-append at (ap length e))

-- a run put down whole, and the byte behind it
module _ (s : Bytes) {o n p : Bytes} {at a r : ℕ} where
  pub wrote_run : {i j : ℕ} → Wrote o at (escape (take i s)) n a → Kept s i j → Wrote n a (take (j - i) (drop i s)) p r → Wrote o at (escape (take j s)) p r
  wrote_run {i} {j} w k g = rw (run_more k) (w then g)

  pub wrote_byte : (j : ℕ) → Wrote o at (escape (take j s)) n a → j < length s → Wrote n a (escape_byte (get_or s j 0)) p r → Wrote o at (escape (take (j + 1) s)) p r
  wrote_byte j w h g = rw (escape_more s j h) (w then g)

pub wrote_whole : (s : Bytes) {o n : Bytes} {at a : ℕ} (j : ℕ) → Wrote o at (escape (take j s)) n a → length s ≤ j → Wrote o at (escape s) n a
wrote_whole s {o} {n} {at} {a} j w h = rw (take_all j s h) at w
