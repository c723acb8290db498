-- Text below the root at places of a list.
use mathlib.Core.Path.{◌≡◌, refl, sym, ap, subst, ◌∙◌}
use mathlib.Core.List.{◌∷◌}
use mathlib.Core.Logic.{◌⊎◌, inl, inr}
use mathlib.Core.Bool.{Bool, true, false, cond}
use Prim.Native.Nat.{ℕ, suc, ◌≤◌, ◌<◌}
use native.Mathlib.Omega.{arith}
use lib.ListN.{length, drop, get_or, drop_of_length-le}
use lib.Seq.{drop-cons}
use lib.Dec.{eqb}
use Rattle.exact.specs.Exact.{Out}
use Rattle.exact.specs.Chain.{and_then}
use Rattle.grammar.specs.Bytes.{Bytes}
use Rattle.grammar.specs.Value.{Item}
use Rattle.grammar.specs.Filler.{below_root, in_text, Filler, brackets, stopper}
use Rattle.model.specs.Values.{item_p}
use Rattle.model.specs.Fillers.{text_p, FillAcc, added}
use Rattle.std.specs.Prelude.{Ok, Err}
use Rattle.scan.specs.Pieces.{Step}
use Rattle.scan.specs.declared.Stop.{Stop}
use Rattle.scan.specs.declared.Stop.TheVariants.{Open, Bad}
use Rattle.pieces.specs.Says.{Known, Says}
use Rattle.pieces.specs.Parts.{code_point}
use Rattle.fillers.specs.Fills.{Cleared, bits_p, calmly, GotGap}
use Rattle.fillers.proofs.BitLaws.{bits_end, bits_text, plain_run, item_row}

-- n `]` stand in a row
abbrev pub behind : ℕ → (Filler → Filler) → FillAcc
behind n k = record { row = n; build = k }

-- the text at `at` goes on at i, behind n `]` in a row
pub record InText (s : Bytes) (at i n : ℕ) : Type 0 where
  pub from : at ≤ i
  pub upto : i ≤ length s
  pub few : n ≤ i
  pub same : (k : Filler → Filler) → (k' : Filler → Filler) × (bits_p below_root (calmly k) (drop at s) ≡ bits_p below_root (behind n k') (drop i s))

text_is : (n : ℕ) (t : Bytes) → text_p below_root n t ≡ item_p (stopper n) t
unfolding text_p
text_is n t = refl

module _ (s : Bytes) (at : ℕ) where
  abbrev TextSays : Step → Type 0
  TextSays r = GotGap below_root s at r

  pub text_start : at ≤ length s → InText s at at 0
  text_start h = record { from = omega arith; upto = h; few = omega arith; same = λ k. (k, refl) }

  module _ (i n : ℕ) (w : InText s at i n) where
    pub text_end : length s ≤ i → TextSays (Err Open)
    text_end h = record { says = λ k. let (k', e) = w.same k in e ∙ ap (bits_p below_root (behind n k')) (drop_of_length-le s h) ∙ bits_end below_root (behind n k') }

    pub text_cleared : (j : ℕ) → Cleared s i n j → InText s at j n
    text_cleared j c = go c.calm
      where
        go : (n ≡ 0) ⊎ (j ≡ i) → InText s at j n
        go (inl z) =
            let a = w.from in
            let b = c.ran.from in
            record {
              from = omega arith;
              upto = c.ran.upto;
              few = omega arith;
              same = λ k. let (k', e) = w.same k in let (k'', f) = plain_run s i j c.ran k' in
                  (k'', e ∙ ap (λ (m : ℕ). bits_p below_root (behind m k') (drop i s)) z ∙ f ∙ ap (λ (m : ℕ). bits_p below_root (behind m k'') (drop j s)) (sym z));
            }
        go (inr z) = subst (λ (x : ℕ). InText s at x n) (sym z) w

    module _ (h : i < length s) where
      pub text-stop : get_or s i 0 ≡ 60 → TextSays (Ok i)
      text-stop e = record { says = (w.from, h, e, λ k. let (k', q) = w.same k in (behind n k', q)) }

      module _ (ne : get_or s i 0 ≡ 60 → ⊥) where
        turned : (k : Filler → Filler) → (k' : Filler → Filler) × (bits_p below_root (calmly k) (drop at s) ≡ and_then (item_p (stopper n) (drop i s)) (λ x u. bits_p below_root (added (behind n k') (in_text x)) u))
        turned k =
            let (k', e) = w.same k in
            let y : bits_p below_root (behind n k') (drop i s) ≡ and_then (text_p below_root n (drop i s)) (λ x u. bits_p below_root (added (behind n k') (in_text x)) u) = rw (drop-cons s i 0 h) (bits_text below_root (behind n k') (get_or s i 0) (drop (suc i) s) ne) in
            (k', e ∙ y ∙ ap (λ (o : Out Item). and_then o (λ x u. bits_p below_root (added (behind n k') (in_text x)) u)) (text_is n (drop i s)))

        pub text-fail : {q : ℕ} {x : Stop} → q ≡ stopper n → Says code_point 1 s i (Err x) (item_p q (drop i s)) → TextSays (Err x)
        text-fail {q} {x} z g = go x (subst (λ (q : ℕ). Says code_point 1 s i (Err x) (item_p q (drop i s))) z g)
          where
            go : (x : Stop) → Says code_point 1 s i (Err x) (item_p (stopper n) (drop i s)) → TextSays (Err x)
            go Open g = record { says = λ k. let (k', q) = turned k in q ∙ ap (λ (o : Out Item). and_then o (λ x u. bits_p below_root (added (behind n k') (in_text x)) u)) g.says }
            go (Bad p) g =
                let y = g.says in
                let a = w.from in
                record { says = (let b = y.0 in omega arith, y.1, λ k. let (k', q) = turned k in q ∙ ap (λ (o : Out Item). and_then o (λ x u. bits_p below_root (added (behind n k') (in_text x)) u)) y.2) }

        text-read : {c e m : ℕ} → Known code_point 1 s i c e (item_p (stopper n) (drop i s)) → m ≡ cond (eqb 93 (get_or s i 0)) (suc n) 0 → InText s at e m
        text-read {c} {e} {m} g q =
            let a = w.from in
            let b = g.far in
            let d = w.few in
            let r : brackets n (in_text g.value) ≡ m = item_row n (get_or s i 0) (drop (suc i) s) g.value (drop e s) (ap (item_p (stopper n)) (sym (drop-cons s i 0 h)) ∙ g.reads) ∙ sym q in
            record {
              from = omega arith;
              upto = g.upto;
              few = rw q (small (eqb 93 (get_or s i 0)) (omega arith));
              same = λ k. let (k', y) = turned k in (
                (λ f. k' (in_text g.value ∷ f)),
                y ∙ ap (λ (o : Out Item). and_then o (λ x u. bits_p below_root (added (behind n k') (in_text x)) u)) g.reads
                    ∙ ap (λ (x : ℕ). bits_p below_root (behind x (λ f. k' (in_text g.value ∷ f))) (drop e s)) r,
              );
            }
          where
            small : (z : Bool) → suc n ≤ e → cond z (suc n) 0 ≤ e
            small true h = h
            small false h = omega arith

        pub text-next : {q c e m : ℕ} → q ≡ stopper n → Known code_point 1 s i c e (item_p q (drop i s)) → m ≡ cond (eqb 93 (get_or s i 0)) (suc n) 0 → InText s at e m
        text-next {c = c} {e = e} z g q = text-read (subst (λ (q : ℕ). Known code_point 1 s i c e (item_p q (drop i s))) z g) q
