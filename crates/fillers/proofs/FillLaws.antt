-- Gaps and filler at places of a list, one law for each return.
use mathlib.Core.Path.{◌≡◌, refl, sym, ap, subst, ◌∙◌}
use mathlib.Core.List.{[], ◌∷◌}
use mathlib.Core.Bool.{Bool, true, false}
use Prim.Native.Nat.{ℕ, suc, ◌+◌, ◌-◌, ◌≤◌, ◌<◌}
use native.Mathlib.Omega.{arith}
use native.Mathlib.Numerals.{add-one}
use lib.ListN.{length, drop, get_or, drop_of_length-le}
use lib.Seq.{drop-cons}
use Rattle.exact.specs.Exact.{Out, done, bad}
use Rattle.exact.specs.Ahead.{Ahead}
use Rattle.grammar.specs.Bytes.{Bytes}
use Rattle.grammar.specs.Glue.{is_glue}
use Rattle.grammar.specs.Filler.{Site, in_root, below_root, comment, Filler}
use Rattle.model.specs.Comments.{comment_p}
use Rattle.model.specs.Fillers.{text_p, FillAcc, added, peek_p}
use Rattle.std.specs.Prelude.{Ok, Err}
use Rattle.scan.specs.Pieces.{Step, Got, Skipped, chained}
use Rattle.scan.specs.Unfold.{then_and, and_and}
use Rattle.scan.proofs.Chain.{then_done, then_more, then_bad, pass}
use Rattle.scan.specs.declared.Stop.{Stop}
use Rattle.scan.specs.declared.Stop.TheVariants.{Open, Bad}
use Rattle.fillers.specs.Fills.{site_of, fill_tok, GotFiller, TagAt, bits_p, calmly, GotGap}
use Rattle.fillers.proofs.BitLaws.{bits_end, bits_text, bits_short, bits_stop, bits_comment, glue_run}

root_text : (b : ℕ) (t : Bytes) → is_glue b ≡ false → text_p in_root 0 (b ∷ t) ≡ bad (b ∷ t)
unfolding text_p
root_text b t h = rw h

-- a site that is known
pub below_root_lem : {z : Bool} {s : Bytes} {at : ℕ} {r : Step} → z ≡ true → GotGap below_root s at r → GotGap (site_of z) s at r
below_root_lem {s = s} {at = at} {r = r} e g = subst (λ (z : Bool). GotGap (site_of z) s at r) (sym e) g

pub in_root_lem : {z : Bool} {s : Bytes} {at : ℕ} {r : Step} → z ≡ false → GotGap in_root s at r → GotGap (site_of z) s at r
in_root_lem {s = s} {at = at} {r = r} e g = subst (λ (z : Bool). GotGap (site_of z) s at r) (sym e) g

-- a gap that is known
pub known_gap : {site : Site} {s : Bytes} {at j : ℕ} {r : Step} → r ≡ Ok j → GotGap site s at r → GotGap site s at (Ok j)
known_gap {site} {s} {at} e g = subst (λ (r : Step). GotGap site s at r) e g

-- a gap: glue, then `<`, or below the root text
module _ (s : Bytes) (at j : ℕ) (x : Skipped s at j) where
  pub gap_open : (site : Site) → length s ≤ j → GotGap site s at (Err Open)
  gap_open site h = record { says = λ k. let (k', e) = glue_run site s at j x k in e ∙ ap (bits_p site (calmly k')) (drop_of_length-le s h) ∙ bits_end site (calmly k') }

  pub gap_lt : (site : Site) → j < length s → get_or s j 0 ≡ 60 → GotGap site s at (Ok j)
  gap_lt site h e = record { says = (x.walked.from, h, e, λ k. let (k', q) = glue_run site s at j x k in (calmly k', q)) }

  pub gap_text : {r : Step} → GotGap below_root s j r → GotGap below_root s at r
  gap_text {r} g = go r g
    where
      go : (r : Step) → GotGap below_root s j r → GotGap below_root s at r
      go (Ok e) g = record { says = (let f = x.walked.from in let z = g.says.0 in omega arith, g.says.1, g.says.2, λ k. let (k', q) = glue_run below_root s at j x k in let (a, y) = g.says.3 k' in (a, q ∙ y)) }
      go (Err Open) g = record { says = λ k. let (k', q) = glue_run below_root s at j x k in q ∙ g.says k' }
      go (Err (Bad p)) g = record { says = (let f = x.walked.from in let z = g.says.0 in omega arith, g.says.1, λ k. let (k', q) = glue_run below_root s at j x k in q ∙ g.says.2 k') }

  pub gap_bad : j < length s → (get_or s j 0 ≡ 60 → ⊥) → GotGap in_root s at (Err (Bad j))
  gap_bad h ne = record { says = (x.walked.from, h, λ k. let (k', q) = glue_run in_root s at j x k in q ∙ dies k') }
    where
      dies : (k : Filler → Filler) → bits_p in_root (calmly k) (drop j s) ≡ bad (drop j s)
      dies k = rw (drop-cons s j 0 h) (bits_text in_root (calmly k) (get_or s j 0) (drop (suc j) s) ne ∙ rw (root_text (get_or s j 0) (drop (suc j) s) (x.ends h)))

-- the filler at `at` goes on at i, no `]` before it
pub record InFill (site : Site) (s : Bytes) (at i : ℕ) : Type 0 where
  pub k : Filler → Filler
  pub from : at ≤ i
  pub upto : i ≤ length s
  pub same : peek_p site (drop at s) ≡ bits_p site (calmly k) (drop i s)

abbrev handed : Ahead Filler → Bytes → Out Filler
handed x u = done x.value (x.first ∷ u)

tok_is : (site : Site) (t : Bytes) → fill_tok site t ≡ chained (peek_p site t) handed
unfolding fill_tok
tok_is site t = refl

module _ (site : Site) (s : Bytes) (at : ℕ) where
  pub fill_start : at ≤ length s → InFill site s at at
  unfolding peek_p bits_p
  fill_start h = record { k = λ f. f; from = omega arith; upto = h; same = refl }

  module _ (i : ℕ) (w : InFill site s at i) where
    so : {o : Out (Ahead Filler)} → bits_p site (calmly w.k) (drop i s) ≡ o → fill_tok site (drop at s) ≡ chained o handed
    so e = tok_is site (drop at s) ∙ ap (λ (o : Out (Ahead Filler)). chained o handed) (w.same ∙ e)

    pub fill_fails : {x : Stop} → GotGap site s i (Err x) → GotFiller site s at (Err x)
    fill_fails {x} g = record { says = go x g }
      where
        go : (x : Stop) → GotGap site s i (Err x) → Got 1 s at (Err x) (fill_tok site (drop at s))
        go Open g = record { says = so (g.says w.k) ∙ then_more handed refl }
        go (Bad p) g = record { says = (let a = w.from in let b = g.says.0 in omega arith, g.says.1, so (g.says.2 w.k) ∙ then_bad handed refl) }

    -- at the next `<`
    module _ (j : ℕ) (g : GotGap site s i (Ok j)) where
      past : FillAcc
      past = (g.says.3 w.k).0

      is_lt : drop j s ≡ 60 ∷ drop (j + 1) s
      is_lt = drop-cons s j 0 g.says.1 ∙ rw (g.says.2, add-one)

      reached : bits_p site (calmly w.k) (drop i s) ≡ bits_p site past (60 ∷ drop (j + 1) s)
      unfolding past
      reached = (g.says.3 w.k).1 ∙ ap (bits_p site (g.says.3 w.k).0) is_lt

      here : fill_tok site (drop at s) ≡ chained (bits_p site past (60 ∷ drop (j + 1) s)) handed
      here = so reached

      pub fill-short : length s - j < 2 → GotFiller site s at (Err Open)
      fill-short h =
          let l : length s ≤ j + 1 = omega arith in
          record { says = record { says = here ∙ ap (λ (t : Bytes). chained (bits_p site past (60 ∷ t)) handed) (drop_of_length-le s l) ∙ then_more handed (bits_short site past) } }

      module _ (l : j + 1 < length s) where
        pub fill-tag : (get_or s (j + 1) 0 ≡ 33 → ⊥) → GotFiller site s at (Ok (j + 1))
        fill-tag ne =
            let b = get_or s (j + 1) 0 in
            let u = drop (suc (j + 1)) s in
            let e : drop (j + 1) s ≡ b ∷ u = drop-cons s (j + 1) 0 l in
            let a = w.from in
            let c = g.says.0 in
            record { says = record { says = (past.build [], omega arith, omega arith, here ∙ ap (λ (t : Bytes). chained (bits_p site past (60 ∷ t)) handed) e ∙ then_done handed (bits_stop site past b u ne) ∙ ap (λ (t : Bytes). done (past.build []) t) (sym e)) } }

        module _ (bang : get_or s (j + 1) 0 ≡ 33) where
          commented : fill_tok site (drop at s) ≡ chained (chained (comment_p (drop (j + 2) s)) (λ m u. bits_p site (added past (comment m)) u)) handed
          commented =
              let z : suc (j + 1) ≡ j + 2 = omega arith in
              let e : drop (j + 1) s ≡ 33 ∷ drop (j + 2) s = drop-cons s (j + 1) 0 l ∙ rw (bang, z) in
              here ∙ ap (λ (t : Bytes). chained (bits_p site past (60 ∷ t)) handed) e
              ∙ ap (λ (o : Out (Ahead Filler)). chained o handed) (bits_comment site past (drop (j + 2) s) ∙ then_and (comment_p (drop (j + 2) s)) (λ m u. bits_p site (added past (comment m)) u))

          pub fill-comment-fails : {x : Stop} → Got 1 s (j + 2) (Err x) (comment_p (drop (j + 2) s)) → GotFiller site s at (Err x)
          fill-comment-fails c =
              let a = w.from in
              let b = g.says.0 in
              record { says = pass c 1 at (omega arith) _ (commented ∙ and_and (comment_p (drop (j + 2) s)) (λ m u. bits_p site (added past (comment m)) u) handed) }

          pub fill-next : {e : ℕ} → Got 1 s (j + 2) (Ok e) (comment_p (drop (j + 2) s)) → InFill site s at e
          fill-next {e} c =
              let a = w.from in
              let b = g.says.0 in
              let z : suc (j + 1) ≡ j + 2 = omega arith in
              let q : drop (j + 1) s ≡ 33 ∷ drop (j + 2) s = drop-cons s (j + 1) 0 l ∙ rw (bang, z) in
              record {
                k = λ f. past.build (comment c.says.0 ∷ f);
                from = let d = c.says.1 in omega arith;
                upto = c.says.2;
                same = w.same ∙ reached ∙ ap (λ (t : Bytes). bits_p site past (60 ∷ t)) q ∙ bits_comment site past (drop (j + 2) s) ∙ then_and (comment_p (drop (j + 2) s)) (λ m u. bits_p site (added past (comment m)) u) ∙ then_done _ c.says.3;
              }

-- glue, and a tag behind it
pub fill_glue : (site : Site) (s : Bytes) (at j : ℕ) → at ≤ length s → Skipped s at j → TagAt s j → GotFiller site s at (Ok (j + 1))
fill_glue site s at j h x t = let l = t.inside in fill-tag site s at at (fill_start site s at h) j (gap_lt s at j x site (omega arith) t.opens) l t.apart
