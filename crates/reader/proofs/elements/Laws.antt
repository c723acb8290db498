-- Tags, elements and content at places of a list, one law for each return.
use mathlib.Core.Path.{◌≡◌, refl, sym, subst, ap, ◌∙◌}
use mathlib.Core.Bool.{Bool, true, false}
use mathlib.Core.List.{List}
use Prim.Native.Nat.{ℕ, suc, ◌-◌, ◌≤◌, ◌<◌}
use native.Mathlib.Omega.{arith}
use lib.Dec.{eqb}
use lib.ListN.{length, get_or, take, drop, drop_of_length-le}
use lib.Seq.{drop-cons}
use borrow.Author.Tests.{eq-eqb, ne_eqb}
use Rattle.exact.specs.Exact.{Out, done, bad}
use Rattle.exact.specs.Loop.{onward}
use Rattle.grammar.specs.Bytes.{Bytes}
use Rattle.grammar.specs.Filler.{Site, below_root, Filler}
use Rattle.grammar.specs.Element.{empty, full, bare, child}
use Rattle.model.specs.Attributes.{head_p}
use Rattle.model.specs.Elements.{close_p, tag_of, body_p, elem_p, Acc, ContentTurn, shut_turn, child_turn, content_p}
use Rattle.scan.specs.Pieces.{Got, GotTok, name_tok, chained, Step, end_tag_p}
use Rattle.scan.specs.Unfold.{then_and, and_ext, and_and, close_bind}
use Rattle.scan.proofs.Chain.{then_done, then_more, then_bad, stops, tok, pass, last, known}
use Rattle.std.specs.Prelude.{Result, Ok, Err}
use Rattle.scan.specs.declared.Stop.{Stop}
use Rattle.scan.specs.declared.Stop.TheVariants.{Open, Bad}
use Rattle.tags.specs.Heads.{HeadRead, HeadCase, HeadSays}
use Rattle.fillers.specs.Fills.{fill_tok, GotFiller}
use Rattle.reader.specs.Elements.{start_p, StartRead, StartCase, GotStart}
use Rattle.tags.specs.declared.attributes.Tag.{Tag}
use Rattle.reader.specs.declared.elements.Start.{Start}
use Rattle.reader.proofs.elements.Chains.{elem_bind, tag_p, rest_p, content_is, content_step, tag_open, tag_close, tag_deep, tag_child}

pub known_filler : {site : Site} {s : Bytes} {at : ℕ} {r : Step} {e : ℕ} → r ≡ Ok e → GotFiller site s at r → Got 1 s at (Ok e) (fill_tok site (drop at s))
known_filler q g = known q g.says

-- a head, a tag that is known
pub known_head : {may : Bool} {s : Bytes} {at : ℕ} {old new : List ℕ} {r : Result Tag Stop} {t : Tag} → r ≡ Ok t → HeadSays may s at old new r → HeadRead may s at old new t
known_head {may} {s} {at} {old} {new} q g = subst (λ (r : Result Tag Stop). HeadCase may s at old new r) q g.says

pub known_start : {s : Bytes} {at : ℕ} {old new : List ℕ} {r : Result Start Stop} {t : Start} → r ≡ Ok t → GotStart s at old new r → StartRead s at old new t
known_start {s} {at} {old} {new} q g = subst (λ (r : Result Start Stop). StartCase s at old new r) q g.says

-- a tag
module _ (s : Bytes) (at : ℕ) (old : List ℕ) where
  pub start_unnamed : {x : Stop} → GotTok 1 s at (Err x) (name_tok (drop at s)) → GotStart s at old old (Err x)
  unfolding start_p
  start_unnamed g = record { says = (pass (tok g) 2 at (omega arith) _ refl).says; long = refl }

  module _ (to : ℕ) (g₁ : GotTok 1 s at (Ok to) (name_tok (drop at s))) (new : List ℕ) where
    named : start_p (drop at s) ≡ chained (head_p true (drop to s)) (λ h v. done (record { name = take (to - at) (drop at s); head = h }) v)
    unfolding start_p
    named = then_done _ g₁.says.2

    pub start_headless : {x : Stop} → HeadSays true s to old new (Err x) → GotStart s at old new (Err x)
    start_headless {x} g = record { says = stops s to (head_p true (drop to s)) x g.says at (let h = g₁.says.0 in omega arith) _ named; long = g.long }

    pub start_read : {r : Result Tag Stop} {t : Tag} → r ≡ Ok t → HeadSays true s to old new r → GotStart s at old new (Ok (record { to = to; tag = t }))
    start_read q g =
        let k = known_head q g in
        record {
          says = record {
            value = record { name = take (to - at) (drop at s); head = k.head };
            from = g₁.says.0;
            upto = g₁.says.1;
            name = refl;
            empty = k.ends;
            count = k.counts;
            table = k.table;
            far = k.far;
            room = k.upto;
            head = k.reads;
            reads = named ∙ then_done _ k.reads;
          };
          long = g.long;
        }

-- an element
module _ (d : ℕ) (s : Bytes) (at : ℕ) (old new : List ℕ) where
  pub element_fails : {x : Stop} → GotStart s at old new (Err x) → Got 1 s at (Err x) (elem_p (content_p d) (drop at s))
  element_fails {x} g = record { says = stops s at (start_p (drop at s)) x g.says at (omega arith) _ (elem_bind (content_p d) (drop at s)) }

  module _ (t : Start) (g : StartRead s at old new t) where
    body : elem_p (content_p d) (drop at s) ≡ body_p (content_p d) g.value.name g.value.head (drop t.tag.end s)
    body = elem_bind (content_p d) (drop at s) ∙ then_done _ g.reads

    pub element_empty : t.tag.empty ≡ true → Got 1 s at (Ok t.tag.end) (elem_p (content_p d) (drop at s))
    element_empty z =
        let q : g.value.head.empty ≡ true = sym g.empty ∙ z in
        let h = g.from in
        let k = g.far in
        record { says = (empty (tag_of g.value.name g.value.head), omega arith, g.room, body ∙ rw q) }

    pub element_full : t.tag.empty ≡ false → {r : Step} → Got 1 s t.tag.end r (content_p d (take (t.to - at) (drop at s)) (drop t.tag.end s)) → Got 1 s at r (elem_p (content_p d) (drop at s))
    element_full z {r} c =
        let n = g.value.name in
        let h = g.value.head in
        let q : h.empty ≡ false = sym g.empty ∙ z in
        let l = g.from in
        let m = g.far in
        let c' : Got 1 s t.tag.end r (content_p d n (drop t.tag.end s)) = subst (λ (y : Bytes). Got 1 s t.tag.end r (content_p d y (drop t.tag.end s))) (sym g.name) c in
        last c' 1 at (omega arith) (omega arith) (λ x. full (tag_of n h) x.content x.glue) (body ∙ rw q (then_and (content_p d n (drop t.tag.end s)) _))

-- content: what is left at i of the content at `at`
pub record Rest (d : ℕ) (n s : Bytes) (at i : ℕ) : Type 0 where
  pub from : at ≤ i
  pub upto : i ≤ length s
  pub build : Acc
  pub same : content_p d n (drop at s) ≡ rest_p d n build (drop i s)

pub rest_start : (d : ℕ) (n s : Bytes) (at : ℕ) → at ≤ length s → Rest d n s at at
rest_start d n s at h = record { from = omega arith; upto = h; build = λ c. c; same = content_is d n (drop at s) }

module _ (d : ℕ) (n s : Bytes) (at i : ℕ) (w : Rest d n s at i) where
  pub content_fails : {x : Stop} → GotFiller below_root s i (Err x) → Got 1 s at (Err x) (content_p d n (drop at s))
  content_fails g = pass g.says 1 at w.from _ (w.same ∙ content_step d n w.build (drop i s))

  module _ (j : ℕ) (g : Got 1 s i (Ok j) (fill_tok below_root (drop i s))) where
    abbrev k : Acc
    k = w.build

    abbrev f : Filler
    f = g.says.0

    behind : content_p d n (drop at s) ≡ chained (tag_p d n k f (drop j s)) (onward (rest_p d n))
    behind = w.same ∙ content_step d n k (drop i s) ∙ then_done _ g.says.3

    pub content_open : length s ≤ j → Got 1 s at (Err Open) (content_p d n (drop at s))
    content_open h = record { says = behind ∙ then_more _ (ap (tag_p d n k f) (drop_of_length-le s h) ∙ tag_open d n k f) }

    module _ (h : j < length s) where
      pub content-ends : get_or s j 0 ≡ 47 → {r : Step} → Got 1 s j r (end_tag_p n (drop j s)) → Got 1 s at r (content_p d n (drop at s))
      content-ends e c =
          let x : tag_p d n k f (drop j s) ≡ close_p n (shut_turn k f) (drop j s) = rw (drop-cons s j 0 h) (tag_close d n k f (get_or s j 0) (drop (suc j) s) (eq-eqb 47 (get_or s j 0) (sym e))) in
          let l = w.from in
          last c 1 at (omega arith) (omega arith) (λ b. record { content = k (bare f); glue = b })
          (behind ∙ ap (λ (o : Out ContentTurn). chained o (onward (rest_p d n))) (x ∙ close_bind n (shut_turn k f) (drop j s))
          ∙ and_and (end_tag_p n (drop j s)) (λ b u. done (shut_turn k f b) u) (onward (rest_p d n)) ∙ and_ext (end_tag_p n (drop j s)) (λ b u. then_done _ refl))

      module _ (ne : get_or s j 0 ≡ 47 → ⊥) where
        other : eqb 47 (get_or s j 0) ≡ false
        other = ne_eqb 47 (get_or s j 0) (λ q. ne (sym q))

        pub content-deep : d ≡ 0 → Got 1 s at (Err (Bad j)) (content_p d n (drop at s))
        content-deep z =
            let y : tag_p 0 n k f (drop j s) ≡ bad (drop j s) = rw (drop-cons s j 0 h) (tag_deep n k f (get_or s j 0) (drop (suc j) s) other) in
            let x : tag_p d n k f (drop j s) ≡ bad (drop j s) = ap (λ (m : ℕ). tag_p m n k f (drop j s)) z ∙ y in
            let l = w.from in
            record { says = (omega arith, h, behind ∙ then_bad _ x) }

        module _ (nz : d ≡ 0 → ⊥) where
          child_here : content_p d n (drop at s) ≡ chained (elem_p (content_p (d - 1)) (drop j s)) (λ e u. rest_p d n (λ c. k (child f e c)) u)
          child_here =
              let y : d ≡ suc (d - 1) = omega arith in
              let x : tag_p (suc (d - 1)) n k f (drop j s) ≡ chained (elem_p (content_p (d - 1)) (drop j s)) (λ e u. done (child_turn k f e) u) = rw (drop-cons s j 0 h) (tag_child (d - 1) n k f (get_or s j 0) (drop (suc j) s) other) in
              behind ∙ ap (λ (o : Out ContentTurn). chained o (onward (rest_p d n))) (ap (λ (m : ℕ). tag_p m n k f (drop j s)) y ∙ x)
              ∙ and_and (elem_p (content_p (d - 1)) (drop j s)) (λ e u. done (child_turn k f e) u) (onward (rest_p d n))
              ∙ and_ext (elem_p (content_p (d - 1)) (drop j s)) (λ e u. then_done _ refl)

          pub content-child-fails : {x : Stop} → Got 1 s j (Err x) (elem_p (content_p (d - 1)) (drop j s)) → Got 1 s at (Err x) (content_p d n (drop at s))
          content-child-fails c = let l = w.from in pass c 1 at (omega arith) _ child_here

          pub content-next : {e : ℕ} → Got 1 s j (Ok e) (elem_p (content_p (d - 1)) (drop j s)) → Rest d n s at e
          content-next c = let l = w.from in record { from = omega arith; upto = omega arith; build = λ x. k (child f c.says.0 x); same = child_here ∙ then_done _ c.says.3 }
