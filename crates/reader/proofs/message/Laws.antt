-- The root's child, the root and the message at places of a list, one law for each return. Where a part ends follows from
-- its model's exactness: what was read is what the layout spells.
use mathlib.Core.Path.{◌≡◌, refl, sym, subst, ap, ◌∙◌}
use mathlib.Core.Bool.{Bool, true, false}
use mathlib.Core.List.{List, [], ◌∷◌, ◌++◌}
use Prim.Native.Nat.{ℕ, suc, ◌+◌, ◌-◌, ◌≤◌, ◌<◌}
use Prim.Native.Char.{code}
use native.Mathlib.Omega.{arith}
use native.Mathlib.Numerals.{add-one}
use lib.ListN.{length, length-append, get_or, take, drop, length-take, length-drop, drop_of_length-le}
use lib.Seq.{drop-cons, take_at}
use borrow.Author.Tests.{eq-eqb, ne_eqb}
use Rattle.exact.specs.Exact.{Out, done, more, bad, Lang, Reader, Exact, sound}
use Rattle.exact.specs.Chain.{ret_p, map_p, clash, if_p}
use Rattle.exact.specs.Byte.{Lit, lit, lit_exact}
use Rattle.grammar.specs.Bytes.{Bytes, text}
use Rattle.grammar.specs.Limits.{DEPTH}
use Rattle.grammar.specs.Attribute.{spell_attributes}
use Rattle.grammar.specs.Filler.{Site, in_root, Filler, spell_filler}
use Rattle.grammar.specs.Element.{Element, empty, full}
use Rattle.grammar.specs.Message.{Root, Layout, plain, declared, hermes}
use Rattle.model.specs.Attributes.{Head, end_of, IsHead, head_p}
use Rattle.model.proofs.Attributes.{head_exact}
use Rattle.model.specs.Elements.{Tail, tag_of, body_p, elem_p, content_p}
use Rattle.model.specs.Declarations.{declaration_p}
use Rattle.model.proofs.Declarations.{declaration_exact}
use Rattle.model.specs.Messages.{mk_root, root_p, layout_p}
use Rattle.scan.specs.Pieces.{Got, byte_p, word_p, chained, Step, end_tag_p}
use Rattle.scan.specs.Unfold.{then_and}
use Rattle.scan.proofs.Chain.{then_done, stops, pass, last}
use Rattle.std.specs.Prelude.{Result, Ok, Err}
use Rattle.scan.specs.declared.Stop.{Stop}
use Rattle.scan.specs.declared.Stop.TheVariants.{Open}
use Rattle.tags.specs.Heads.{HeadRead, HeadSays}
use Rattle.fillers.specs.Fills.{fill_tok, GotFiller}
use Rattle.fillers.proofs.Fills.{fill_word}
use Rattle.reader.specs.Elements.{StartRead, GotStart}
use Rattle.grammar.specs.Places.{inner_of, child_of, tag_in, root_lead, lead, inside_from}
use Rattle.reader.specs.Message.{itself, none, Drawn, InnerRead, InnerCase, GotInner, inside_p, GotInside, declared_p, declared_lead}
use Rattle.tags.specs.declared.attributes.Tag.{Tag}
use Rattle.reader.specs.declared.elements.Start.{Start}
use Rattle.reader.specs.declared.answer.Child.{Child}
use Rattle.reader.proofs.elements.Chains.{elem_bind}
use Rattle.reader.proofs.elements.Laws.{element_fails, element_empty, element_full}
use Rattle.reader.proofs.message.Chains.{root_bind, after_p, layout_bind, after_open, after_declared, after_plain, both_done}

-- what an exact reader read: its word stands there
pub spanned : {A : Type 0} {L : Lang A} {p : Reader A} → Exact L p → (s : Bytes) (at e : ℕ) (v : A) → at ≤ e → e ≤ length s → p (drop at s) ≡ done v (drop e s) → (w : Bytes) × (e ≡ at + length w) × (take (e - at) (drop at s) ≡ w) × L w v
spanned x s at e v h k q =
    let (w, i, l) = sound x (drop at s) v (drop e s) q in
    let n : length s - at ≡ length w + (length s - e) = sym (length-drop at s) ∙ ap length i ∙ length-append w (drop e s) ∙ ap (λ (m : ℕ). length w + m) (length-drop e s) in
    let m : length w ≡ e - at = omega arith in
    (w, omega arith, ap (λ (y : Bytes). take (e - at) y) i ∙ take_at w (drop e s) (e - at) m, l)

-- a word
pub word_there : (w s : Bytes) (at e : ℕ) {k : ℕ} → Got k s at (Ok e) (word_p w (drop at s)) → (e ≡ at + length w) × (take (e - at) (drop at s) ≡ w)
unfolding word_p
word_there w s at e g =
    let h = g.says.1 in
    let (u, i, j, l) = spanned (lit_exact {A = ℕ} w 0) s at e g.says.0 (omega arith) g.says.2 g.says.3 in
    go u i j l
  where
    go : (u : Bytes) → e ≡ at + length u → take (e - at) (drop at s) ≡ u → Lit w 0 u g.says.0 → (e ≡ at + length w) × (take (e - at) (drop at s) ≡ w)
    go u i j (lit q z) = (rw (← q) i, j ∙ q)

pub byte_there : (b : ℕ) (s : Bytes) (at e : ℕ) → Got 1 s at (Ok e) (byte_p b (drop at s)) → e ≡ at + 1
unfolding byte_p
byte_there b s at e g =
    let h = g.says.1 in
    let (u, i, j, l) = spanned (lit_exact {A = ℕ} (b ∷ []) 0) s at e g.says.0 (omega arith) g.says.2 g.says.3 in
    go u i l
  where
    go : (u : Bytes) → e ≡ at + length u → Lit (b ∷ []) 0 u g.says.0 → e ≡ at + 1
    go u i (lit q z) = i ∙ ap (λ (y : Bytes). at + length y) q

-- filler and `<`
pub filler_there : (site : Site) (s : Bytes) (at e : ℕ) (g : Got 1 s at (Ok e) (fill_tok site (drop at s))) → e ≡ at + length (spell_filler g.says.0) + 1
filler_there site s at e g =
    let f = g.says.0 in
    let (w, good) = fill_word site (drop at s) f (drop e s) g.says.3 in
    let h = g.says.1 in
    let k = g.says.2 in
    let n : length s - at ≡ length (spell_filler f) + suc (length s - e) = sym (length-drop at s) ∙ ap length w ∙ length-append (spell_filler f) (code "<" ∷ drop e s) ∙ ap (λ (m : ℕ). length (spell_filler f) + suc m) (length-drop e s) in
    omega arith

-- the head of a tag that is no empty one
pub head_there : (may : Bool) (s : Bytes) (at e : ℕ) (h : Head) → at + 1 ≤ e → e ≤ length s → head_p may (drop at s) ≡ done h (drop e s) → h.empty ≡ false → e ≡ at + length (spell_attributes h.attributes ++ (h.trail ++ text ">"))
head_there may s at e h l k q z =
    let (u, i, j, x) = spanned (head_exact may) s at e h (omega arith) k q in
    i ∙ ap (λ (y : Bytes). at + length y) x.spelt ∙ ap (λ (b : Bool). at + length (spell_attributes h.attributes ++ (h.trail ++ end_of b))) z

-- the root's tag is no empty one
pub root_started : (s : Bytes) (at e : ℕ) (h : Head) → at + 1 ≤ e → e ≤ length s → head_p false (drop at s) ≡ done h (drop e s) → h.empty ≡ false
root_started s at e h l k q =
    let (u, i, j, x) = spanned (head_exact false) s at e h (omega arith) k q in
    go h.empty refl x
  where
    go : (z : Bool) → h.empty ≡ z → {u : Bytes} → IsHead false u h → h.empty ≡ false
    go true y x = clash (sym (x.allowed y))
    go false y x = y

-- an element that is known
pub known_inner : {A : Type 0} {child : A → Element} {before : A → Bytes} {s : Bytes} {at : ℕ} {old new : List ℕ} {r : Result Child Stop} {o : Out A} {c : Child} → r ≡ Ok c → GotInner child before s at old new r o → InnerRead child before s at old new c o
known_inner {child = child} {before = before} {s = s} {at = at} {old = old} {new = new} {o = o} q g = subst (λ (r : Result Child Stop). InnerCase child before s at old new r o) q g.says

itself_chained : {A : Type 0} (o : Out A) → o ≡ chained o (λ v u. done v u)
unfolding chained
itself_chained (done v u) = refl
itself_chained more = refl
itself_chained (bad r) = refl

-- what stopped says nothing of a child
pub inner_fails : {A : Type 0} (child : A → Element) (before : A → Bytes) (s : Bytes) (at : ℕ) (old new : List ℕ) {x : Stop} {o : Out A} → Got 1 s at (Err x) o → GotInner child before s at old new (Err x) o
inner_fails child before s at old new g = record { says = g.says }

-- behind the head of a tag
body_empty : (inner : Bytes → Reader Tail) (n : Bytes) (h : Head) (t : Bytes) → h.empty ≡ true → body_p inner n h t ≡ done (empty (tag_of n h)) t
body_empty inner n h t z = ap (λ (b : Bool). if_p b (ret_p (empty (tag_of n h))) (map_p (λ x. full (tag_of n h) x.content x.glue) (inner n)) t) z

body_full : (inner : Bytes → Reader Tail) (n : Bytes) (h : Head) (t : Bytes) → h.empty ≡ false → body_p inner n h t ≡ chained (inner n t) (λ x u. done (full (tag_of n h) x.content x.glue) u)
body_full inner n h t z = ap (λ (b : Bool). if_p b (ret_p (empty (tag_of n h))) (map_p (λ x. full (tag_of n h) x.content x.glue) (inner n)) t) z ∙ then_and (inner n t) _

-- the child
module _ (d : ℕ) (s : Bytes) (at : ℕ) (old new : List ℕ) where
  pub child_fails : {x : Stop} → GotStart s at old new (Err x) → GotInner itself none s at old new (Err x) (elem_p (content_p d) (drop at s))
  child_fails g = record { says = (element_fails d s at old new g).says }

  module _ (t : Start) (g : StartRead s at old new t) where
    n : Bytes
    n = g.value.name

    h : Head
    h = g.value.head

    body : elem_p (content_p d) (drop at s) ≡ body_p (content_p d) n h (drop t.tag.end s)
    unfolding n h
    body = elem_bind (content_p d) (drop at s) ∙ then_done _ g.reads

    name_ends : t.to ≡ at + 0 + length n
    unfolding n
    name_ends =
        let m : length g.value.name ≡ t.to - at = ap length g.name ∙ rw (length-take, length-drop) (let a = g.from in let b = g.upto in omega arith) in
        let a = g.from in omega arith

    lines_of : (x : Element) (i : ℕ) → tag_in x ≡ tag_of n h → i ≡ inside_from t.to x → Drawn s (at + 0) x at t.to t.tag.count i old new
    unfolding n h
    lines_of x i q z =
        let e = name_ends in
        record { lines = record { starts = omega arith; ends = rw q e; counts = rw q g.count; behind = z }; table = rw q g.table }

    pub child_empty : t.tag.empty ≡ true → GotInner itself none s at old new (Ok (record { outline = record { from = at; to = t.to; count = t.tag.count; inside = 0 }; next = t.tag.end })) (elem_p (content_p d) (drop at s))
    unfolding n h
    child_empty z = record {
      says = record {
        value = empty (tag_of n h);
        far = (element_empty d s at old new t g z).says.1;
        upto = g.room;
        reads = body ∙ body_empty (content_p d) n h (drop t.tag.end s) (sym g.empty ∙ z);
        drawn = lines_of (empty (tag_of n h)) 0 refl refl;
      };
    }

    module _ (z : t.tag.empty ≡ false) where
      no : h.empty ≡ false
      unfolding h
      no = sym g.empty ∙ z

      pub child-content-fails : {x : Stop} → Got 1 s t.tag.end (Err x) (content_p d (take (t.to - at) (drop at s)) (drop t.tag.end s)) → GotInner itself none s at old new (Err x) (elem_p (content_p d) (drop at s))
      child-content-fails c = record { says = (element_full d s at old new t g z c).says }

      so : elem_p (content_p d) (drop at s) ≡ chained (content_p d n (drop t.tag.end s)) (λ x u. done (full (tag_of n h) x.content x.glue) u)
      so = body ∙ body_full (content_p d) n h (drop t.tag.end s) no

      behind : t.tag.end ≡ t.to + length (spell_attributes h.attributes ++ (h.trail ++ text ">"))
      unfolding h
      behind = head_there true s t.to t.tag.end h g.far g.room g.head no

      pub child-full : {e : ℕ} → Got 1 s t.tag.end (Ok e) (content_p d (take (t.to - at) (drop at s)) (drop t.tag.end s))
          → GotInner itself none s at old new (Ok (record { outline = record { from = at; to = t.to; count = t.tag.count; inside = t.tag.end }; next = e })) (elem_p (content_p d) (drop at s))
      unfolding n h
      child-full {e} c =
          let c' : Got 1 s t.tag.end (Ok e) (content_p d n (drop t.tag.end s)) = subst (λ (y : Bytes). Got 1 s t.tag.end (Ok e) (content_p d y (drop t.tag.end s))) (sym g.name) c in
          let x = c'.says.0 in
          record {
            says = record {
              value = full (tag_of n h) x.content x.glue;
              far = (element_full d s at old new t g z c).says.1;
              upto = c.says.2;
              reads = so ∙ then_done _ c'.says.3;
              drawn = lines_of (full (tag_of n h) x.content x.glue) t.tag.end refl behind;
            };
          }

-- the child, filler and the end tag
module _ (n s : Bytes) (at : ℕ) (old new : List ℕ) where
  pub inside_child_fails : {x : Stop} → GotInner itself none s at old new (Err x) (elem_p (content_p (DEPTH - 2)) (drop at s)) → GotInside n s at old new (Err x)
  unfolding inside_p
  inside_child_fails {x} g = record { says = λ h b. record { says = stops s at (elem_p (content_p (DEPTH - 2)) (drop at s)) x g.says at (omega arith) _ refl } }

  module _ (c : Child) (g₁ : InnerRead itself none s at old new c (elem_p (content_p (DEPTH - 2)) (drop at s))) where
    pub inside_filler_fails : {x : Stop} → GotFiller in_root s c.next (Err x) → GotInside n s at old new (Err x)
    unfolding inside_p
    inside_filler_fails g = record { says = λ h b. inner_fails inner_of none s at old new (pass g.says 1 at (let l = g₁.far in omega arith) _ (then_done _ g₁.reads)) }

    module _ (i : ℕ) (g₂ : Got 1 s c.next (Ok i) (fill_tok in_root (drop c.next s))) where
      inside_so : (h : Head) (b : Filler) → inside_p n h b (drop at s) ≡ chained (end_tag_p n (drop i s)) (λ y z. done (mk_root h b g₁.value g₂.says.0 y) z)
      unfolding inside_p
      inside_so h b = then_done _ g₁.reads ∙ then_done _ g₂.says.3

      inside_all : {r : Step} → Got 1 s i r (end_tag_p n (drop i s)) → (h : Head) (b : Filler) → Got 1 s at r (inside_p n h b (drop at s))
      inside_all g h b = let l = g₁.far in let m = g₂.says.1 in last g 1 at (omega arith) (omega arith) (mk_root h b g₁.value g₂.says.0) (inside_so h b)

      pub inside-end-fails : {x : Stop} → Got 1 s i (Err x) (end_tag_p n (drop i s)) → GotInside n s at old new (Err x)
      inside-end-fails g = record { says = λ h b. inner_fails inner_of none s at old new (inside_all g h b) }

      pub inside-read : {e : ℕ} → Got 1 s i (Ok e) (end_tag_p n (drop i s)) → GotInside n s at old new (Ok (record { outline = c.outline; next = e }))
      inside-read {e} g = record {
        says = λ h b. record {
          says = record {
            value = mk_root h b g₁.value g₂.says.0 g.says.0;
            far = let l = g₁.far in let m = g₂.says.1 in let k = g.says.1 in omega arith;
            upto = g.says.2;
            reads = inside_so h b ∙ then_done _ g.says.3;
            drawn = g₁.drawn;
          };
        };
      }

-- the values that were read before the child are part of the root
inside_made : (n : Bytes) (h : Head) (f : Filler) (t : Bytes) (v : Root) (u : Bytes) → inside_p n h f t ≡ done v u → (x : Element) × (f' : Filler) × (g : Bytes) × (mk_root h f x f' g ≡ v)
unfolding inside_p
inside_made n h f t v u q =
    let (x, t₁, a, q₁) = both_done (elem_p (content_p (DEPTH - 2)) t) _ q in
    let (f', t₂, b, q₂) = both_done (fill_tok in_root t₁) _ q₁ in
    let (g, t₃, c, q₃) = both_done (end_tag_p n t₂) (λ g z. done (mk_root h f x f' g) z) q₂ in
    (x, f', g, cc)

-- the root
module _ (s : Bytes) (at : ℕ) where
  pub root_name_fails : {x : Stop} → Got 6 s at (Err x) (word_p hermes (drop at s)) → Got 1 s at (Err x) (root_p (drop at s))
  root_name_fails g = pass g 1 at (omega arith) _ (root_bind (drop at s))

  module _ (a : ℕ) (g₁ : Got 6 s at (Ok a) (word_p hermes (drop at s))) where
    pub root_tag_fails : {o w : List ℕ} {x : Stop} → HeadSays false s a o w (Err x) → Got 1 s at (Err x) (root_p (drop at s))
    root_tag_fails {x = x} g = record { says = stops s a (head_p false (drop a s)) x g.says at (let l = g₁.says.1 in omega arith) _ (root_bind (drop at s) ∙ then_done _ g₁.says.3) }

    module _ {o w : List ℕ} (t : Tag) (g₂ : HeadRead false s a o w t) where
      hd : Head
      hd = g₂.head

      pub root-filler-fails : {x : Stop} → GotFiller in_root s t.end (Err x) → Got 1 s at (Err x) (root_p (drop at s))
      root-filler-fails g = pass g.says 1 at (let l = g₁.says.1 in let m = g₂.far in omega arith) _ (root_bind (drop at s) ∙ then_done _ g₁.says.3 ∙ then_done _ g₂.reads)

      module _ (i : ℕ) (g₃ : Got 1 s t.end (Ok i) (fill_tok in_root (drop t.end s))) where
        fl : Filler
        fl = g₃.says.0

        root_so : root_p (drop at s) ≡ inside_p hermes hd fl (drop i s)
        unfolding hd fl
        root_so = root_bind (drop at s) ∙ then_done _ g₁.says.3 ∙ then_done _ g₂.reads ∙ then_done _ g₃.says.3

        place : (x : Element) (f' : Filler) (g : Bytes) → i + 0 ≡ at + length (root_lead (mk_root hd fl x f' g))
        unfolding hd fl
        place x f' g =
            let k = (word_there hermes s at a g₁).0 in
            let y = root_started s a t.end hd g₂.far g₂.upto g₂.reads in
            let l = head_there false s a t.end hd g₂.far g₂.upto g₂.reads y in
            let m = filler_there in_root s t.end i g₃ in
            omega (
              arith,
              length-append (spell_attributes hd.attributes) (hd.trail ++ text ">"),
              length-append hd.trail (text ">"),
              length-append (spell_attributes hd.attributes) (hd.trail ++ code ">" ∷ (spell_filler fl ++ text "<")),
              length-append hd.trail (code ">" ∷ (spell_filler fl ++ text "<")),
              length-append (spell_filler fl) (text "<"),
            )

        root_further : at ≤ i
        root_further = let l = g₁.says.1 in let m = g₂.far in let k = g₃.says.1 in omega arith

        pub root-read : {old new : List ℕ} {r : Result Child Stop} → GotInside hermes s i old new r → GotInner inner_of root_lead s at old new r (root_p (drop at s))
        root-read {old} {new} {r} g = record { says = go r (g.says hd fl).says }
          where
            go : (r : Result Child Stop) → InnerCase inner_of none s i old new r (inside_p hermes hd fl (drop i s)) → InnerCase inner_of root_lead s at old new r (root_p (drop at s))
            go (Err x) q = stops s i (inside_p hermes hd fl (drop i s)) x q at root_further (λ v u. done v u) (root_so ∙ itself_chained (inside_p hermes hd fl (drop i s)))
            go (Ok c) q =
                let (x, f', b, k) = inside_made hermes hd fl (drop i s) q.value (drop c.next s) q.reads in
                let p : i + 0 ≡ at + length (root_lead q.value) = subst (λ (v : Root). i + 0 ≡ at + length (root_lead v)) k (place x f' b) in
                let l = root_further in
                let m = q.far in
                record {
                  value = q.value;
                  far = omega arith;
                  upto = q.upto;
                  reads = root_so ∙ q.reads;
                  drawn = subst (λ (m : ℕ). Drawn s m q.value.inner c.outline.from c.outline.to c.outline.count c.outline.inside old new) p q.drawn;
                }

  -- a declaration, filler and the root
  pub declared_fails : {x : Stop} → Got 1 s at (Err x) (declaration_p (drop at s)) → Got 1 s at (Err x) (declared_p (drop at s))
  unfolding declared_p
  declared_fails g = pass g 1 at (omega arith) _ refl

  module _ (a : ℕ) (g₁ : Got 1 s at (Ok a) (declaration_p (drop at s))) where
    pub declared_filler_fails : {x : Stop} → GotFiller in_root s a (Err x) → Got 1 s at (Err x) (declared_p (drop at s))
    unfolding declared_p
    declared_filler_fails g = pass g.says 1 at (let l = g₁.says.1 in omega arith) _ (then_done _ g₁.says.3)

    module _ (b : ℕ) (g₂ : Got 1 s a (Ok b) (fill_tok in_root (drop a s))) where
      declared-place : (x : Root) → b + length (root_lead x) ≡ at + length (declared_lead (declared g₁.says.0 g₂.says.0 x))
      declared-place x =
          let l = g₁.says.1 in
          let (w, i, j, k) = spanned declaration_exact s at a g₁.says.0 (omega arith) g₁.says.2 g₁.says.3 in
          let m = filler_there in_root s a b g₂ in
          let y = spell_filler g₂.says.0 ++ code "<" ∷ root_lead x in
          let q : declared_lead (declared g₁.says.0 g₂.says.0 x) ≡ w ++ y = ap (λ (z : Bytes). drop 2 (z ++ y)) (sym k.spelt) in
          let n : length (declared_lead (declared g₁.says.0 g₂.says.0 x)) ≡ length w + length y = ap length q ∙ length-append w y in
          omega (arith, length-append (spell_filler g₂.says.0) (code "<" ∷ root_lead x))

      pub declared-read : {old new : List ℕ} {r : Result Child Stop} → GotInner inner_of root_lead s b old new r (root_p (drop b s)) → GotInner child_of declared_lead s at old new r (declared_p (drop at s))
      unfolding declared_p
      declared-read {old} {new} {r} g = record { says = go r g.says }
        where
          so : declared_p (drop at s) ≡ chained (root_p (drop b s)) (λ x w. done (declared g₁.says.0 g₂.says.0 x) w)
          so = then_done _ g₁.says.3 ∙ then_done _ g₂.says.3

          further : at ≤ b
          further = let l = g₁.says.1 in let m = g₂.says.1 in omega arith

          go : (r : Result Child Stop) → InnerCase inner_of root_lead s b old new r (root_p (drop b s)) → InnerCase child_of declared_lead s at old new r (declared_p (drop at s))
          go (Err x) q = stops s b (root_p (drop b s)) x q at further (λ x w. done (declared g₁.says.0 g₂.says.0 x) w) so
          go (Ok c) q = let l = further in let m = q.far in record {
            value = declared g₁.says.0 g₂.says.0 q.value;
            far = omega arith;
            upto = q.upto;
            reads = so ∙ then_done _ q.reads;
            drawn = subst (λ (m : ℕ). Drawn s m q.value.inner c.outline.from c.outline.to c.outline.count c.outline.inside old new) (declared-place q.value) q.drawn;
          }

-- the message
lead_two : (l : Layout) → 2 + length (declared_lead l) ≡ length (lead l)
lead_two (plain r) = omega arith
lead_two (declared d f r) = omega arith

module _ (s : Bytes) (at : ℕ) where
  pub message_fails : {x : Stop} → Got 1 s at (Err x) (byte_p 60 (drop at s)) → Got 1 s at (Err x) (layout_p (drop at s))
  message_fails g = pass g 1 at (omega arith) _ (layout_bind (drop at s))

  module _ (a : ℕ) (g₁ : Got 1 s at (Ok a) (byte_p 60 (drop at s))) where
    after : layout_p (drop at s) ≡ after_p (drop a s)
    after = layout_bind (drop at s) ∙ then_done _ g₁.says.3

    pub message_open : length s ≤ a → Got 1 s at (Err Open) (layout_p (drop at s))
    message_open h = record { says = after ∙ ap after_p (drop_of_length-le s h) ∙ after_open }

    module _ (h : a < length s) where
      message_further : at ≤ a
      message_further = let l = g₁.says.1 in omega arith

      pub message-declared : {old new : List ℕ} {r : Result Child Stop} → get_or s a 0 ≡ 63 → GotInner child_of declared_lead s (a + 1) old new r (declared_p (drop (a + 1) s)) → GotInner child_of lead s at old new r (layout_p (drop at s))
      message-declared {old} {new} {r} e g = record { says = go r g.says }
        where
          so : layout_p (drop at s) ≡ declared_p (drop (a + 1) s)
          so = after ∙ rw (add-one, drop-cons s a 0 h) (after_declared (get_or s a 0) (drop (suc a) s) (eq-eqb 63 (get_or s a 0) (sym e)))

          place : (v : Layout) → a + 1 + length (declared_lead v) ≡ at + length (lead v)
          place v = let i = byte_there 60 s at a g₁ in let j = lead_two v in omega arith

          go : (r : Result Child Stop) → InnerCase child_of declared_lead s (a + 1) old new r (declared_p (drop (a + 1) s)) → InnerCase child_of lead s at old new r (layout_p (drop at s))
          go (Err x) q = stops s (a + 1) (declared_p (drop (a + 1) s)) x q at (let l = message_further in omega arith) (λ v u. done v u) (so ∙ itself_chained (declared_p (drop (a + 1) s)))
          go (Ok c) q = let l = message_further in let m = q.far in record {
            value = q.value;
            far = omega arith;
            upto = q.upto;
            reads = so ∙ q.reads;
            drawn = subst (λ (m : ℕ). Drawn s m (child_of q.value) c.outline.from c.outline.to c.outline.count c.outline.inside old new) (place q.value) q.drawn;
          }

      pub message-plain : {old new : List ℕ} {r : Result Child Stop} → (get_or s a 0 ≡ 63 → ⊥) → GotInner inner_of root_lead s a old new r (root_p (drop a s)) → GotInner child_of lead s at old new r (layout_p (drop at s))
      message-plain {old} {new} {r} ne g = record { says = go r g.says }
        where
          so : layout_p (drop at s) ≡ chained (root_p (drop a s)) (λ x w. done (plain x) w)
          so =
              let q : after_p (drop a s) ≡ chained (root_p (drop a s)) (λ x w. done (plain x) w) = rw (drop-cons s a 0 h) (after_plain (get_or s a 0) (drop (suc a) s) (ne_eqb 63 (get_or s a 0) (λ q. ne (sym q)))) in
              after ∙ q

          place : (x : Root) → a + length (root_lead x) ≡ at + length (lead (plain x))
          place x = let i = byte_there 60 s at a g₁ in omega arith

          go : (r : Result Child Stop) → InnerCase inner_of root_lead s a old new r (root_p (drop a s)) → InnerCase child_of lead s at old new r (layout_p (drop at s))
          go (Err x) q = stops s a (root_p (drop a s)) x q at message_further (λ x w. done (plain x) w) so
          go (Ok c) q = let l = message_further in let m = q.far in record {
            value = plain q.value;
            far = omega arith;
            upto = q.upto;
            reads = so ∙ then_done _ q.reads;
            drawn = subst (λ (m : ℕ). Drawn s m q.value.inner c.outline.from c.outline.to c.outline.count c.outline.inside old new) (place q.value) q.drawn;
          }
