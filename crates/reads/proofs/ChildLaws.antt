-- The search for a child of a name: what is left of the content, turn by turn; and what is noted from searches.
use mathlib.Core.Path.{◌≡◌, refl, sym, ap, subst, ◌∙◌}
use mathlib.Core.List.{[], ◌∷◌, ◌++◌, append_assoc}
use mathlib.Core.Bool.{Bool, true, false, ◌||◌, cond}
use Prim.Native.Nat.{ℕ, ◌+◌, ◌-◌, ◌*◌, ◌≤◌, ◌<◌}
use native.Mathlib.Omega.{arith}
use lib.ListN.{length, length-append, length-drop, take, drop}
use lib.Seq.{length-take-le}
use borrow.Author.Tests.{leb-true}
use Rattle.std.specs.Prelude.{Option, None, Some, is_some}
use mir.Val.{bool_byte}
use Rattle.grammar.specs.Bytes.{Bytes, text, same}
use Rattle.grammar.specs.Limits.{DEPTH}
use Rattle.grammar.specs.Tree.{Forest}
use Rattle.grammar.specs.Attribute.{spell_attributes}
use Rattle.grammar.specs.Filler.{Filler, spell_filler}
use Rattle.grammar.specs.Element.{Element, empty, full, Content, bare, child, spell_end, spell_element, spell_content, GoodElement, good_full, GoodContent, good_child, read_element, read_content}
use Rattle.grammar.specs.Places.{tag_in, inside_from}
use Rattle.reader.specs.Child.{Next, Stands, NextChild}
use Rattle.model.specs.Standing.{Parts}
use Rattle.reader.specs.Parts.{InContent}
use Rattle.reader.proofs.Parts.{child_parts, next_one, in_content, content_deeper}
use Rattle.reader.specs.declared.answer.Child.{Child}
use Rattle.table.specs.Says.{present, noted, without, name_of, children_of, has_child, notes, featured}
use Rattle.lane.specs.Names.{ServiceDescription}
use Rattle.table.specs.Table.{table, kind_of}
use Rattle.reads.specs.Children.{Holds, holds_none, holds, First, no_child_case, first_child, FirstIn}
use Rattle.reads.specs.Kept.{as_cell, lacking, features_of, NotesIn, SUPPORTED, Carried, Supports, Sorts}

-- a found child stands inside the bytes, and the search goes on behind it
pub record Ahead (s : Bytes) (at : ℕ) (r : Child) : Type 0 where
  pub ordered : r.outline.from ≤ r.outline.to
  pub within : r.outline.to ≤ length s
  pub on : at < r.next
  pub upto : r.next ≤ length s

named_shorter : (x : Element) → length (tag_in x).name + 1 ≤ length (spell_element x)
named_shorter (empty t) = let a = length-append t.name (spell_attributes t.attributes ++ (t.trail ++ text "/>")) in omega arith
named_shorter (full t c g) =
    let a = length-append t.name (spell_attributes t.attributes ++ (t.trail ++ text ">")) in
    let b = length-append (t.name ++ (spell_attributes t.attributes ++ (t.trail ++ text ">"))) (spell_content c ++ spell_end t.name g) in
    omega arith

-- a child that is known
pub known_child : {s : Bytes} {at : ℕ} {r : Option Child} {c : Child} → r ≡ Some c → NextChild s at r → NextChild s at (Some c)
known_child {s} {at} q p = subst (λ (r : Option Child). NextChild s at r) q p

pub found_ahead : {s : Bytes} {at : ℕ} {r : Child} → NextChild s at (Some r) → Ahead s at r
found_ahead {s} {at} {r} p = go p.says
  where
    go : Stands s at r → Ahead s at r
    go t =
        let n = named_shorter t.x in
        let a = length-append (spell_filler t.f) (spell_element t.x ++ t.next.rest) in
        let b = length-append (spell_element t.x) t.next.rest in
        let z : length s - at ≡ length (spell_filler t.f ++ (spell_element t.x ++ t.next.rest)) = sym (length-drop at s) ∙ ap length t.next.whole in
        let from = t.lines.starts in
        let to = t.lines.ends in
        let next = t.ends in
        record { ordered = omega arith; within = omega arith; on = omega arith; upto = omega arith }

-- what is left of the content from `at` on says of the name what all of it says
pub record LeftOver (s name : Bytes) (f : Forest) (at : ℕ) : Type 0 where
  pub content : Content
  pub end : Bytes
  pub glue : Bytes
  pub rest : Bytes
  pub good : GoodContent (DEPTH - 2) content
  pub stands : drop at s ≡ spell_content content ++ (spell_end end glue ++ rest)
  pub has : has_child name f ≡ has_child name (read_content content)
  pub features : (o : Bool) → featured name o f ≡ featured name o (read_content content)

pub record Searched (s : Bytes) (inside : ℕ) (name : Bytes) (at : ℕ) : Type 0 where
  pub left : (f : Forest) → Holds s inside f → LeftOver s name f at

-- an empty tag has no children
pub none_inside : (s : Bytes) (inside : ℕ) (name : Bytes) {r : Option ℕ} → inside ≡ 0 → r ≡ None → FirstIn s inside name r
none_inside s inside name {r} z e = record { says = go }
  where
    go : (f : Forest) → Holds s inside f → First s name f r
    go f (holds_none a b) = no_child_case e (ap (has_child name) b) (λ o. ap (featured name o) b)
    go f (holds h c n g rest a b d) = absurd (let y : 1 ≤ 0 = subst (λ (m : ℕ). 1 ≤ m) z h in omega arith)

pub search_starts : (s : Bytes) (inside : ℕ) (name : Bytes) → (inside ≡ 0 → ⊥) → Searched s inside name inside
search_starts s inside name z = record { left = go }
  where
    go : (f : Forest) → Holds s inside f → LeftOver s name f inside
    go f (holds_none a b) = absurd (z a)
    go f (holds h c n g rest a b d) = record { content = c; end = n; glue = g; rest = rest; good = a; stands = b; has = ap (has_child name) d; features = λ o. ap (featured name o) d }

named_so : (x : Element) → name_of (read_element x) ≡ (tag_in x).name
named_so (empty t) = refl
named_so (full t c g) = refl

-- where the children of a found child stand
children_stand : (s : Bytes) (x : Element) {from to inside : ℕ} (rest : Bytes) → GoodElement (DEPTH - 3) x → inside ≡ inside_from to x → Parts s x from to inside rest → Holds s inside (children_of (read_element x))
children_stand s (empty t) rest k e p = holds_none e refl
children_stand s (full t c g) {from} {to} {inside} rest (good_full a b h) e p = holds some c t.name g rest (content_deeper b) p.content refl
  where
    some : 1 ≤ inside
    some =
        let u = length-append (spell_attributes t.attributes) (t.trail ++ text ">") in
        let v = length-append t.trail (text ">") in
        omega arith

module _ {s : Bytes} {inside : ℕ} {name : Bytes} {at : ℕ} (so_far : Searched s inside name at) where
  -- the content has ended
  pub search_ends : NextChild s at None → FirstIn s inside name None
  search_ends p = record { says = λ f h. go f (so_far.left f h) }
    where
      at_end : (f : Forest) (c : Content) (end : Bytes) → has_child name f ≡ has_child name (read_content c) → ((o : Bool) → featured name o f ≡ featured name o (read_content c)) → InContent s at c end None → First s name f None
      at_end f (bare y) end a b i = no_child_case refl a b
      at_end f (child y x c) end a b i = absurd i

      go : (f : Forest) → LeftOver s name f at → First s name f None
      go f l = at_end f l.content (spell_end l.end l.glue ++ l.rest) l.has l.features (in_content l.end l.glue l.rest l.content l.good l.stands p)

  module _ {r : Child} (p : NextChild s at (Some r)) where
    not_bare : Some r ≡ None → ⊥
    not_bare e = cc

    -- the child that stands next
    here : (f : Filler) (x : Element) (c : Content) (end : Bytes) → GoodContent (DEPTH - 2) (child f x c) → drop at s ≡ spell_content (child f x c) ++ end → Next (drop at s) f x
    here f x c end (good_child h k m) e =
        record {
          rest = spell_content c ++ end;
          filler = h;
          element = k;
          whole = e ∙ append_assoc (spell_filler f) (spell_element x ++ spell_content c) end ∙ ap (λ (y : Bytes). spell_filler f ++ y) (append_assoc (spell_element x) (spell_content c) end);
        }

    parts : (f : Filler) (x : Element) (n : Next (drop at s) f x) → Parts s x r.outline.from r.outline.to r.outline.inside n.rest
    parts f x n =
        let t = p.says in
        let (a, b, d) = next_one t.next n in
        subst (λ (y : Element). Parts s y r.outline.from r.outline.to r.outline.inside n.rest) b (subst (λ (y : Bytes). Parts s t.x r.outline.from r.outline.to r.outline.inside y) d (child_parts t))

    same_as : (x : Element) {rest : Bytes} {z : Bool} → Parts s x r.outline.from r.outline.to r.outline.inside rest → z ≡ same name (take (r.outline.to - r.outline.from) (drop r.outline.from s)) → same name (name_of (read_element x)) ≡ z
    same_as x a m = ap (same name) (named_so x ∙ sym a.name) ∙ sym m

    -- it has the name
    pub search_finds : true ≡ same name (take (r.outline.to - r.outline.from) (drop r.outline.from s)) → FirstIn s inside name (Some r.outline.inside)
    search_finds m = record { says = λ f h. go f (so_far.left f h) }
      where
        at-child : (f : Forest) (c : Content) (end : Bytes) → GoodContent (DEPTH - 2) c → drop at s ≡ spell_content c ++ end → has_child name f ≡ has_child name (read_content c) → ((o : Bool) → featured name o f ≡ featured name o (read_content c)) → InContent s at c end (Some r) → First s name f (Some r.outline.inside)
        at-child f (bare y) end k e a b i = absurd (not_bare i)
        at-child f (child y x c) end k e a b i =
            let n = here y x c end k e in
            let w = parts y x n in
            let j = same_as x w m in
            first_child
            r.outline.inside
            refl
            (a ∙ ap (λ (z : Bool). z || has_child name (read_content c)) j)
            (read_element x)
            (λ o. b o ∙ ap (λ (z : Bool). cond z (present (notes (children_of (read_element x)))) (featured name o (read_content c))) j)
            (children_stand s x n.rest n.element i.lines.behind w)

        go : (f : Forest) → LeftOver s name f at → First s name f (Some r.outline.inside)
        go f l = at-child f l.content (spell_end l.end l.glue ++ l.rest) l.good l.stands l.has l.features (in_content l.end l.glue l.rest l.content l.good l.stands p)

    -- it has another name
    pub search_goes_on : false ≡ same name (take (r.outline.to - r.outline.from) (drop r.outline.from s)) → Searched s inside name r.next
    search_goes_on m = record { left = λ f h. go f (so_far.left f h) }
      where
        deeper : {f : Filler} {x : Element} {c : Content} → GoodContent (DEPTH - 2) (child f x c) → GoodContent (DEPTH - 2) c
        deeper (good_child h k m) = m

        behind-child : (f : Forest) (c : Content) (n g rest : Bytes) → GoodContent (DEPTH - 2) c → drop at s ≡ spell_content c ++ (spell_end n g ++ rest) → has_child name f ≡ has_child name (read_content c) → ((o : Bool) → featured name o f ≡ featured name o (read_content c)) → InContent s at c (spell_end n g ++ rest) (Some r) → LeftOver s name f r.next
        behind-child f (bare y) n g rest k e a b i = absurd (not_bare i)
        behind-child f (child y x c) n g rest k e a b i =
            let j = same_as x (parts y x (here y x c (spell_end n g ++ rest) k e)) m in
            record {
              content = c;
              end = n;
              glue = g;
              rest = rest;
              good = deeper k;
              stands = i.left_over;
              has = a ∙ ap (λ (z : Bool). z || has_child name (read_content c)) j;
              features = λ o. b o ∙ ap (λ (z : Bool). cond z (present (notes (children_of (read_element x)))) (featured name o (read_content c))) j;
            }

        go : (f : Forest) → LeftOver s name f at → LeftOver s name f r.next
        go f l = behind-child f l.content l.end l.glue l.rest l.good l.stands l.has l.features (in_content l.end l.glue l.rest l.content l.good l.stands p)

-- a search finds what is there
found_is : {s name : Bytes} {f : Forest} {r : Option ℕ} → First s name f r → is_some r ≡ has_child name f
found_is (no_child_case e a b) = ap is_some e ∙ sym a
found_is (first_child n e a t b h) = ap is_some e ∙ sym a

-- three searches note the features
bits : (x y z : Bool) → as_cell 0 (1 ∷ (bool_byte x + 2 * bool_byte y + 4 * bool_byte z) ∷ 0 ∷ []) ≡ features_of (present (noted x y z))
bits true true true = refl
bits true true false = refl
bits true false true = refl
bits true false false = refl
bits false true true = refl
bits false true false = refl
bits false false true = refl
bits false false false = refl

finds : {s : Bytes} {inside : ℕ} {n : Bytes} {r : Option ℕ} {f : Forest} → FirstIn s inside n r → Holds s inside f → is_some r ≡ has_child n f
finds {f = f} p h = found_is (p.says f h)

pub all_noted : {s : Bytes} {inside : ℕ} {x y z : Option ℕ} {a b d : Bool} → FirstIn s inside (text "FeatureBoardForecast") x → FirstIn s inside (text "FeatureQueryBoardInfo") y → FirstIn s inside (text "FeatureSendBoardInfo") z
    → a ≡ is_some x → b ≡ is_some y → d ≡ is_some z → NotesIn s inside (bool_byte a + 2 * bool_byte b + 4 * bool_byte d)
all_noted {s} {inside} {x} {y} {z} {a = a} {b = b} {d = d} p q t e f g = record { says = go }
  where
    go : (o : Forest) → Holds s inside o → as_cell 0 (1 ∷ (bool_byte a + 2 * bool_byte b + 4 * bool_byte d) ∷ 0 ∷ []) ≡ features_of (present (notes o))
    go o h =
        let m = has_child (text "FeatureBoardForecast") o in
        let n = has_child (text "FeatureQueryBoardInfo") o in
        bits a b d
        ∙ ap (λ (c : Bool). features_of (present (noted c b d))) (e ∙ finds p h)
        ∙ ap (λ (c : Bool). features_of (present (noted m c d))) (f ∙ finds q h)
        ∙ ap (λ (c : Bool). features_of (present (noted m n c))) (g ∙ finds t h)

lacks : (o : Bool) → lacking o ≡ features_of (without o)
lacks true = refl
lacks false = refl

-- the first child SupportedFeatures
module _ {s : Bytes} {inside : ℕ} {c : Option ℕ} (first : FirstIn s inside SUPPORTED c) where
  search_says : (f : Forest) → Holds s inside f → First s SUPPORTED f c
  search_says f h = first.says f h

  pub supports_some : {at n : ℕ} → c ≡ Some at → NotesIn s at n → Supports s inside (Some n)
  supports_some {at} {n} q m = record { says = λ f h. go f (search_says f h) }
    where
      go : (f : Forest) → First s SUPPORTED f c → Carried SUPPORTED (Some n) f
      go f (no_child_case d a b) = absurd (let z : Some at ≡ None = sym q ∙ d in cc)
      go f (first_child i d a t b h) = λ o. (subst (λ (i : ℕ). NotesIn s i n) (let z : Some at ≡ Some i = sym q ∙ d in cc) m).says (children_of t) h ∙ ap features_of (sym (b o))

  pub supports_none : c ≡ None → Supports s inside None
  supports_none q = record { says = λ f h. go f (search_says f h) }
    where
      go : (f : Forest) → First s SUPPORTED f c → Carried SUPPORTED None f
      go f (no_child_case d a b) = λ o. lacks o ∙ ap features_of (sym (b o))
      go f (first_child i d a t b h) = absurd (let z : Some i ≡ None = sym d ∙ q in cc)

-- the kind of an element, and its features
module _ {s : Bytes} {from to inside k : ℕ} {t : Option ℕ} (e : k ≡ kind_of (take (to - from) (drop from s))) where
  pub sorts_some : Supports s inside t → Sorts s from to inside (record { kind = k; features = t })
  sorts_some h = record { kind = e; features = λ f z _. h.says f z }

  pub sorts_none : (k ≡ ServiceDescription → ⊥) → Sorts s from to inside (record { kind = k; features = t })
  sorts_none n = record { kind = e; features = λ f z q. absurd (n q) }
