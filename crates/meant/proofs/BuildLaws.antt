-- The attributes and the content that stand for rows and their fields, row by row.
use mathlib.Core.Path.{◌≡◌, refl, sym, ap, ap₂, ◌∙◌}
use mathlib.Core.List.{List, [], ◌∷◌, ◌++◌}
use mathlib.Core.Bool.{Bool, true, false, ◌&&◌, ◌||◌, not, cond}
use Prim.Native.Nat.{ℕ, zero, suc, ◌≤◌}
use Prim.Native.Char.{code}
use native.Mathlib.Omega.{arith}
use lib.ListN.{length}
use lib.Dec.{leb}
use borrow.Author.Tests.{leb-true, not-true}
use Rattle.grammar.specs.Bytes.{Bytes, text, same}
use Rattle.grammar.specs.Limits.{ATTRIBUTES}
use Rattle.grammar.specs.Glue.{is_glue}
use Rattle.grammar.specs.Name.{Name}
use Rattle.grammar.specs.Value.{is_quote, read_value}
use Rattle.grammar.specs.Attribute.{Attribute, spell_attribute, spell_attributes, GoodAttribute, GoodEach, good_none, good_each, fresh}
use Rattle.grammar.specs.Tree.{Pair, Tree, tree, Forest, tree_then}
use Rattle.grammar.specs.Filler.{bits_end}
use Rattle.grammar.specs.Element.{Element, Content, bare, child, spell_element, spell_content, GoodElement, GoodContent, good_bare, good_child, read_attributes, read_element, read_content}
use Rattle.model.specs.Tests.{and_left, and_right, and_both}
use Rattle.spelling.specs.Written.{escape}
use Rattle.spelling.specs.Quoted.{InQuotes}
use Rattle.spelling.proofs.Theorems.{escape_inverse}
use Rattle.table.specs.Table.{Row, Form}
use Rattle.table.specs.Says.{Result, present, given, featured, without, by_need, judged, name_of, notes, refusal_in, first, tried, values_of, has_named, has_attribute}
use Rattle.table.specs.Theorems.{by_same}
use Rattle.message.specs.Fields.{Field}
use Rattle.meant.specs.Meant.{meant_as, meant_by, meant_of, first_in, is_given, given_in}
use Rattle.meant.specs.Written.{attribute, attribute_of, attributes_of, closed, child_of, children_of as inside_of, written_need, written, element_by}
use Rattle.meant.proofs.ValueLaws.{is_child, Worth, Puts, puts_none, puts_value, puts_child, puts, Looks, looks, skips, look}
use Rattle.meant.proofs.RowLaws.{strange, distinct, good_rows, Distinct, distinct_first, clear, clear_first, same_itself, sought_in, tried_is, skip_attribute, skip_child}
use Rattle.meant.proofs.ElementLaws.{no_filler, Enclosed, enclosed, Holds, holds}

-- the attributes and the content, what they are spelt as, and what the rows say of them
pub record Built (d : ℕ) (rows : List Row) (fields : List Field) (texts : Bytes) : Type 0 where
  pub attributes : List Attribute
  pub content : Content
  pub each : GoodEach attributes
  pub few : length attributes ≤ length rows
  pub fresh_names : (earlier : List Bytes) → clear earlier rows ≡ true → fresh earlier attributes ≡ true
  pub inner : GoodContent (suc (suc d)) content
  pub spelt : attributes_of rows (written rows fields) texts ≡ spell_attributes attributes
  pub inside : inside_of rows (written rows fields) ≡ spell_content content
  pub has : (n : Bytes) → has_named (read_attributes attributes) n ≡ given_in rows (written rows fields) n
  pub no_attribute : (n : Bytes) → strange rows n ≡ true → (t : Form) (o : Bool) → given t o n (read_attributes attributes) ≡ without o
  pub no_child_case : (n : Bytes) → strange rows n ≡ true → (o : Bool) → featured n o (read_content content) ≡ without o
  pub values : (n : Bytes) → values_of rows (tree n (read_attributes attributes) (read_content content)) ≡ meant_of rows fields texts

built_none : {d : ℕ} (fields : List Field) (texts : Bytes) → Built d [] fields texts
unfolding attributes_of inside_of values_of meant_of
built_none fields texts = record {
  attributes = [];
  content = bare no_filler;
  each = good_none;
  few = omega arith;
  fresh_names = λ earlier h. refl;
  inner = good_bare bits_end;
  spelt = refl;
  inside = refl;
  has = λ n. refl;
  no_attribute = λ n h t o. refl;
  no_child_case = λ n h o. refl;
  values = λ n. refl;
}

either_way : (b : Bool) (r : Result) → cond b r r ≡ r
either_way true r = refl
either_way false r = refl

and_false : (b : Bool) → b && false ≡ false
and_false true = refl
and_false false = refl

and_true : (b : Bool) → b && true ≡ b
and_true true = refl
and_true false = refl

-- an attribute as it is written
abbrev attribute_as : (n : Bytes) {v : Bytes} → InQuotes (escape v) v → Attribute
attribute_as n q = record { before = text " "; name = n; mid = []; after = []; quote = code "\""; value = q.items }

good_as : (n : Bytes) {v : Bytes} (q : InQuotes (escape v) v) → Name n → GoodAttribute (attribute_as n q)
unfolding is_glue is_quote
good_as n q h = record { before = refl; apart = refl; name = h; mid = refl; after = refl; quote = refl; value = q.good }

spelt_as : (n : Bytes) {v : Bytes} (q : InQuotes (escape v) v) → attribute n v ≡ spell_attribute (attribute_as n q)
spelt_as n q = ap (λ (y : Bytes). text " " ++ (n ++ (text "=\"" ++ (y ++ text "\"")))) q.spelt

module _ {d : ℕ} (r : Row) (rows : List Row) (x : Field) (fields : List Field) (texts : Bytes) (u : Distinct r rows) (b : Built d rows fields texts) where
  -- n is not this row's name, and none of the others'
  other : (n : Bytes) → strange (r ∷ rows) n ≡ true → same n r.name ≡ false
  other n h = not-true (same n r.name) (and_left (not (same n r.name)) (strange rows n) h)

  others : (n : Bytes) → strange (r ∷ rows) n ≡ true → strange rows n ≡ true
  others n h = and_right (not (same n r.name)) (strange rows n) h

  -- what is written of the field
  abbrev y : Field
  y = written_need r.need x

  -- a row that puts nothing down
  built_nothing : attribute_of r.name y texts ≡ [] → child_of r.name y ≡ [] → is_given y ≡ false → meant_by r x texts ≡ by_need r.need without → Built d (r ∷ rows) (x ∷ fields) texts
  unfolding attributes_of inside_of values_of meant_of
  built_nothing a c g m = record {
    attributes = b.attributes;
    content = b.content;
    each = b.each;
    few = let f = b.few in omega arith;
    fresh_names = λ earlier h. b.fresh_names earlier (clear_first earlier r rows h).1;
    inner = b.inner;
    spelt = rw a b.spelt;
    inside = rw c b.inside;
    has = λ n. b.has n ∙ sym (ap (λ (z : Bool). z || given_in rows (written rows fields) n) (ap (λ (z : Bool). same n r.name && z) g ∙ and_false (same n r.name)));
    no_attribute = λ n h t o. b.no_attribute n (others n h) t o;
    no_child_case = λ n h o. b.no_child_case n (others n h) o;
    values = λ n. ap₂ (λ (v : Result) (z : List Result). v ∷ z) (own n ∙ sym m) (b.values n);
  }
    where
      own : (n : Bytes) → tried r (tree n (read_attributes b.attributes) (read_content b.content)) ≡ by_need r.need without
      own n =
          tried_is r n (read_attributes b.attributes) (read_content b.content)
          ∙ by_same r.need (sought_in r (read_attributes b.attributes) (read_content b.content)) without
          (λ o. rw (b.no_attribute r.name u.alone r.form o, b.no_child_case r.name u.alone o) (either_way (is_child r.form) (without o)))

  -- a row that is looked at, where it may be missing or not
  module _ (opt : Bool) (by : (f : Bool → Result) → by_need r.need f ≡ f opt) where
    -- a row with an attribute
    built_value : (v : Bytes) → attribute_of r.name y texts ≡ attribute r.name v → child_of r.name y ≡ [] → is_given y ≡ true → Worth r.form v (meant_by r x texts) → Built d (r ∷ rows) (x ∷ fields) texts
    unfolding attributes_of inside_of values_of meant_of
    built_value v a c g w = record {
      attributes = attribute_as r.name q ∷ b.attributes;
      content = b.content;
      each = good_each (good_as r.name q u.name) b.each;
      few = let f = b.few in omega arith;
      fresh_names = λ earlier h. let (e, k) = clear_first earlier r rows h in rw e (b.fresh_names (r.name ∷ earlier) (and_both (strange rows r.name) (clear earlier rows) u.alone k));
      inner = b.inner;
      spelt = rw a (ap₂ (λ (y z : Bytes). y ++ z) (spelt_as r.name q) b.spelt);
      inside = rw c b.inside;
      has = λ n. ap₂ (λ (y z : Bool). y || z) (sym (ap (λ (z : Bool). same n r.name && z) g ∙ and_true (same n r.name))) (b.has n);
      no_attribute = λ n h t o. rw (other n h) (b.no_attribute n (others n h) t o);
      no_child_case = λ n h o. b.no_child_case n (others n h) o;
      values = λ n. ap₂ (λ (y : Result) (z : List Result). y ∷ z) (own n) (skip_attribute rows n (record { name = r.name; value = read_value q.items }) (read_attributes b.attributes) (read_content b.content) u.alone ∙ b.values n);
    }
      where
        q : InQuotes (escape v) v
        q = escape_inverse w.is_text_holds

        own : (n : Bytes) → tried r (tree n (record { name = r.name; value = read_value q.items } ∷ read_attributes b.attributes) (read_content b.content)) ≡ meant_by r x texts
        own n =
            let a : List Pair = record { name = r.name; value = read_value q.items } ∷ read_attributes b.attributes in
            tried_is r n a (read_content b.content)
            ∙ by (sought_in r a (read_content b.content))
            ∙ rw (w.plain, same_itself r.name r.name refl) (ap (judged r.form) (sym q.reads) ∙ w.worth)

    -- a row with a child
    built_child : (e : Element) (c : Content) → attribute_of r.name y texts ≡ [] → child_of r.name y ≡ spell_element e → is_given y ≡ false → GoodElement (suc d) e → read_element e ≡ tree r.name [] (read_content c)
        → is_child r.form ≡ true → meant_by r x texts ≡ present (notes (read_content c)) → Built d (r ∷ rows) (x ∷ fields) texts
    unfolding attributes_of inside_of values_of meant_of
    built_child e c a i l g t k m = record {
      attributes = b.attributes;
      content = child no_filler e b.content;
      each = b.each;
      few = let f = b.few in omega arith;
      fresh_names = λ earlier h. b.fresh_names earlier (clear_first earlier r rows h).1;
      inner = good_child bits_end g b.inner;
      spelt = rw a b.spelt;
      inside = ap₂ (λ (y z : Bytes). y ++ z) i b.inside;
      has = λ n. b.has n ∙ sym (ap (λ (z : Bool). z || given_in rows (written rows fields) n) (ap (λ (z : Bool). same n r.name && z) l ∙ and_false (same n r.name)));
      no_attribute = λ n h s o. b.no_attribute n (others n h) s o;
      no_child_case = λ n h o. rw (t, other n h) (b.no_child_case n (others n h) o);
      values = λ n. rw t (ap₂ (λ (y : Result) (z : List Result). y ∷ z) (own n ∙ sym m)
          (skip_child rows n (read_attributes b.attributes) (tree r.name [] (read_content c)) (read_content b.content) u.alone ∙ b.values n));
    }
      where
        own : (n : Bytes) → tried r (tree n (read_attributes b.attributes) (tree_then (tree r.name [] (read_content c)) (read_content b.content))) ≡ present (notes (read_content c))
        own n =
            let f : Forest = tree_then (tree r.name [] (read_content c)) (read_content b.content) in
            tried_is r n (read_attributes b.attributes) f ∙ by (sought_in r (read_attributes b.attributes) f) ∙ rw (k, same_itself r.name r.name refl)

    looked : written_need r.need x ≡ x → Puts r.form r.name x texts → Built d (r ∷ rows) (x ∷ fields) texts
    unfolding meant_by
    looked w (puts_none a c g m) = built_nothing (rw w a) (rw w c) (rw w g) (by (meant_as r.form x texts) ∙ m opt ∙ sym (by without))
    looked w (puts_value v s a c g m z) = built_value v (rw w a) (rw w c) (rw w g) (rw (by (meant_as r.form x texts), m opt) z)
    looked w (puts_child f a c g k m) =
        let h : Holds d r.name f = holds f u.name in
        built_child h.element h.content (rw w a) (rw w (c ∙ h.spelt)) (rw w g) h.good h.reads k (by (meant_as r.form x texts) ∙ m opt ∙ ap (λ z. present z) (sym h.told))

  pub built_row : refusal_in (meant_by r x texts) ≡ 0 → Built d (r ∷ rows) (x ∷ fields) texts
  unfolding meant_by attribute_of child_of
  built_row h = go (look r.need) h
    where
      go : Looks r.need → refusal_in (meant_by r x texts) ≡ 0 → Built d (r ∷ rows) (x ∷ fields) texts
      go (looks opt by w) h = looked opt by (w x) (puts r.form r.name x texts opt (sym (ap refusal_in (by (meant_as r.form x texts))) ∙ h))
      go (skips by w) h = built_nothing (rw (w x) refl) (rw (w x) refl) (rw (w x) refl) (by (meant_as r.form x texts) ∙ sym (by without))

-- none of several is refused
pub both_zero : (m n : ℕ) → first m n ≡ 0 → (m ≡ 0) × (n ≡ 0)
both_zero zero n h = (refl, h)
both_zero (suc m) n h = absurd (omega arith)

pub built : {d : ℕ} (rows : List Row) (fields : List Field) (texts : Bytes) → distinct rows ≡ true → first_in (meant_of rows fields texts) ≡ 0 → Built d rows fields texts
unfolding meant_of
built [] fields texts k h = built_none fields texts
built (r ∷ rows) [] texts k h = absurd (omega arith)
built (r ∷ rows) (x ∷ fields) texts k h =
    let u = distinct_first r rows k in
    let (a, z) = both_zero (refusal_in (meant_by r x texts)) (first_in (meant_of rows fields texts)) h in
    built_row r rows x fields texts u (built rows fields texts u.others z) a

-- an element as it is written is an element, and reads as what was meant
pub record ReadsBack (d : ℕ) (n : Bytes) (rows : List Row) (fields : List Field) (texts : Bytes) : Type 0 where
  pub element : Element
  pub good : GoodElement (suc (suc d)) element
  pub spelt : element_by n rows fields texts ≡ spell_element element
  pub name : name_of (read_element element) ≡ n
  pub values : values_of rows (read_element element) ≡ meant_of rows fields texts
  pub has : (m : Bytes) → has_attribute (read_element element) m ≡ given_in rows (written rows fields) m

pub element_back : {d : ℕ} (n : Bytes) (rows : List Row) (fields : List Field) (texts : Bytes) → Name n → good_rows rows ≡ true → first_in (meant_of rows fields texts) ≡ 0 → ReadsBack d n rows fields texts
element_back {d} n rows fields texts h k z =
    let b : Built d rows fields texts = built rows fields texts (and_right (leb (length rows) ATTRIBUTES) (distinct rows) k) z in
    let few = leb-true (length rows) ATTRIBUTES (and_left (leb (length rows) ATTRIBUTES) (distinct rows) k) in
    let f = b.few in
    let x : Enclosed (suc (suc d)) n b.attributes b.content = enclosed h (record { few = omega arith; fresh_names = b.fresh_names [] refl; each = b.each }) b.inner in
    record {
      element = x.element;
      good = x.good;
      spelt = ap₂ (λ (y w : Bytes). text "<" ++ (n ++ (y ++ closed n w))) b.spelt b.inside ∙ x.spelt;
      name = ap name_of x.reads;
      values = ap (values_of rows) x.reads ∙ b.values n;
      has = λ m. ap (λ (t : Tree). has_attribute t m) x.reads ∙ b.has m;
    }
