-- What stands at the places of a message: the name of the root's child, its attributes, its content.
use Rattle.std.specs.Prelude.{◌≡◌, refl, List, [], ◌∷◌, ◌++◌, ℕ, ◌+◌, ◌-◌, length, take, drop}
use Rattle.std.proofs.Common.{sym, ap, ◌∙◌, append_assoc, arith, take-append-drop, take_at, drop_at, drop-drop}
use Prim.Native.Char.{code}
use Rattle.grammar.specs.Bytes.{Bytes, text}
use Rattle.grammar.specs.Value.{spell_value}
use Rattle.grammar.specs.Attribute.{Attribute, spell_attributes}
use Rattle.grammar.specs.Filler.{spell_filler}
use Rattle.grammar.specs.Element.{Tag, Element, empty, full, spell_end, spell_element, spell_content}
use Rattle.grammar.specs.Declaration.{spell_declaration}
use Rattle.grammar.specs.Message.{Root, Layout, plain, declared, hermes, spell_root, spell_layout, Laid}
use Rattle.grammar.specs.Places.{child_of, tag_in, root_lead, lead, Outlines, name_at, name_end, value_at, value_end}

-- an element behind its `<`
abbrev pub behind_lt : Element → Bytes
behind_lt x = drop 1 (spell_element x)

-- the place behind the start tag is where the content stands
abbrev pub ContentAt : Bytes → ℕ → Element → Bytes → Type 0
ContentAt s inside (empty t) rest = Unit {0}
ContentAt s inside (full t c g) rest = drop inside s ≡ spell_content c ++ (spell_end t.name g ++ rest)

-- the parts of the element x, behind which `rest` stands
pub record Parts (s : Bytes) (x : Element) (from to inside : ℕ) (rest : Bytes) : Type 0 where
  pub name : take (to - from) (drop from s) ≡ (tag_in x).name
  pub after : Bytes
  pub attributes : drop to s ≡ spell_attributes (tag_in x).attributes ++ after
  pub content : ContentAt s inside x rest

-- what follows a part
pub behind : (s u v : Bytes) (at : ℕ) → drop at s ≡ u ++ v → drop (at + length u) s ≡ v
behind s u v at e = sym (drop-drop (length u) at s) ∙ ap (λ (y : Bytes). drop (length u) y) e ∙ drop_at u v (length u) refl

module _ (s : Bytes) (at : ℕ) (t : Tag) (tail : Bytes) (e : drop at s ≡ t.name ++ (spell_attributes t.attributes ++ tail)) (from to : ℕ) (a : from ≡ at) (b : to ≡ at + length t.name) where
  name_stands : take (to - from) (drop from s) ≡ t.name
  name_stands =
      let n : length t.name ≡ to - from = omega arith in
      ap (λ (m : ℕ). take (to - from) (drop m s)) a ∙ ap (λ (y : Bytes). take (to - from) y) e ∙ take_at t.name (spell_attributes t.attributes ++ tail) (to - from) n

  attributes_stand : drop to s ≡ spell_attributes t.attributes ++ tail
  attributes_stand = ap (λ (m : ℕ). drop m s) b ∙ behind s t.name (spell_attributes t.attributes ++ tail) at e

pub parts_stand : (s : Bytes) (at : ℕ) (x : Element) {from to count inside : ℕ} (rest : Bytes) → drop at s ≡ behind_lt x ++ rest → Outlines at x from to count inside → Parts s x from to inside rest
parts_stand s at (empty t) {from} {to} rest e o =
    let z : (t.name ++ (spell_attributes t.attributes ++ (t.trail ++ text "/>"))) ++ rest ≡ t.name ++ (spell_attributes t.attributes ++ ((t.trail ++ text "/>") ++ rest)) = simp append_assoc in
    record {
      name = name_stands s at t ((t.trail ++ text "/>") ++ rest) (e ∙ z) from to o.starts o.ends;
      after = (t.trail ++ text "/>") ++ rest;
      attributes = attributes_stand s at t ((t.trail ++ text "/>") ++ rest) (e ∙ z) from to o.starts o.ends;
      content = tt;
    }
parts_stand s at (full t c g) {from} {to} {count} {inside} rest e o =
    let tail = t.trail ++ (text ">" ++ (spell_content c ++ (spell_end t.name g ++ rest))) in
    let y : Bytes = spell_content c ++ spell_end t.name g in
    let z : ((t.name ++ (spell_attributes t.attributes ++ (t.trail ++ text ">"))) ++ y) ++ rest ≡ t.name ++ (spell_attributes t.attributes ++ tail) = simp append_assoc in
    let d = attributes_stand s at t tail (e ∙ z) from to o.starts o.ends in
    let w : spell_attributes t.attributes ++ tail ≡ (spell_attributes t.attributes ++ (t.trail ++ text ">")) ++ (spell_content c ++ (spell_end t.name g ++ rest)) = simp append_assoc in
    record {
      name = name_stands s at t tail (e ∙ z) from to o.starts o.ends;
      after = tail;
      attributes = d;
      content = ap (λ (m : ℕ). drop m s) o.behind ∙ behind s (spell_attributes t.attributes ++ (t.trail ++ text ">")) (spell_content c ++ (spell_end t.name g ++ rest)) to (d ∙ w);
    }

pub element_is : (x : Element) → spell_element x ≡ code "<" ∷ behind_lt x
element_is (empty t) = refl
element_is (full t c g) = refl

regroup : (h a t f y : Bytes) → h ++ (a ++ (t ++ 62 ∷ (f ++ 60 ∷ y))) ≡ (h ++ (a ++ (t ++ 62 ∷ (f ++ 60 ∷ [])))) ++ y
regroup h a t f y = simp append_assoc

-- what stands before the child's name is the message's beginning
root_lead_is : (r : Root) → spell_root r ≡ (code "<" ∷ root_lead r) ++ (behind_lt r.inner ++ (spell_filler r.after ++ spell_end hermes r.shut))
root_lead_is r =
    let z = spell_filler r.after ++ spell_end hermes r.shut in
    ap (λ (y : Bytes). code "<" ∷ (hermes ++ (spell_attributes r.attributes ++ (r.trail ++ code ">" ∷ (spell_filler r.before ++ (y ++ z)))))) (element_is r.inner)
    ∙ ap (λ (y : Bytes). code "<" ∷ y) (regroup hermes (spell_attributes r.attributes) r.trail (spell_filler r.before) (behind_lt r.inner ++ z))

pub lead_is : (l : Layout) → (y : Bytes) × (spell_layout l ≡ lead l ++ (behind_lt (child_of l) ++ y))
lead_is (plain r) = (_, root_lead_is r)
lead_is (declared d f r) = (_, ap (λ (y : Bytes). spell_declaration d ++ (spell_filler f ++ y)) (root_lead_is r) ∙ in_front (spell_declaration d) (spell_filler f) (code "<" ∷ root_lead r) _)
  where
    in_front : (u v w y : Bytes) → u ++ (v ++ (w ++ y)) ≡ (u ++ (v ++ w)) ++ y
    in_front u v w y = simp append_assoc

-- "what we hand out of a message is taken from that": the parts of a message's child stand where its outline says
pub laid_parts : (s : Bytes) (start end : ℕ) {from to count inside : ℕ} (l : Layout) → Laid (take (end - start) (drop start s)) l → Outlines (start + length (lead l)) (child_of l) from to count inside → (rest : Bytes) × Parts s (child_of l) from to inside rest
laid_parts s start end l w o =
    let (y, i) = lead_is l in
    let z = drop (end - start) (drop start s) in
    let e : drop start s ≡ lead l ++ (behind_lt (child_of l) ++ (y ++ z)) = sym (take-append-drop (end - start) (drop start s)) ∙ ap (λ (u : Bytes). u ++ z) (w.spelt ∙ i) ∙ simp append_assoc in
    (y ++ z, parts_stand s (start + length (lead l)) (child_of l) (y ++ z) (behind s (lead l) (behind_lt (child_of l) ++ (y ++ z)) start e) o)

-- an attribute that stands at `at`: its name and its raw value stand at its places, and the next attribute behind it
pub record AttributeAt (s : Bytes) (at : ℕ) (a : Attribute) (tail : Bytes) : Type 0 where
  pub name : take (name_end at a - name_at at a) (drop (name_at at a) s) ≡ a.name
  pub value : take (value_end at a - value_at at a) (drop (value_at at a) s) ≡ spell_value a.value
  pub next : drop (value_end at a + 1) s ≡ tail

standing : (s u v : Bytes) (from to : ℕ) → drop from s ≡ u ++ v → to ≡ from + length u → take (to - from) (drop from s) ≡ u
standing s u v from to e h = let n : length u ≡ to - from = omega arith in ap (λ (y : Bytes). take (to - from) y) e ∙ take_at u v (to - from) n

pub attribute_stands : (s : Bytes) (at : ℕ) (a : Attribute) (l : List Attribute) (y : Bytes) → drop at s ≡ spell_attributes (a ∷ l) ++ y → AttributeAt s at a (spell_attributes l ++ y)
attribute_stands s at a l y e = record { name = standing s a.name (a.mid ++ equals) (name_at at a) (name_end at a) named refl; value = standing s v (q ++ tail) (value_at at a) (value_end at a) valued refl; next = behind s q tail (value_end at a) shut }
  where
    tail : Bytes
    tail = spell_attributes l ++ y

    v : Bytes
    v = spell_value a.value

    q : Bytes
    q = a.quote ∷ []

    split : (b n m f c w p t : Bytes) → ((b ++ (n ++ (m ++ (c ++ (f ++ (p ++ (w ++ p))))))) ++ t) ++ y ≡ b ++ (n ++ (m ++ (c ++ (f ++ (p ++ (w ++ (p ++ (t ++ y))))))))
    split b n m f c w p t = simp append_assoc

    whole : drop at s ≡ a.before ++ (a.name ++ (a.mid ++ (code "=" ∷ [] ++ (a.after ++ (q ++ (v ++ (q ++ tail)))))))
    whole = e ∙ split a.before a.name a.mid a.after (code "=" ∷ []) v q (spell_attributes l)

    quoted : Bytes
    quoted = q ++ (v ++ (q ++ tail))

    equals : Bytes
    equals = code "=" ∷ [] ++ (a.after ++ quoted)

    named : drop (name_at at a) s ≡ a.name ++ (a.mid ++ equals)
    named = behind s a.before (a.name ++ (a.mid ++ equals)) at whole

    before_equals : drop (name_end at a + length a.mid) s ≡ equals
    before_equals = behind s a.mid equals (name_end at a) (behind s a.name (a.mid ++ equals) (name_at at a) named)

    valued : drop (value_at at a) s ≡ v ++ (q ++ tail)
    valued =
        behind s q (v ++ (q ++ tail)) (name_end at a + length a.mid + 1 + length a.after)
        (behind s a.after quoted (name_end at a + length a.mid + 1) (behind s (code "=" ∷ []) (a.after ++ quoted) (name_end at a + length a.mid) before_equals))

    shut : drop (value_end at a) s ≡ q ++ tail
    shut = behind s v (q ++ tail) (value_at at a) valued
