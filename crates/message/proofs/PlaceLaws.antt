-- Where the attributes of an element stand, and what they are worth.
use Rattle.std.specs.Prelude.{Some, None}
use mathlib.Core.Path.{◌≡◌, refl, sym, ap, subst, ◌∙◌}
use mathlib.Core.List.{List, [], ◌∷◌, ◌++◌}
use mathlib.Core.Bool.{Bool, true, false, cond}
use Prim.Native.Nat.{ℕ, ◌+◌, ◌-◌, ◌<◌}
use Prim.Native.Char.{code}
use native.Mathlib.Omega.{arith}
use lib.ListN.{length, length-append, length-drop, take, drop}
use Rattle.grammar.specs.Bytes.{Bytes, same}
use Rattle.grammar.specs.Value.{spell_value, read_value}
use Rattle.grammar.specs.Attribute.{Attribute, spell_attribute, spell_attributes, GoodEach, good_each}
use Rattle.grammar.specs.Tree.{Pair}
use Rattle.grammar.specs.Element.{read_attributes}
use Rattle.grammar.specs.Places.{value_at, value_end}
use Rattle.model.specs.Standing.{attribute_stands}
use Rattle.value.specs.Text.{Text}
use Rattle.value.specs.declared.text.Span.{Span}
use Rattle.table.specs.Table.{Form}
use Rattle.table.specs.Says.{judged, without, given}
use Rattle.message.specs.Checked.{place_of}
use Rattle.message.specs.Handed.{Has, has_here, has_later, ReadsAt}

-- an attribute that stands there has room for its value and a quote
pub attribute_in : (s : Bytes) (at : ℕ) (a : Attribute) (l : List Attribute) (y : Bytes) → drop at s ≡ spell_attributes (a ∷ l) ++ y → value_end at a < length s
attribute_in s at a l y e =
    let v = spell_value a.value in
    let tail = spell_attributes l ++ y in
    let k : length (drop at s) ≡ length (spell_attribute a ++ spell_attributes l) + length y = ap length e ∙ length-append (spell_attribute a ++ spell_attributes l) y in
    let m : length (spell_attribute a ++ spell_attributes l) ≡ length (spell_attribute a) + length (spell_attributes l) = length-append (spell_attribute a) (spell_attributes l) in
    let n₁ : length (spell_attribute a) ≡ length a.before + length (a.name ++ (a.mid ++ code "=" ∷ (a.after ++ a.quote ∷ (v ++ a.quote ∷ [])))) = length-append a.before _ in
    let n₂ : length (a.name ++ (a.mid ++ code "=" ∷ (a.after ++ a.quote ∷ (v ++ a.quote ∷ [])))) ≡ length a.name + length (a.mid ++ code "=" ∷ (a.after ++ a.quote ∷ (v ++ a.quote ∷ []))) = length-append a.name _ in
    let n₃ : length (a.mid ++ code "=" ∷ (a.after ++ a.quote ∷ (v ++ a.quote ∷ []))) ≡ length a.mid + length (code "=" ∷ (a.after ++ a.quote ∷ (v ++ a.quote ∷ []))) = length-append a.mid _ in
    let n₄ : length (a.after ++ a.quote ∷ (v ++ a.quote ∷ [])) ≡ length a.after + length (a.quote ∷ (v ++ a.quote ∷ [])) = length-append a.after _ in
    let n₅ : length (v ++ a.quote ∷ []) ≡ length v + 1 = length-append v (a.quote ∷ []) in
    let z = length-drop at s in
    omega arith

-- at the place of a name stands its raw value
pub reads_at : (s : Bytes) (at : ℕ) (l : List Attribute) (after : Bytes) → GoodEach l → drop at s ≡ spell_attributes l ++ after → (n : Bytes) (p : Span) → place_of at l n ≡ Some p → ReadsAt s n (read_attributes l) p
unfolding place_of
reads_at s at [] after g e n p h = absurd (let z : ◌≡◌ {A = ℕ} 0 1 = cc in omega arith)
reads_at s at (a ∷ l) after (good_each ga gl) e n p h = go (same n a.name) refl h (λ k. reads_at s (value_end at a + 1) l after gl (attribute_stands s at a l after e).next n p k)
  where
    span : Span
    span = record { start = value_at at a; len = length (spell_value a.value) }

    here : Text (take (length (spell_value a.value)) (drop (value_at at a) s)) (read_value a.value)
    here =
        let q : value_end at a - value_at at a ≡ length (spell_value a.value) = omega arith in
        record { quote = a.quote; quoted = ga.quote; items = a.value; good = ga.value; spelt = subst (λ (m : ℕ). take m (drop (value_at at a) s) ≡ spell_value a.value) q (attribute_stands s at a l after e).value; reads = refl }

    go : (z : Bool) → same n a.name ≡ z → cond z (Some span) (place_of (value_end at a + 1) l n) ≡ Some p → (place_of (value_end at a + 1) l n ≡ Some p → ReadsAt s n (read_attributes l) p) → ReadsAt s n (read_attributes (a ∷ l)) p
    go true f k r =
        let q : span ≡ p = cc in
        subst (λ (p : Span). ReadsAt s n (read_attributes (a ∷ l)) p) q (record { value = read_value a.value; inside = let z = attribute_in s at a l after e in omega arith; text = here; has = has_here f refl })
    go false f k r = let x = r k in record { value = x.value; inside = x.inside; text = x.text; has = has_later f x.has }

pub not_there : (at : ℕ) (l : List Attribute) (n : Bytes) → place_of at l n ≡ None → (v : Bytes) → Has n v (read_attributes l) → ⊥
unfolding place_of
not_there at [] n h v x = elim x [ ]
not_there at (a ∷ l) n h v (has_here f e) = let z : Some (record { start = value_at at a; len = length (spell_value a.value) }) ≡ None = ap (λ (z : Bool). cond z (Some (record { start = value_at at a; len = length (spell_value a.value) })) (place_of (value_end at a + 1) l n)) (sym f) ∙ h in let y : ◌≡◌ {A = ℕ} 0 1 = cc in omega arith
not_there at (a ∷ l) n h v (has_later f k) = not_there (value_end at a + 1) l n (ap (λ (z : Bool). cond z (Some (record { start = value_at at a; len = length (spell_value a.value) })) (place_of (value_end at a + 1) l n)) (sym f) ∙ h) v k

-- what the attribute of a name is worth, if it is there or not
pub has_worth : {n v : Bytes} {l : List Pair} → Has n v l → (t : Form) (o : Bool) → given t o n l ≡ judged t v
has_worth {n} {v} (has_here {p} {l} f e) t o = ap (λ (z : Bool). cond z (judged t p.value) (given t o n l)) f ∙ ap (judged t) (sym e)
has_worth {n} {v} (has_later {p} {l} f h) t o = ap (λ (z : Bool). cond z (judged t p.value) (given t o n l)) f ∙ has_worth h t o

pub missing_at : (at : ℕ) (l : List Attribute) (name : Bytes) → place_of at l name ≡ None → (t : Form) (o : Bool) → given t o name (read_attributes l) ≡ without o
unfolding place_of
missing_at at [] name h t o = refl
missing_at at (a ∷ l) name h t o = go (same name a.name) refl h (λ k. missing_at (value_end at a + 1) l name k t o)
  where
    go : (z : Bool) → same name a.name ≡ z → cond z (Some (record { start = value_at at a; len = length (spell_value a.value) })) (place_of (value_end at a + 1) l name) ≡ None
        → (place_of (value_end at a + 1) l name ≡ None → given t o name (read_attributes l) ≡ without o) → given t o name (read_attributes (a ∷ l)) ≡ without o
    go true f k r = absurd (let z : ◌≡◌ {A = ℕ} 0 1 = cc in omega arith)
    go false f k r = ap (λ (z : Bool). cond z (judged t (read_value a.value)) (given t o name (read_attributes l))) f ∙ r k
