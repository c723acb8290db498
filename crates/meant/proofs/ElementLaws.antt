-- Elements as they are written: an empty tag where nothing is inside; and the child that holds the features.
use mathlib.Core.Path.{◌≡◌, refl, sym, ap, ◌∙◌}
use mathlib.Core.List.{List, [], ◌∷◌, ◌++◌, append_assoc}
use mathlib.Core.Bool.{Bool, true, false}
use Prim.Native.Nat.{ℕ, suc, ◌<◌}
use Prim.Native.Char.{code}
use native.Mathlib.Omega.{arith}
use lib.ListN.{length, length-append}
use Rattle.grammar.specs.Bytes.{Bytes, text, within, digit}
use Rattle.grammar.specs.Name.{letter, name_start, name_byte, Name}
use Rattle.grammar.specs.Attribute.{Attribute, spell_attributes, GoodAttributes, good_none}
use Rattle.grammar.specs.Filler.{Filler, spell_filler, bits_end}
use Rattle.grammar.specs.Tree.{tree, no_trees}
use Rattle.grammar.specs.Element.{Tag, Element, empty, full, Content, bare, child, spell_element, spell_content, GoodTag, GoodElement, good_empty, good_full, GoodContent, good_bare, good_child, read_attributes, read_element, read_content}
use Rattle.table.specs.Says.{notes, noted}
use Rattle.message.specs.declared.values.Features.{Features}
use Rattle.meant.specs.Written.{closed, features_inside}
use Rattle.meant.proofs.ValueLaws.{features_child}
use Rattle.meant.proofs.RowLaws.{named}

-- no glue
abbrev pub no_filler : Filler
no_filler = []

abbrev pub tag_of : Bytes → List Attribute → Tag
tag_of n l = record { name = n; attributes = l; trail = [] }

pub good_tag : {n : Bytes} {l : List Attribute} → Name n → GoodAttributes l → GoodTag (tag_of n l)
good_tag h k = record { name = h; attributes = k; trail = refl }

pub no_attributes : GoodAttributes []
no_attributes = record { few = omega arith; fresh_names = refl; each = good_none }

-- an element of the name n with these attributes and this content, as it is written
pub record Enclosed (d : ℕ) (n : Bytes) (l : List Attribute) (c : Content) : Type 0 where
  pub element : Element
  pub good : GoodElement d element
  pub spelt : text "<" ++ (n ++ (spell_attributes l ++ closed n (spell_content c))) ≡ spell_element element
  pub reads : read_element element ≡ tree n (read_attributes l) (read_content c)

-- an element has a byte, so content without a byte has no element
element_some : (e : Element) → 0 < length (spell_element e)
element_some (empty t) = omega arith
element_some (full t c g) = omega arith

nothing_inside : (c : Content) → spell_content c ≡ [] → read_content c ≡ no_trees
nothing_inside (bare f) h = refl
nothing_inside (child f e c) h =
    let n : length (spell_filler f ++ (spell_element e ++ spell_content c)) ≡ 0 = ap length h in
    let a = length-append (spell_filler f) (spell_element e ++ spell_content c) in
    let b = length-append (spell_element e) (spell_content c) in
    let k = element_some e in
    absurd (omega arith)

-- where the brackets of the start tag stand
brackets : (n a : Bytes) (b : ℕ) (w : Bytes) → n ++ (a ++ closed n (b ∷ w)) ≡ (n ++ (a ++ text ">")) ++ ((b ∷ w) ++ (text "</" ++ (n ++ text ">")))
brackets n a b w = simp append_assoc

pub enclosed : {d : ℕ} {n : Bytes} {l : List Attribute} {c : Content} → Name n → GoodAttributes l → GoodContent d c → Enclosed d n l c
enclosed {d} {n} {l} {c} h k g = go (spell_content c) refl
  where
    go : (w : Bytes) → spell_content c ≡ w → Enclosed d n l c
    go [] e = record {
      element = empty (tag_of n l);
      good = good_empty (good_tag h k);
      spelt = ap (λ (y : Bytes). text "<" ++ (n ++ (spell_attributes l ++ closed n y))) e;
      reads = rw (nothing_inside c e);
    }
    go (b ∷ w) e = record {
      element = full (tag_of n l) c [];
      good = good_full (good_tag h k) g refl;
      spelt =
          ap (λ (y : Bytes). text "<" ++ (n ++ (spell_attributes l ++ closed n y))) e
          ∙ ap (λ (y : Bytes). code "<" ∷ y) (brackets n (spell_attributes l) b w)
          ∙ ap (λ (y : Bytes). (text "<" ++ (n ++ (spell_attributes l ++ text ">"))) ++ (y ++ (text "</" ++ (n ++ text ">")))) (sym e);
      reads = refl;
    }

-- an empty tag in front, if it is noted
abbrev flagged : Bool → Bytes → Content → Content
flagged true n c = child no_filler (empty (tag_of n [])) c
flagged false n c = c

flagged_good : {d : ℕ} {c : Content} (b : Bool) (n : Bytes) → Name n → GoodContent (suc d) c → GoodContent (suc d) (flagged b n c)
flagged_good true n h g = good_child bits_end (good_empty (good_tag h no_attributes)) g
flagged_good false n h g = g

-- the children of the features
abbrev inside : Bool → Bool → Bool → Content
inside a b c = flagged a (text "FeatureBoardForecast") (flagged b (text "FeatureQueryBoardInfo") (flagged c (text "FeatureSendBoardInfo") (bare no_filler)))

inside_good : {d : ℕ} (a b c : Bool) → GoodContent (suc d) (inside a b c)
unfolding name_start name_byte letter digit within
inside_good a b c =
    flagged_good a (text "FeatureBoardForecast") (named (text "FeatureBoardForecast") refl)
    (flagged_good b (text "FeatureQueryBoardInfo") (named (text "FeatureQueryBoardInfo") refl)
    (flagged_good c (text "FeatureSendBoardInfo") (named (text "FeatureSendBoardInfo") refl) (good_bare bits_end)))

inside_spelt : (f : Features) → features_inside f ≡ spell_content (inside f.forecast f.query f.send)
inside_spelt f = go f.forecast f.query f.send
  where
    go : (a b c : Bool) → features_inside (record { forecast = a; query = b; send = c }) ≡ spell_content (inside a b c)
    go true true true = refl
    go true true false = refl
    go true false true = refl
    go true false false = refl
    go false true true = refl
    go false true false = refl
    go false false true = refl
    go false false false = refl

inside_notes : (a b c : Bool) → notes (read_content (inside a b c)) ≡ noted a b c
inside_notes true true true = refl
inside_notes true true false = refl
inside_notes true false true = refl
inside_notes true false false = refl
inside_notes false true true = refl
inside_notes false true false = refl
inside_notes false false true = refl
inside_notes false false false = refl

-- the child that holds the features, and what it reads as
pub record Holds (d : ℕ) (n : Bytes) (f : Features) : Type 0 where
  pub element : Element
  pub content : Content
  pub good : GoodElement (suc d) element
  pub spelt : features_child n f ≡ spell_element element
  pub reads : read_element element ≡ tree n [] (read_content content)
  pub told : notes (read_content content) ≡ noted f.forecast f.query f.send

pub holds : {d : ℕ} {n : Bytes} (f : Features) → Name n → Holds d n f
holds {d} {n} f h =
    let x : Enclosed (suc d) n [] (inside f.forecast f.query f.send) = enclosed h no_attributes (inside_good f.forecast f.query f.send) in
    record {
      element = x.element;
      content = inside f.forecast f.query f.send;
      good = x.good;
      spelt = ap (λ (y : Bytes). text "<" ++ (n ++ closed n y)) (inside_spelt f) ∙ x.spelt;
      reads = x.reads;
      told = inside_notes f.forecast f.query f.send;
    }
