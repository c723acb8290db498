-- What stands where a message's values are said to stand.
use Rattle.std.specs.Prelude.{Some, None}
use mathlib.Core.Path.{◌≡◌, refl, sym, ap, subst, ◌∙◌}
use mathlib.Core.List.{List}
use mathlib.Core.Bool.{Bool}
use Prim.Native.Nat.{ℕ, ◌+◌, ◌-◌}
use lib.ListN.{length, take, drop}
use Rattle.grammar.specs.Bytes.{Bytes}
use Rattle.grammar.specs.Limits.{DEPTH}
use Rattle.grammar.specs.Attribute.{Attribute}
use Rattle.grammar.specs.Tree.{Pair, tree}
use Rattle.grammar.specs.Element.{Element, empty, full, GoodTag, GoodElement, good_empty, good_full, read_attributes, read_element}
use Rattle.grammar.specs.Message.{Layout, plain, declared, GoodLayout, good_plain, good_declared, Laid, read_layout}
use Rattle.grammar.specs.Places.{child_of as inner, tag_in, lead, inside_from}
use Rattle.model.specs.Standing.{Parts, laid_parts}
use Rattle.value.specs.declared.text.Span.{Span}
use Rattle.table.specs.Table.{Form}
use Rattle.table.specs.Says.{child_of, children_of, name_of, without, given}
use Rattle.message.specs.Checked.{places_in}
use Rattle.message.specs.Handed.{Has, attributes_of, ReadsAt}
use Rattle.message.proofs.PlaceLaws.{reads_at, not_there, missing_at}

pub read_inner : (l : Layout) → child_of (read_layout l) ≡ read_element (inner l)
read_inner (plain r) = refl
read_inner (declared d f r) = refl

pub tree_of : (x : Element) → tree (tag_in x).name (read_attributes (tag_in x).attributes) (children_of (read_element x)) ≡ read_element x
tree_of (empty t) = refl
tree_of (full t c g) = refl

pub name_of_lem : (x : Element) → name_of (read_element x) ≡ (tag_in x).name
name_of_lem (empty t) = refl
name_of_lem (full t c g) = refl

-- the attributes of an element are good, and its name has bytes
pub good_tag : {d : ℕ} {x : Element} → GoodElement d x → GoodTag (tag_in x)
good_tag (good_empty t) = t
good_tag (good_full t c g) = t

pub good_inner : {l : Layout} → GoodLayout l → GoodElement (DEPTH - 2) (inner l)
good_inner (good_plain r) = r.inner
good_inner (good_declared d f r) = r.inner

attributes_read : (l : Layout) → attributes_of (child_of (read_layout l)) ≡ read_attributes (tag_in (inner l)).attributes
attributes_read l = ap attributes_of (read_inner l) ∙ of (inner l)
  where
    of : (x : Element) → attributes_of (read_element x) ≡ read_attributes (tag_in x).attributes
    of (empty t) = refl
    of (full t c g) = refl

-- where the attributes of a message's root's child stand
module _ (s : Bytes) (start end : ℕ) (l : Layout) (w : Laid (take (end - start) (drop start s)) l) where
  abbrev at : ℕ
  at = start + length (lead l)

  abbrev to : ℕ
  to = at + length (tag_in (inner l)).name

  abbrev here : List Attribute
  here = (tag_in (inner l)).attributes

  stands : (rest : Bytes) × Parts s (inner l) at to (inside_from to (inner l)) rest
  stands = laid_parts s start end l w (record { starts = refl; ends = refl; counts = refl; behind = refl })

  pub there_reads : (n : Bytes) (p : Span) → places_in start l n ≡ Some p → ReadsAt s n (attributes_of (child_of (read_layout l))) p
  there_reads n p e = subst (λ (a : List Pair). ReadsAt s n a p) (sym (attributes_read l)) (reads_at s to here stands.1.after (good_tag (good_inner w.good)).attributes.each stands.1.attributes n p e)

  pub absent_not : (n : Bytes) → places_in start l n ≡ None → (v : Bytes) → Has n v (attributes_of (child_of (read_layout l))) → ⊥
  absent_not n e v h = not_there to here n e v (subst (λ (a : List Pair). Has n v a) (attributes_read l) h)

  pub absent_worth : (n : Bytes) → places_in start l n ≡ None → (t : Form) (o : Bool) → given t o n (attributes_of (child_of (read_layout l))) ≡ without o
  absent_worth n e t o = ap (given t o n) (attributes_read l) ∙ missing_at to here n e t o
