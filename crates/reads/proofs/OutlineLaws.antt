-- From an outline to the message that was read: what stands at its places.
use mathlib.Core.Path.{◌≡◌, refl, sym, ap, subst, ◌∙◌}
use mathlib.Core.List.{List, [], ◌∷◌, ◌++◌}
use Prim.Native.Nat.{ℕ, ◌+◌, ◌-◌, ◌*◌, ◌≤◌}
use native.Mathlib.Omega.{arith}
use lib.ListN.{length, length-append, length-take, length-drop, take, drop}
use Rattle.exact.specs.Chain.{clash}
use Rattle.grammar.specs.Bytes.{Bytes, text}
use Rattle.grammar.specs.Limits.{DEPTH}
use Rattle.grammar.specs.Attribute.{Attribute, spell_attributes}
use Rattle.grammar.specs.Name.{Name}
use Rattle.grammar.specs.Element.{Element, empty, full, GoodElement, good_full, read_element}
use Rattle.grammar.specs.Answer.{Answers}
use Rattle.grammar.specs.Places.{value_end, child_of as inner, tag_in, inside_from}
use Rattle.tags.specs.Places.{places}
use Rattle.reader.specs.Answer.{unread, Accepted, Sketches, OutlineCase, Outlined}
use Rattle.model.specs.Standing.{Parts, ContentAt}
use Rattle.reader.proofs.Parts.{accepted_parts}
use Rattle.std.specs.Prelude.{Result, Ok, Err}
use Rattle.reader.specs.declared.answer.Unread.{Unread}
use Rattle.reader.specs.declared.answer.Sketch.{Sketch}
use Rattle.reads.specs.Kept.{Sorts}
use Rattle.reads.specs.Whole.{SketchSorts, OutlineSorts, OutlineIn}
use Rattle.reads.specs.declared.features.Sort.{Sort}
use Rattle.table.specs.Says.{children_of}
use Rattle.reads.specs.Held.{Held}
use Rattle.reads.specs.Children.{Holds, holds_none, holds}
use Rattle.message.proofs.HandedLaws.{good_tag, good_inner}

length_places : (at : ℕ) (l : List Attribute) → length (places at l) ≡ 4 * length l
unfolding places
length_places at [] = refl
length_places at (a ∷ l) = let z = length_places (value_end at a + 1) l in omega arith

named : (n : Bytes) → Name n → 1 ≤ length n
named [] h = clash (sym h.one)
named (b ∷ n) h = omega arith

module _ {s : Bytes} {start end from to count inside : ℕ} {old new : List ℕ} (a : Accepted s start end from to count inside old new) where
  abbrev pub child : Element
  child = inner a.layout

  pub good : GoodElement (DEPTH - 2) child
  good = good_inner a.laid.good

  pub parts : Parts s child from to inside (accepted_parts a).0
  parts = (accepted_parts a).1

  pub accepted_order : from ≤ to
  accepted_order = let p = a.lines.starts in let q = a.lines.ends in omega arith

  pub accepted_in : to ≤ length s
  accepted_in =
      let n = named (tag_in child).name (good_tag good).name in
      let p = a.lines.starts in
      let q = a.lines.ends in
      let l : length (take (to - from) (drop from s)) ≡ length (tag_in child).name = ap length parts.name in
      let t = length-take (to - from) (drop from s) in
      let d = length-drop from s in
      omega arith

  unfoldable pub accepted_held : length old ≡ 128 → Held s to new count
  accepted_held h = record {
    attributes = (tag_in child).attributes;
    after = parts.after;
    rest = drop (4 * length (tag_in child).attributes) old;
    good = (good_tag good).attributes.each;
    fresh_names = (good_tag good).attributes.fresh_names;
    stand = parts.attributes;
    rows = a.table h;
    counts = a.lines.counts;
  }

  pub accepted_long : length old ≡ 128 → length new ≡ 128
  accepted_long h =
      let f = (good_tag good).attributes.few in
      let c = a.lines.counts in
      let n = length (tag_in child).attributes in
      let p : length new ≡ length (places 0 (tag_in child).attributes) + length (drop (4 * n) old) = ap length (a.table h) ∙ length-append (places 0 (tag_in child).attributes) (drop (4 * n) old) in
      let q = length_places 0 (tag_in child).attributes in
      let d = length-drop (4 * n) old in
      omega arith

  pub accepted_holds : Holds s inside (children_of (read_element child))
  accepted_holds = go child good a.lines.behind parts.content
    where
      go : (x : Element) → GoodElement (DEPTH - 2) x → inside ≡ inside_from to x → ContentAt s inside x (accepted_parts a).0 → Holds s inside (children_of (read_element x))
      go (empty t) g b k = holds_none b refl
      go (full t c g) (good_full i j k) b m = holds (let z = length-append (spell_attributes t.attributes) (t.trail ++ text ">") in let y = length-append t.trail (text ">") in omega arith) c t.name g (accepted_parts a).0 j m refl

-- a message that is known
pub known_sketch : {s : Bytes} {old new : List ℕ} {r : Result Sketch Unread} {o : Sketch} → r ≡ Ok o → Outlined s old new r → Sketches s old new o
known_sketch {s} {old} {new} q p = subst (λ (r : Result Sketch Unread). OutlineCase s old new r) q p.says

pub known_unread : {s : Bytes} {old new : List ℕ} {r : Result Sketch Unread} {x : Unread} → r ≡ Err x → Outlined s old new r → Answers s (unread x)
known_unread {s} {old} {new} q p = subst (λ (r : Result Sketch Unread). OutlineCase s old new r) q p.says

-- where the name of the root's child stands
pub outlined_in : {s : Bytes} {old new : List ℕ} (r : Result Sketch Unread) → Outlined s old new r → OutlineIn s r
outlined_in (Ok o) p = record { within = (accepted_order p.says.accepted, accepted_in p.says.accepted) }
outlined_in (Err x) p = record { within = tt }

pub known_sort : {s : Bytes} {r : Result Sketch Unread} {o : Sketch} {k : Sort} → r ≡ Ok o → OutlineSorts s r k → Sorts s o.child.from o.child.to o.child.inside k
known_sort {s} {k = k} q p = subst (λ (r : Result Sketch Unread). SketchSorts s r k) q p.says
