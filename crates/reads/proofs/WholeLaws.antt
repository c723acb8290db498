-- From an outline to the cells of the one reading.
use Rattle.std.specs.Prelude.{Option}
use Rattle.value.specs.declared.text.Span.{Span}
use mathlib.Core.Path.{◌≡◌, refl, sym, ap, ◌∙◌}
use mathlib.Core.List.{List, ◌++◌}
use Prim.Native.Nat.{ℕ, ◌-◌, ◌*◌}
use lib.ListN.{length, take, drop}
use Rattle.grammar.specs.Bytes.{Bytes}
use Rattle.grammar.specs.Tree.{Tree, tree}
use Rattle.grammar.specs.Element.{read_attributes, read_element}
use Rattle.grammar.specs.Message.{read_layout}
use Rattle.grammar.specs.Places.{tag_in}
use Rattle.reader.specs.Answer.{unread, Accepted, Sketches}
use Rattle.grammar.specs.Answer.{Answers}
use Rattle.reader.specs.declared.answer.Unread.{Unread}
use Rattle.reader.specs.declared.answer.Unread.TheVariants.{More, Malformed, TooLong}
use Rattle.reader.specs.declared.answer.Sketch.{Sketch}
use Rattle.table.specs.Table.{Row, kind_of, rows_of}
use Rattle.table.specs.Theorems.{rows_table}
use Rattle.table.specs.Says.{refusal_of, child_of, children_of, name_of, said_of}
use Rattle.message.specs.Checked.{place_of, places_in}
use Rattle.message.specs.Cells.{cells_of}
use Rattle.reads.specs.Held.{pairs, place}
use Rattle.reads.specs.Kept.{kept_in, Sorts, AllRowed}
use Rattle.reads.specs.Whole.{outcome_of, without_message, cells_in, CellsChecked, ends, more, malformed, too_long}
use Rattle.reads.specs.declared.features.Sort.{Sort}
use Rattle.reads.specs.declared.whole.Outcome.{Outcome}
use Rattle.reads.proofs.OutlineLaws.{child, parts, accepted_held, accepted_holds}
use Rattle.message.proofs.HandedLaws.{read_inner, tree_of, name_of_lem}

module _ {s : Bytes} {start end from to count inside : ℕ} {old new : List ℕ} (a : Accepted s start end from to count inside old new) (whole : length old ≡ 128) where
  -- what holds of the element that the table describes holds of the reading's
  pub as_read_lem : {X : Type 0} (F : ℕ → (Bytes → Option Span) → Tree → X) → F (kind_of (take (to - from) (drop from s))) (place (accepted_held a whole)) (tree (take (to - from) (drop from s)) (pairs (accepted_held a whole)) (children_of (read_element (child a)))) ≡ F (said_of (read_layout a.layout)).kind (places_in start a.layout) (child_of (read_layout a.layout))
  unfolding place_of accepted_held
  as_read_lem F =
      ap (λ (n : Bytes). F (kind_of n) (place_of to (tag_in (child a)).attributes) (tree n (read_attributes (tag_in (child a)).attributes) (children_of (read_element (child a))))) (parts a).name
      ∙ ap (λ (t : Tree). F (kind_of (tag_in (child a)).name) (place_of to (tag_in (child a)).attributes) t) (tree_of (child a) ∙ sym (read_inner a.layout))
      ∙ ap (λ (n : Bytes). F (kind_of n) (place_of to (tag_in (child a)).attributes) (child_of (read_layout a.layout))) (sym (ap name_of (read_inner a.layout) ∙ name_of_lem (child a)))
      ∙ ap (λ (n : ℕ). F (said_of (read_layout a.layout)).kind (place_of n (tag_in (child a)).attributes) (child_of (read_layout a.layout))) a.lines.ends

  module _ {k : Sort} {refusal : ℕ} {before after : List ℕ} (e : Sorts s from to inside k) (t : AllRowed s to new count k before after refusal) where
    kind_is : k.kind ≡ (said_of (read_layout a.layout)).kind
    kind_is = e.kind ∙ as_read_lem (λ k p t. k)

    refusal_is : refusal ≡ (said_of (read_layout a.layout)).refusal
    refusal_is =
        t.refusal (accepted_held a whole) (take (to - from) (drop from s)) (children_of (read_element (child a))) (e.features (children_of (read_element (child a))) (accepted_holds a))
        ∙ ap (λ (k : ℕ). refusal_of (rows_of k) (tree (take (to - from) (drop from s)) (pairs (accepted_held a whole)) (children_of (read_element (child a))))) e.kind
        ∙ as_read_lem (λ k p t. refusal_of (rows_of k) t)
        ∙ sym (ap (λ (rows : List Row). refusal_of rows (child_of (read_layout a.layout))) (rows_table (said_of (read_layout a.layout)).kind (child_of (read_layout a.layout))))

    cells_are : after ≡ cells_in start a.layout before
    cells_are =
        t.cells (accepted_held a whole) (take (to - from) (drop from s)) (children_of (read_element (child a))) (e.features (children_of (read_element (child a))) (accepted_holds a))
        ∙ ap (λ (k : ℕ). cells_of (kept_in (rows_of k) (place (accepted_held a whole)) (tree (take (to - from) (drop from s)) (pairs (accepted_held a whole)) (children_of (read_element (child a))))) ++ drop (3 * length (rows_of k)) before) e.kind
        ∙ as_read_lem (λ k p t. cells_of (kept_in (rows_of k) p t) ++ drop (3 * length (rows_of k)) before)

pub cells_end : {s : Bytes} {old new : List ℕ} {o : Sketch} → Sketches s old new o → {k : Sort} {refusal : ℕ} {before after : List ℕ} {r : Outcome} → length old ≡ 128 → Sorts s o.child.from o.child.to o.child.inside k → AllRowed s o.child.to new o.child.count k before after refusal → r ≡ outcome_of refusal k.kind o.start o.end 0 → CellsChecked s before after r
cells_end {o = o} p {k} whole q t h =
    let a = p.accepted in
    ends o.start o.end p.answers a.layout a.laid (h ∙ ap (λ (n : ℕ). outcome_of n k.kind o.start o.end 0) (refusal_is a whole q t) ∙ ap (λ (k : ℕ). outcome_of (said_of (read_layout a.layout)).refusal k o.start o.end 0) (kind_is a whole q t)) (cells_are a whole q t)

pub cells_unread : {s : Bytes} {before : List ℕ} {r : Outcome} (x : Unread) → Answers s (unread x) → r ≡ without_message x → CellsChecked s before before r
cells_unread (More start) p h = more start p h refl
cells_unread (Malformed start place) p h = malformed start place p h refl
cells_unread (TooLong start) p h = too_long start p h refl
