-- The loop over the rows, and from an outline to what decides over the one reading.
use Rattle.value.specs.declared.text.Span.{Span}
use mathlib.Core.Path.{◌≡◌, refl, sym, ap, subst, ◌∙◌}
use mathlib.Core.List.{List}
use mathlib.Core.Bool.{Bool, true, false, cond}
use Prim.Native.Nat.{ℕ, zero, suc, ◌+◌, ◌-◌, ◌≤◌, ◌<◌}
use native.Mathlib.Omega.{arith}
use lib.ListN.{length, take, drop, get_or}
use lib.Dec.{eqb}
use Rattle.std.specs.Prelude.{Option, None, Some, Err}
use Rattle.refusals.specs.Numbers.{number_of}
use Rattle.refusals.specs.declared.Refusal.{Refusal}
use Rattle.refusals.specs.declared.Refusal.TheVariants.{Incomplete, Malformed, MessageTooLong, Missing, TextTooLong, BadValue, NoRoom, MayNotBeSent, ProtocolError}
use Rattle.grammar.specs.Bytes.{Bytes}
use Rattle.grammar.specs.Tree.{tree, Forest}
use Rattle.grammar.specs.Element.{read_element}
use Rattle.grammar.specs.Message.{read_layout}
use Rattle.reader.specs.Answer.{Sketches, Outlined}
use Rattle.reader.specs.declared.answer.Unread.TheVariants.{More, Malformed, TooLong}
use Rattle.reader.specs.declared.answer.Sketch.{Sketch}
use Rattle.table.specs.Table.{Row, words, some_words, whole, guid, version, positive, features, rows_of}
use Rattle.table.specs.Theorems.{rows_table}
use Rattle.table.specs.Says.{child_of, children_of, said_of}
use Rattle.message.specs.Checked.{places_in}
use Rattle.rows.specs.Coding.{form_of, is_child, row_of, as_rows}
use Rattle.rows.specs.declared.data.Form.{Form as CodedForm}
use Rattle.rows.specs.declared.data.Form.TheVariants.{Features, Text, SomeText, Int, Guid, Version, Positive}
use Rattle.rows.specs.declared.data.Row.{Row as Coded}
use Rattle.rows.proofs.RowLaws.{left, next_row, no_row}
use Rattle.reads.specs.Held.{Held, Found, pairs, place}
use Rattle.reads.specs.Kept.{Verdict, Rowed, Sorted, Sorts}
use Rattle.reads.specs.declared.features.Sort.{Sort}
use Rattle.reads.proofs.OutlineLaws.{child, accepted_held, accepted_holds}
use Rattle.reads.proofs.TableLaws.{Fed}
use Rattle.reads.proofs.WholeLaws.{as_read_lem}
use Rattle.decides.specs.Deciding.{value_in, ruled_by, first_refused, decided_by, undecided, Decides, ends, more, malformed, too_long}
use Rattle.decides.specs.Ruled.{Stands, Rules}
use Rattle.decides.specs.declared.Ruling.{Ruling}
use Rattle.decides.specs.declared.Decision.{Decision}

clash : {A : Type 0} → true ≡ false → A
clash e = absurd cc

-- a child has no value
child_value : (F : CodedForm) (w : Option Span) → is_child F ≡ true → value_in (form_of F) w ≡ None
unfolding value_in
child_value Features w e = refl
child_value (Text most) w e = clash (sym e)
child_value (SomeText most) w e = clash (sym e)
child_value (Int low high) w e = clash (sym e)
child_value Guid w e = clash (sym e)
child_value Version w e = clash (sym e)
child_value Positive w e = clash (sym e)

pub child_stands : {s : Bytes} {base : ℕ} {table : List ℕ} {count : ℕ} (c : Coded) {b : Bool} {r : Option Span} → b ≡ is_child c.form → b ≡ true → r ≡ None → Stands s base table count c r
child_stands c e y q = record { says = λ h. q ∙ sym (child_value c.form (place h c.name.now) (sym e ∙ y)) }

-- of the other forms it is that of the attribute
attribute_value : (F : CodedForm) (w : Option Span) → is_child F ≡ false → value_in (form_of F) w ≡ w
unfolding value_in
attribute_value Features w e = clash e
attribute_value (Text most) w e = refl
attribute_value (SomeText most) w e = refl
attribute_value (Int low high) w e = refl
attribute_value Guid w e = refl
attribute_value Version w e = refl
attribute_value Positive w e = refl

pub attribute_stands : {s : Bytes} {base : ℕ} {table : List ℕ} {count : ℕ} (c : Coded) {b : Bool} {r : Option Span} → b ≡ is_child c.form → b ≡ false → Found s base table count c.name.now r → Stands s base table count c r
attribute_stands c e n found = record { says = λ h. found.says h ∙ sym (attribute_value c.form (place h c.name.now) (sym e ∙ n)) }

-- no row before the i-th is refused: the rows from it on rule as all do
pub record Tried-so-far (s : Bytes) (base : ℕ) (table : List ℕ) (count : ℕ) (found : Option ℕ) (l : List Coded) (i : ℕ) : Type 0 where
  pub upto : i ≤ length l
  pub rules : (h : Held s base table count) (m : Bytes) (f : Forest) → Fed found l f → first_refused i (left l i) (place h) (tree m (pairs h) f) ≡ first_refused 0 (as_rows l) (place h) (tree m (pairs h) f)

ruled_zero : (n i : ℕ) (w : Option Span) (x : Option Ruling) → n ≡ 0 → ruled_by n i w x ≡ x
ruled_zero zero i w x e = refl
ruled_zero (suc n) i w x e = absurd (omega arith)

ruled_some : (n i : ℕ) (w : Option Span) (x : Option Ruling) → (n ≡ 0 → ⊥) → ruled_by n i w x ≡ Some (record { refusal = n; row = i; value = w })
ruled_some zero i w x e = absurd (e refl)
ruled_some (suc n) i w x e = refl

-- no refusal has the number 0
pub is_refused_lem : (e : Refusal) → number_of e ≡ 0 → ⊥
is_refused_lem Incomplete h = omega arith
is_refused_lem Malformed h = omega arith
is_refused_lem MessageTooLong h = omega arith
is_refused_lem Missing h = omega arith
is_refused_lem TextTooLong h = omega arith
is_refused_lem BadValue h = omega arith
is_refused_lem NoRoom h = omega arith
is_refused_lem MayNotBeSent h = omega arith
is_refused_lem ProtocolError h = omega arith

module _ (s : Bytes) (base : ℕ) (table : List ℕ) (count : ℕ) (found : Option ℕ) (l : List Coded) where
  pub rule_starts : Tried-so-far s base table count found l 0
  rule_starts = record { upto = omega arith; rules = λ h m f z. refl }

  module _ {i : ℕ} {t : Verdict} (d : Coded) (g : Tried-so-far s base table count found l i) (h : i < length l) (row : Rowed s base table count found (get_or l i d) t) where
    line : Row
    line = row_of (get_or l i d)

    -- the i-th row ahead of the others
    at_row : (k : Held s base table count) (m : Bytes) (f : Forest) → Fed found l f → ruled_by t.refusal i (value_in line.form (place k line.name)) (first_refused (suc i) (left l (i + 1)) (place k) (tree m (pairs k) f)) ≡ first_refused 0 (as_rows l) (place k) (tree m (pairs k) f)
    unfolding first_refused line
    at_row k m f z =
        ap (λ (x : ℕ). ruled_by x i (value_in line.form (place k line.name)) (first_refused (suc i) (left l (i + 1)) (place k) (tree m (pairs k) f))) (ap (λ (t : Verdict). t.refusal) (row.says k m f (z i d h)))
        ∙ ap (λ (l : List Row). first_refused i l (place k) (tree m (pairs k) f)) (sym (next_row l i d h))
        ∙ g.rules k m f z

    pub rule_goes_on : t.refusal ≡ 0 → Tried-so-far s base table count found l (i + 1)
    rule_goes_on e = record { upto = omega arith; rules = λ k m f z. (let a : i + 1 ≡ suc i = omega arith in ap (λ (j : ℕ). first_refused j (left l (i + 1)) (place k) (tree m (pairs k) f)) a ∙ sym (ruled_zero t.refusal i (value_in line.form (place k line.name)) (first_refused (suc i) (left l (i + 1)) (place k) (tree m (pairs k) f)) e) ∙ at_row k m f z) }

    pub rule_found : {r : Option Ruling} {w : Option Span} (sort : Sort) → rows_of sort.kind ≡ as_rows l → ((f : Forest) → Sorted sort f → Fed found l f) → (t.refusal ≡ 0 → ⊥) → Stands s base table count (get_or l i d) w → r ≡ Some (record { refusal = t.refusal; row = i; value = w }) → Rules s base table count sort r
    unfolding line
    rule_found {r} {w} sort e fed some stands q = record { says = λ k m f z. q ∙ ap (λ (w : Option Span). Some (record { refusal = t.refusal; row = i; value = w })) (stands.says k) ∙ sym (ruled_some t.refusal i (value_in line.form (place k line.name)) (first_refused (suc i) (left l (i + 1)) (place k) (tree m (pairs k) f)) some) ∙ at_row k m f (fed f z) ∙ ap (λ (l : List Row). first_refused 0 l (place k) (tree m (pairs k) f)) (sym e) }

  pub rule_ends : {i : ℕ} {r : Option Ruling} (sort : Sort) → rows_of sort.kind ≡ as_rows l → ((f : Forest) → Sorted sort f → Fed found l f) → Tried-so-far s base table count found l i → length l ≤ i → r ≡ None → Rules s base table count sort r
  unfolding first_refused
  rule_ends {i} sort e fed g h q = record { says = λ k m f z. q ∙ ap (λ (l : List Row). first_refused i l (place k) (tree m (pairs k) f)) (sym (no_row l i h)) ∙ g.rules k m f (fed f z) ∙ ap (λ (l : List Row). first_refused 0 l (place k) (tree m (pairs k) f)) (sym e) }

-- of the message that an outline describes
module _ {s : Bytes} {old new : List ℕ} {o : Sketch} (p : Sketches s old new o) where
  pub decides_end : {k : Sort} {x : Option Ruling} {r : Decision} → length old ≡ 128 → Sorts s o.child.from o.child.to o.child.inside k → Rules s o.child.to new o.child.count k x → r ≡ decided_by k.kind x → Decides s r
  decides_end {k} {x} long q t h =
      let a = p.accepted in
      ends o.start o.end p.answers a.layout a.laid
      (h
      ∙ ap (decided_by k.kind) (t.says (accepted_held a long) (take (o.child.to - o.child.from) (drop o.child.from s)) (children_of (read_element (child a))) (q.features (children_of (read_element (child a))) (accepted_holds a)))
      ∙ ap (λ (k : ℕ). decided_by k (first_refused 0 (rows_of k) (place (accepted_held a long)) (tree (take (o.child.to - o.child.from) (drop o.child.from s)) (pairs (accepted_held a long)) (children_of (read_element (child a)))))) q.kind
      ∙ as_read_lem a long (λ k place t. decided_by k (first_refused 0 (rows_of k) place t))
      ∙ ap (λ (rows : List Row). decided_by (said_of (read_layout a.layout)).kind (first_refused 0 rows (places_in o.start a.layout) (child_of (read_layout a.layout)))) (sym (rows_table (said_of (read_layout a.layout)).kind (child_of (read_layout a.layout)))))

-- of an answer without a message
module _ {s : Bytes} {old new : List ℕ} where
  pub decides_more : {start : ℕ} {r : Decision} → Outlined s old new (Err (More start)) → r ≡ undecided 1 → Decides s r
  decides_more {start} p h = more start p.says h

  pub decides_malformed : {start place : ℕ} {r : Decision} → Outlined s old new (Err (Malformed start place)) → r ≡ undecided 2 → Decides s r
  decides_malformed {start} {place} p h = malformed start place p.says h

  pub decides_too_long : {start : ℕ} {r : Decision} → Outlined s old new (Err (TooLong start)) → r ≡ undecided 3 → Decides s r
  decides_too_long {start} p h = too_long start p.says h
