-- The loop over the rows: what is tried with what is left says what all rows say.
use Rattle.std.specs.Prelude.{Option, Some, None}
use Rattle.value.specs.declared.text.Span.{Span}
use mathlib.Core.Path.{◌≡◌, refl, sym, ap, subst, ◌∙◌}
use mathlib.Core.List.{List, [], ◌∷◌, ◌++◌, append_assoc, append-nil}
use Prim.Native.Nat.{ℕ, zero, suc, ◌+◌, ◌-◌, ◌*◌, ◌≤◌, ◌<◌}
use native.Mathlib.Omega.{arith}
use lib.ListN.{length, take, drop, set, get_or, length-append, length-drop}
use lib.Seq.{length-take-le, sets-eq, take_at, drop-append-add, drop-drop}
use Rattle.std.specs.Prelude.{Option, Ok, Err}
use Rattle.std.specs.Prelude.{Result as Answer}
use Rattle.std.specs.Result.{result_and}
use Rattle.refusals.specs.Numbers.{told}
use Rattle.refusals.specs.declared.Refusal.{Refusal}
use Rattle.refusals.specs.declared.Refusal.TheVariants.{Incomplete, Malformed, MessageTooLong, Missing, TextTooLong, BadValue, NoRoom, MayNotBeSent, ProtocolError}
use Rattle.grammar.specs.Bytes.{Bytes}
use Rattle.grammar.specs.Tree.{Tree, tree, Forest}
use Rattle.table.specs.Table.{Row, rows_of}
use Rattle.table.specs.Says.{refusal_in, tried, first, refusal_of}
use Rattle.rows.specs.Coding.{row_of, as_rows}
use Rattle.rows.specs.declared.data.Row.{Row as Coded}
use Rattle.rows.proofs.RowLaws.{left, next_row, no_row, length_rows}
use Rattle.message.specs.Fields.{Field, none, a_words, a_whole, a_measure, a_guid, a_features}
use Rattle.message.specs.Cells.{cell_of, cells_of}
use Rattle.reads.specs.Held.{Held, pairs, place}
use Rattle.reads.specs.Kept.{Verdict, kept_of, tried_by, kept_in, Sorted, Rowed, AllRowed}
use Rattle.reads.specs.declared.features.Sort.{Sort}
use Rattle.reads.proofs.TableLaws.{Fed}

-- a cell is three numbers
pub three : (x : Field) (l : List ℕ) → cell_of x ++ l ≡ get_or (cell_of x) 0 0 ∷ get_or (cell_of x) 1 0 ∷ get_or (cell_of x) 2 0 ∷ l
three none l = refl
three (a_words None) l = refl
three (a_words (Some p)) l = refl
three (a_whole None) l = refl
three (a_whole (Some n)) l = refl
three (a_measure None) l = refl
three (a_measure (Some d)) l = refl
three (a_guid None) l = refl
three (a_guid (Some v)) l = refl
three (a_features None) l = refl
three (a_features (Some f)) l = refl

pub next_cell : (r : Row) (l : List Row) (place : Bytes → Option Span) (t : Tree) → cells_of (kept_in (r ∷ l) place t) ≡ (tried_by r place t).there ∷ (tried_by r place t).a ∷ (tried_by r place t).b ∷ cells_of (kept_in l place t)
unfolding cells_of kept_in
next_cell r l place t = three (kept_of r.form (place r.name) (tried r t)) (cells_of (kept_in l place t))

first_assoc : (a b c : ℕ) → first (first a b) c ≡ first a (first b c)
first_assoc zero b c = refl
first_assoc (suc a) b c = refl

first_zero : (a : ℕ) → first a 0 ≡ a
first_zero zero = refl
first_zero (suc a) = refl

-- the first refusal, by the answers and by their numbers
pub told_and : {A : Type 0} (a b : Answer A Refusal) → told (result_and a b) ≡ first (told a) (told b)
told_and (Ok x) b = refl
told_and (Err Incomplete) b = refl
told_and (Err Malformed) b = refl
told_and (Err MessageTooLong) b = refl
told_and (Err Missing) b = refl
told_and (Err TextTooLong) b = refl
told_and (Err BadValue) b = refl
told_and (Err NoRoom) b = refl
told_and (Err MayNotBeSent) b = refl
told_and (Err ProtocolError) b = refl

-- the numbers of i rows stand in front of what was there; with the rest they are all
pub record Filled (before cells : List ℕ) (i : ℕ) (rest all : List ℕ) : Type 0 where
  pub front : List ℕ
  pub are : cells ≡ front ++ drop (3 * i) before
  pub long : length front ≡ 3 * i
  pub joined : front ++ rest ≡ all

fill : (before cells : List ℕ) (i : ℕ) (x y z : ℕ) (rest all cells' : List ℕ) → Filled before cells i (x ∷ y ∷ z ∷ rest) all
    → cells' ≡ take (3 * i) cells ++ (x ∷ y ∷ z ∷ drop (3 * i + 3) cells) → Filled before cells' (i + 1) rest all
fill before cells i x y z rest all cells' g e =
    record { front = g.front ++ (x ∷ y ∷ z ∷ []); are = e ∙ ap (λ (l : List ℕ). l ++ (x ∷ y ∷ z ∷ drop (3 * i + 3) cells)) taken ∙ ap (λ (l : List ℕ). g.front ++ (x ∷ y ∷ z ∷ l)) dropped ∙ sym (append_assoc g.front (x ∷ y ∷ z ∷ []) (drop (3 * (i + 1)) before)); long = let a = length-append g.front (x ∷ y ∷ z ∷ []) in let b = g.long in omega arith; joined = append_assoc g.front (x ∷ y ∷ z ∷ []) rest ∙ g.joined }
  where
    taken : take (3 * i) cells ≡ g.front
    taken = ap (take (3 * i)) g.are ∙ take_at g.front (drop (3 * i) before) (3 * i) g.long

    dropped : drop (3 * i + 3) cells ≡ drop (3 * (i + 1)) before
    dropped =
        let q : 3 * i + 3 ≡ length g.front + 3 = let b = g.long in omega arith in
        let w : 3 * i + 3 ≡ 3 * (i + 1) = omega arith in
        ap (λ (n : ℕ). drop n cells) q ∙ ap (drop (length g.front + 3)) g.are ∙ drop-append-add g.front (drop (3 * i) before) 3 ∙ drop-drop 3 (3 * i) before ∙ ap (λ (n : ℕ). drop n before) w

-- three numbers put down
pub put_three : (l : List ℕ) (at x y z : ℕ) → at + 3 ≤ length l → set (set (set l at x) (at + 1) y) (at + 2) z ≡ take at l ++ (x ∷ y ∷ z ∷ drop (at + 3) l)
put_three l at x y z h = let a : at + 1 ≡ suc at = omega arith in let b : at + 2 ≡ suc (suc at) = omega arith in ap (λ (n : ℕ). set (set (set l at x) n y) (at + 2) z) a ∙ ap (λ (n : ℕ). set (set (set l at x) (suc at) y) n z) b ∙ sets-eq (x ∷ y ∷ z ∷ []) l at h ∙ append_assoc (take at l) (x ∷ y ∷ z ∷ []) (drop (at + 3) l)

kept : (l : List ℕ) (at x y z : ℕ) → at + 3 ≤ length l → length (take at l ++ (x ∷ y ∷ z ∷ drop (at + 3) l)) ≡ length l
kept l at x y z h = let a = length-append (take at l) (x ∷ y ∷ z ∷ drop (at + 3) l) in let b = length-take-le at l (omega arith) in let d = length-drop (at + 3) l in omega arith

pub record Going (s : Bytes) (base : ℕ) (table : List ℕ) (count : ℕ) (features : Option ℕ) (coded : List Coded) (before cells : List ℕ) (refusal i : ℕ) : Type 0 where
  pub upto : i ≤ length coded
  pub long : length cells ≡ length before
  pub refuses : (h : Held s base table count) (m : Bytes) (f : Forest) → Fed features coded f → first refusal (refusal_of (left coded i) (tree m (pairs h) f)) ≡ refusal_of (as_rows coded) (tree m (pairs h) f)
  pub fills : (h : Held s base table count) (m : Bytes) (f : Forest) → Fed features coded f → Filled before cells i (cells_of (kept_in (left coded i) (place h) (tree m (pairs h) f))) (cells_of (kept_in (as_rows coded) (place h) (tree m (pairs h) f)))

module _ (s : Bytes) (base : ℕ) (table : List ℕ) (count : ℕ) (features : Option ℕ) (coded : List Coded) (before : List ℕ) where
  pub loop_starts : Going s base table count features coded before before 0 0
  loop_starts = record { upto = omega arith; long = refl; refuses = λ h m f z. refl; fills = λ h m f z. record { front = []; are = refl; long = refl; joined = refl } }

  pub loop_goes_on : {cells cells' : List ℕ} {refusal refusal' i : ℕ} {t : Verdict} (d : Coded) → Going s base table count features coded before cells refusal i → i < length coded → Rowed s base table count features (get_or coded i d) t
      → cells' ≡ take (3 * i) cells ++ (t.there ∷ t.a ∷ t.b ∷ drop (3 * i + 3) cells) → 3 * i + 3 ≤ length cells → refusal' ≡ first refusal t.refusal → Going s base table count features coded before cells' refusal' (i + 1)
  unfolding refusal_of
  loop_goes_on {cells} {cells'} {refusal} {refusal'} {i} {t} d g h row e fits r = record { upto = omega arith; long = ap length e ∙ kept cells (3 * i) t.there t.a t.b fits ∙ g.long; refuses = refuses; fills = fills }
    where
      rest : List Row
      rest = left coded (i + 1)

      line : Row
      line = row_of (get_or coded i d)

      refuses : (h : Held s base table count) (m : Bytes) (f : Forest) → Fed features coded f → first refusal' (refusal_of rest (tree m (pairs h) f)) ≡ refusal_of (as_rows coded) (tree m (pairs h) f)
      refuses o m f z =
          let q : t.refusal ≡ refusal_in (tried line (tree m (pairs o) f)) = ap (λ (t : Verdict). t.refusal) (row.says o m f (z i d h)) in
          ap (λ (x : ℕ). first x (refusal_of rest (tree m (pairs o) f))) (r ∙ ap (first refusal) q)
          ∙ first_assoc refusal (refusal_in (tried line (tree m (pairs o) f))) (refusal_of rest (tree m (pairs o) f))
          ∙ ap (λ (l : List Row). first refusal (refusal_of l (tree m (pairs o) f))) (sym (next_row coded i d h))
          ∙ g.refuses o m f z

      fills : (h : Held s base table count) (m : Bytes) (f : Forest) → Fed features coded f → Filled before cells' (i + 1) (cells_of (kept_in rest (place h) (tree m (pairs h) f))) (cells_of (kept_in (as_rows coded) (place h) (tree m (pairs h) f)))
      fills o m f z =
          fill before cells i t.there t.a t.b (cells_of (kept_in rest (place o) (tree m (pairs o) f))) (cells_of (kept_in (as_rows coded) (place o) (tree m (pairs o) f))) cells'
          (subst (λ (l : List ℕ). Filled before cells i l (cells_of (kept_in (as_rows coded) (place o) (tree m (pairs o) f))))
          (ap (λ (l : List Row). cells_of (kept_in l (place o) (tree m (pairs o) f))) (next_row coded i d h) ∙ next_cell line rest (place o) (tree m (pairs o) f) ∙ ap (λ (t : Verdict). t.there ∷ t.a ∷ t.b ∷ cells_of (kept_in rest (place o) (tree m (pairs o) f))) (sym (row.says o m f (z i d h))))
          (g.fills o m f z)) e

  pub loop_ends : {cells : List ℕ} {refusal i : ℕ} (k : Sort) → rows_of k.kind ≡ as_rows coded → ((f : Forest) → Sorted k f → Fed features coded f) → Going s base table count features coded before cells refusal i → length coded ≤ i → AllRowed s base table count k before cells refusal
  unfolding refusal_of cells_of kept_in
  loop_ends {cells} {refusal} {i} k e fed g h = record { refusal = refuses; cells = fills }
    where
      refuses : (h : Held s base table count) (m : Bytes) (f : Forest) → Sorted k f → refusal ≡ refusal_of (rows_of k.kind) (tree m (pairs h) f)
      refuses o m f z = sym (first_zero refusal) ∙ ap (λ (l : List Row). first refusal (refusal_of l (tree m (pairs o) f))) (sym (no_row coded i h)) ∙ g.refuses o m f (fed f z) ∙ ap (λ (l : List Row). refusal_of l (tree m (pairs o) f)) (sym e)

      fills : (h : Held s base table count) (m : Bytes) (f : Forest) → Sorted k f → cells ≡ cells_of (kept_in (rows_of k.kind) (place h) (tree m (pairs h) f)) ++ drop (3 * length (rows_of k.kind)) before
      fills o m f z =
          let x = g.fills o m f (fed f z) in
          let u = g.upto in
          let len : length (rows_of k.kind) ≡ length coded = ap length e ∙ length_rows coded in
          let w : 3 * i ≡ 3 * length (rows_of k.kind) = omega arith in
          let all : x.front ≡ cells_of (kept_in (rows_of k.kind) (place o) (tree m (pairs o) f)) = sym (append-nil x.front) ∙ ap (λ (l : List Row). x.front ++ cells_of (kept_in l (place o) (tree m (pairs o) f))) (sym (no_row coded i h)) ∙ x.joined ∙ ap (λ (l : List Row). cells_of (kept_in l (place o) (tree m (pairs o) f))) (sym e) in
          x.are ∙ ap (λ (l : List ℕ). l ++ drop (3 * i) before) all ∙ ap (λ (j : ℕ). cells_of (kept_in (rows_of k.kind) (place o) (tree m (pairs o) f)) ++ drop j before) w
