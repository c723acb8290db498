-- The whole message, piece by piece; and each answer of writing.
use mathlib.Core.Path.{◌≡◌, refl, sym, ap, ◌∙◌}
use mathlib.Core.List.{List, [], ◌∷◌, ◌++◌, append_assoc, append-nil}
use mathlib.Core.Bool.{Bool, true, false, ◌&&◌}
use Prim.Native.Nat.{ℕ, ◌+◌, ◌-◌, ◌*◌, ◌%◌, ◌≤◌, ◌<◌}
use native.Mathlib.Omega.{arith}
use lib.ListN.{length, take, drop, get_or}
use lib.Dec.{eqb, leb}
use borrow.Author.Tests.{leb-true, eq-eqb, ne_eqb, le-leb, lt-leb}
use Rattle.grammar.specs.Bytes.{Bytes, text, same}
use Rattle.model.specs.Tests.{and_left, and_right, same_true}
use Rattle.printing.specs.Put.{Countable, Wrote}
use Rattle.printing.specs.Writes.{put_starts}
use Rattle.printing.proofs.PieceLaws.{Made}
use Rattle.table.specs.Table.{Row, table, is_kind, rows_of}
use Rattle.table.specs.Theorems.{on_kinds, each_kind}
use Rattle.message.specs.Cells.{fields_from}
use Rattle.meant.specs.Meant.{meant_of}
use Rattle.meant.specs.Written.{closed, children_of, name_of}
use Rattle.meant.proofs.MessageLaws.{refusal_table, written_by_table}
use Rattle.meant.proofs.SizeLaws.{LARGEST, message_long, most_largest}
use Rattle.rows.specs.Coding.{as_rows, Enters, NoEntry}
use Rattle.rows.specs.declared.data.Entry.{Entry}
use Rattle.writes.specs.Rows.{start_tag, refusal_from, attributes_from, children_from, written_from, CellsWritten}
use Rattle.meant.specs.Writes.{refused_by}
use Rattle.writes.proofs.StepLaws.{children_same}

-- the pieces
regroup : (n a c e : Bytes) → start_tag (n ++ (a ++ c)) ++ e ≡ start_tag n ++ (a ++ (c ++ (e ++ [])))
regroup n a c e = ap start_tag (append_assoc n (a ++ c) e ∙ ap (λ (y : Bytes). n ++ y) (append_assoc a c e ∙ ap (λ (y : Bytes). a ++ (c ++ y)) (sym (append-nil e))))

pub message_is : (k : ℕ) (cells : List ℕ) (id texts : Bytes) {e : Entry} → Enters k e → Made (written_from k cells id texts) (text "<Hermes>" ∷ start_tag e.name.now ∷ attributes_from (as_rows e.rows.now) 0 cells id texts ∷ closed e.name.now (children_from (as_rows e.rows.now) 0 cells) ∷ text "</Hermes>" ∷ [])
unfolding written_from attributes_from
message_is k cells id texts {e} h = record {
  is =
      written_by_table k (fields_from (rows_of k) 0 cells id) texts
      ∙ ap (λ (y : Bytes). text "<Hermes>" ++ y)
      (regroup (name_of k) (attributes_from (rows_of k) 0 cells id texts) (closed (name_of k) (children_of (rows_of k) (fields_from (rows_of k) 0 cells id))) (text "</Hermes>")
      ∙ ap (λ (y : Bytes). start_tag (name_of k) ++ (attributes_from (rows_of k) 0 cells id texts ++ (closed (name_of k) y ++ (text "</Hermes>" ++ [])))) (children_same (rows_of k) 0 cells id)
      ∙ ap (λ (l : List Row). start_tag (name_of k) ++ (attributes_from l 0 cells id texts ++ (closed (name_of k) (children_from l 0 cells) ++ (text "</Hermes>" ++ [])))) h.rows.all
      ∙ ap (λ (n : Bytes). start_tag n ++ (attributes_from (as_rows e.rows.now) 0 cells id texts ++ (closed n (children_from (as_rows e.rows.now) 0 cells) ++ (text "</Hermes>" ++ [])))) h.name);
}

-- each answer
module _ (k : ℕ) (cells : List ℕ) (id texts : Bytes) where
  -- by the rows of the kind's entry
  pub of_entry : {e : Entry} → Enters k e → {r : ℕ} → r ≡ refusal_from (as_rows e.rows.now) 0 cells id texts → r ≡ refusal_from (rows_of k) 0 cells id texts
  of_entry h q = q ∙ sym (ap (λ (l : List Row). refusal_from l 0 cells id texts) h.rows.all)

  pub small : {r : ℕ} → r ≡ refusal_from (rows_of k) 0 cells id texts → r ≡ 0 → is_kind k ≡ true → length (written_from k cells id texts) ≤ LARGEST
  unfolding written_from refusal_from
  small e z i =
      let x = message_long table k (fields_from (rows_of k) 0 cells id) texts (refusal_table k (fields_from (rows_of k) 0 cells id) texts ∙ sym e ∙ z) in
      let y = most_largest k i in
      omega arith

  pub countable : {r : ℕ} → r ≡ refusal_from (rows_of k) 0 cells id texts → r ≡ 0 → is_kind k ≡ true → Countable 0 (written_from k cells id texts)
  countable e z i = let x = small e z i in omega arith

  pub is_refused : (old : Bytes) {r : ℕ} → r ≡ refusal_from (rows_of k) 0 cells id texts → (r ≡ 0 → ⊥) → CellsWritten k cells id texts old old (refused_by r)
  is_refused old e n =
      let f : eqb (refusal_from (rows_of k) 0 cells id texts) 0 ≡ false = ne_eqb (refusal_from (rows_of k) 0 cells id texts) 0 (λ z. n (e ∙ z)) in
      record { answer = rw f (ap refused_by e); buffer = rw f refl }

  module _ (old : Bytes) {r : ℕ} (e : r ≡ refusal_from (rows_of k) 0 cells id texts) (z : r ≡ 0) where
    good : eqb (refusal_from (rows_of k) 0 cells id texts) 0 ≡ true
    good = eq-eqb (refusal_from (rows_of k) 0 cells id texts) 0 (sym e ∙ z)

    pub no_room_case : is_kind k ≡ true → {n : ℕ} → n ≡ 0 + length (written_from k cells id texts) → length old < n → CellsWritten k cells id texts old old (refused_by 7)
    no_room_case f {n} q h =
        let l : leb (length (written_from k cells id texts)) (length old) ≡ false = lt-leb (length (written_from k cells id texts)) (length old) (omega arith) in
        record { answer = rw (good, f, l) refl; buffer = rw (good, f, l) refl }

    pub is_written : is_kind k ≡ true → {n : ℕ} {new : Bytes} → length (written_from k cells id texts) ≤ length old → Wrote old 0 (written_from k cells id texts) new n → CellsWritten k cells id texts old new (record { refusal = 0; count = n })
    is_written f {n} {new} h w =
        let l : leb (length (written_from k cells id texts)) (length old) ≡ true = le-leb (length (written_from k cells id texts)) (length old) h in
        let j : n ≡ length (written_from k cells id texts) = let x = w.next in omega arith in
        record { answer = rw (good, f, l) (ap (λ (n : ℕ). record { refusal = 0; count = n }) j); buffer = rw (good, f, l) (w.bytes ∙ put_starts old (written_from k cells id texts) h) }

  pub no_entry : (old : Bytes) → NoEntry k → CellsWritten k cells id texts old old (refused_by 8)
  unfolding refusal_from fields_from meant_of
  no_entry old n =
      let z : refusal_from (rows_of k) 0 cells id texts ≡ 0 = ap (λ (l : List Row). refusal_from l 0 cells id texts) n.rows in
      let g : eqb (refusal_from (rows_of k) 0 cells id texts) 0 ≡ true = eq-eqb _ 0 z in
      record { answer = rw (g, n.kind) refl; buffer = rw (g, n.kind) refl }
