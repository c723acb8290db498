-- Cells are refused and written as the message that they are.
use mathlib.Core.Path.{◌≡◌, refl, sym, ap, ◌∙◌}
use mathlib.Core.List.{List}
use Prim.Native.Nat.{ℕ}
use lib.ListN.{length}
use Rattle.grammar.specs.Bytes.{Bytes}
use Rattle.table.specs.Table.{rows_of}
use Rattle.message.specs.Messages.{fields_of, message_by}
use Rattle.meant.specs.Meant.{refusal_of}
use Rattle.meant.specs.Written.{written_of}
use Rattle.meant.proofs.MessageLaws.{refusal_table}
use Rattle.writes.specs.Rows.{refusal_from, written_from, CellsWritten}
use Rattle.meant.specs.Writes.{answer_by, buffer_by, answer_of, buffer_of, Writes}
use Rattle.meant.specs.declared.Written.{Written}

module _ (k : ℕ) (cells : List ℕ) (id texts : Bytes) where
  pub cells_refused : refusal_from (rows_of k) 0 cells id texts ≡ refusal_of (message_by k cells id) texts
  unfolding refusal_from fields_of
  cells_refused = sym (refusal_table k (fields_of (message_by k cells id)) texts)

  cells_written : written_from k cells id texts ≡ written_of (message_by k cells id) texts
  unfolding written_from fields_of
  cells_written = refl

  pub cells_write : {old new : Bytes} {r : Written} → CellsWritten k cells id texts old new r → Writes (message_by k cells id) texts old new r
  unfolding answer_of buffer_of
  cells_write {old} w = record {
    answer = w.answer ∙ ap (λ (n : ℕ). answer_by k n (written_from k cells id texts) (length old)) cells_refused ∙ ap (λ (v : Bytes). answer_by k (refusal_of (message_by k cells id) texts) v (length old)) cells_written;
    buffer = w.buffer ∙ ap (λ (n : ℕ). buffer_by k n (written_from k cells id texts) old) cells_refused ∙ ap (λ (v : Bytes). buffer_by k (refusal_of (message_by k cells id) texts) v old) cells_written;
  }
