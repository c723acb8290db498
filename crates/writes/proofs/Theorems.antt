-- The theorems of the crate, for a reader to find: no second answer, and what is written for cells reads back.
use mathlib.Core.Path.{◌≡◌, sym, ◌∙◌}
use mathlib.Core.List.{List}
use mathlib.Core.Bool.{true}
use Prim.Native.Nat.{ℕ}
use Rattle.grammar.specs.Bytes.{Bytes}
use Rattle.grammar.specs.Tree.{Tree}
use Rattle.grammar.specs.Message.{Message as IsMessage}
use Rattle.table.specs.Table.{is_kind, rows_of}
use Rattle.table.specs.Says.{said_of}
use Rattle.message.specs.Cells.{fields_from}
use Rattle.message.specs.declared.cells.Message.{Message}
use Rattle.meant.specs.Meant.{meant_of, refusal_of}
use Rattle.meant.proofs.MessageLaws.{refusal_table, message_back}
use Rattle.writes.specs.Rows.{refusal_from, written_from, CellsWritten}
use Rattle.meant.specs.Writes.{Writes}
use Rattle.meant.specs.declared.Written.{Written}

-- no second result, and no other buffer, satisfies the promise of `write`
pub write_only : {m : Message} {texts old new new' : Bytes} {r r' : Written} → Writes m texts old new r → Writes m texts old new' r' → (r ≡ r') × (new ≡ new')
write_only p q = (p.answer ∙ sym q.answer, p.buffer ∙ sym q.buffer)

-- nor that of `write_cells`
pub cells_only : {k : ℕ} {cells : List ℕ} {id texts old new new' : Bytes} {r r' : Written} → CellsWritten k cells id texts old new r → CellsWritten k cells id texts old new' r' → (r ≡ r') × (new ≡ new')
cells_only p q = (p.answer ∙ sym q.answer, p.buffer ∙ sym q.buffer)

-- no second number satisfies the promise of `refusal_of`
pub refusal_only : (m : Message) (texts : Bytes) {r r' : ℕ} → r ≡ refusal_of m texts → r' ≡ refusal_of m texts → r ≡ r'
refusal_only m texts e f = e ∙ sym f

-- T2.W2 of cells: what is written reads back as the message that they are
pub cells_read_back : (k : ℕ) (cells : List ℕ) (id texts : Bytes) → is_kind k ≡ true → refusal_from (rows_of k) 0 cells id texts ≡ 0
    → (t : Tree)
    × IsMessage (written_from k cells id texts) t
    × ((said_of t).kind ≡ k)
    × ((said_of t).refusal ≡ 0)
    × ((said_of t).values ≡ meant_of (rows_of k) (fields_from (rows_of k) 0 cells id) texts)
unfolding written_from refusal_from
cells_read_back k cells id texts i h = let x = message_back k (fields_from (rows_of k) 0 cells id) texts i (refusal_table k (fields_from (rows_of k) 0 cells id) texts ∙ h) in (x.reading, x.is_message, x.kind, x.refusal, x.values)
