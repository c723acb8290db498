-- What writing a message promises.
use Rattle.std.specs.Prelude.{◌≡◌, ◌++◌, cond, ℕ, length, drop, eqb, leb}
use Rattle.grammar.specs.Bytes.{Bytes}
use Rattle.table.specs.Table.{is_kind}
use Rattle.message.specs.declared.cells.Message.{Message}
use Rattle.meant.specs.Meant.{refusal_of}
use Rattle.meant.specs.Written.{written_of}
use Rattle.meant.specs.declared.Written.{Written}

abbrev pub refused_by : ℕ → Written
refused_by n = record { refusal = n; count = 0 }

-- "In sending, 4, 5, 6 in table order, then 8, then 7": of 8 here only "kind 0 can't be sent (8)" and numbers that are no kind. A message of the
-- kind k with that refusal, the bytes w and that much room
abbrev pub answer_by : ℕ → ℕ → Bytes → ℕ → Written
answer_by k refusal w room =
    cond (eqb refusal 0)
    (cond (is_kind k) (cond (leb (length w) room) (record { refusal = 0; count = length w }) (refused_by 7)) (refused_by 8))
    (refused_by refusal)

-- "reply or message first, rest kept"; "every refusal keeps record and buffer"
abbrev pub buffer_by : ℕ → ℕ → Bytes → Bytes → Bytes
buffer_by k refusal w old = cond (eqb refusal 0) (cond (is_kind k) (cond (leb (length w) (length old)) (w ++ drop (length w) old) old) old) old

unfoldable pub answer_of : Message → Bytes → ℕ → Written
answer_of m texts room = answer_by m.kind (refusal_of m texts) (written_of m texts) room

unfoldable pub buffer_of : Message → Bytes → Bytes → Bytes
buffer_of m texts old = buffer_by m.kind (refusal_of m texts) (written_of m texts) old

pub record Writes (m : Message) (texts old new : Bytes) (r : Written) : Type 0 where
  pub answer : r ≡ answer_of m texts (length old)
  pub buffer : new ≡ buffer_of m texts old
