-- The theorems of the crate, for a reader to find: what is written is a message, reads back, and how long it gets.
use mathlib.Core.Path.{◌≡◌, refl}
use mathlib.Core.List.{List, [], ◌∷◌}
use mathlib.Core.Bool.{true}
use Prim.Native.Nat.{ℕ, ◌≤◌}
use native.Mathlib.Omega.{arith}
use lib.ListN.{length}
use Rattle.grammar.specs.Bytes.{Bytes}
use Rattle.grammar.specs.Limits.{MESSAGE}
use Rattle.grammar.specs.Name.{Name}
use Rattle.grammar.specs.Tree.{Tree}
use Rattle.grammar.specs.Message.{Message as IsMessage}
use Rattle.table.specs.Table.{Row, Entry, table, is_kind_in, is_kind, rows_of}
use Rattle.table.specs.Says.{present, an_int, a_text, said_in, said_of}
use Rattle.message.specs.Fields.{Field}
use Rattle.message.specs.Messages.{message_from, fields_of}
use Rattle.message.specs.declared.cells.Message.{Message}
use Rattle.meant.specs.Meant.{meant_of, first_in, meant_in, refused_in, refusal_of}
use Rattle.meant.specs.Written.{written_in, written_of}
use Rattle.meant.specs.Notices.{description, notice, notice_message}
use Rattle.meant.proofs.RowLaws.{good_rows}
use Rattle.meant.proofs.BuildLaws as built
use Rattle.meant.proofs.MessageLaws as messages
use Rattle.meant.proofs.SizeLaws as sizes
use Rattle.meant.proofs.LargestLaws as largest
use Rattle.meant.proofs.NoticeLaws as notices

-- an element of any rows: what is written is an element of its name, and each row reads as what its field meant
pub element_back : {d : ℕ} (n : Bytes) (rows : List Row) (fields : List Field) (texts : Bytes) → Name n → good_rows rows ≡ true → first_in (meant_of rows fields texts) ≡ 0
    → built.ReadsBack d n rows fields texts
element_back n rows fields texts h k z = built.element_back n rows fields texts h k z

-- by any sound table, what is written for fields of a kind reads back: its kind, no refusal, and each value
pub reads_back_in : (by : List Entry) → messages.sound_table by ≡ true → (k : ℕ) (fields : List Field) (texts : Bytes) → is_kind_in by k ≡ true → refused_in by k fields texts ≡ 0
    → (t : Tree)
    × IsMessage (written_in by k fields texts) t
    × ((said_in by t).kind ≡ k)
    × ((said_in by t).refusal ≡ 0)
    × ((said_in by t).values ≡ meant_in by k fields texts)
reads_back_in by s k fields texts i h = let x = messages.message_back_in by s k fields texts i h in (x.reading, x.is_message, x.kind, x.refusal, x.values)

-- T2.W2: "every message we write reads back as the message we meant": its kind, no refusal, and each value
pub reads_back : (m : Message) (texts : Bytes) → is_kind m.kind ≡ true → refusal_of m texts ≡ 0
    → (t : Tree)
    × IsMessage (written_of m texts) t
    × ((said_of t).kind ≡ m.kind)
    × ((said_of t).refusal ≡ 0)
    × ((said_of t).values ≡ meant_of (rows_of m.kind) (fields_of m) texts)
reads_back m texts i h = let x = messages.message_back m.kind (fields_of m) texts i h in (x.reading, x.is_message, x.kind, x.refusal, x.values)

-- its size at most, by the rows of its kind
pub written_most : (m : Message) (texts : Bytes) → refusal_of m texts ≡ 0 → length (written_of m texts) ≤ sizes.most_of m.kind
written_most m texts h = sizes.message_long table m.kind (fields_of m) texts h

-- kind for kind
pub most_each :
    (sizes.most_of 1 ≡ 693)
    × (sizes.most_of 2 ≡ 1609)
    × (sizes.most_of 3 ≡ 6438)
    × (sizes.most_of 4 ≡ 40)
    × (sizes.most_of 5 ≡ 542)
    × (sizes.most_of 6 ≡ 38)
    × (sizes.most_of 7 ≡ 112)
    × (sizes.most_of 8 ≡ 98)
    × (sizes.most_of 9 ≡ 102)
    × (sizes.most_of 10 ≡ 525)
    × (sizes.most_of 11 ≡ 6462)
unfolding table
most_each = (refl, refl, refl, refl, refl, refl, refl, refl, refl, refl, refl)

-- and whatever its kind
pub written_small : (m : Message) (texts : Bytes) → is_kind m.kind ≡ true → refusal_of m texts ≡ 0 → length (written_of m texts) ≤ sizes.LARGEST
written_small m texts i h = let x = written_most m texts h in let y = sizes.most_largest m.kind i in omega arith

-- which is reached
pub written_largest : (m : Message) × (texts : Bytes) × (refusal_of m texts ≡ 0) × (length (written_of m texts) ≡ sizes.LARGEST)
written_largest = (largest.largest_message, largest.quotes, largest.largest_sendable, largest.largest_long)

-- T2.W1: what is written is "a message of at most 65,536 bytes"
pub written_is_message : (m : Message) (texts : Bytes) → is_kind m.kind ≡ true → refusal_of m texts ≡ 0
    → (t : Tree) × IsMessage (written_of m texts) t × (length (written_of m texts) ≤ MESSAGE)
written_is_message m texts i h =
    let (t, x, k, r, v) = reads_back m texts i h in
    let l = written_small m texts i h in (t, x, omega arith)

-- the six Notifications are what is written for code 1, severity 1 and the description
pub notice_written : (n : ℕ) → notice n ≡ written_of (notice_message n) (description n)
notice_written n = notices.notice_written n

-- which sending does not refuse
pub notice_sendable : (n : ℕ) → refusal_of (notice_message n) (description n) ≡ 0
unfolding notice_message message_from
notice_sendable n = notices.notice_sendable n

-- T2.W3: and so they read back
pub notice_reads_back : (n : ℕ)
    → (t : Tree)
    × IsMessage (notice n) t
    × ((said_of t).kind ≡ 2)
    × ((said_of t).refusal ≡ 0)
    × ((said_of t).values ≡ present (an_int 1) ∷ present (an_int 1) ∷ present (a_text (description n)) ∷ [])
notice_reads_back n = let x = notices.notice_back n in (x.reading, x.is_message, x.kind, x.refusal, x.values)

-- their lengths
pub notice_lengths :
    (length (notice 2) ≡ 98)
    × (length (notice 3) ≡ 97)
    × (length (notice 4) ≡ 98)
    × (length (notice 5) ≡ 94)
    × (length (notice 6) ≡ 90)
    × (length (notice 9) ≡ 99)
unfolding notice description
notice_lengths = (refl, refl, refl, refl, refl, refl)
