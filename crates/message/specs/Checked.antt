-- What `check` promises.
use Rattle.value.specs.declared.text.Span.{Span}
use Rattle.std.specs.Prelude.{◌≡◌, List, [], ◌∷◌, cond, ℕ, ◌+◌, ◌-◌, length, take, drop, eqb, Option, Some, None}
use Rattle.grammar.specs.Bytes.{Bytes, same}
use Rattle.grammar.specs.Value.{spell_value}
use Rattle.grammar.specs.Attribute.{Attribute}
use Rattle.grammar.specs.Tree.{Tree}
use Rattle.grammar.specs.Message.{Layout, Laid, read_layout}
use Rattle.grammar.specs.Answer.{Answers, ends_at, more_from, malformed_at, too_long_from}
use Rattle.grammar.specs.Places.{value_at, value_end, child_of as inner, tag_in, lead}
use Rattle.table.specs.Table.{Entry, table}
use Rattle.table.specs.Says.{child_of, rows_for, said_in}
use Rattle.message.specs.Fields.{fields_in}
use Rattle.message.specs.Cells.{NUMBERS}
use Rattle.message.specs.Messages.{message_from, blank, message_by}
use Rattle.message.specs.declared.cells.Message.{Message}
use Rattle.message.specs.declared.checking.Checked.{Checked}
use Rattle.message.specs.declared.checking.Found.{Found}

-- where the raw value of the attribute n stands, of attributes that stand from `at` on
unfoldable pub place_of : ℕ → List Attribute → Bytes → Option Span
place_of at [] n = None
place_of at (a ∷ l) n = cond (same n a.name) (Some (record { start = value_at at a; len = length (spell_value a.value) })) (place_of (value_end at a + 1) l n)

-- an answer without a message: 1, 2 or 3
abbrev pub unread : ℕ → ℕ → ℕ → Checked
unread n start place = record { refusal = n; start = start; end = 0; place = place; message = blank 0 }

-- the message of an element of kind k, read as t, in which `place` tells where the raw values stand
abbrev pub message_in : List Entry → ℕ → (Bytes → Option Span) → Tree → Message
message_in by k place t = message_from k (fields_in (rows_for by k t) place t)

abbrev pub message_of : ℕ → (Bytes → Option Span) → Tree → Message
message_of k place t = message_in table k place t

-- a message from start to end, whose root's child is of kind k, is refused by n or not, and says m
abbrev pub judged_to : ℕ → ℕ → ℕ → ℕ → Message → Checked
judged_to start end k n m = record { refusal = n; start = start; end = end; place = 0; message = cond (eqb n 0) m (blank k) }

-- where the raw values of the root's child stand, in a message laid out as l that starts at `start`
abbrev pub places_in : ℕ → Layout → Bytes → Option Span
places_in start l = place_of (start + length (lead l) + length (tag_in (inner l)).name) (tag_in (inner l)).attributes

-- of a message laid out as l from start to end: what its reading says by a table, and where its texts stand
abbrev pub checked_in : List Entry → ℕ → ℕ → Layout → Checked
checked_in by start end l = judged_to start end (said_in by (read_layout l)).kind (said_in by (read_layout l)).refusal (message_in by (said_in by (read_layout l)).kind (places_in start l) (child_of (read_layout l)))

abbrev pub checked_as : ℕ → ℕ → Layout → Checked
checked_as start end l = checked_in table start end l

-- by a given table, and by the one of document 01
pub data ChecksBy (by : List Entry) (s : Bytes) (r : Checked) : Type 0 where
  ends : (start end : ℕ) → Answers s (ends_at start end) → (l : Layout) → Laid (take (end - start) (drop start s)) l → r ≡ checked_in by start end l → ChecksBy by s r
  more : (start : ℕ) → Answers s (more_from start) → r ≡ unread 1 start 0 → ChecksBy by s r
  malformed : (start place : ℕ) → Answers s (malformed_at start place) → r ≡ unread 2 start place → ChecksBy by s r
  too_long : (start : ℕ) → Answers s (too_long_from start) → r ≡ unread 3 start 0 → ChecksBy by s r

abbrev pub Checks : Bytes → Checked → Type 0
Checks s r = ChecksBy table s r

-- what is found without its message, with the message that the cells and the id are
abbrev pub handed_by : Found → List ℕ → Checked
handed_by r cells = record { refusal = r.refusal; start = r.start; end = r.end; place = r.place; message = message_by r.kind cells r.id }

-- it is what checking hands out
pub record ChecksInto (s : Bytes) (cells : List ℕ) (r : Found) : Type 0 where
  pub checks : Checks s (handed_by r cells)
  pub long : length cells ≡ NUMBERS
