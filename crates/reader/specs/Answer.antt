-- What reading promises: the four answers of the paper, and of a message where its root's child stands.
use Rattle.std.specs.Prelude.{◌≡◌, List, ◌++◌, ℕ, ◌+◌, ◌-◌, ◌*◌, ◌≤◌, ◌<◌, length, take, drop, Result, Ok, Err}
use Rattle.grammar.specs.Bytes.{Bytes}
use Rattle.grammar.specs.Limits.{ATTRIBUTES, MESSAGE}
use Rattle.grammar.specs.Message.{Layout, Laid}
use Rattle.grammar.specs.Answer.{Answer as PaperAnswer, ends_at, more_from, malformed_at, too_long_from, Answers}
use Rattle.tags.specs.Places.{places}
use Rattle.grammar.specs.Places.{child_of, tag_in, lead, Outlines}
use Rattle.reader.specs.declared.answer.Answer.{Answer}
use Rattle.reader.specs.declared.answer.Answer.TheVariants.{Ends, More, Malformed, TooLong}
use Rattle.reader.specs.declared.answer.Unread.{Unread}
use Rattle.reader.specs.declared.answer.Unread.TheVariants.{More as Begun, Malformed as Dead, TooLong as Over}
use Rattle.reader.specs.declared.answer.Sketch.{Sketch}

-- "When an answer is an enum, a definition states this paper's number and values for each of its cases."
abbrev pub paper : Answer → PaperAnswer
paper (Ends start end) = ends_at start end
paper (More start) = more_from start
paper (Malformed start place) = malformed_at start place
paper (TooLong start) = too_long_from start

-- the same of the answers without a message
abbrev pub unread : Unread → PaperAnswer
unread (Begun start) = more_from start
unread (Dead start place) = malformed_at start place
unread (Over start) = too_long_from start

-- all that is left, but no more than a message may have
pub record AtMost (left r : ℕ) : Type 0 where
  pub within : r ≤ left
  pub small : r ≤ MESSAGE
  pub all : r < MESSAGE → r ≡ left

-- the message from start to end is laid out so; its root's child stands there; in a table that is lent for its attributes their places, counted from
-- `to`, stand first, and the rest of it is as it was
pub record Accepted (s : Bytes) (start end : ℕ) (from to count inside : ℕ) (old new : List ℕ) : Type 0 where
  pub layout : Layout
  pub laid : Laid (take (end - start) (drop start s)) layout
  pub lines : Outlines (start + length (lead layout)) (child_of layout) from to count inside
  pub table : length old ≡ 4 * ATTRIBUTES → new ≡ places 0 (tag_in (child_of layout)).attributes ++ drop (4 * length (tag_in (child_of layout)).attributes) old

-- a message, and its root's child
pub record Sketches (s : Bytes) (old new : List ℕ) (r : Sketch) : Type 0 where
  pub answers : Answers s (ends_at r.start r.end)
  pub accepted : Accepted s r.start r.end r.child.from r.child.to r.child.count r.child.inside old new

-- without a message the table is scratch: nothing is said of it
abbrev pub OutlineCase : Bytes → List ℕ → List ℕ → Result Sketch Unread → Type 0
OutlineCase s old new (Ok r) = Sketches s old new r
OutlineCase s old new (Err x) = Answers s (unread x)

pub record Outlined (s : Bytes) (old new : List ℕ) (r : Result Sketch Unread) : Type 0 where
  pub says : OutlineCase s old new r
