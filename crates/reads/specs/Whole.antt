-- What `check_cells` promises.
use Rattle.std.specs.Prelude.{◌≡◌, List, ◌++◌, ℕ, ◌-◌, ◌*◌, ◌≤◌, length, take, drop, Result, Ok, Err}
use Rattle.grammar.specs.Bytes.{Bytes}
use Rattle.grammar.specs.Limits.{ATTRIBUTES}
use Rattle.grammar.specs.Message.{Layout, Laid, read_layout}
use Rattle.grammar.specs.Answer.{Answers, ends_at, more_from, malformed_at, too_long_from}
use Rattle.reader.specs.Answer.{Outlined}
use Rattle.reader.specs.declared.answer.Sketch.{Sketch}
use Rattle.reader.specs.declared.answer.Unread.{Unread}
use Rattle.reader.specs.declared.answer.Unread.TheVariants.{More as Begun, Malformed as Dead, TooLong as Over}
use Rattle.table.specs.Table.{rows_of}
use Rattle.table.specs.Says.{child_of, said_of}
use Rattle.message.specs.Checked.{places_in}
use Rattle.message.specs.Cells.{cells_of}
use Rattle.reads.specs.Kept.{kept_in, Sorts}
use Rattle.reads.specs.declared.features.Sort.{Sort}
use Rattle.reads.specs.declared.whole.Outcome.{Outcome}

-- an outline of s, and the table that it was made with
pub record Sketched (s : Bytes) (table : List ℕ) (o : Result Sketch Unread) : Type 0 where
  pub before : List ℕ
  pub whole : length before ≡ 4 * ATTRIBUTES
  pub outlined : Outlined s before table o

-- the kind and the features of the child of its message, if there is one
abbrev pub SketchSorts : Bytes → Result Sketch Unread → Sort → Type 0
SketchSorts s (Ok o) k = Sorts s o.child.from o.child.to o.child.inside k
SketchSorts s (Err x) k = Unit {0}

pub record OutlineSorts (s : Bytes) (o : Result Sketch Unread) (k : Sort) : Type 0 where
  pub says : SketchSorts s o k

-- its child's name stands in s
abbrev pub SketchIn : Bytes → Result Sketch Unread → Type 0
SketchIn s (Ok o) = (o.child.from ≤ o.child.to) × (o.child.to ≤ length s)
SketchIn s (Err x) = Unit {0}

pub record OutlineIn (s : Bytes) (o : Result Sketch Unread) : Type 0 where
  pub within : SketchIn s o

abbrev pub outcome_of : ℕ → ℕ → ℕ → ℕ → ℕ → Outcome
outcome_of n k start end place = record { refusal = n; kind = k; start = start; end = end; place = place }

-- of an answer without a message
abbrev pub without_message : Unread → Outcome
without_message (Begun start) = outcome_of 1 0 start 0 0
without_message (Dead start place) = outcome_of 2 0 start 0 place
without_message (Over start) = outcome_of 3 0 start 0 0

-- of a message laid out as l that starts at `start`: the cells of its kind's rows in front of what was there
abbrev pub cells_in : ℕ → Layout → List ℕ → List ℕ
cells_in start l before = cells_of (kept_in (rows_of (said_of (read_layout l)).kind) (places_in start l) (child_of (read_layout l))) ++ drop (3 * length (rows_of (said_of (read_layout l)).kind)) before

pub data CellsChecked (s : Bytes) (before after : List ℕ) (r : Outcome) : Type 0 where
  ends : (start end : ℕ) → Answers s (ends_at start end) → (l : Layout) → Laid (take (end - start) (drop start s)) l → r ≡ outcome_of (said_of (read_layout l)).refusal (said_of (read_layout l)).kind start end 0 → after ≡ cells_in start l before → CellsChecked s before after r
  more : (start : ℕ) → Answers s (more_from start) → r ≡ outcome_of 1 0 start 0 0 → after ≡ before → CellsChecked s before after r
  malformed : (start place : ℕ) → Answers s (malformed_at start place) → r ≡ outcome_of 2 0 start 0 place → after ≡ before → CellsChecked s before after r
  too_long : (start : ℕ) → Answers s (too_long_from start) → r ≡ outcome_of 3 0 start 0 0 → after ≡ before → CellsChecked s before after r
