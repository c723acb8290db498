-- What the program's contracts cite: the bytes that a step prints, and what of the output is handed to the system.
use Rattle.std.specs.Prelude.{ℕ, ◌+◌, ◌%◌, ◌^◌, ◌≤◌, Bool, true, false, cond, List, [], ◌∷◌, length, take, nat_le}
use Rattle.grammar.specs.Bytes.{Bytes}
use Rattle.printing.specs.Put.{Wrote}
use Rattle.lines.specs.Lines.{MessageLine, LastLine, line_from, last_from}
use Rattle.lines.specs.Text.{line_text, last_text}
use Rattle.lines.specs.declared.Listed.{Listed}
use Rattle.lines.specs.declared.Listed.TheVariants.{Line, Drop, End}

-- "Bytes count from the input's start", in 64 bits
abbrev pub in64 : ℕ → ℕ
in64 n = n % 2 ^ 64

abbrev pub line_in64 : MessageLine → MessageLine
line_in64 l = record { start = in64 l.start; end = in64 l.end; kind = l.kind; refusal = l.refusal }

abbrev pub lines_in64 : List MessageLine → List MessageLine
lines_in64 [] = []
lines_in64 (l ∷ ls) = line_in64 l ∷ lines_in64 ls

abbrev pub last_in64 : LastLine → LastLine
last_in64 z = record { place = in64 z.place; answer = z.answer }

-- the lines of a window that stands behind `base` bytes
abbrev pub line_printed : ℕ → ℕ → ℕ → ℕ → ℕ → Bytes
line_printed base start end kind refusal = line_text (line_in64 (line_from base (record { start = start; end = end; kind = kind; refusal = refusal })))

abbrev pub last_printed : ℕ → ℕ → ℕ → Bytes
last_printed base place answer = last_text (last_in64 (last_from base (record { place = place; answer = answer })))

-- what a step prints
abbrev pub step_printed : ℕ → Listed → Bytes
step_printed base (Line start end kind refusal) = line_printed base start end kind refusal
step_printed base (Drop glue) = []
step_printed base (End place answer) = last_printed base place answer

-- m is written at `at` and all of it fits: r bytes are there then
pub record Printed (old : Bytes) (at : ℕ) (m new : Bytes) (r : ℕ) : Type 0 where
  pub wrote : Wrote old at m new r
  pub inside : r ≤ length new

-- what a line takes at most
abbrev pub LINE : ℕ
LINE = 88

-- there is room for a line behind what waits, the first `at` bytes of a buffer
abbrev pub roomy : ℕ → ℕ → Bool
roomy size at = nat_le (at + LINE) size

-- where there is none, and before more of the input is waited for, what waits is handed to the system
abbrev pub handed : Bool → Bytes → ℕ → Bytes
handed true out at = take at out
handed false out at = cond (roomy (length out) at) [] (take at out)

-- how much waits then
abbrev pub left : Bool → ℕ → ℕ → ℕ
left true size at = 0
left false size at = cond (roomy size at) at 0
