-- The line that tells what decided over a message: `why`, the row, whether its attribute is there, where its raw value starts in the input, and its length.
use Rattle.value.specs.declared.text.Span.{Span}
use Rattle.std.specs.Prelude.{◌≡◌, ◌++◌, false, ℕ, ◌+◌, ◌≤◌, length, Option, Some, None}
use Prim.Native.Char.{code}
use Rattle.grammar.specs.Bytes.{Bytes, text}
use Rattle.lines.specs.Text.{LF, column}
use Rattle.windows.specs.Held.{bytes_of, Turned}
use Rattle.windows.specs.Printed.{in64, Printed, left}
use Rattle.windows.specs.declared.output.Room.{Room}
use Rattle.windows.specs.declared.turn.Stand.{Stand}
use Rattle.windows.specs.declared.window.Window.{Window}
use Rattle.decides.specs.Deciding.{Decides}
use Rattle.decides.specs.declared.Decision.{Decision}
use Rattle.why.specs.declared.Place.{Place}

unfoldable pub reason_text : ℕ → ℕ → ℕ → ℕ → Bytes
reason_text row there start len = text "why " ++ column row (code " ") ++ column there (code " ") ++ column start (code " ") ++ column len LF

-- the value of a row: absent, or where it stands
abbrev pub value_text : ℕ → ℕ → Option Span → Bytes
value_text base row None = reason_text row 0 0 0
value_text base row (Some p) = reason_text row 1 (in64 (base + p.start)) p.len

-- in a window that stands behind `base` bytes
abbrev pub why_text : ℕ → Decision → Bytes
why_text base d = value_text base d.row d.value

-- the line of what decides over the message that stands first in the window w
pub record Explained (b : Bytes) (w : Window) (old : Bytes) (waiting : ℕ) (new : Bytes) (r : ℕ) : Type 0 where
  pub decision : Decision
  pub decides : Decides (bytes_of w b) decision
  pub printed : Printed old waiting (why_text w.base decision) new r

-- behind a line: nothing where the message is accepted, and else that line, behind what waits where there was room
pub record Behind (b : Bytes) (w : Window) (refusal : ℕ) (old : Bytes) (waiting : ℕ) (new : Bytes) (r : Room) : Type 0 where
  pub none : refusal ≡ 0 → (new ≡ old) × (r.waiting ≡ waiting)
  pub some : (refusal ≡ 0 → ⊥) → Explained b w old (left false (length old) waiting) new r.waiting
  pub inside : r.waiting ≤ length new

-- a turn of the listing, and what is behind its line
pub record Stepped (b : Bytes) (w : Window) (old : Bytes) (waiting : ℕ) (new : Bytes) (r : Place) : Type 0 where
  pub out : Bytes
  pub stand : Stand
  pub room : Room
  pub turned : Turned b w old waiting out stand
  pub behind : Behind b w stand.refusal out stand.waiting new room
  pub waits : r.waiting ≡ room.waiting
  pub window : r.window ≡ stand.window
  pub done : r.done ≡ stand.done
