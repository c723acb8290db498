-- What the program hands to the system is the text of the whole input's listing.
use Rattle.std.specs.Prelude.{◌≡◌, List, [], ◌++◌, true, ℕ, ◌+◌, length, take}
use Rattle.grammar.specs.Bytes.{Bytes}
use Rattle.lines.specs.Lines.{MessageLine, LastLine}
use Rattle.lines.specs.Text.{lines_text}
use Rattle.lines.specs.Runs.{Run}
use Rattle.windows.specs.Held.{bytes_of}
use Rattle.windows.specs.Printed.{in64, lines_in64}
use Rattle.listing.specs.Turns.{At}

-- how many bytes are held
abbrev pub holds : At → ℕ
holds a = length (bytes_of a.window a.buf)

-- after some turns: of the bytes read, n are dropped and the others held, and `lines` are printed. The window's base is n; what was handed
-- out and what waits is their text; and a run that goes on from the window makes a run from the start. `rest` is to come: nothing, if
-- the input has ended
pub record Sofar (input given : Bytes) (a : At) : Type 0 where
  pub n : ℕ
  pub lines : List MessageLine
  pub count : n + holds a ≡ length input
  pub base : a.window.base ≡ in64 n
  pub texts : given ++ take a.waiting a.out ≡ lines_text (lines_in64 lines)
  pub goes : (rest : Bytes) (l : List MessageLine) (z : LastLine) → (a.window.last ≡ true → rest ≡ []) → Run n (bytes_of a.window a.buf) rest l z → Run 0 [] (input ++ rest) (lines ++ l) z
