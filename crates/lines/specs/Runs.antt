-- How the listing program works through an input by windows.
use Rattle.std.specs.Prelude.{◌≡◌, List, [], ◌∷◌, ◌++◌, Bool, true, false, ℕ, ◌+◌, drop}
use Rattle.grammar.specs.Bytes.{Bytes}
use Rattle.lines.specs.Lines.{MessageLine, LastLine}
use Rattle.lines.specs.Step.{ListStep}
use Rattle.lines.specs.declared.Listed.TheVariants.{Line, Drop, End}

-- `last` is said only where nothing is to come
abbrev pub Told : Bool → Bytes → Type 0
Told last rest = last ≡ true → rest ≡ []

-- n bytes are dropped, `window` is held and `rest` is to come: a way to go on to the end, and the lines it prints.
-- "Bytes count from the input's start": what a step shows is counted from the window's first byte, so n is added.
pub data Run : ℕ → Bytes → Bytes → List MessageLine → LastLine → Type 0 where
  -- some of what is to come is read
  run_read : {n : ℕ} {window rest : Bytes} {l : List MessageLine} {z : LastLine} (more later : Bytes) → rest ≡ more ++ later → Run n (window ++ more) later l z → Run n window rest l z
  -- a line is printed, and its message dropped
  run_line : {n : ℕ} {window rest : Bytes} {l : List MessageLine} {y : MessageLine} {z : LastLine} (last : Bool) (start end kind refusal : ℕ) → Told last rest → ListStep window last (Line start end kind refusal)
      → y ≡ record { start = n + start; end = n + end; kind = kind; refusal = refusal } → Run (n + end) (drop end window) rest l z → Run n window rest (y ∷ l) z
  -- the glue is dropped
  run_drop : {n : ℕ} {window rest : Bytes} {l : List MessageLine} {z : LastLine} (glue : ℕ) → ListStep window false (Drop glue) → Run (n + glue) (drop glue window) rest l z → Run n window rest l z
  -- the last line is printed
  run_end : {n : ℕ} {window rest : Bytes} {z : LastLine} (last : Bool) (place answer : ℕ) → Told last rest → ListStep window last (End place answer) → z ≡ record { place = n + place; answer = answer } → Run n window rest [] z
