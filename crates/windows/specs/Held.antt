-- What the program's contracts cite: the bytes that its window holds, and how a step moves it.
use Rattle.std.specs.Prelude.{◌≡◌, ℕ, ◌+◌, ◌-◌, ◌<◌, ◌≤◌, Bool, true, false, ◌||◌, ◌⊎◌, [], ◌∷◌, ◌++◌, length, take, drop, ◌==◌}
use Prim.Native.Char.{code}
use Rattle.grammar.specs.Bytes.{Bytes}
use Rattle.grammar.specs.Limits.{MESSAGE}
use Rattle.lines.specs.Step.{ListStep}
use Rattle.lines.specs.declared.Listed.{Listed}
use Rattle.lines.specs.declared.Listed.TheVariants.{Line, Drop, End}
use Rattle.windows.specs.Printed.{in64, step_printed, Printed}
use Rattle.windows.specs.declared.window.Window.{Window}
use Rattle.windows.specs.declared.window.Got.{Got}
use Rattle.windows.specs.declared.turn.Stand.{Stand}

-- at the start of an input
abbrev pub fresh : Window
fresh = record { base = 0; at = 0; len = 0; last = false; failed = false; dry = true }

-- the window lies in a buffer of n bytes, and there is room in it to read more where no message ends in what is held
pub record Held (w : Window) (n : ℕ) : Type 0 where
  pub front : w.at ≤ w.len
  pub back : w.len ≤ n
  pub room : w.dry ≡ true → w.len - w.at < MESSAGE

-- the bytes that it holds of a buffer
abbrev pub bytes_of : Window → Bytes → Bytes
bytes_of w b = take (w.len - w.at) (drop w.at b)

-- `>` is among the bytes
abbrev pub has_end : Bytes → Bool
has_end [] = false
has_end (b ∷ s) = b == (code ">") || has_end s

-- read behind the first `from` bytes: they are kept; where the input may go on, more came, with a `>` in it, or the size of a message is held
pub record Filled (from : ℕ) (old new : Bytes) (r : Got) : Type 0 where
  pub kept : take from new ≡ take from old
  pub upto : r.count ≤ length new
  pub from_on : from ≤ r.count
  pub on : r.last ≡ false → from < r.count
  pub asks : r.last ≡ false → (has_end (take (r.count - from) (drop from new)) ≡ true) ⊎ (MESSAGE ≤ r.count)

-- topped up: what was held, and behind it what was read; nothing is read where the input has ended, or where a message may end in what is held. Else
-- more is read: where the input may go on, a `>` came, or the size of a message is held
pub record ToppedUp (w : Window) (old : Bytes) (r : Window) (new : Bytes) : Type 0 where
  pub held : Held r (length new)
  pub more : Bytes
  pub bytes : bytes_of r new ≡ bytes_of w old ++ more
  pub base : r.base ≡ w.base
  pub on : w.dry ≡ true → r.last ≡ false → 0 < length more
  pub asks : w.dry ≡ true → r.last ≡ false → (has_end more ≡ true) ⊎ (MESSAGE ≤ r.len - r.at)
  pub waits : w.dry ≡ false → more ≡ []
  pub ended : w.last ≡ true → (r.last ≡ true) × (more ≡ [])

-- without its first n bytes: "Bytes count from the input's start", in 64 bits
abbrev pub without : Window → ℕ → Bool → Window
without w n dry = record { base = in64 (w.base + n); at = w.at + n; len = w.len; last = w.last; failed = w.failed; dry = dry }

abbrev pub next : Window → Listed → Window
next w (Line start end kind refusal) = without w end false
next w (Drop glue) = without w glue true
next w (End place answer) = w

abbrev pub ends : Listed → Bool
ends (Line start end kind refusal) = false
ends (Drop glue) = false
ends (End place answer) = true

-- the refusal of the message that is listed
abbrev pub refuses : Listed → ℕ
refuses (Line start end kind refusal) = refusal
refuses (Drop glue) = 0
refuses (End place answer) = 0

-- a turn is a step of the listing on the window, printed behind what waits
pub record Turned (b : Bytes) (w : Window) (old : Bytes) (waiting : ℕ) (new : Bytes) (r : Stand) : Type 0 where
  pub listed : Listed
  pub step : ListStep (bytes_of w b) w.last listed
  pub window : r.window ≡ next w listed
  pub done : r.done ≡ ends listed
  pub refusal : r.refusal ≡ refuses listed
  pub printed : Printed old waiting (step_printed w.base listed) new r.waiting
  pub held : Held r.window (length b)
