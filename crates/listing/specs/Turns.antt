-- The turns of the program, one after the other: what it has read, and what it has handed to the system.
use Rattle.std.specs.Prelude.{◌≡◌, [], ◌++◌, Bool, true, false, ℕ, zero, suc, length, take}
use Rattle.grammar.specs.Bytes.{Bytes}
use Rattle.windows.specs.Held.{fresh, ToppedUp, Turned}
use Rattle.windows.specs.Printed.{handed, left}
use Rattle.windows.specs.declared.window.Window.{Window}

-- where the program is: the window and the buffer that it lies in, how much of the output waits and the buffer that it waits in
pub record At : Type 0 where
  pub window : Window
  pub buf : Bytes
  pub waiting : ℕ
  pub out : Bytes

-- at the start nothing is held, nothing is counted and nothing waits
abbrev pub start : Bytes → Bytes → At
start buf out = record { window = fresh; buf = buf; waiting = 0; out = out }

-- one turn, done if its line is the last: room is made for a line, the window is topped up, and a step is printed
pub record Turn (a : At) (done : Bool) (b : At) : Type 0 where
  pub held : Window
  pub refusal : ℕ
  pub topped : ToppedUp a.window a.buf held b.buf
  pub turned : Turned b.buf held a.out (left a.window.dry (length a.out) a.waiting) b.out (record { window = b.window; waiting = b.waiting; done = done; refusal = refusal })

-- what a turn hands to the system
abbrev pub gives : At → Bytes
gives a = handed a.window.dry a.out a.waiting

-- after k turns `input` is read and `given` is handed to the system
pub data Past : (k : ℕ) (input given : Bytes) → At → Type 0 where
  past_start : (buf out : Bytes) → Past zero [] [] (start buf out)
  past_turn : {k : ℕ} {input given : Bytes} {a b : At} → Past k input given a → (t : Turn a false b) → Past (suc k) (input ++ t.topped.more) (given ++ gives a) b

-- the last line is printed, and what waits then is handed to the system too: `text` is all that was
pub record Finished (input text : Bytes) : Type 0 where
  pub k : ℕ
  pub before : Bytes
  pub given : Bytes
  pub a : At
  pub b : At
  pub past : Past k before given a
  pub turn : Turn a true b
  pub read : input ≡ before ++ turn.topped.more
  pub whole : text ≡ (given ++ gives a) ++ take b.waiting b.out

-- what `list` promises: its turns are such. It comes to the last line, or all the turns that it counts are made, or reading fails
abbrev pub TURNS : ℕ
TURNS = 0xFFFFFFFFFFFFFFFF

pub record Ended (out : Bytes) : Type 0 where
  pub input : Bytes
  pub text : Bytes
  pub finished : Finished input text
  pub holds : out ≡ finished.b.out

pub record Unended (out : Bytes) : Type 0 where
  pub input : Bytes
  pub given : Bytes
  pub a : At
  pub past : Past TURNS input given a
  pub holds : out ≡ a.out

-- or reading failed behind what was read: what the turns printed before is handed to the system, and no last line
pub record Stopped (out : Bytes) : Type 0 where
  pub k : ℕ
  pub input : Bytes
  pub given : Bytes
  pub a : At
  pub past : Past k input given a
  pub held : Window
  pub buf : Bytes
  pub topped : ToppedUp a.window a.buf held buf
  pub failed : held.failed ≡ true
  pub holds : out ≡ a.out
