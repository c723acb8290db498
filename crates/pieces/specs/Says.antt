-- What an answer with a number says of a model at a place.
use Rattle.std.specs.Prelude.{◌≡◌, ℕ, ◌+◌, ◌≤◌, length, drop, Result, Ok, Err}
use Rattle.exact.specs.Exact.{Out, done}
use Rattle.grammar.specs.Bytes.{Bytes}
use Rattle.scan.specs.Pieces.{StopCase}
use Rattle.scan.specs.declared.Stop.{Stop}
use Rattle.pieces.specs.declared.Character.{Character}

-- a character and the next place, or why there is none
abbrev pub Piece : Type 0
Piece = Result Character Stop

-- the character c, and e as the next place
abbrev pub got : ℕ → ℕ → Piece
got c e = Ok (record { code_point = c; next = e })

-- a value, which is c as a number, was read up to e; at least k bytes are read
pub record Known {A : Type 0} (f : A → ℕ) (k : ℕ) (s : Bytes) (at c e : ℕ) (o : Out A) : Type 0 where
  pub value : A
  pub is : f value ≡ c
  pub far : at + k ≤ e
  pub upto : e ≤ length s
  pub reads : o ≡ done value (drop e s)

abbrev pub PieceCase : {A : Type 0} → (A → ℕ) → ℕ → Bytes → ℕ → Piece → Out A → Type 0
PieceCase f k s at (Ok c) o = Known f k s at c.code_point c.next o
PieceCase f k s at (Err x) o = StopCase s at x o

-- the answer r at `at`, where the model's outcome is o; f: which number stands for a value
pub record Says {A : Type 0} (f : A → ℕ) (k : ℕ) (s : Bytes) (at : ℕ) (r : Piece) (o : Out A) : Type 0 where
  pub says : PieceCase f k s at r o
