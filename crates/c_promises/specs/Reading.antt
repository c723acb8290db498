-- The four answers as three numbers, for C.
use Rattle.std.specs.Prelude.{◌≡◌, ℕ}
use Rattle.grammar.specs.Bytes.{Bytes}
use Rattle.grammar.specs.Answer.{Answer, ends_at, more_from, malformed_at, too_long_from, answer_number, Answers}

-- where the message starts
abbrev pub start_of : Answer → ℕ
start_of (ends_at start end) = start
start_of (more_from start) = start
start_of (malformed_at start place) = start
start_of (too_long_from start) = start

-- the end of a message, the place that is malformed, else 0
abbrev pub place_of : Answer → ℕ
place_of (ends_at start end) = end
place_of (more_from start) = 0
place_of (malformed_at start place) = place
place_of (too_long_from start) = 0

pub record Told (s : Bytes) (number start place : ℕ) : Type 0 where
  pub answer : Answer
  pub answers : Answers s answer
  pub numbers : number ≡ answer_number answer
  pub starts : start ≡ start_of answer
  pub places : place ≡ place_of answer
