-- The lines of an input: "It reads standard input and prints a line per message .. Last line: .."
use Rattle.std.specs.Prelude.{◌≡◌, List, [], ◌∷◌, ℕ, ◌+◌, drop}
use Rattle.grammar.specs.Bytes.{Bytes}
use Rattle.grammar.specs.Answer.{Ends, Answers, more_from, malformed_at, too_long_from}
use Rattle.table.specs.Says.{said_of}

-- "a line per message: first byte, one past the last byte, kind, refusal"
pub record MessageLine : Type 0 where
  pub start : ℕ
  pub end : ℕ
  pub kind : ℕ
  pub refusal : ℕ

-- "Last line: `end`, a byte, and the answer"
pub record LastLine : Type 0 where
  pub place : ℕ
  pub answer : ℕ

-- the line of the message that stands behind the glue in front of s: "kind, refusal (0, 4, 5 or 6)" are its reading's
pub record FirstLine (s : Bytes) (l : MessageLine) : Type 0 where
  pub message : Ends s l.start l.end
  pub kind : l.kind ≡ (said_of message.reading).kind
  pub refusal : l.refusal ≡ (said_of message.reading).refusal

-- where no message ends in s, the last line: "for 1 the byte behind all glue where unfinished bytes start, for 2 the place,
-- for 3 the message's first byte"
pub data EndLine (s : Bytes) (z : LastLine) : Type 0 where
  unfinished : (start : ℕ) → Answers s (more_from start) → z ≡ record { place = start; answer = 1 } → EndLine s z
  malformed : (start place : ℕ) → Answers s (malformed_at start place) → z ≡ record { place = place; answer = 2 } → EndLine s z
  too_long : (start : ℕ) → Answers s (too_long_from start) → z ≡ record { place = start; answer = 3 } → EndLine s z

-- "Bytes count from the input's start": with n bytes in front
abbrev pub line_from : ℕ → MessageLine → MessageLine
line_from n l = record { start = n + l.start; end = n + l.end; kind = l.kind; refusal = l.refusal }

abbrev pub last_from : ℕ → LastLine → LastLine
last_from n z = record { place = n + z.place; answer = z.answer }

-- the lines of s, which stands behind n bytes: a line for the first message and those of what follows it, or the last line
pub data Lists : ℕ → Bytes → List MessageLine → LastLine → Type 0 where
  list_end : {n : ℕ} {s : Bytes} {z : LastLine} (e : LastLine) → EndLine s e → z ≡ last_from n e → Lists n s [] z
  list_line : {n : ℕ} {s : Bytes} {l : List MessageLine} {y : MessageLine} {z : LastLine} (m : MessageLine) → FirstLine s m → y ≡ line_from n m → Lists (n + m.end) (drop m.end s) l z → Lists n s (y ∷ l) z

-- the lines of a whole input
abbrev pub Listing : Bytes → List MessageLine → LastLine → Type 0
Listing s l z = Lists 0 s l z
