-- The text of a listing: decimal numbers with single spaces between them, and a LF behind each line.
use Rattle.std.specs.Prelude.{List, [], ◌∷◌, ◌++◌, ℕ}
use Prim.Native.Char.{code}
use Rattle.grammar.specs.Bytes.{Bytes, text}
use Rattle.number.specs.Digits.{print_int}
use Rattle.lines.specs.Lines.{MessageLine, LastLine}

abbrev pub LF : ℕ
LF = 10

-- a number, and the byte behind it
unfoldable pub column : ℕ → ℕ → Bytes
column n b = print_int n ++ b ∷ []

-- "a line per message: first byte, one past the last byte, kind, refusal"
unfoldable pub line_text : MessageLine → Bytes
line_text l = column l.start (code " ") ++ column l.end (code " ") ++ column l.kind (code " ") ++ column l.refusal LF

-- "Last line: `end`, a byte, and the answer"
unfoldable pub last_text : LastLine → Bytes
last_text z = text "end " ++ column z.place (code " ") ++ column z.answer LF

-- one behind the other
unfoldable pub lines_text : List MessageLine → Bytes
lines_text [] = []
lines_text (l ∷ ls) = line_text l ++ lines_text ls

-- the whole listing
unfoldable pub listing_text : List MessageLine → LastLine → Bytes
listing_text ls z = lines_text ls ++ last_text z
