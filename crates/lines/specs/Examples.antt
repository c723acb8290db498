-- Document 01's listing, computed.
use Rattle.std.specs.Prelude.{◌≡◌, refl, List, [], ◌∷◌, ◌++◌}
use Rattle.grammar.specs.Bytes.{text}
use Rattle.number.specs.Digits.{digits_of, print_int}
use Rattle.lines.specs.Lines.{MessageLine}
use Rattle.lines.specs.Text.{LF, column, line_text, last_text, lines_text, listing_text}

abbrev lines : List MessageLine
lines = record { start = 0; end = 48; kind = 5; refusal = 0 } ∷ record { start = 49; end = 72; kind = 0; refusal = 0 } ∷ []

-- "`0 48 5 0`, `49 72 0 0`, `end 72 1`"
three_lines : listing_text lines (record { place = 72; answer = 1 }) ≡ text "0 48 5 0" ++ LF ∷ text "49 72 0 0" ++ LF ∷ text "end 72 1" ++ LF ∷ []
unfolding listing_text lines_text line_text last_text column print_int digits_of
three_lines = refl
