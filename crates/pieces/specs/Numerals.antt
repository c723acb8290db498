-- Numeric references of both bases at once: k is true for hexadecimal.
use Rattle.std.specs.Prelude.{Bool, true, false, cond, ℕ, Option, Some, None}
use Rattle.model.specs.References.{alive, number_p}
use Rattle.exact.specs.Exact.{Reader}
use Rattle.grammar.specs.Bytes.{Bytes, digit}
use Rattle.grammar.specs.Reference.{hex_digit, worth, number}

abbrev pub digit_of : Bool → ℕ → Bool
digit_of true = hex_digit
digit_of false = digit

abbrev pub base_of : Bool → ℕ
base_of true = 16
base_of false = 10

-- "1 to 7 decimal .. 1 to 6 hex digits"
abbrev pub most_of : Bool → ℕ
most_of true = 6
most_of false = 7

-- the number that only two digits more make a character
abbrev pub edge_of : Bool → ℕ
edge_of true = 1
edge_of false = 2

-- the greatest number that a digit more can make a character
abbrev pub top_of : Bool → ℕ
top_of true = 69_631
top_of false = 111_411

abbrev pub alive_of : Bool → ℕ → ℕ → Bool
alive_of k j v = alive (edge_of k) (top_of k) j v

-- what a digit is worth
unfoldable pub worth_of : Bool → ℕ → Option ℕ
worth_of k b = cond (digit_of k b) (Some (worth b)) None

abbrev pub numeral_p : Bool → Reader Bytes
numeral_p k = number_p (digit_of k) (base_of k) (most_of k) (edge_of k) (top_of k)

abbrev pub value_of : Bool → Bytes → ℕ
value_of k n = number (base_of k) 0 n
