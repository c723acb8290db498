-- What decides over a message. "Attributes are tried in table order, each for 4, 5, 6; the first decides"
use Rattle.std.specs.Prelude.{◌≡◌, List, [], ◌∷◌, ℕ, zero, suc, ◌-◌, take, drop, Option, None, Some}
use Rattle.value.specs.declared.text.Span.{Span}
use Rattle.grammar.specs.Bytes.{Bytes}
use Rattle.grammar.specs.Tree.{Tree}
use Rattle.grammar.specs.Message.{Layout, Laid, read_layout}
use Rattle.grammar.specs.Answer.{Answers, ends_at, more_from, malformed_at, too_long_from}
use Rattle.table.specs.Table.{Form, words, some_words, whole, guid, version, positive, features, Row, Entry, table}
use Rattle.table.specs.Says.{refusal_in, tried, child_of, rows_for, said_in}
use Rattle.message.specs.Checked.{places_in}
use Rattle.decides.specs.declared.Ruling.{Ruling}
use Rattle.decides.specs.declared.Decision.{Decision}

-- where the raw value of a row's attribute stands, if one of its name stands at w; a child has none
unfoldable pub value_in : Form → Option Span → Option Span
value_in (words n) w = w
value_in (some_words n) w = w
value_in (whole lo hi) w = w
value_in guid w = w
value_in version w = w
value_in positive w = w
value_in features w = None

-- the row of number i, refused by n or not; those behind it rule as x
abbrev pub ruled_by : ℕ → ℕ → Option Span → Option Ruling → Option Ruling
ruled_by zero i w x = x
ruled_by (suc n) i w x = Some (record { refusal = suc n; row = i; value = w })

-- the first row that is refused, by its number; the first of the rows has the number i
unfoldable pub first_refused : ℕ → List Row → (Bytes → Option Span) → Tree → Option Ruling
first_refused i [] place t = None
first_refused i (r ∷ l) place t = ruled_by (refusal_in (tried r t)) i (value_in r.form (place r.name)) (first_refused (suc i) l place t)

-- of an element of kind k, by what rules
abbrev pub decided_by : ℕ → Option Ruling → Decision
decided_by k None = record { refusal = 0; kind = k; row = 0; value = None }
decided_by k (Some x) = record { refusal = x.refusal; kind = k; row = x.row; value = x.value }

-- an answer without a message: 1, 2 or 3
abbrev pub undecided : ℕ → Decision
undecided n = record { refusal = n; kind = 0; row = 0; value = None }

-- of a message laid out as l that starts at `start`: the first refused row of its kind, and the place of its raw value
abbrev pub decided_in : List Entry → ℕ → Layout → Decision
decided_in by start l = decided_by (said_in by (read_layout l)).kind (first_refused 0 (rows_for by (said_in by (read_layout l)).kind (child_of (read_layout l))) (places_in start l) (child_of (read_layout l)))

-- by a given table, and by the one of document 01
pub data DecidesBy (by : List Entry) (s : Bytes) (r : Decision) : Type 0 where
  ends : (start end : ℕ) → Answers s (ends_at start end) → (l : Layout) → Laid (take (end - start) (drop start s)) l → r ≡ decided_in by start l → DecidesBy by s r
  more : (start : ℕ) → Answers s (more_from start) → r ≡ undecided 1 → DecidesBy by s r
  malformed : (start place : ℕ) → Answers s (malformed_at start place) → r ≡ undecided 2 → DecidesBy by s r
  too_long : (start : ℕ) → Answers s (too_long_from start) → r ≡ undecided 3 → DecidesBy by s r

abbrev pub Decides : Bytes → Decision → Type 0
Decides s r = DecidesBy table s r
