-- The values of a message as numbers: a cell of three for each row of its kind, in table order, and apart from them its BoardId. The first number of a
-- cell is 0 if the value is absent. Then follow: of a text its place and its length; of an int its value; of a positive number its millionths and
-- the digits behind its point; of the features their bits 1, 2 and 4.
use Rattle.value.specs.declared.text.Span.{Span}
use Rattle.message.specs.declared.values.Decimal.{Decimal}
use Rattle.std.specs.Prelude.{List, [], ◌∷◌, ◌++◌, Bool, not, cond, ℕ, ◌+◌, ◌*◌, ◌/◌, ◌%◌, get_or, eqb, Option, Some, None}
use Rattle.grammar.specs.Bytes.{Bytes}
use Rattle.table.specs.Table.{Row, Form, words, some_words, whole, guid, version, positive, features}
use Rattle.message.specs.Fields.{Field, none, a_words, a_whole, a_measure, a_guid, a_features}
use Rattle.message.specs.declared.values.Features.{Features}

-- how many rows a kind can have, and how many numbers that makes
abbrev pub ROWS : ℕ
ROWS = 24

abbrev pub NUMBERS : ℕ
NUMBERS = 3 * ROWS

-- cells as values

abbrev pub is_there : ℕ → Bool
is_there t = not (eqb t 0)

abbrev pub bit : ℕ → Bool
bit n = is_there (n % 2)

unfoldable pub words_by : ℕ → ℕ → ℕ → Option Span
words_by t a b = cond (is_there t) (Some (record { start = a; len = b })) None

unfoldable pub whole_by : ℕ → ℕ → Option ℕ
whole_by t a = cond (is_there t) (Some a) None

unfoldable pub measure_by : ℕ → ℕ → ℕ → Option Decimal
measure_by t a b = cond (is_there t) (Some (record { millionths = a; decimals = b })) None

unfoldable pub guid_by : ℕ → Bytes → Option Bytes
guid_by t id = cond (is_there t) (Some id) None

unfoldable pub features_by : ℕ → ℕ → Option Features
features_by t a = cond (is_there t) (Some (record { forecast = bit a; query = bit (a / 2); send = bit (a / 4) })) None

-- the field of a form that three numbers and the id are
unfoldable pub field_by : Form → ℕ → ℕ → ℕ → Bytes → Field
field_by (words n) t a b id = a_words (words_by t a b)
field_by (some_words n) t a b id = a_words (words_by t a b)
field_by (whole lo hi) t a b id = a_whole (whole_by t a)
field_by guid t a b id = a_guid (guid_by t id)
field_by version t a b id = a_words (words_by t a b)
field_by positive t a b id = a_measure (measure_by t a b)
field_by features t a b id = a_features (features_by t a)

-- the number that stands there; 0 behind the end
abbrev pub cell_at : List ℕ → ℕ → ℕ
cell_at cells n = get_or cells n 0

-- the fields of the rows, the first of which has the cell i
unfoldable pub fields_from : List Row → ℕ → List ℕ → Bytes → List Field
fields_from [] i cells id = []
fields_from (r ∷ l) i cells id = field_by r.form (cell_at cells (3 * i)) (cell_at cells (3 * i + 1)) (cell_at cells (3 * i + 2)) id ∷ fields_from l (i + 1) cells id

-- values as cells

abbrev pub flag : Bool → ℕ
flag b = cond b 1 0

abbrev pub words_cell : Option Span → List ℕ
words_cell None = 0 ∷ 0 ∷ 0 ∷ []
words_cell (Some p) = 1 ∷ p.start ∷ p.len ∷ []

abbrev pub whole_cell : Option ℕ → List ℕ
whole_cell None = 0 ∷ 0 ∷ 0 ∷ []
whole_cell (Some n) = 1 ∷ n ∷ 0 ∷ []

abbrev pub measure_cell : Option Decimal → List ℕ
measure_cell None = 0 ∷ 0 ∷ 0 ∷ []
measure_cell (Some d) = 1 ∷ d.millionths ∷ d.decimals ∷ []

abbrev pub guid_cell : Option Bytes → List ℕ
guid_cell None = 0 ∷ 0 ∷ 0 ∷ []
guid_cell (Some v) = 1 ∷ 0 ∷ 0 ∷ []

abbrev pub features_cell : Option Features → List ℕ
features_cell None = 0 ∷ 0 ∷ 0 ∷ []
features_cell (Some f) = 1 ∷ (flag f.forecast + (2 * flag f.query + 4 * flag f.send)) ∷ 0 ∷ []

abbrev pub cell_of : Field → List ℕ
cell_of none = 0 ∷ 0 ∷ 0 ∷ []
cell_of (a_words w) = words_cell w
cell_of (a_whole w) = whole_cell w
cell_of (a_measure w) = measure_cell w
cell_of (a_guid g) = guid_cell g
cell_of (a_features f) = features_cell f

-- in table order
unfoldable pub cells_of : List Field → List ℕ
cells_of [] = []
cells_of (x ∷ l) = cell_of x ++ cells_of l
