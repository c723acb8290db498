-- The rows of a message of cells: what each puts down and why it may be refused, and the rows one behind the other.
use Rattle.std.specs.Prelude.{◌≡◌, List, [], ◌++◌, cond, ℕ, ◌/◌, length, Result, Ok, Err}
use Rattle.grammar.specs.Bytes.{Bytes, text}
use Rattle.number.specs.Digits.{print_int}
use Rattle.spelling.specs.Written.{escape, print_decimal}
use Rattle.value.specs.declared.text.Span.{Span}
use Rattle.table.specs.Table.{Row, Form, words, some_words, whole, guid, version, positive, features, rows_of}
use Rattle.table.specs.Says.{refusal_in}
use Rattle.message.specs.Cells.{is_there, bit, field_by, fields_from}
use Rattle.meant.specs.Meant.{text_at, meant_by, meant_of, first_in}
use Rattle.meant.specs.Written.{attribute_of, attributes_of, empty_tag, features_inside, child_of, children_of, written_by}
use Rattle.meant.specs.Writes.{refused_by, answer_by, buffer_by}
use Rattle.meant.specs.declared.Written.{Written}
use Rattle.refusals.specs.Numbers.{number_of}
use Rattle.refusals.specs.declared.Refusal.{Refusal}
use Rattle.rows.specs.Coding.{row_of}
use Rattle.rows.specs.declared.data.Row.{Row as Coded}

-- one row with the cell t, a, b: its refusal, its attribute, its child
unfoldable pub row_refusal : Coded → ℕ → ℕ → ℕ → Bytes → Bytes → ℕ
row_refusal c t a b id texts = refusal_in (meant_by (row_of c) (field_by (row_of c).form t a b id) texts)

unfoldable pub row_bytes : Coded → ℕ → ℕ → ℕ → Bytes → Bytes → Bytes
row_bytes c t a b id texts = attribute_of (row_of c).name (field_by (row_of c).form t a b id) texts

unfoldable pub child_bytes : Coded → ℕ → ℕ → Bytes
child_bytes c t a = child_of (row_of c).name (field_by (row_of c).form t a 0 [])

-- the rows from the cell i on
unfoldable pub refusal_from : List Row → ℕ → List ℕ → Bytes → Bytes → ℕ
refusal_from l i cells id texts = first_in (meant_of l (fields_from l i cells id) texts)

unfoldable pub attributes_from : List Row → ℕ → List ℕ → Bytes → Bytes → Bytes
attributes_from l i cells id texts = attributes_of l (fields_from l i cells id) texts

unfoldable pub children_from : List Row → ℕ → List ℕ → Bytes
children_from l i cells = children_of l (fields_from l i cells [])

-- the whole message
unfoldable pub written_from : ℕ → List ℕ → Bytes → Bytes → Bytes
written_from k cells id texts = written_by k (fields_from (rows_of k) 0 cells id) texts

-- what stands between the quotes
abbrev pub span_of : ℕ → ℕ → Span
span_of a b = record { start = a; len = b }

abbrev pub form_value : Form → ℕ → ℕ → Bytes → Bytes → Bytes
form_value (words n) a b id texts = escape (text_at texts (span_of a b))
form_value (some_words n) a b id texts = escape (text_at texts (span_of a b))
form_value (whole lo hi) a b id texts = print_int a
form_value guid a b id texts = escape id
form_value version a b id texts = escape (text_at texts (span_of a b))
form_value positive a b id texts = print_decimal a b
form_value features a b id texts = []

-- tags, and the features by their bits
abbrev pub start_tag : Bytes → Bytes
start_tag n = text "<" ++ n

abbrev pub end_tag : Bytes → Bytes
end_tag n = text "</" ++ (n ++ text ">")

unfoldable pub flagged : ℕ → Bytes → Bytes
flagged there n = cond (is_there there) (empty_tag n) []

unfoldable pub features_in : ℕ → Bytes
features_in bits = features_inside (record { forecast = bit bits; query = bit (bits / 2); send = bit (bits / 4) })

-- what writing a message of cells promises
pub record CellsWritten (k : ℕ) (cells : List ℕ) (id texts old new : Bytes) (r : Written) : Type 0 where
  pub answer : r ≡ answer_by k (refusal_from (rows_of k) 0 cells id texts) (written_from k cells id texts) (length old)
  pub buffer : new ≡ buffer_by k (refusal_from (rows_of k) 0 cells id texts) (written_from k cells id texts) old

-- an answer as it is told
abbrev pub answered : Result ℕ Refusal → Written
answered (Ok n) = record { refusal = 0; count = n }
answered (Err r) = refused_by (number_of r)
