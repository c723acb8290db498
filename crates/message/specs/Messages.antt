-- A message: its kind, its cells and its BoardId; and what its fields are.
use Rattle.std.specs.Prelude.{List, [], ◌∷◌, ◌++◌, cond, ℕ, length, drop, replicate, leb, Option, unwrap_or}
use Prim.Native.String.{String}
use Rattle.grammar.specs.Bytes.{Bytes, text, same}
use Rattle.value.specs.Ids.{no_bytes}
use Rattle.table.specs.Table.{Row, rows_of, guid_cell_in}
use Rattle.message.specs.Fields.{Field, none, a_words, a_whole, a_measure, a_guid, a_features}
use Rattle.message.specs.Cells.{NUMBERS, is_there, cell_at, fields_from, cells_of}
use Rattle.message.specs.declared.cells.Message.{Message}

-- cells, and zeros behind them
unfoldable pub with_zeros : List ℕ → List ℕ
with_zeros c = c ++ drop (length c) (replicate NUMBERS 0)

-- the bytes of an id; zeros if it is absent
abbrev pub bytes_in : Option Bytes → Bytes
bytes_in g = unwrap_or g no_bytes

-- the bytes of the first id among fields; zeros if there is none
abbrev pub id_among : List Field → Bytes
id_among [] = no_bytes
id_among (none ∷ l) = id_among l
id_among (a_words w ∷ l) = id_among l
id_among (a_whole w ∷ l) = id_among l
id_among (a_measure w ∷ l) = id_among l
id_among (a_guid g ∷ l) = bytes_in g
id_among (a_features f ∷ l) = id_among l

-- the message of a kind that has these fields
unfoldable pub message_from : ℕ → List Field → Message
message_from k l = record { kind = k; cells = with_zeros (cells_of l); id = id_among l }

-- in which nothing is there
abbrev pub blank : ℕ → Message
blank k = record { kind = k; cells = replicate NUMBERS 0; id = no_bytes }

-- the message of a kind that has these cells and this BoardId
abbrev pub message_by : ℕ → List ℕ → Bytes → Message
message_by k cells id = record { kind = k; cells = cells; id = id }

-- its fields, one for each row of its kind; the cells behind them are ignored
unfoldable pub fields_of : Message → List Field
fields_of m = fields_from (rows_of m.kind) 0 m.cells m.id

-- its BoardId; zeros if it is absent, or its kind has none
unfoldable pub id_of : Message → Bytes
id_of m = id_among (fields_of m)

-- its field of a name; none if its kind has no row of that name
abbrev pub called_in : Bytes → List Row → List Field → Field
called_in n [] l = none
called_in n (r ∷ rows) [] = none
called_in n (r ∷ rows) (x ∷ l) = cond (same n r.name) x (called_in n rows l)

abbrev pub called : String → Message → Field
called n m = called_in (text n) (rows_of m.kind) (fields_of m)

-- where the cell of a kind's BoardId stands; behind all cells if it has none
unfoldable pub id_cell : ℕ → ℕ
id_cell k = guid_cell_in NUMBERS (rows_of k) 0

-- the id, if there is a cell for it, and the id is there
abbrev pub id_by : ℕ → List ℕ → Bytes → Bytes
id_by at cells id = cond (leb NUMBERS at) no_bytes (cond (is_there (cell_at cells at)) id no_bytes)

-- a number that is too large for its place counts as the largest one there
abbrev pub at_most : ℕ → ℕ → ℕ
at_most most n = cond (leb n most) n most
