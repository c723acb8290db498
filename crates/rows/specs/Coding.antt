-- The attribute table as the code has it: an entry for each kind, a row for each attribute and child.
use Rattle.std.specs.Prelude.{◌≡◌, List, [], ◌∷◌, All, map, Bool, true, false, Option, Some, None, ℕ, suc, ◌+◌, ◌≤◌, ◌<◌, length}
use Rattle.table.specs.Table.{Row, Entry, Form, words, some_words, whole, guid, version, positive, features, Need, required, optional, table, is_kind, name_in, rows_of, guid_cell_in}
use Rattle.rows.specs.declared.data.Form.{Form as CodedForm}
use Rattle.rows.specs.declared.data.Form.TheVariants.{Features, Text, SomeText, Int, Guid, Version, Positive}
use Rattle.rows.specs.declared.data.Need.{Need as CodedNeed}
use Rattle.rows.specs.declared.data.Need.TheVariants.{Required, Optional}
use Rattle.rows.specs.declared.data.Row.{Row as Coded}
use Rattle.rows.specs.declared.data.Entry.{Entry as CodedEntry}
use denote.Ref.{Bor}

-- the rows that a kind can have
abbrev pub MOST : ℕ
MOST = 24

-- where the cell of a kind's BoardId stands: behind the cells of MOST rows if it has none
abbrev pub NO_ID : ℕ
NO_ID = 72

-- what a value must be
abbrev pub form_of : CodedForm → Form
form_of Features = features
form_of (Text most) = words most
form_of (SomeText most) = some_words most
form_of (Int low high) = whole low high
form_of Guid = guid
form_of Version = version
form_of Positive = positive

-- whether it is that of a child element
abbrev pub is_child : CodedForm → Bool
is_child Features = true
is_child (Text most) = false
is_child (SomeText most) = false
is_child (Int low high) = false
is_child Guid = false
is_child Version = false
is_child Positive = false

-- the need
abbrev pub need_of : CodedNeed → Need
need_of Required = required
need_of Optional = optional

-- a row of the code as a row of the table
abbrev pub row_of : Coded → Row
row_of c = record { name = c.name.now; form = form_of c.form; need = need_of c.need }

-- rows of the code as rows of the table
unfoldable pub as_rows : List Coded → List Row
as_rows l = map row_of l

-- where the cell of the BoardId stands among the cells of the rows
abbrev pub CellOf : List Row → Option ℕ → Type 0
CellOf l None = guid_cell_in NO_ID l 0 ≡ NO_ID
CellOf l (Some n) = (guid_cell_in NO_ID l 0 ≡ n) × (n + 3 ≤ NO_ID)

-- whether a row may be missing
abbrev pub may_miss : CodedNeed → Bool
may_miss Required = false
may_miss Optional = true

-- entries of the code as entries of the table, numbered from k on
abbrev pub entries_from : ℕ → List CodedEntry → List Entry
entries_from k [] = []
entries_from k (e ∷ l) = record { kind = k; name = e.name.now; rows = as_rows e.rows.now } ∷ entries_from (suc k) l

-- a message has cells for the rows, and the cell of the BoardId is where the entry says
pub record Placed (e : CodedEntry) : Type 0 where
  pub few : length e.rows.now ≤ MOST
  pub board_id : CellOf (as_rows e.rows.now) e.board_id

-- the entries are those of the table
pub record Told (l : List CodedEntry) : Type 0 where
  pub all : entries_from 1 l ≡ table
  pub placed : All Placed l
  pub few : length l < 255

pub record RowsAt (k : ℕ) (l : List Coded) : Type 0 where
  pub all : rows_of k ≡ as_rows l
  pub few : length l ≤ MOST

-- an entry is that of a kind
pub record Enters (k : ℕ) (e : CodedEntry) : Type 0 where
  pub kind : is_kind k ≡ true
  pub name : name_in table k ≡ e.name.now
  pub rows : RowsAt k e.rows.now
  pub board_id : CellOf (rows_of k) e.board_id

-- no entry: the number is no kind
pub record NoEntry (k : ℕ) : Type 0 where
  pub kind : is_kind k ≡ false
  pub rows : rows_of k ≡ []

abbrev pub EntryOf : ℕ → Option (Bor CodedEntry) → Type 0
EntryOf k None = NoEntry k
EntryOf k (Some e) = Enters k e.now
