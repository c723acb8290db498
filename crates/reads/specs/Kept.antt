-- What is kept of a row: its refusal and a cell of three numbers; and of all rows of a kind. The cells are those of message's Cells, but for that of a
-- GUID, which has the place and the length of its raw value.
use Rattle.std.specs.Prelude.{◌≡◌, List, [], ◌∷◌, ◌++◌, Bool, true, ℕ, ◌-◌, ◌*◌, length, take, drop, get_or, Option, None, Some, Ok, Err, Result as Answer, cond, eqb}
use Rattle.refusals.specs.Numbers.{number_of, told}
use Rattle.refusals.specs.declared.Refusal.{Refusal}
use Rattle.value.specs.declared.text.Span.{Span}
use Rattle.grammar.specs.Bytes.{Bytes, text}
use Rattle.grammar.specs.Value.{Item, read_value}
use Rattle.grammar.specs.Tree.{Tree, tree, Forest}
use Rattle.value.specs.Loose.{Loose}
use Rattle.table.specs.Table.{Row, Form, words, some_words, whole, guid, version, positive, features, kind_of, rows_of}
use Rattle.table.specs.Says.{Result, present, without, refusal_in, judged, notes, featured, tried, refusal_of}
use Rattle.lane.specs.Names.{ServiceDescription}
use Rattle.rows.specs.Coding.{is_child, row_of}
use Rattle.rows.specs.declared.data.Row.{Row as Coded}
use Rattle.message.specs.Fields.{Field, none, a_words, a_whole, a_measure, a_features, whole_in, measure_in, features_in}
use Rattle.message.specs.Cells.{whole_cell, measure_cell, features_cell, cell_of, cells_of}
use Rattle.reads.specs.Held.{Held, pairs, place}
use Rattle.reads.specs.Children.{Holds}
use Rattle.reads.specs.declared.features.Sort.{Sort}
use Rattle.reads.specs.declared.tried.Cell.{Cell}
use Rattle.reads.specs.declared.tried.Tried.{Tried}

-- what is told of a row: its refusal, 0 if there is none, and the numbers of its cell
pub record Verdict : Type 0 where
  pub refusal : ℕ
  pub there : ℕ
  pub a : ℕ
  pub b : ℕ

-- a refusal and a cell
abbrev pub as_cell : ℕ → List ℕ → Verdict
as_cell n c = record { refusal = n; there = get_or c 0 0; a = get_or c 1 0; b = get_or c 2 0 }

abbrev pub cell_as : List ℕ → Cell
cell_as c = record { there = get_or c 0 0; a = get_or c 1 0; b = get_or c 2 0 }

abbrev pub verdict_of : Tried → Verdict
verdict_of t = record { refusal = told t.answer; there = t.cell.there; a = t.cell.a; b = t.cell.b }

-- where nothing is put down of what is refused
abbrev pub verdict_in : Answer Cell Refusal → Verdict
verdict_in (Ok c) = record { refusal = 0; there = c.there; a = c.a; b = c.b }
verdict_in (Err e) = as_cell (number_of e) (cell_of none)

-- a value that is not there
abbrev pub lacking : Bool → Verdict
lacking optional = as_cell (refusal_in (without optional)) (cell_of none)

-- of an int, a positive number, features
abbrev pub int_of : Result → Verdict
int_of x = as_cell (refusal_in x) (whole_cell (whole_in x))

abbrev pub size_of : Result → Verdict
size_of x = as_cell (refusal_in x) (measure_cell (measure_in x))

abbrev pub features_of : Result → Verdict
features_of x = as_cell (refusal_in x) (features_cell (features_in x))

-- the field of a row whose raw value stands at w; of a GUID, where its raw value stands
unfoldable pub kept_of : Form → Option Span → Result → Field
kept_of (words n) w x = a_words w
kept_of (some_words n) w x = a_words w
kept_of (whole lo hi) w x = a_whole (whole_in x)
kept_of guid w x = a_words w
kept_of version w x = a_words w
kept_of positive w x = a_measure (measure_in x)
kept_of features w x = a_features (features_in x)

abbrev pub tried_as : Form → Option Span → Result → Verdict
tried_as t w x = as_cell (refusal_in x) (cell_of (kept_of t w x))

abbrev pub tried_by : Row → (Bytes → Option Span) → Tree → Verdict
tried_by r place t = tried_as r.form (place r.name) (tried r t)

-- in table order
unfoldable pub kept_in : List Row → (Bytes → Option Span) → Tree → List Field
kept_in [] place t = []
kept_in (r ∷ l) place t = kept_of r.form (place r.name) (tried r t) ∷ kept_in l place t

-- f of what a raw value is worth by the form t
pub record Judges {A : Type 0} (f : Result → A) (t : Form) (raw : Bytes) (r : A) : Type 0 where
  pub says : (l : List Item) → Loose raw l → r ≡ f (judged t (read_value l))

-- by the form of a row
pub record RowJudges (t : Form) (raw : Bytes) (start : ℕ) (r : Verdict) : Type 0 where
  pub says : (l : List Item) → Loose raw l → r ≡ tried_as t (Some (record { start = start; len = length raw })) (judged t (read_value l))

-- the features that stand in an element's content
pub record NotesIn (s : Bytes) (inside : ℕ) (r : ℕ) : Type 0 where
  pub says : (f : Forest) → Holds s inside f → as_cell 0 (1 ∷ r ∷ 0 ∷ []) ≡ features_of (present (notes f))

-- what was found of a child, held against its row's need; the first child of a name was looked for in f with that outcome
abbrev pub carried_by : Option ℕ → Bool → Verdict
carried_by None optional = lacking optional
carried_by (Some n) optional = as_cell 0 (1 ∷ n ∷ 0 ∷ [])

abbrev pub Carried : Bytes → Option ℕ → Forest → Type 0
Carried name t f = (optional : Bool) → carried_by t optional ≡ features_of (featured name optional f)

abbrev pub SUPPORTED : Bytes
SUPPORTED = text "SupportedFeatures"

pub record Supports (s : Bytes) (inside : ℕ) (r : Option ℕ) : Type 0 where
  pub says : (f : Forest) → Holds s inside f → Carried SUPPORTED r f

-- of an element of a kind with features they were looked for
abbrev pub Sorted : Sort → Forest → Type 0
Sorted r f = r.kind ≡ ServiceDescription → Carried SUPPORTED r.features f

-- the kind of the element whose name stands there, and its features
pub record Sorts (s : Bytes) (from to inside : ℕ) (r : Sort) : Type 0 where
  pub kind : r.kind ≡ kind_of (take (to - from) (drop from s))
  pub features : (f : Forest) → Holds s inside f → Sorted r f

-- a row tried on the element that the table describes
pub record Rowed (s : Bytes) (base : ℕ) (table : List ℕ) (count : ℕ) (found : Option ℕ) (c : Coded) (r : Verdict) : Type 0 where
  pub says : (h : Held s base table count) (m : Bytes) (f : Forest) → (is_child c.form ≡ true → Carried (row_of c).name found f) → r ≡ tried_by (row_of c) (place h) (tree m (pairs h) f)

-- the rows of a kind: the first refusal, and their cells in front of what was there
pub record AllRowed (s : Bytes) (base : ℕ) (table : List ℕ) (count : ℕ) (k : Sort) (before after : List ℕ) (r : ℕ) : Type 0 where
  pub refusal : (h : Held s base table count) (m : Bytes) (f : Forest) → Sorted k f → r ≡ refusal_of (rows_of k.kind) (tree m (pairs h) f)
  pub cells : (h : Held s base table count) (m : Bytes) (f : Forest) → Sorted k f → after ≡ cells_of (kept_in (rows_of k.kind) (place h) (tree m (pairs h) f)) ++ drop (3 * length (rows_of k.kind)) before
