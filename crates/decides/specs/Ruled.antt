-- For contracts: the rows of a kind tried on the element that a table of places describes.
use Rattle.value.specs.declared.text.Span.{Span}
use Rattle.std.specs.Prelude.{◌≡◌, List, ℕ, Option}
use Rattle.grammar.specs.Bytes.{Bytes}
use Rattle.grammar.specs.Tree.{tree, Forest}
use Rattle.table.specs.Table.{rows_of}
use Rattle.rows.specs.Coding.{row_of}
use Rattle.rows.specs.declared.data.Row.{Row as Coded}
use Rattle.reads.specs.Held.{Held, pairs, place}
use Rattle.reads.specs.Kept.{Sorted}
use Rattle.reads.specs.declared.attributes.Attributes.{Attributes}
use Rattle.reads.specs.declared.features.Sort.{Sort}
use Rattle.decides.specs.Deciding.{value_in, first_refused}
use Rattle.decides.specs.declared.Ruling.{Ruling}

-- where the raw value of a row's attribute stands
pub record Stands (s : Bytes) (base : ℕ) (table : List ℕ) (count : ℕ) (c : Coded) (r : Option Span) : Type 0 where
  pub says : (h : Held s base table count) → r ≡ value_in (row_of c).form (place h (row_of c).name)

-- the first row of the kind that is refused
pub record Rules (s : Bytes) (base : ℕ) (table : List ℕ) (count : ℕ) (k : Sort) (r : Option Ruling) : Type 0 where
  pub says : (h : Held s base table count) (m : Bytes) (f : Forest) → Sorted k f → r ≡ first_refused 0 (rows_of k.kind) (place h) (tree m (pairs h) f)

-- so of the element whose attributes those are
abbrev pub StandsIn : Attributes → Coded → Option Span → Type 0
StandsIn a c r = Stands a.message.now a.base a.table.now a.count c r

abbrev pub RulesIn : Attributes → Sort → Option Ruling → Type 0
RulesIn a k r = Rules a.message.now a.base a.table.now a.count k r
