-- What holds of an element whose attributes a table describes.
use Rattle.std.specs.Prelude.{List, Bool, ℕ, Option}
use Rattle.grammar.specs.Bytes.{Bytes}
use Rattle.value.specs.declared.text.Span.{Span}
use Rattle.rows.specs.declared.data.Row.{Row as Coded}
use Rattle.reads.specs.Held.{Held, Called, Lies, Found}
use Rattle.reads.specs.Kept.{Verdict, Rowed, AllRowed}
use Rattle.reads.specs.declared.attributes.Attributes.{Attributes}
use Rattle.reads.specs.declared.features.Sort.{Sort}

abbrev pub HeldIn : Attributes → Type 0
HeldIn a = Held a.message.now a.base a.table.now a.count

abbrev pub CalledIn : Attributes → ℕ → Bytes → Bool → Type 0
CalledIn a i name r = Called a.message.now a.base a.table.now i name r

abbrev pub LiesIn : Attributes → ℕ → Option Span → Type 0
LiesIn a i r = Lies a.base a.table.now i r

abbrev pub FoundIn : Attributes → Bytes → Option Span → Type 0
FoundIn a name r = Found a.message.now a.base a.table.now a.count name r

abbrev pub RowedIn : Attributes → Option ℕ → Coded → Verdict → Type 0
RowedIn a found c r = Rowed a.message.now a.base a.table.now a.count found c r

abbrev pub AllRowedIn : Attributes → Sort → List ℕ → List ℕ → ℕ → Type 0
AllRowedIn a k before after r = AllRowed a.message.now a.base a.table.now a.count k before after r
