-- The attributes of an element, whose places a table holds.
use Rattle.value.specs.declared.text.Span.{Span}
use Rattle.std.specs.Prelude.{◌≡◌, List, [], ◌++◌, Bool, true, ℕ, ◌+◌, ◌-◌, ◌*◌, length, take, drop, get_or, Option, Some}
use Rattle.grammar.specs.Bytes.{Bytes, same}
use Rattle.grammar.specs.Attribute.{Attribute, spell_attributes, GoodEach, fresh}
use Rattle.grammar.specs.Tree.{Pair}
use Rattle.grammar.specs.Element.{read_attributes}
use Rattle.tags.specs.Places.{places}
use Rattle.table.specs.Table.{Form}
use Rattle.table.specs.Says.{Result, given}
use Rattle.message.specs.Checked.{place_of}

-- the attributes that stand in s from `base` on have their places in the table, counted from there
pub record Held (s : Bytes) (base : ℕ) (table : List ℕ) (count : ℕ) : Type 0 where
  pub attributes : List Attribute
  pub after : Bytes
  pub rest : List ℕ
  pub good : GoodEach attributes
  pub fresh_names : fresh [] attributes ≡ true
  pub stand : drop base s ≡ spell_attributes attributes ++ after
  pub rows : table ≡ places 0 attributes ++ rest
  pub counts : count ≡ length attributes

-- as they read, and where the raw value of a name stands
abbrev pub pairs : {s : Bytes} {base : ℕ} {table : List ℕ} {count : ℕ} → Held s base table count → List Pair
pairs h = read_attributes h.attributes

abbrev pub place : {s : Bytes} {base : ℕ} {table : List ℕ} {count : ℕ} → Held s base table count → Bytes → Option Span
place {base = base} h = place_of base h.attributes

pub record Found (s : Bytes) (base : ℕ) (table : List ℕ) (count : ℕ) (name : Bytes) (r : Option Span) : Type 0 where
  pub says : (h : Held s base table count) → r ≡ place h name

-- whether the attribute i has that name, and where its raw value stands
abbrev pub Called : Bytes → ℕ → List ℕ → ℕ → Bytes → Bool → Type 0
Called s base table i name r = r ≡ same name (take (base + get_or table (4 * i + 1) 0 - (base + get_or table (4 * i) 0)) (drop (base + get_or table (4 * i) 0) s))

abbrev pub Lies : ℕ → List ℕ → ℕ → Option Span → Type 0
Lies base table i r = r ≡ Some (record { start = base + get_or table (4 * i + 2) 0; len = base + get_or table (4 * i + 3) 0 - (base + get_or table (4 * i + 2) 0) })

-- f of what the attribute of a name is worth by the form t, and of its place
pub record Tries {A : Type 0} (f : Option Span → Result → A) (t : Form) (optional : Bool) (s : Bytes) (base : ℕ) (table : List ℕ) (count : ℕ) (name : Bytes) (r : A) : Type 0 where
  pub says : (h : Held s base table count) → r ≡ f (place h name) (given t optional name (pairs h))
