-- Values whose quotes are not known: items up to a `<`, in which both quotes may stand.
use Rattle.std.specs.Prelude.{◌≡◌, List, ℕ}
use Prim.Native.Char.{code}
use Rattle.grammar.specs.Bytes.{Bytes}
use Rattle.grammar.specs.Value.{Item, spell_value, GoodValue}

-- what no value has: `<`. Between two of them any item may stand
abbrev pub BRACKET : ℕ
BRACKET = code "<"

-- bytes that are items
pub record Loose (w : Bytes) (l : List Item) : Type 0 where
  pub good : GoodValue BRACKET l
  pub spelt : w ≡ spell_value l
