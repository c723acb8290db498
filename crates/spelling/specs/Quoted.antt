-- What is written between double quotes, and what it reads as.
use Rattle.std.specs.Prelude.{◌≡◌, List}
use Prim.Native.Char.{code}
use Rattle.grammar.specs.Bytes.{Bytes}
use Rattle.grammar.specs.Value.{Item, spell_value, GoodValue, read_value}
use Rattle.spelling.specs.Written.{escape}
use Rattle.spelling.specs.Characters.{IsText}

-- "double quotes": the bytes w could stand between them, and read as v
pub record InQuotes (w v : Bytes) : Type 0 where
  pub items : List Item
  pub good : GoodValue (code "\"") items
  pub spelt : w ≡ spell_value items
  pub reads : v ≡ read_value items

-- a text that is written as it is
pub record AsIs (v : Bytes) : Type 0 where
  pub is_text_holds : IsText v
  pub same : escape v ≡ v
