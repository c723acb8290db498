-- The text that bytes stand for.
use Rattle.std.specs.Prelude.{◌≡◌, List, Bool, true, ◌||◌, not, ℕ, eqb}
use Prim.Native.Char.{code}
use Rattle.grammar.specs.Bytes.{Bytes, every}
use Rattle.grammar.specs.Value.{Item, spell_value, is_quote, GoodValue, read_value}

-- the bytes w could stand as a value in some kind of quotes, and read as v
pub record Text (w v : Bytes) : Type 0 where
  pub quote : ℕ
  pub quoted : is_quote quote ≡ true
  pub items : List Item
  pub good : GoodValue quote items
  pub spelt : w ≡ spell_value items
  pub reads : v ≡ read_value items

-- a byte that no text standing exactly as read has: `&`, tab, LF, CR
unfoldable pub altered : ℕ → Bool
altered b = eqb (code "&") b || (eqb (code "\t") b || (eqb (code "\n") b || eqb (code "\r") b))

-- "where it stands there exactly as read": no byte of it is altered
abbrev pub as_read : Bytes → Bool
as_read w = every (λ b. not (altered b)) w
