-- The reader of values.
use Rattle.std.specs.Prelude.{◌≡◌, ℕ, ◌≤◌, eqb}
use mathlib.Core.List.{List, [], ◌∷◌, ◌++◌}
use Rattle.exact.specs.Exact.{Reader}
use Rattle.exact.specs.Chain.{ret_p, map_p}
use Rattle.exact.specs.Byte.{on_p, choice_p}
use Rattle.exact.specs.Loop.{Turn, again, stop, loop_p}
use Rattle.grammar.specs.Bytes.{Bytes}
use Rattle.grammar.specs.Value.{Item, raw, ref, spell_item, spell_value, banned, GoodItem, GoodValue}
use Rattle.model.specs.Characters.{char_p}
use Rattle.model.specs.References.{ref_p}

-- items in quotes
unfoldable pub item_p : ℕ → Reader Item
item_p q = choice_p (eqb 38) (on_p (eqb 38) (λ b. map_p ref ref_p)) (map_p raw (char_p (banned q)))

pub record IsItem (q : ℕ) (w : Bytes) (i : Item) : Type 0 where
  pub good : GoodItem q i
  pub spelt : w ≡ spell_item i

-- a byte that items can't start with, and that is no `&`: a quote, or what ends text
pub record Stops (q : ℕ) : Type 0 where
  pub small : q ≤ 64
  pub apart : q ≡ 38 → ⊥

-- values: what stands behind the opening quote, the closing one included
pub record IsValue (q : ℕ) (w : Bytes) (l : List Item) : Type 0 where
  pub good : GoodValue q l
  pub spelt : w ≡ spell_value l ++ q ∷ []

abbrev pub Acc : Type 0
Acc = List Item → List Item

unfoldable pub turn_p : ℕ → Acc → Reader (Turn Acc (List Item))
turn_p q k = choice_p (eqb q) (on_p (eqb q) (λ b. ret_p (stop (k [])))) (map_p (λ i. again (λ l. k (i ∷ l))) (item_p q))

unfoldable pub value_p : ℕ → Reader (List Item)
value_p q = loop_p (turn_p q) (λ l. l)
