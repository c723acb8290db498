-- Where the attributes of a tag stand: four numbers for each.
use Rattle.std.specs.Prelude.{List, [], ◌∷◌, ℕ, ◌+◌, ◌*◌, set}
use Rattle.grammar.specs.Attribute.{Attribute}
use Rattle.grammar.specs.Places.{name_at, name_end, value_at, value_end}

-- the places of attributes that stand one after the other from `at` on
unfoldable pub places : ℕ → List Attribute → List ℕ
places at [] = []
places at (a ∷ l) = name_at at a ∷ name_end at a ∷ value_at at a ∷ value_end at a ∷ places (value_end at a + 1) l

-- four numbers in the row n of a table
unfoldable pub stored : List ℕ → ℕ → ℕ → ℕ → ℕ → ℕ → List ℕ
stored t n a b c d = set (set (set (set t (4 * n) a) (4 * n + 1) b) (4 * n + 2) c) (4 * n + 3) d
