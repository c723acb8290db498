-- What one step of a walk says: a character as read and the next place, or that no value stands there.
use Rattle.std.specs.Prelude.{List, ℕ, drop, Option, Some, None}
use Rattle.grammar.specs.Bytes.{Bytes}
use Rattle.grammar.specs.Value.{Item}
use Rattle.value.specs.Loose.{Loose}
use Rattle.decodes.specs.Walk.{Taken}
use Rattle.pieces.specs.declared.Character.{Character}

abbrev pub UnitCase : Bytes → ℕ → Option Character → Type 0
UnitCase s at (Some c) = Taken s at c.code_point c.next
UnitCase s at None = (l : List Item) → Loose (drop at s) l → ⊥

pub record UnitSays (s : Bytes) (at : ℕ) (r : Option Character) : Type 0 where
  pub says : UnitCase s at r
