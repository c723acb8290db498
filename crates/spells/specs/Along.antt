-- A text that is read from its start on.
use Rattle.std.specs.Prelude.{ℕ, ◌≤◌, length, drop}
use Rattle.grammar.specs.Bytes.{Bytes}
use Rattle.spelling.specs.Characters.{IsText}

-- v is a text if and only if what is left of it at i is one
pub record Along (v : Bytes) (i : ℕ) : Type 0 where
  pub upto : i ≤ length v
  pub to : IsText v → IsText (drop i v)
  pub from : IsText (drop i v) → IsText v

-- whole characters stand from i up to j
pub record Passes (v : Bytes) (i j : ℕ) : Type 0 where
  pub from : i ≤ j
  pub upto : j ≤ length v
  pub along : Along v i → Along v j
