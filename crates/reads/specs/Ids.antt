-- The id of a message, by the cell of its row.
use Rattle.std.specs.Prelude.{◌≡◌, List, ◌∷◌, ◌++◌, true, cond, ℕ, ◌+◌, ◌≤◌, length, take, drop, leb}
use Rattle.grammar.specs.Bytes.{Bytes}
use Rattle.number.specs.Guid.{guid_of}
use Rattle.value.specs.Text.{Text}
use Rattle.message.specs.Cells.{NUMBERS, cell_at}
use Rattle.message.specs.Messages.{id_by}

-- r is the GUID that the raw value reads as
pub record IdOf (raw r : Bytes) : Type 0 where
  pub says : (v : Bytes) → Text raw v → guid_of v ≡ true → r ≡ v

-- so at a place that is inside s
pub record IdAt (s : Bytes) (start len : ℕ) (r : Bytes) : Type 0 where
  pub says : start + len ≤ length s → IdOf (take len (drop start s)) r

-- the place of the raw value taken out of the cell that stands at `at`, if there is one
abbrev pub bared : ℕ → List ℕ → List ℕ
bared at cells = take at cells ++ (cell_at cells at ∷ 0 ∷ 0 ∷ drop (at + 3) cells)

abbrev pub taken : ℕ → List ℕ → List ℕ
taken at cells = cond (leb NUMBERS at) cells (bared at cells)

-- the id at that place; zeros if there is none
pub record TakesId (s : Bytes) (at : ℕ) (before after : List ℕ) (r : Bytes) : Type 0 where
  pub id : (cell_at before at ≡ 0 → ⊥) → IdAt s (cell_at before (at + 1)) (cell_at before (at + 2)) r
  pub cells : after ≡ taken at before
  pub by : r ≡ id_by at after r
