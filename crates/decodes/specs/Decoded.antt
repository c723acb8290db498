-- A value read as a whole: how long it reads, and its bytes in a buffer.
use Rattle.std.specs.Prelude.{◌≡◌, List, ◌++◌, ℕ, ◌+◌, ◌≤◌, length, take, drop, Option, Some, None}
use Rattle.grammar.specs.Bytes.{Bytes}
use Rattle.grammar.specs.Value.{Item, read_value}
use Rattle.value.specs.Loose.{Loose}

abbrev pub LengthCase : Bytes → Option ℕ → Type 0
LengthCase w (Some n) = (l : List Item) × Loose w l × (n ≡ length (read_value l))
LengthCase w None = (l : List Item) → Loose w l → ⊥

-- how many bytes w reads as, or that it is no items
pub record LengthSays (w : Bytes) (r : Option ℕ) : Type 0 where
  pub says : LengthCase w r

-- m stands in `new` from n on, and all else is as in `old`; r is the place behind it
pub record Put (old : Bytes) (n : ℕ) (m new : Bytes) (r : ℕ) : Type 0 where
  pub next : r ≡ n + length m
  pub bytes : new ≡ take n old ++ (m ++ drop r old)

-- the same, if there is room for it in `old`
pub record PutInRoom (old : Bytes) (n : ℕ) (m new : Bytes) (r : ℕ) : Type 0 where
  pub next : r ≡ n + length m
  pub long : length new ≡ length old
  pub put : r ≤ length old → Put old n m new r

-- "Decoding starts at its first byte and changes only the bytes it needs.": how many bytes w reads as, and where there is room, these bytes
pub record Decoded (w old new : Bytes) (r : Option ℕ) : Type 0 where
  pub long : LengthSays w r
  pub bytes : (l : List Item) → Loose w l → length (read_value l) ≤ length old → new ≡ read_value l ++ drop (length (read_value l)) old
