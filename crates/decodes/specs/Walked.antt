-- The scan of a raw value.
use Rattle.std.specs.Prelude.{◌≡◌, List, ◌≤◌, length, Option, Some, None}
use Rattle.grammar.specs.Bytes.{Bytes}
use Rattle.grammar.specs.Value.{Item, read_value}
use Rattle.numerals.specs.Scan.{run, step, start}
use Rattle.value.specs.Loose.{Loose}
use Rattle.numerals.specs.declared.scan.Scan.{Scan}

-- the scan of the bytes that w reads as, which are no more than w has; or that it is no items
abbrev pub WalkCase : Bytes → Option Scan → Type 0
WalkCase w (Some s) = (l : List Item) × Loose w l × (s ≡ run step start (read_value l)) × (length (read_value l) ≤ length w)
WalkCase w None = (l : List Item) → Loose w l → ⊥

pub record WalkSays (w : Bytes) (r : Option Scan) : Type 0 where
  pub says : WalkCase w r
