-- The promise of `head`: what stands in a tag behind its name, and where its attributes stand.
use Rattle.std.specs.Prelude.{◌≡◌, List, ◌++◌, Bool, ℕ, ◌+◌, ◌*◌, ◌≤◌, length, drop, Result, Ok, Err}
use Rattle.exact.specs.Exact.{done}
use Rattle.grammar.specs.Bytes.{Bytes}
use Rattle.grammar.specs.Limits.{ATTRIBUTES, MESSAGE}
use Rattle.grammar.specs.Attribute.{Attribute}
use Rattle.model.specs.Attributes.{Head, head_p}
use Rattle.scan.specs.Pieces.{StopCase}
use Rattle.scan.specs.declared.Stop.{Stop}
use Rattle.tags.specs.Places.{places}
use Rattle.tags.specs.declared.attributes.Tag.{Tag}

-- a table for all attributes that a tag may have is lent, and their places, counted from `at`, are small enough for it
pub record Lent (s : Bytes) (at : ℕ) (old : List ℕ) : Type 0 where
  pub whole : length old ≡ 4 * ATTRIBUTES
  pub short : length s ≤ at + MESSAGE

-- if it is, the places of the attributes, counted from where they begin, stand first in it, and its rest is kept
pub record Noted (s : Bytes) (at : ℕ) (old new : List ℕ) (l : List Attribute) : Type 0 where
  pub noted : Lent s at old → new ≡ places 0 l ++ drop (4 * length l) old

-- attributes, glue and the end of the tag were read
pub record HeadRead (may : Bool) (s : Bytes) (at : ℕ) (old new : List ℕ) (t : Tag) : Type 0 where
  pub head : Head
  pub reads : head_p may (drop at s) ≡ done head (drop t.end s)
  pub far : at + 1 ≤ t.end
  pub upto : t.end ≤ length s
  pub ends : t.empty ≡ head.empty
  pub counts : t.count ≡ length head.attributes
  pub table : Noted s at old new head.attributes

abbrev pub HeadCase : Bool → Bytes → ℕ → List ℕ → List ℕ → Result Tag Stop → Type 0
HeadCase may s at old new (Ok t) = HeadRead may s at old new t
HeadCase may s at old new (Err x) = StopCase s at x (head_p may (drop at s))

-- the promise of `head`: the answer r, and the table before and after; without a tag the table is scratch
pub record HeadSays (may : Bool) (s : Bytes) (at : ℕ) (old new : List ℕ) (r : Result Tag Stop) : Type 0 where
  pub says : HeadCase may s at old new r
  pub long : length new ≡ length old
