-- The next child in a content.
use Rattle.std.specs.Prelude.{◌≡◌, ◌++◌, ℕ, ◌+◌, ◌-◌, length, drop, Option, Some, None}
use Rattle.grammar.specs.Bytes.{Bytes}
use Rattle.grammar.specs.Limits.{DEPTH}
use Rattle.grammar.specs.Filler.{below_root, Filler, spell_filler, GoodFiller}
use Rattle.grammar.specs.Element.{Element, spell_element, GoodElement}
use Rattle.grammar.specs.Places.{Outlines}
use Rattle.reader.specs.declared.answer.Child.{Child}

-- the bytes w begin with filler and an element: a child of the root's child, with what may be open inside it
pub record Next (w : Bytes) (f : Filler) (x : Element) : Type 0 where
  pub rest : Bytes
  pub filler : GoodFiller below_root f
  pub element : GoodElement (DEPTH - 3) x
  pub whole : w ≡ spell_filler f ++ (spell_element x ++ rest)

-- where its parts stand, and where it ends
pub record Stands (s : Bytes) (at : ℕ) (r : Child) : Type 0 where
  pub f : Filler
  pub x : Element
  pub next : Next (drop at s) f x
  pub lines : Outlines (at + length (spell_filler f) + 1) x r.outline.from r.outline.to r.outline.count r.outline.inside
  pub ends : r.next ≡ at + length (spell_filler f) + length (spell_element x)

-- a child is found exactly if one stands at `at`
abbrev pub NextCase : Bytes → ℕ → Option Child → Type 0
NextCase s at (Some r) = Stands s at r
NextCase s at None = (f : Filler) (x : Element) → ¬ Next (drop at s) f x

pub record NextChild (s : Bytes) (at : ℕ) (r : Option Child) : Type 0 where
  pub says : NextCase s at r
