-- What stands at the places that an outline or a child names: the name, the attributes, the content; and that `child`, called
-- again and again from the place behind a start tag, finds the children of that content and then its end.
use Rattle.std.specs.Prelude.{◌≡◌, ◌++◌, ℕ, ◌+◌, length, drop, Option, Some, None}
use Rattle.grammar.specs.Bytes.{Bytes}
use Rattle.grammar.specs.Filler.{Filler, spell_filler}
use Rattle.grammar.specs.Element.{Element, Content, bare, child, spell_content}
use Rattle.grammar.specs.Places.{Outlines}
use Rattle.reader.specs.declared.answer.Child.{Child}

-- in a content, `child` finds the next child, and the rest of the content behind it
pub record NextIn (s : Bytes) (at : ℕ) (f : Filler) (x : Element) (left : Bytes) (r : Child) : Type 0 where
  pub lines : Outlines (at + length (spell_filler f) + 1) x r.outline.from r.outline.to r.outline.count r.outline.inside
  pub left_over : drop r.next s ≡ left

abbrev pub InContent : Bytes → ℕ → Content → Bytes → Option Child → Type 0
InContent s at (bare f) end r = r ≡ None
InContent s at (child f x c) end None = ⊥
InContent s at (child f x c) end (Some r) = NextIn s at f x (spell_content c ++ end) r
