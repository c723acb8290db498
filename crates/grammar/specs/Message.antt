-- Which byte strings are messages, and what each reads as.
use Rattle.std.specs.Prelude.{◌≡◌, List, [], ◌∷◌, ◌-◌}
use Rattle.grammar.specs.Bytes.{Bytes, text, joined}
use Rattle.grammar.specs.Limits.{DEPTH}
use Rattle.grammar.specs.Glue.{Glue}
use Rattle.grammar.specs.Attribute.{Attribute, spell_attributes, GoodAttributes}
use Rattle.grammar.specs.Filler.{Filler, spell_filler, in_root, GoodFiller}
use Rattle.grammar.specs.Tree.{Tree, tree, no_trees, tree_then}
use Rattle.grammar.specs.Element.{Element, spell_end, spell_element, GoodElement, read_attributes, read_element}
use Rattle.grammar.specs.Declaration.{Declaration, spell_declaration, GoodDeclaration}

-- "The root element is `Hermes`, with exactly one child element. Any element but the root may be an empty tag."
pub record Root : Type 0 where
  pub attributes : List Attribute
  pub trail : Bytes
  pub before : Filler
  pub inner : Element
  pub after : Filler
  pub shut : Bytes

-- A message as it stands: "Optional declaration: .. Glue may follow", and comments. Then the root.
pub data Layout : Type 0 where
  plain : Root → Layout
  declared : Declaration → Filler → Root → Layout

abbrev pub hermes : Bytes
hermes = text "Hermes"

abbrev pub spell_root : Root → Bytes
spell_root r =
    joined
    (text "<"
    ∷ hermes
    ∷ spell_attributes r.attributes
    ∷ r.trail
    ∷ text ">"
    ∷ spell_filler r.before
    ∷ spell_element r.inner
    ∷ spell_filler r.after
    ∷ spell_end hermes r.shut
    ∷ [])

-- "A message starts at `<` and ends with the `>` that closes the root."
abbrev pub spell_layout : Layout → Bytes
spell_layout (plain r) = spell_root r
spell_layout (declared d f r) = joined (spell_declaration d ∷ spell_filler f ∷ spell_root r ∷ [])

-- Of "at most six open elements" the root and its child are two: inside the child four more may be open, one in another.
pub record GoodRoot (r : Root) : Type 0 where
  pub attributes : GoodAttributes r.attributes
  pub trail : Glue r.trail
  pub before : GoodFiller in_root r.before
  pub inner : GoodElement (DEPTH - 2) r.inner
  pub after : GoodFiller in_root r.after
  pub shut : Glue r.shut

pub data GoodLayout : Layout → Type 0 where
  good_plain : {r : Root} → GoodRoot r → GoodLayout (plain r)
  good_declared : {d : Declaration} {f : Filler} {r : Root} → GoodDeclaration d → GoodFiller in_root f → GoodRoot r → GoodLayout (declared d f r)

abbrev pub read_root : Root → Tree
read_root r = tree hermes (read_attributes r.attributes) (tree_then (read_element r.inner) no_trees)

-- the declaration, what stands between elements, and the quotes are no part of the reading
abbrev pub read_layout : Layout → Tree
read_layout (plain r) = read_root r
read_layout (declared d f r) = read_root r

-- these bytes are laid out so
pub record Laid (w : Bytes) (l : Layout) : Type 0 where
  pub good : GoodLayout l
  pub spelt : w ≡ spell_layout l

-- the bytes w are a message, and read as t
pub record Message (w : Bytes) (t : Tree) : Type 0 where
  pub layout : Layout
  pub laid : Laid w layout
  pub reads : t ≡ read_layout layout
