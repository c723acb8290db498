-- Elements and their content.
use Rattle.std.specs.Prelude.{List, [], ◌∷◌, ℕ, suc}
use Rattle.grammar.specs.Bytes.{Bytes, text, joined}
use Rattle.grammar.specs.Glue.{Glue}
use Rattle.grammar.specs.Name.{Name}
use Rattle.grammar.specs.Value.{read_value}
use Rattle.grammar.specs.Attribute.{Attribute, spell_attributes, GoodAttributes}
use Rattle.grammar.specs.Filler.{Filler, spell_filler, below_root, GoodFiller}
use Rattle.grammar.specs.Tree.{Pair, Tree, tree, Forest, no_trees, tree_then}

-- a start tag or an empty tag, but for its brackets
pub record Tag : Type 0 where
  pub name : Bytes
  pub attributes : List Attribute
  pub trail : Bytes

mutual
  -- an empty tag; or a start tag, content, and an end tag with the glue before its `>`
  pub data Element : Type 0 where
    empty : Tag → Element
    full : Tag → Content → Bytes → Element

  -- "An element's content is a run of elements, each with content again": filler, then an element and more, or the end
  pub data Content : Type 0 where
    bare : Filler → Content
    child : Filler → Element → Content → Content

-- "glue may stand before `>` and `/>`"
abbrev pub spell_tag : Tag → Bytes → Bytes
spell_tag t bracket = joined (text "<" ∷ t.name ∷ spell_attributes t.attributes ∷ t.trail ∷ bracket ∷ [])

-- "End tag and start tag have the same name; glue may stand before `>`"
abbrev pub spell_end : Bytes → Bytes → Bytes
spell_end name g = joined (text "</" ∷ name ∷ g ∷ text ">" ∷ [])

abbrev mutual
  pub spell_element : Element → Bytes
  spell_element (empty t) = spell_tag t (text "/>")
  spell_element (full t c g) = joined (spell_tag t (text ">") ∷ spell_content c ∷ spell_end t.name g ∷ [])

  pub spell_content : Content → Bytes
  spell_content (bare f) = spell_filler f
  spell_content (child f e c) = joined (spell_filler f ∷ spell_element e ∷ spell_content c ∷ [])

pub record GoodTag (t : Tag) : Type 0 where
  pub name : Name t.name
  pub attributes : GoodAttributes t.attributes
  pub trail : Glue t.trail

-- "to at most six open elements, the root and an empty tag counted": d more may be open inside this one
mutual
  pub data GoodElement : ℕ → Element → Type 0 where
    good_empty : {d : ℕ} {t : Tag} → GoodTag t → GoodElement d (empty t)
    good_full : {d : ℕ} {t : Tag} {c : Content} {g : Bytes} → GoodTag t → GoodContent d c → Glue g → GoodElement d (full t c g)

  pub data GoodContent : ℕ → Content → Type 0 where
    good_bare : {d : ℕ} {f : Filler} → GoodFiller below_root f → GoodContent d (bare f)
    good_child : {d : ℕ} {f : Filler} {e : Element} {c : Content} → GoodFiller below_root f → GoodElement d e → GoodContent (suc d) c → GoodContent (suc d) (child f e c)

-- "attributes in order, each value as read"
abbrev pub read_attributes : List Attribute → List Pair
read_attributes [] = []
read_attributes (a ∷ l) = record { name = a.name; value = read_value a.value } ∷ read_attributes l

-- "the tree of its elements: names, children and attributes in order"
abbrev mutual
  pub read_element : Element → Tree
  read_element (empty t) = tree t.name (read_attributes t.attributes) no_trees
  read_element (full t c g) = tree t.name (read_attributes t.attributes) (read_content c)

  pub read_content : Content → Forest
  read_content (bare f) = no_trees
  read_content (child f e c) = tree_then (read_element e) (read_content c)
