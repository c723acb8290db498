-- Where the parts of a message stand: the root's child, its attributes, their names and raw values.
use Rattle.std.specs.Prelude.{◌≡◌, ◌∷◌, ◌++◌, ℕ, ◌+◌, length}
use Prim.Native.Char.{code}
use Rattle.grammar.specs.Bytes.{Bytes, text}
use Rattle.grammar.specs.Value.{spell_value}
use Rattle.grammar.specs.Attribute.{Attribute, spell_attributes}
use Rattle.grammar.specs.Filler.{spell_filler}
use Rattle.grammar.specs.Element.{Tag, Element, empty, full}
use Rattle.grammar.specs.Declaration.{spell_declaration}
use Rattle.grammar.specs.Message.{Root, Layout, plain, declared, hermes}

-- "The root's child names the message"
abbrev pub inner_of : Root → Element
inner_of r = r.inner

abbrev pub child_of : Layout → Element
child_of (plain r) = r.inner
child_of (declared d f r) = r.inner

-- an element's start tag, or its empty tag
abbrev pub tag_in : Element → Tag
tag_in (empty t) = t
tag_in (full t c g) = t

-- what stands before the name of the root's child: in the root behind its `<`; in the message
abbrev pub root_lead : Root → Bytes
root_lead r = hermes ++ (spell_attributes r.attributes ++ (r.trail ++ code ">" ∷ (spell_filler r.before ++ text "<")))

abbrev pub lead : Layout → Bytes
lead (plain r) = code "<" ∷ root_lead r
lead (declared d f r) = spell_declaration d ++ (spell_filler f ++ code "<" ∷ root_lead r)

-- the place behind the start tag of an element whose name ends at `to`: 0 if it is an empty tag
abbrev pub inside_from : ℕ → Element → ℕ
inside_from to (empty t) = 0
inside_from to (full t c g) = to + length (spell_attributes t.attributes ++ (t.trail ++ text ">"))

-- the element whose name starts at `at`: where the name stands, how many attributes there are, the place behind its
-- start tag
pub record Outlines (at : ℕ) (x : Element) (from to count inside : ℕ) : Type 0 where
  pub starts : from ≡ at
  pub ends : to ≡ at + length (tag_in x).name
  pub counts : count ≡ length (tag_in x).attributes
  pub behind : inside ≡ inside_from to x

-- an attribute with its glue starts at `at`

-- the first byte of its name
abbrev pub name_at : ℕ → Attribute → ℕ
name_at at a = at + length a.before

-- one past the name
abbrev pub name_end : ℕ → Attribute → ℕ
name_end at a = name_at at a + length a.name

-- the first byte of its raw value: behind glue, `=`, glue and the opening quote
abbrev pub value_at : ℕ → Attribute → ℕ
value_at at a = name_end at a + length a.mid + 1 + length a.after + 1

-- one past the value, where the closing quote stands
abbrev pub value_end : ℕ → Attribute → ℕ
value_end at a = value_at at a + length (spell_value a.value)
