-- Attributes.
use Rattle.std.specs.Prelude.{◌≡◌, List, [], ◌∷◌, ◌++◌, Bool, true, ◌&&◌, not, ℕ, ◌≤◌, length}
use Rattle.grammar.specs.Bytes.{Bytes, text, joined, non_empty, among}
use Rattle.grammar.specs.Limits.{ATTRIBUTES}
use Rattle.grammar.specs.Glue.{Glue}
use Rattle.grammar.specs.Name.{Name}
use Rattle.grammar.specs.Value.{Item, spell_value, quoted, is_quote, GoodValue}

-- "glue before each and allowed around `=`; value in single or double quotes"
pub record Attribute : Type 0 where
  pub before : Bytes
  pub name : Bytes
  pub mid : Bytes
  pub after : Bytes
  pub quote : ℕ
  pub value : List Item

abbrev pub spell_attribute : Attribute → Bytes
spell_attribute a = joined (a.before ∷ a.name ∷ a.mid ∷ text "=" ∷ a.after ∷ quoted a.quote (spell_value a.value) ∷ [])

abbrev pub spell_attributes : List Attribute → Bytes
spell_attributes [] = []
spell_attributes (a ∷ l) = spell_attribute a ++ spell_attributes l

pub record GoodAttribute (a : Attribute) : Type 0 where
  pub before : Glue a.before
  pub apart : non_empty a.before ≡ true
  pub name : Name a.name
  pub mid : Glue a.mid
  pub after : Glue a.after
  pub quote : is_quote a.quote ≡ true
  pub value : GoodValue a.quote a.value

pub data GoodEach : List Attribute → Type 0 where
  good_none : GoodEach []
  good_each : {a : Attribute} {l : List Attribute} → GoodAttribute a → GoodEach l → GoodEach (a ∷ l)

-- "no name twice": each name is none of the earlier ones
abbrev pub fresh : List Bytes → List Attribute → Bool
fresh earlier [] = true
fresh earlier (a ∷ l) = not (among earlier a.name) && fresh (a.name ∷ earlier) l

-- "At most 32 attributes per element, no name twice"
pub record GoodAttributes (l : List Attribute) : Type 0 where
  pub few : length l ≤ ATTRIBUTES
  pub fresh_names : fresh [] l ≡ true
  pub each : GoodEach l
