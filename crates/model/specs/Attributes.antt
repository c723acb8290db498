-- The reader of attributes and the end of a tag.
use Rattle.std.specs.Prelude.{◌≡◌, Bool, ◌&&◌, ℕ, ◌-◌, eqb}
use mathlib.Core.List.{List, [], ◌∷◌, ◌++◌}
use Rattle.std.proofs.Math.Bool.{true, false}
use Rattle.std.proofs.Math.ListN.{length}
use Rattle.std.proofs.Math.Dec.{leb}
use Rattle.exact.specs.Exact.{Reader}
use Rattle.exact.specs.Chain.{map_p, if_p}
use Rattle.exact.specs.Byte.{on_p, lit_p, choice_p}
use Rattle.exact.specs.Token.{token_p}
use Rattle.exact.specs.Loop.{Turn, again, stop, loop_p}
use Rattle.grammar.specs.Bytes.{Bytes, text, non_empty}
use Rattle.grammar.specs.Limits.{ATTRIBUTES}
use Rattle.grammar.specs.Glue.{Glue}
use Rattle.grammar.specs.Name.{name_start}
use Rattle.grammar.specs.Value.{Item, is_quote}
use Rattle.grammar.specs.Attribute.{Attribute, spell_attributes, GoodAttributes}
use Rattle.model.specs.Values.{value_p}
use Rattle.model.specs.Glue.{glue_p}
use Rattle.model.specs.Names.{live, new}

-- What stands behind an element's name in its tag: attributes, glue, and `>` or `/>`.
pub record Head : Type 0 where
  pub attributes : List Attribute
  pub trail : Bytes
  pub empty : Bool

abbrev pub end_of : Bool → Bytes
end_of true = text "/>"
end_of false = text ">"

abbrev pub spell_head : Head → Bytes
spell_head h = spell_attributes h.attributes ++ (h.trail ++ end_of h.empty)

-- may: whether an empty tag is allowed
pub record IsHead (may : Bool) (w : Bytes) (h : Head) : Type 0 where
  pub allowed : h.empty ≡ true → may ≡ true
  pub attributes : GoodAttributes h.attributes
  pub trail : Glue h.trail
  pub spelt : w ≡ spell_head h

-- the names so far, and what was read so far
pub record State : Type 0 where
  pub seen : List Bytes
  pub build : List Attribute → List Attribute

abbrev pub T : Type 0
T = Turn State Head

abbrev pub mk : State → (g n g₂ g₃ : Bytes) → ℕ → List Item → T
mk st g n g₂ g₃ q l =
    again (record { seen = n ∷ st.seen; build = λ r. st.build (record { before = g; name = n; mid = g₂; after = g₃; quote = q; value = l } ∷ r) })

abbrev pub fin : State → Bytes → Bool → T
fin st g z = stop (record { attributes = st.build []; trail = g; empty = z })

-- may: whether an empty tag is allowed
module _ (may : Bool) where
  unfoldable pub end_p : State → Bytes → Reader T
  end_p st g = if_p may (choice_p (eqb 62) (lit_p (62 ∷ []) (fin st g false)) (lit_p (47 ∷ 62 ∷ []) (fin st g true))) (lit_p (62 ∷ []) (fin st g false))

  unfoldable pub quoted_p : State → (g n g₂ g₃ : Bytes) → Reader T
  quoted_p st g n g₂ g₃ = on_p is_quote (λ q. map_p (mk st g n g₂ g₃ q) (value_p q))

  unfoldable pub equals_p : State → (g n : Bytes) → Reader T
  equals_p st g n = glue_p (λ g₂. on_p (eqb 61) (λ b. glue_p (quoted_p st g n g₂)))

  unfoldable pub attr_p : State → Bytes → Reader T
  attr_p st g = token_p (live st.seen) (new st.seen) (equals_p st g) []

  unfoldable pub turn_p : State → Reader T
  turn_p st = glue_p (λ g. if_p (non_empty g && leb (length st.seen) (ATTRIBUTES - 1)) (choice_p name_start (attr_p st g) (end_p st g)) (end_p st g))

  unfoldable pub head_p : Reader Head
  head_p = loop_p turn_p (record { seen = []; build = λ l. l })
