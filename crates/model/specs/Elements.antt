-- The reader of elements and their content.
use Rattle.std.specs.Prelude.{◌≡◌, Bool, ℕ, zero, suc, eqb}
use mathlib.Core.List.{[], ◌∷◌, ◌++◌}
use Rattle.std.proofs.Math.Bool.{true}
use Prim.Native.Char.{code}
use Rattle.exact.specs.Exact.{Reader}
use Rattle.exact.specs.Chain.{ret_p, bind_p, map_p, if_p}
use Rattle.exact.specs.Byte.{lit_p, choice_p}
use Rattle.exact.specs.Token.{token_p}
use Rattle.exact.specs.Loop.{Turn, again, stop, loop_p}
use Rattle.grammar.specs.Bytes.{Bytes, text}
use Rattle.grammar.specs.Glue.{Glue}
use Rattle.grammar.specs.Filler.{below_root, Filler}
use Rattle.grammar.specs.Element.{Tag, Element, empty, full, Content, bare, child, spell_element, GoodElement}
use Rattle.model.specs.Glue.{glue_p}
use Rattle.model.specs.Names.{live, new}
use Rattle.model.specs.Attributes.{Head, head_p}
use Rattle.model.specs.Fillers.{fill_p}

-- behind `<`: the end tag of n
abbrev pub closing : Bytes → Bytes → Bytes
closing n g = code "/" ∷ (n ++ (g ++ text ">"))

unfoldable pub close_p : {A : Type 0} → Bytes → (Bytes → A) → Reader A
close_p n f = bind_p (lit_p {A = ℕ} (code "/" ∷ n) 0) (λ u. glue_p (λ g. lit_p (text ">") (f g)))

pub data CloseL {A : Type 0} (n : Bytes) (f : Bytes → A) (w : Bytes) (v : A) : Type 0 where
  close : (g : Bytes) → Glue g → w ≡ closing n g → v ≡ f g → CloseL n f w v

-- a content, and the glue of the end tag behind it
pub record Tail : Type 0 where
  pub content : Content
  pub glue : Bytes

abbrev pub tag_of : Bytes → Head → Tag
tag_of n h = record { name = n; attributes = h.attributes; trail = h.trail }

-- behind the tag's head
abbrev pub body_p : (Bytes → Reader Tail) → Bytes → Head → Reader Element
body_p inner n h = if_p h.empty (ret_p (empty (tag_of n h))) (map_p (λ t. full (tag_of n h) t.content t.glue) (inner n))

-- an element, behind its `<`
unfoldable pub elem_p : (Bytes → Reader Tail) → Reader Element
elem_p inner = token_p (live []) (new []) (λ n. bind_p (head_p true) (body_p inner n)) []

-- a content and the end tag behind it: k builds what was read so far
abbrev pub Acc : Type 0
Acc = Content → Content

abbrev pub ContentTurn : Type 0
ContentTurn = Turn Acc Tail

abbrev pub shut_turn : Acc → Filler → Bytes → ContentTurn
shut_turn k f g = stop (record { content = k (bare f); glue = g })

abbrev pub child_turn : Acc → Filler → Element → ContentTurn
child_turn k f e = again (λ c. k (child f e c))

-- behind filler and `<`
unfoldable pub leaf_tag_p : Bytes → Acc → Filler → Reader ContentTurn
leaf_tag_p n k f = close_p n (shut_turn k f)

unfoldable pub node_tag_p : Reader Element → Bytes → Acc → Filler → Reader ContentTurn
node_tag_p elem n k f = choice_p (eqb (code "/")) (close_p n (shut_turn k f)) (map_p (child_turn k f) elem)

unfoldable pub content_turn_p : (Acc → Filler → Reader ContentTurn) → Acc → Reader ContentTurn
content_turn_p tag k = fill_p below_root (tag k)

-- d more elements may be open inside
unfoldable pub content_p : ℕ → Bytes → Reader Tail
content_p zero n = loop_p (content_turn_p (leaf_tag_p n)) (λ c. c)
content_p (suc d) n = loop_p (content_turn_p (node_tag_p (elem_p (content_p d)) n)) (λ c. c)

-- the languages: an element behind its `<`, a content with the end tag behind it
pub record IsElement (d : ℕ) (w : Bytes) (e : Element) : Type 0 where
  pub good : GoodElement d e
  pub spelt : code "<" ∷ w ≡ spell_element e

-- behind filler f and `<`
pub data TagL (n : Bytes) (k : Acc) (f : Filler) : ℕ → Bytes → ContentTurn → Type 0 where
  shutting : {d : ℕ} {w : Bytes} {t : ContentTurn} → CloseL n (shut_turn k f) w t → TagL n k f d w t
  opening : {d : ℕ} {w : Bytes} {t : ContentTurn} (e : Element) → IsElement d w e → t ≡ child_turn k f e → TagL n k f (suc d) w t

abbrev pub head_of : Tag → Bool → Head
head_of t z = record { attributes = t.attributes; trail = t.trail; empty = z }
