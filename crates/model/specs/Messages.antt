-- The reader of the root and of whole messages.
use Rattle.std.specs.Prelude.{◌≡◌, ◌∷◌, false, ℕ, ◌-◌, eqb}
use Prim.Native.Char.{code}
use Rattle.exact.specs.Exact.{Reader}
use Rattle.exact.specs.Chain.{bind_p, map_p}
use Rattle.exact.specs.Byte.{on_p, lit_p, choice_p}
use Rattle.grammar.specs.Bytes.{Bytes}
use Rattle.grammar.specs.Limits.{DEPTH}
use Rattle.grammar.specs.Filler.{in_root, Filler}
use Rattle.grammar.specs.Tree.{Tree}
use Rattle.grammar.specs.Element.{Element}
use Rattle.grammar.specs.Message.{Root, Layout, plain, declared, hermes, spell_root, GoodRoot, read_layout}
use Rattle.model.specs.Attributes.{Head, head_p}
use Rattle.model.specs.Fillers.{fill_p}
use Rattle.model.specs.Elements.{close_p, elem_p, content_p}
use Rattle.model.specs.Declarations.{declaration_p}

-- the root, behind its `<`
abbrev pub mk_root : Head → Filler → Element → Filler → Bytes → Root
mk_root h f e f' g = record { attributes = h.attributes; trail = h.trail; before = f; inner = e; after = f'; shut = g }

unfoldable pub root_p : Reader Root
root_p =
    bind_p (lit_p {A = ℕ} hermes 0) (λ u. bind_p (head_p false) (λ h. fill_p in_root (λ f. bind_p (elem_p (content_p (DEPTH - 2))) (λ e. fill_p in_root (λ f'. close_p hermes (mk_root h f e f'))))))

pub record IsRoot (w : Bytes) (r : Root) : Type 0 where
  pub good : GoodRoot r
  pub spelt : code "<" ∷ w ≡ spell_root r

-- a message, from its first `<`
unfoldable pub layout_p : Reader Layout
layout_p =
    on_p (eqb (code "<")) (λ b. choice_p (eqb (code "?")) (on_p (eqb (code "?")) (λ c. bind_p declaration_p (λ d. fill_p in_root (λ f. map_p (declared d f) root_p)))) (map_p plain root_p))

-- a message with its reading
unfoldable pub message_p : Reader Tree
message_p = map_p read_layout layout_p
