-- The models of the root and of messages as chains of what the code calls.
use mathlib.Core.Path.{◌≡◌, refl, ◌∙◌}
use mathlib.Core.List.{[], ◌∷◌}
use mathlib.Core.Bool.{true, false}
use Prim.Native.Nat.{ℕ, ◌-◌}
use native.Mathlib.Omega.{arith}
use lib.Dec.{eqb}
use Rattle.exact.specs.Exact.{Out, done, more, bad, Reader}
use Rattle.exact.specs.Chain.{bind_p, map_p}
use Rattle.exact.specs.Byte.{on_p, lit_p, choice_p}
use Rattle.grammar.specs.Bytes.{Bytes}
use Rattle.grammar.specs.Limits.{DEPTH}
use Rattle.grammar.specs.Message.{Layout, plain, declared, hermes}
use Rattle.model.specs.Attributes.{head_p}
use Rattle.model.specs.Fillers.{fill_p}
use Rattle.model.specs.Elements.{close_p, elem_p, content_p}
use Rattle.model.specs.Declarations.{declaration_p}
use Rattle.model.specs.Messages.{mk_root, root_p, layout_p}
use Rattle.scan.specs.Pieces.{byte_p, word_p, chained}
use Rattle.scan.specs.Unfold.{then_and, and_ext, on_bind, close_bind}
use Rattle.grammar.specs.Filler.{in_root}
use Rattle.fillers.specs.Fills.{fill_tok}
use Rattle.fillers.proofs.Fills.{fill_bind}
use Rattle.reader.specs.Message.{inside_p, declared_p}

pub root_bind : (t : Bytes) → root_p t ≡ chained (word_p hermes t) (λ _ u. chained (head_p false u) (λ h v. chained (fill_tok in_root v) (λ f w. inside_p hermes h f w)))
unfolding root_p word_p inside_p
root_bind t =
    then_and (lit_p {A = ℕ} hermes 0 t) _
    ∙ and_ext (lit_p {A = ℕ} hermes 0 t) (λ _ u. then_and (head_p false u) _ ∙ and_ext (head_p false u) (λ h v.
    fill_bind in_root (λ f. bind_p (elem_p (content_p (DEPTH - 2))) (λ e. fill_p in_root (λ f'. close_p hermes (mk_root h f e f')))) v ∙ and_ext (fill_tok in_root v) (λ f w.
    then_and (elem_p (content_p (DEPTH - 2)) w) _ ∙ and_ext (elem_p (content_p (DEPTH - 2)) w) (λ e x.
    fill_bind in_root (λ f'. close_p hermes (mk_root h f e f')) x ∙ and_ext (fill_tok in_root x) (λ f' y. close_bind hermes (mk_root h f e f') y)))))

-- behind the first `<`
unfoldable pub after_p : Reader Layout
after_p =
    choice_p (eqb 63) (on_p (eqb 63) (λ c. bind_p declaration_p (λ d. fill_p in_root (λ f. map_p (declared d f) root_p)))) (map_p plain root_p)

pub layout_bind : (t : Bytes) → layout_p t ≡ chained (byte_p 60 t) (λ _ u. after_p u)
unfolding layout_p after_p
layout_bind t =
    on_bind 60 (choice_p (eqb 63) (on_p (eqb 63) (λ c. bind_p declaration_p (λ d. fill_p in_root (λ f. map_p (declared d f) root_p)))) (map_p plain root_p)) t

declared_bind : (t : Bytes) → bind_p declaration_p (λ d. fill_p in_root (λ f. map_p (declared d f) root_p)) t ≡ declared_p t
unfolding declared_p
declared_bind t = then_and (declaration_p t) _ ∙ and_ext (declaration_p t) (λ d u. fill_bind in_root (λ f. map_p (declared d f) root_p) u ∙ and_ext (fill_tok in_root u) (λ f v. then_and (root_p v) _))

pub after_open : after_p [] ≡ more
unfolding after_p
after_open = refl

pub after_declared : (b : ℕ) (t : Bytes) → eqb 63 b ≡ true → after_p (b ∷ t) ≡ declared_p t
unfolding after_p
after_declared b t h = rw h (declared_bind t)

pub after_plain : (b : ℕ) (t : Bytes) → eqb 63 b ≡ false → after_p (b ∷ t) ≡ chained (root_p (b ∷ t)) (λ r w. done (plain r) w)
unfolding after_p
after_plain b t h = rw h (then_and (root_p (b ∷ t)) _)

-- what is done was done by both
pub both_done : {A B : Type 0} (o : Out A) (K : A → Bytes → Out B) {v : B} {u : Bytes} → chained o K ≡ done v u → (a : A) × (r : Bytes) × (o ≡ done a r) × (K a r ≡ done v u)
unfolding chained
both_done (done a r) K h = (a, r, refl, h)
both_done more K h = absurd (let z : ◌≡◌ {A = ℕ} 0 1 = cc in omega arith)
both_done (bad r) K h = absurd (let z : ◌≡◌ {A = ℕ} 0 1 = cc in omega arith)
