-- The models of filler, tags, elements and content as chains of what the code calls.
use mathlib.Core.Path.{◌≡◌, refl, sym, ap, ◌∙◌}
use mathlib.Core.List.{[], ◌∷◌}
use mathlib.Core.Bool.{true, false}
use Prim.Native.Nat.{ℕ, zero, suc}
use lib.Dec.{eqb}
use Rattle.exact.specs.Exact.{Out, done, more, bad, Reader, Exact}
use Rattle.exact.specs.Chain.{ret_p, bind_p}
use Rattle.exact.specs.Loop.{onward, loop_p}
use Rattle.grammar.specs.Bytes.{Bytes}
use Rattle.grammar.specs.Filler.{below_root, Filler}
use Rattle.model.specs.Names.{live, new}
use Rattle.model.specs.Attributes.{head_p}
use Rattle.model.specs.Fillers.{fill_p}
use Rattle.model.specs.Elements.{close_p, Tail, body_p, elem_p, Acc, ContentTurn, shut_turn, child_turn, leaf_tag_p, node_tag_p, content_turn_p, content_p, TagL}
use Rattle.model.proofs.Elements.{leaf_tag_exact, node_tag_exact, loop_content_eq, read_exact}
use Rattle.scan.specs.Pieces.{name_tok, chained}
use Rattle.scan.specs.Unfold.{then_and, and_ext, and_and, token_bind}
use Rattle.scan.proofs.Chain.{then_done}
use Rattle.fillers.specs.Fills.{fill_tok}
use Rattle.fillers.proofs.Fills.{fill_bind}
use Rattle.reader.specs.Elements.{start_p}

-- an element: its tag, then the rest
pub elem_bind : (inner : Bytes → Reader Tail) (t : Bytes) → elem_p inner t ≡ chained (start_p t) (λ x v. body_p inner x.name x.head v)
unfolding elem_p name_tok start_p
elem_bind inner t =
    token_bind (live []) (new []) (λ n. bind_p (head_p true) (body_p inner n)) [] t
    ∙ and_ext (name_tok t) (λ n u. then_and (head_p true u) (body_p inner n)
    ∙ sym (and_and (head_p true u) (λ h v. done (record { name = n; head = h }) v) (λ x v. body_p inner x.name x.head v) ∙ and_ext (head_p true u) (λ h v. then_done _ refl)))
    ∙ sym (and_and (name_tok t) (λ n u. chained (head_p true u) (λ h v. done (record { name = n; head = h }) v)) (λ x v. body_p inner x.name x.head v))

-- behind filler and `<` in a content, d more elements may be open
unfoldable pub tag_p : ℕ → Bytes → Acc → Filler → Reader ContentTurn
tag_p zero n = leaf_tag_p n
tag_p (suc d) n = node_tag_p (elem_p (content_p d)) n

-- what is left of a content of which k is built
unfoldable pub rest_p : ℕ → Bytes → Acc → Reader Tail
rest_p d n k = loop_p (content_turn_p (tag_p d n)) k

pub content_is : (d : ℕ) (n t : Bytes) → content_p d n t ≡ rest_p d n (λ c. c) t
unfolding content_p rest_p tag_p
content_is zero n t = refl
content_is (suc d) n t = refl

tag_exact : (d : ℕ) (n : Bytes) (k : Acc) (f : Filler) → Exact (TagL n k f d) (tag_p d n k f)
unfolding tag_p
tag_exact zero n k f = leaf_tag_exact n k f
tag_exact (suc d) n k f = node_tag_exact d (read_exact d) n k f

-- one turn
pub content_step : (d : ℕ) (n : Bytes) (k : Acc) (t : Bytes) → rest_p d n k t ≡ chained (fill_tok below_root t) (λ f u. chained (tag_p d n k f u) (onward (rest_p d n)))
unfolding rest_p content_turn_p
content_step d n k t =
    loop_content_eq d n (tag_p d n) (tag_exact d n) k t
    ∙ then_and (fill_p below_root (tag_p d n k) t) (onward (rest_p d n))
    ∙ ap (λ (o : Out ContentTurn). chained o (onward (rest_p d n))) (fill_bind below_root (tag_p d n k) t)
    ∙ and_and (fill_tok below_root t) (tag_p d n k) (onward (rest_p d n))

module _ (d : ℕ) (n : Bytes) (k : Acc) (f : Filler) where
  pub tag_open : tag_p d n k f [] ≡ more
  unfolding tag_p leaf_tag_p node_tag_p close_p
  tag_open = go d
    where
      go : (d : ℕ) → tag_p d n k f [] ≡ more
      go zero = refl
      go (suc d) = refl

  pub tag_close : (b : ℕ) (t : Bytes) → eqb 47 b ≡ true → tag_p d n k f (b ∷ t) ≡ close_p n (shut_turn k f) (b ∷ t)
  unfolding tag_p leaf_tag_p node_tag_p
  tag_close b t h = go d
    where
      go : (d : ℕ) → tag_p d n k f (b ∷ t) ≡ close_p n (shut_turn k f) (b ∷ t)
      go zero = refl
      go (suc d) = rw h

pub tag_deep : (n : Bytes) (k : Acc) (f : Filler) (b : ℕ) (t : Bytes) → eqb 47 b ≡ false → tag_p 0 n k f (b ∷ t) ≡ bad (b ∷ t)
unfolding tag_p leaf_tag_p close_p
tag_deep n k f b t h = rw h

pub tag_child : (d : ℕ) (n : Bytes) (k : Acc) (f : Filler) (b : ℕ) (t : Bytes) → eqb 47 b ≡ false → tag_p (suc d) n k f (b ∷ t) ≡ chained (elem_p (content_p d) (b ∷ t)) (λ e u. done (child_turn k f e) u)
unfolding tag_p node_tag_p
tag_child d n k f b t h = rw h (then_and (elem_p (content_p d) (b ∷ t)) (λ e. ret_p (child_turn k f e)))
