-- The models as chains of the frame's pieces: the equations that code proofs use.
use Rattle.std.specs.Prelude.{◌≡◌, refl, [], ◌∷◌, ◌++◌, Bool, true, false, ℕ, eqb}
use Rattle.std.proofs.Common.{sym, ap, ◌∙◌}
use Rattle.model.specs.Glue.{always, glue_p}
use Rattle.model.specs.Elements.{close_p}
use Rattle.exact.specs.Exact.{Out, done, more, bad, Reader}
use Rattle.exact.specs.Chain.{ret_p, and_then}
use Rattle.exact.specs.Byte.{pick, on_p, lit_p}
use Rattle.exact.specs.Token.{token_p}
use Rattle.grammar.specs.Bytes.{Bytes, every}
use Rattle.grammar.specs.Glue.{is_glue}
use Rattle.scan.specs.Pieces.{byte_p, word_p, glue_tok, chained, glued_p, end_tag_p}

pub then_and : {A B : Type 0} (o : Out A) (q : A → Reader B) → and_then o q ≡ chained o q
unfolding chained
then_and (done a r) q = refl
then_and more q = refl
then_and (bad r) q = refl

pub and_ext : {A B : Type 0} (o : Out A) {K L : A → Bytes → Out B} → ((a : A) (t : Bytes) → K a t ≡ L a t) → chained o K ≡ chained o L
unfolding chained
and_ext (done a r) f = f a r
and_ext more f = refl
and_ext (bad r) f = refl

pub and_and : {A B C : Type 0} (o : Out A) (K : A → Bytes → Out B) (L : B → Bytes → Out C) → chained (chained o K) L ≡ chained o (λ a t. chained (K a t) L)
unfolding chained
and_and (done a r) K L = refl
and_and more K L = refl
and_and (bad r) K L = refl

pub token_bind : {A : Type 0} (pre ok : Bytes → Bool) (q : Bytes → Reader A) (n t : Bytes) → token_p pre ok q n t ≡ chained (token_p pre ok ret_p n t) q
unfolding chained
token_bind pre ok q n [] = refl
token_bind pre ok q n (b ∷ t) = at (pre (n ++ b ∷ [])) (ok n) (token_bind pre ok q (n ++ b ∷ []) t)
  where
    at : (x y : Bool) → token_p pre ok q (n ++ b ∷ []) t ≡ chained (token_p pre ok ret_p (n ++ b ∷ []) t) q
        → pick x (token_p pre ok q (n ++ b ∷ []) t) (pick y (q n (b ∷ t)) (bad (b ∷ t))) ≡ chained (pick x (token_p pre ok ret_p (n ++ b ∷ []) t) (pick y (ret_p n (b ∷ t)) (bad (b ∷ t)))) q
    at true y h = h
    at false true h = refl
    at false false h = refl

pub glue_bind : {A : Type 0} (q : Bytes → Reader A) (t : Bytes) → glue_p q t ≡ chained (glue_tok t) q
unfolding glue_tok
glue_bind q t = token_bind (every is_glue) always q [] t

-- a byte, then q
pub on_bind : {A : Type 0} (c : ℕ) (q : Reader A) (t : Bytes) → on_p (eqb c) (λ b. q) t ≡ chained (byte_p c t) (λ _ u. q u)
unfolding chained byte_p
on_bind c q [] = refl
on_bind c q (b ∷ t) = at (eqb c b)
  where
    at : (z : Bool) → pick z (q t) (bad (b ∷ t)) ≡ chained {A = ℕ} (pick z (done 0 t) (bad (b ∷ t))) (λ _ u. q u)
    at true = refl
    at false = refl

pub lit_bind : {A : Type 0} (c : ℕ) (cs : Bytes) (a : A) (t : Bytes) → lit_p (c ∷ cs) a t ≡ chained (byte_p c t) (λ _ u. lit_p cs a u)
lit_bind c cs a t = on_bind c (lit_p cs a) t

-- glue, a byte, then q
pub glued_bind : {A : Type 0} (c : ℕ) (q : Bytes → Reader A) (t : Bytes) → glue_p (λ g. on_p (eqb c) (λ b. q g)) t ≡ chained (glued_p c t) q
unfolding glued_p chained
glued_bind c q t = glue_bind (λ g. on_p (eqb c) (λ b. q g)) t ∙ and_ext (glue_tok t) (λ g u. on_bind c (q g) u ∙ sym (and_and (byte_p c u) (λ _ v. done g v) q)) ∙ sym (and_and (glue_tok t) (λ g u. chained (byte_p c u) (λ _ v. done g v)) q)

-- the end tag
pub close_bind : {A : Type 0} (n : Bytes) (f : Bytes → A) (t : Bytes) → close_p n f t ≡ chained (end_tag_p n t) (λ g u. done (f g) u)
unfolding close_p end_tag_p word_p
close_bind {A} n f t =
    then_and (lit_p {A = ℕ} (47 ∷ n) 0 t) (λ u. glue_p (λ g. lit_p (62 ∷ []) (f g)))
    ∙ ap (λ (o : Out ℕ). chained o (λ _ u. glue_p (λ g. lit_p (62 ∷ []) (f g)) u)) (lit_bind 47 n 0 t)
    ∙ and_and (byte_p 47 t) (λ _ u. lit_p n 0 u) (λ _ u. glue_p (λ g. lit_p (62 ∷ []) (f g)) u)
    ∙ and_ext (byte_p 47 t) (λ _ u. and_ext (lit_p n 0 u) (λ _ v. glued_bind 62 (λ g. ret_p (f g)) v) ∙ sym (and_and (lit_p n 0 u) (λ _ v. glued_p 62 v) (λ g w. done (f g) w)))
    ∙ sym (and_and (byte_p 47 t) (λ _ u. chained (lit_p n 0 u) (λ _ v. glued_p 62 v)) (λ g w. done (f g) w))
