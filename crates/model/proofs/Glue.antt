-- The reader of glue and what follows it, and that it is exact.
use Rattle.std.specs.Prelude.{◌≡◌, refl, [], ◌∷◌, ◌++◌, ◌⊎◌, Bool, true, false, ◌||◌, ℕ, ◌≤◌, eqb}
use Rattle.std.proofs.Common.{sym, subst, append-nil, inl, inr, arith}
use Rattle.exact.specs.Exact.{Lang, Reader, Exact}
use Rattle.exact.specs.Byte.{eqb-true, Starts, starts}
use Rattle.exact.specs.Token.{token, token_exact}
use Rattle.grammar.specs.Bytes.{Bytes, every}
use Rattle.grammar.specs.Glue.{is_glue}
use Rattle.grammar.specs.Value.{is_quote}
use Rattle.model.specs.Tests.{and_left, or_cases, every_left, every_snoc}
use Rattle.model.proofs.Values.{quote_is}
use Rattle.model.specs.Glue.{always, GlueThen, glue_p}

pub glue_exact : {A : Type 0} {K : Bytes → Lang A} {q : Bytes → Reader A} → ((n k : Bytes) (v : A) → K n k v → Starts is_glue false k)
    → ((n : Bytes) → every is_glue n ≡ true → Exact (K n) (q n)) → Exact (GlueThen K) (glue_p q)
glue_exact {A} {K} {q} st f = token_exact (every_left is_glue) fill apart (λ n h o. f n h) [] refl
  where
    fill : (n : Bytes) → every is_glue n ≡ true → (m : Bytes) × (every is_glue (n ++ m) ≡ true) × (always (n ++ m) ≡ true)
    fill n h = ([], subst (λ (y : Bytes). every is_glue y ≡ true) (sym (append-nil n)) h, refl)

    turn : (n k : Bytes) → Starts is_glue false k → (b : ℕ) × (k' : Bytes) × (k ≡ b ∷ k') × (every is_glue (n ++ b ∷ []) ≡ false)
    turn n k (starts b k' e h) = (b, k', e, every_snoc is_glue n b h)

    apart : (n k : Bytes) (v : A) → every is_glue n ≡ true → always n ≡ true → K n k v → (b : ℕ) × (k' : Bytes) × (k ≡ b ∷ k') × (every is_glue (n ++ b ∷ []) ≡ false)
    apart n k v h o l = turn n k (st n k v l)

pub glue_starts : {A : Type 0} {K : Bytes → Lang A} {t : ℕ → Bool} {z : Bool} → ((b : ℕ) → is_glue b ≡ true → t b ≡ z)
    → ((n k : Bytes) (v : A) → K n k v → Starts t z k) → (w : Bytes) (v : A) → GlueThen K w v → Starts t z w
glue_starts {A} {K} {t} {z} f g w v (token m k e h o l) = subst (λ (y : Bytes). Starts t z y) (sym e) (go m h (g m k v l))
  where
    go : (m : Bytes) → every is_glue m ≡ true → Starts t z k → Starts t z (m ++ k)
    go [] h s = s
    go (b ∷ m) h s = starts b (m ++ k) refl (f b (and_left (is_glue b) (every is_glue m) h))

pub quote_not_glue : (b : ℕ) → is_quote b ≡ true → is_glue b ≡ false
unfolding is_glue
quote_not_glue b h = go (quote_is b h)
  where
    go : (b ≡ 34) ⊎ (b ≡ 39) → is_glue b ≡ false
    go (inl e) = rw e
    go (inr e) = rw e

pub glue_low : (b : ℕ) → is_glue b ≡ true → b ≤ 32
unfolding is_glue
glue_low b h = go (or_cases _ _ h)
  where
    one : (c : ℕ) → c ≤ 32 → eqb c b ≡ true → b ≤ 32
    one c k e = let q = eqb-true c b e in omega arith

    go3 : (eqb 13 b ≡ true) ⊎ (eqb 10 b ≡ true) → b ≤ 32
    go3 (inl e) = one 13 (omega arith) e
    go3 (inr e) = one 10 (omega arith) e

    go2 : (eqb 9 b ≡ true) ⊎ (eqb 13 b || eqb 10 b ≡ true) → b ≤ 32
    go2 (inl e) = one 9 (omega arith) e
    go2 (inr e) = go3 (or_cases _ _ e)

    go : (eqb 32 b ≡ true) ⊎ (eqb 9 b || (eqb 13 b || eqb 10 b) ≡ true) → b ≤ 32
    go (inl e) = one 32 (omega arith) e
    go (inr e) = go2 (or_cases _ _ e)
