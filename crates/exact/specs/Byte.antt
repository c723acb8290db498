-- Readers that go by the first byte: a byte of a class, a fixed string, one reader or another.
use Rattle.std.specs.Prelude.{◌≡◌, refl, [], ◌∷◌, ◌++◌, Bool, true, false, ℕ, T, eqb}
use Rattle.std.proofs.Common.{sym, subst, ◌∙◌, arith, eqb→eq}
use Rattle.std.proofs.Math.Dec.{eqb_refl}
use Rattle.exact.specs.Exact.{Word, Lang, Out, done, more, bad, Reader, Seen, is_done, is_more, is_bad, Exact, inhabited, exact_like}
use Rattle.exact.specs.Chain.{Ret, ret, ret_p, ret_exact, Seq, seq, Map, mapped}

-- the first byte says which
pub data On {A : Type 0} (t : ℕ → Bool) (L : ℕ → Lang A) (w : Word) (v : A) : Type 0 where
  on : (b : ℕ) (w' : Word) → w ≡ b ∷ w' → t b ≡ true → L b w' v → On t L w v

abbrev pub pick : {A : Type 0} → Bool → Out A → Out A → Out A
pick true a b = a
pick false a b = b

abbrev pub on_p : {A : Type 0} → (ℕ → Bool) → (ℕ → Reader A) → Reader A
on_p t q [] = more
on_p t q (b ∷ r) = pick (t b) (q b r) (bad (b ∷ r))

pub on_exact : {A : Type 0} {t : ℕ → Bool} {L : ℕ → Lang A} {q : ℕ → Reader A} (b₀ : ℕ) → t b₀ ≡ true → ((b : ℕ) → t b ≡ true → Exact (L b) (q b)) → Exact (On t L) (on_p t q)
on_exact {A} {t} {L} {q} b₀ h₀ f = record { comp = c; see = s }
  where
    c : (w : Word) (v : A) (r : Word) → On t L w v → on_p t q (w ++ r) ≡ done v r
    c w v r (on b w' h k l) = rw (h, k) ((f b k).comp w' v r l)

    yes_at : (b : ℕ) (h : t b ≡ true) (r : Word) → Seen (L b) (q b) r → Seen (On t L) (on_p t q) (b ∷ r)
    yes_at b h r (is_done w v r' e l d) = is_done (b ∷ w) v r' (rw e) (on b w refl h l) (rw h d)
    yes_at b h r (is_more x v l d) = is_more x v (on b (r ++ x) refl h l) (rw h d)
    yes_at b h r (is_bad u c r' e o k) = is_bad (b ∷ u) c r' (rw e) (rw h o) (λ x. rw h (k x))

    at : (b : ℕ) (r : Word) (z : Bool) → t b ≡ z → Seen (On t L) (on_p t q) (b ∷ r)
    at b r true h = yes_at b h r ((f b h).see r)
    at b r false h = is_bad [] b r refl refl (λ x. rw h)

    s : (y : Word) → Seen (On t L) (on_p t q) y
    s [] = let i = inhabited (f b₀ h₀) in is_more (b₀ ∷ i.0) i.1 (on b₀ i.0 refl h₀ i.2) refl
    s (b ∷ r) = at b r (t b) refl

-- these bytes
pub data Lit {A : Type 0} (cs : Word) (a : A) (w : Word) (v : A) : Type 0 where
  lit : w ≡ cs → v ≡ a → Lit cs a w v

abbrev pub lit_p : {A : Type 0} → Word → A → Reader A
lit_p [] a = ret_p a
lit_p (c ∷ cs) a = on_p (eqb c) (λ b. lit_p cs a)

pub eqb-true : (m n : ℕ) → eqb m n ≡ true → n ≡ m
eqb-true m n h = sym (eqb→eq m n (rw h tt))

pub eqb_same : (n : ℕ) → eqb n n ≡ true
eqb_same n = go (eqb n n) (eqb_refl n)
  where
    go : (b : Bool) → T b → b ≡ true
    go true h = refl
    go false h = absurd h

-- a byte that passes a test which c fails is not c
pub other : (t : ℕ → Bool) (c : ℕ) → t c ≡ false → (b : ℕ) → t b ≡ true → eqb c b ≡ false
other t c h b k = go (eqb c b) refl
  where
    go : (z : Bool) → eqb c b ≡ z → eqb c b ≡ false
    go false e = e
    go true e = absurd (let q = eqb-true c b e in let y : true ≡ false = cc in let z : ◌≡◌ {A = ℕ} 0 1 = cc in omega arith)

pub lit_exact : {A : Type 0} (cs : Word) (a : A) → Exact (Lit cs a) (lit_p cs a)
lit_exact {A} [] a = exact_like to from (ret_exact a)
  where
    to : (w : Word) (v : A) → Ret a w v → Lit [] a w v
    to w v (ret h k) = lit h k

    from : (w : Word) (v : A) → Lit [] a w v → Ret a w v
    from w v (lit h k) = ret h k
lit_exact {A} (c ∷ cs) a = exact_like to from (on_exact c (eqb_same c) (λ b h. lit_exact cs a))
  where
    to : (w : Word) (v : A) → On (eqb c) (λ b. Lit cs a) w v → Lit (c ∷ cs) a w v
    to w v (on b w' h k (lit e q)) = let z = eqb-true c b k in lit (cc) q

    from : (w : Word) (v : A) → Lit (c ∷ cs) a w v → On (eqb c) (λ b. Lit cs a) w v
    from w v (lit h k) = on c cs h (eqb_same c) (lit refl k)

-- a reader that goes on as p after the byte b
pub seen_first : {A : Type 0} {L L' : Lang A} {p p' : Reader A} (b : ℕ) (r : Word) → ((w : Word) (v : A) → L w v → L' w v)
    → p' [] ≡ more → ((y : Word) → p' (b ∷ y) ≡ p (b ∷ y)) → Seen L p (b ∷ r) → Seen L' p' (b ∷ r)
seen_first b r f g h (is_done w v r' e l d) = is_done w v r' e (f w v l) (h r ∙ d)
seen_first b r f g h (is_more x v l d) = is_more x v (f (b ∷ r ++ x) v l) (h r ∙ d)
seen_first b r f g h (is_bad [] c r' e o k) = let z : c ≡ b = cc in is_bad [] c r' e g (λ x. rw z (h x ∙ (rw z at (k x))))
seen_first b r f g h (is_bad (y ∷ u) c r' e o k) = let z : y ≡ b = cc in is_bad (y ∷ u) c r' e (rw z (h u ∙ (rw z at o))) (λ x. rw z (h (u ++ c ∷ x) ∙ (rw z at (k x))))

-- one or the other, told by the first byte
pub data Alt {A : Type 0} (L M : Lang A) (w : Word) (v : A) : Type 0 where
  left : L w v → Alt L M w v
  right : M w v → Alt L M w v

pub data Starts (t : ℕ → Bool) (z : Bool) (w : Word) : Type 0 where
  starts : (b : ℕ) (w' : Word) → w ≡ b ∷ w' → t b ≡ z → Starts t z w

pub lit_starts : {A : Type 0} {a : A} {t : ℕ → Bool} {z : Bool} (c : ℕ) (cs : Word) → t c ≡ z → (w : Word) (v : A) → Lit (c ∷ cs) a w v → Starts t z w
lit_starts c cs h w v (lit e q) = starts c cs e h

pub on_starts : {A : Type 0} {t t' : ℕ → Bool} {z : Bool} {L : ℕ → Lang A} → ((b : ℕ) → t b ≡ true → t' b ≡ z) → (w : Word) (v : A) → On t L w v → Starts t' z w
on_starts f w v (on b w' e h l) = starts b w' e (f b h)

pub map_starts : {A B : Type 0} {f : A → B} {L : Lang A} {t : ℕ → Bool} {z : Bool} → ((w : Word) (a : A) → L w a → Starts t z w) → (w : Word) (v : B) → Map f L w v → Starts t z w
map_starts g w v (mapped a l q) = g w a l

abbrev pub choice_p : {A : Type 0} → (ℕ → Bool) → Reader A → Reader A → Reader A
choice_p t p q [] = more
choice_p t p q (b ∷ r) = pick (t b) (p (b ∷ r)) (q (b ∷ r))

pub choice_exact : {A : Type 0} {t : ℕ → Bool} {L M : Lang A} {p q : Reader A}
    → ((w : Word) (v : A) → L w v → Starts t true w) → ((w : Word) (v : A) → M w v → Starts t false w)
    → Exact L p → Exact M q → Exact (Alt L M) (choice_p t p q)
choice_exact {A} {t} {L} {M} {p} {q} f g e d = record { comp = c; see = s }
  where
    c_left : (w : Word) (v : A) (r : Word) → L w v → Starts t true w → choice_p t p q (w ++ r) ≡ done v r
    c_left w v r l (starts b w' h k) = rw (h, k) (rw h at (e.comp w v r l))

    c_right : (w : Word) (v : A) (r : Word) → M w v → Starts t false w → choice_p t p q (w ++ r) ≡ done v r
    c_right w v r l (starts b w' h k) = rw (h, k) (rw h at (d.comp w v r l))

    c : (w : Word) (v : A) (r : Word) → Alt L M w v → choice_p t p q (w ++ r) ≡ done v r
    c w v r (left l) = c_left w v r l (f w v l)
    c w v r (right l) = c_right w v r l (g w v l)

    at : (b : ℕ) (r : Word) (z : Bool) → t b ≡ z → Seen (Alt L M) (choice_p t p q) (b ∷ r)
    at b r true h = seen_first b r (λ w v l. left l) refl (λ y. rw h) (e.see (b ∷ r))
    at b r false h = seen_first b r (λ w v l. right l) refl (λ y. rw h) (d.see (b ∷ r))

    s : (y : Word) → Seen (Alt L M) (choice_p t p q) y
    s [] = let i = inhabited e in is_more i.0 i.1 (left i.2) refl
    s (b ∷ r) = at b r (t b) refl

-- what follows changes nothing of the start
pub more_starts : {t : ℕ → Bool} {z : Bool} {w : Word} → Starts t z w → (r : Word) → Starts t z (w ++ r)
more_starts (starts b w' e h) r = starts b (w' ++ r) (rw e) h

pub seq_starts : {A B : Type 0} {L : Lang A} {M : A → Lang B} {t : ℕ → Bool} {z : Bool} → ((w : Word) (a : A) → L w a → Starts t z w) → (w : Word) (v : B) → Seq L M w v → Starts t z w
seq_starts {t} {z} f w v (seq w₁ a w₂ e l m) = subst (λ (y : Word). Starts t z y) (sym e) (more_starts (f w₁ a l) w₂)

-- the byte c fails or passes a test
pub is_byte : (t : ℕ → Bool) (c : ℕ) {z : Bool} → t c ≡ z → (b : ℕ) → eqb c b ≡ true → t b ≡ z
is_byte t c h b k = rw (eqb-true c b k) h
