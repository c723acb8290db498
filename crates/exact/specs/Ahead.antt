-- Readers that look one byte ahead: the end of a word is told by the byte behind it, which what follows reads again.
use Rattle.std.specs.Prelude.{◌≡◌, refl, [], ◌∷◌, ◌++◌, ◌⊎◌, Bool, true, ℕ}
use Rattle.std.proofs.Common.{sym, ap, ◌∙◌, append_assoc, append-nil, inl, inr}
use Rattle.exact.specs.Exact.{Word, Lang, Out, done, more, Reader, Seen, is_done, is_more, is_bad, Exact, inhabited, unique, unfinished_more, snoc_split, cons≢nil, done≢more}
use Rattle.exact.specs.Chain.{Seq, seq, and_then, bind_p}
use Rattle.exact.specs.Byte.{Starts, starts}

-- what was read, and the byte behind it
pub record Ahead (A : Type 0) : Type 0 where
  pub value : A
  pub first : ℕ

-- a word of L, and a byte behind it that passes the test
pub record Peek {A : Type 0} (t : ℕ → Bool) (L : Lang A) (w : Word) (x : Ahead A) : Type 0 where
  pub word : Word
  pub spelt : w ≡ word ++ x.first ∷ []
  pub reads : L word x.value
  pub passes : t x.first ≡ true

-- the byte is put back for what follows
abbrev pub put_back : {A B : Type 0} → (A → Reader B) → Ahead A → Reader B
put_back q x r = q x.value (x.first ∷ r)

abbrev pub ahead_p : {A B : Type 0} → Reader (Ahead A) → (A → Reader B) → Reader B
ahead_p p q = bind_p p (put_back q)

module _ {A B : Type 0} {t : ℕ → Bool} {L : Lang A} {M : A → Lang B} {p : Reader (Ahead A)} {q : A → Reader B} (e : Exact (Peek t L) p)
    (first : (w : Word) (a : A) → L w a → (k : Word) (v : B) → M a k v → Starts t true k)
    (f : (w : Word) (a : A) → L w a → Exact (M a) (q a))
  where
    at_word : (w : Word) (a : A) (b : ℕ) (r : Word) → L w a → t b ≡ true → ahead_p p q (w ++ b ∷ r) ≡ q a (b ∷ r)
    at_word w a b r l h =
        ap (λ (y : Word). ahead_p p q y) (sym (append_assoc w (b ∷ []) r))
        ∙ ap (λ (o : Out (Ahead A)). and_then o (put_back q)) (e.comp (w ++ b ∷ []) (record { value = a; first = b }) r (record { word = w; spelt = refl; reads = l; passes = h }))

    comp : (w : Word) (v : B) (r : Word) → Seq L M w v → ahead_p p q (w ++ r) ≡ done v r
    comp w v r (seq w₁ a w₂ h l m) = go (first w₁ a l w₂ v m)
      where
        go : Starts t true w₂ → ahead_p p q (w ++ r) ≡ done v r
        go (starts b k i c) =
            let j : w ++ r ≡ w₁ ++ b ∷ (k ++ r) = ap (λ (y : Word). y ++ r) (h ∙ ap (λ (y : Word). w₁ ++ y) i) ∙ append_assoc w₁ (b ∷ k) r in
            ap (ahead_p p q) j ∙ at_word w₁ a b (k ++ r) l c ∙ ap (λ (y : Word). q a (y ++ r)) (sym i) ∙ (f w₁ a l).comp w₂ v r m

    -- a word of L without the byte behind it wants more
    wants : (w : Word) (a : A) (b : ℕ) → L w a → t b ≡ true → p w ≡ more
    wants w a b l h = unfinished_more e w ((b ∷ [], record { value = a; first = b }, record { word = w; spelt = refl; reads = l; passes = h }), unended)
      where
        unended : (u : Word) × (x : Ahead A) × (r : Word) × Peek t L u x × (w ≡ u ++ r) → ⊥
        unended (u, x, r, m, i) =
            let z = unique e u (w ++ b ∷ []) x (record { value = a; first = b }) (r ++ b ∷ []) [] m (record { word = w; spelt = refl; reads = l; passes = h })
            (sym (append_assoc u r (b ∷ [])) ∙ ap (λ (y : Word). y ++ b ∷ []) (sym i) ∙ sym (append-nil (w ++ b ∷ []))) in
            cons≢nil r b [] (sym z.2)

    behind : (s w : Word) (a : A) (b : ℕ) (r : Word) → s ≡ w ++ b ∷ r → L w a → t b ≡ true → Seen (M a) (q a) (b ∷ r) → Seen (Seq L M) (ahead_p p q) s
    behind s w a b r h l c (is_done w₂ v r₂ i m d) =
        is_done (w ++ w₂) v r₂ (h ∙ ap (λ (y : Word). w ++ y) i ∙ sym (append_assoc w w₂ r₂)) (seq w a w₂ refl l m) (ap (ahead_p p q) h ∙ at_word w a b r l c ∙ d)
    behind s w a b r h l c (is_more x v m d) = is_more x v (seq w a (b ∷ r ++ x) (ap (λ (y : Word). y ++ x) h ∙ append_assoc w (b ∷ r) x) l m) (ap (ahead_p p q) h ∙ at_word w a b r l c ∙ d)
    behind s w a b r h l c (is_bad [] y r₂ i o k) =
        let z : y ≡ b = cc in
        is_bad w y r₂ (h ∙ ap (λ (u : Word). w ++ u) i) (ap (λ (o : Out (Ahead A)). and_then o (put_back q)) (wants w a b l c))
        (λ x. ap (λ (n : ℕ). ahead_p p q (w ++ n ∷ x)) z ∙ at_word w a b x l c ∙ ap (λ (n : ℕ). q a (n ∷ x)) (sym z) ∙ k x)
    behind s w a b r h l c (is_bad (n ∷ u) y r₂ i o k) =
        let z : n ≡ b = cc in
        is_bad (w ++ n ∷ u) y r₂ (h ∙ ap (λ (u : Word). w ++ u) i ∙ sym (append_assoc w (n ∷ u) (y ∷ r₂)))
        (ap (λ (n : ℕ). ahead_p p q (w ++ n ∷ u)) z ∙ at_word w a b u l c ∙ ap (λ (n : ℕ). q a (n ∷ u)) (sym z) ∙ o)
        (λ x. ap (ahead_p p q) (append_assoc w (n ∷ u) (y ∷ x)) ∙ ap (λ (n : ℕ). ahead_p p q (w ++ n ∷ (u ++ y ∷ x))) z ∙ at_word w a b (u ++ y ∷ x) l c ∙ ap (λ (n : ℕ). q a (n ∷ (u ++ y ∷ x))) (sym z) ∙ k x)

    see : (s : Word) → Seen (Seq L M) (ahead_p p q) s
    see s = go (e.see s)
      where
        -- the byte behind the word is not yet there
        waits : (x : Word) (v : Ahead A) → Peek t L (s ++ x) v → (w : Word) → L w v.value → p s ≡ more → (x ≡ []) ⊎ ((y : Word) × (w ≡ s ++ y)) → Seen (Seq L M) (ahead_p p q) s
        waits x v m w l d (inl z) =
            let h : p s ≡ done v [] = ap p (sym (append-nil s) ∙ sym (append-nil (s ++ [])) ∙ ap (λ (y : Word). (s ++ y) ++ []) (sym z)) ∙ e.comp (s ++ x) v [] m in
            absurd (done≢more h d)
        waits x v m w l d (inr (y, z)) =
            let i = inhabited (f w v.value l) in
            is_more (y ++ i.0) i.1 (seq w v.value i.0 (sym (append_assoc s y i.0) ∙ ap (λ (u : Word). u ++ i.0) (sym z)) l i.2) (ap (λ (o : Out (Ahead A)). and_then o (put_back q)) d)

        go : Seen (Peek t L) p s → Seen (Seq L M) (ahead_p p q) s
        go (is_done w v r h l d) =
            behind s l.word v.value v.first r (h ∙ ap (λ (y : Word). y ++ r) l.spelt ∙ append_assoc l.word (v.first ∷ []) r) l.reads l.passes ((f l.word v.value l.reads).see (v.first ∷ r))
        go (is_more x v l d) = waits x v l l.word l.reads d (snoc_split l.word v.first s x (sym l.spelt))
        go (is_bad u b r h o k) = is_bad u b r h (ap (λ (o : Out (Ahead A)). and_then o (put_back q)) o) (λ x. ap (λ (o : Out (Ahead A)). and_then o (put_back q)) (k x))

    pub ahead_exact : Exact (Seq L M) (ahead_p p q)
    ahead_exact = record { comp = comp; see = see }
