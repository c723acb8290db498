-- Readers that are exact against a language: what that means, and what follows from it once and for all.
use Rattle.std.specs.Prelude.{◌≡◌, refl, List, [], ◌∷◌, ◌++◌, ◌⊎◌, ◌↔◌, Bool, true, false, ℕ}
use Rattle.std.proofs.Common.{sym, ap, subst, ◌∙◌, append_assoc, append-nil, inl, inr, arith}
use Rattle.std.proofs.lemmas.List.{append_cancel_right}

-- a string of bytes
abbrev pub Word : Type 0
Word = List ℕ

-- a language: which strings are words, and what each reads as
abbrev pub Lang : Type 0 → Type 1
Lang A = Word → A → Type 0

-- what a reader says of a string: a word with its value, and what is left; the string ended inside a word; no word from this
-- byte on
pub data Out (A : Type 0) : Type 0 where
  done : A → Word → Out A
  more : Out A
  bad : Word → Out A

-- a reader, as a function on strings
abbrev pub Reader : Type 0 → Type 0
Reader A = Word → Out A

-- what a reader saw in s: a word in front; a beginning that can be completed; a beginning u that wants more, and a byte b behind
-- it that every string starting so dies of
pub data Seen {A : Type 0} (L : Lang A) (p : Reader A) (s : Word) : Type 0 where
  is_done : (w : Word) (v : A) (r : Word) → s ≡ w ++ r → L w v → p s ≡ done v r → Seen L p s
  is_more : (x : Word) (v : A) → L (s ++ x) v → p s ≡ more → Seen L p s
  is_bad : (u : Word) (b : ℕ) (r : Word) → s ≡ u ++ b ∷ r → p u ≡ more → ((x : Word) → p (u ++ b ∷ x) ≡ bad (b ∷ x)) → Seen L p s

-- it reads each word in front of anything, and each string is one of the three
pub record Exact {A : Type 0} (L : Lang A) (p : Reader A) : Type 0 where
  pub comp : (w : Word) (v : A) (r : Word) → L w v → p (w ++ r) ≡ done v r
  pub see : (s : Word) → Seen L p s

-- no answer is two
pub done≢more : {A : Type 0} {o : Out A} {v : A} {r : Word} → o ≡ done v r → o ≡ more → ⊥
done≢more h k = let z : ◌≡◌ {A = ℕ} 0 1 = cc in omega arith

pub done≢bad : {A : Type 0} {o : Out A} {v : A} {r t : Word} → o ≡ done v r → o ≡ bad t → ⊥
done≢bad h k = let z : ◌≡◌ {A = ℕ} 0 1 = cc in omega arith

pub more≢bad : {A : Type 0} {o : Out A} {t : Word} → o ≡ more → o ≡ bad t → ⊥
more≢bad h k = let z : ◌≡◌ {A = ℕ} 0 1 = cc in omega arith

pub cons≢nil : (u : Word) (b : ℕ) (r : Word) → [] ≡ u ++ b ∷ r → ⊥
cons≢nil [] b r e = let z : ◌≡◌ {A = ℕ} 0 1 = cc in omega arith
cons≢nil (x ∷ u) b r e = let z : ◌≡◌ {A = ℕ} 0 1 = cc in omega arith

-- one byte more: either the first part takes it, or it lies in what was there
pub snoc_split : (u : Word) (b : ℕ) (w r : Word) → u ++ b ∷ [] ≡ w ++ r → (r ≡ []) ⊎ ((r' : Word) × (u ≡ w ++ r'))
snoc_split u b [] r e = inr (u, refl)
snoc_split [] b (y ∷ []) r e = inl (cc)
snoc_split [] b (y ∷ z ∷ w) r e = absurd (let h : ◌≡◌ {A = ℕ} 0 1 = cc in omega arith)
snoc_split (x ∷ u) b (y ∷ w) r e =
    let h : x ≡ y = cc in
    let t : u ++ b ∷ [] ≡ w ++ r = cc in
    go h (snoc_split u b w r t)
  where
    go : x ≡ y → (r ≡ []) ⊎ ((r' : Word) × (u ≡ w ++ r')) → (r ≡ []) ⊎ ((r' : Word) × (x ∷ u ≡ (y ∷ w) ++ r'))
    go h (inl q) = inl q
    go h (inr (r', q)) = inr (r', cc)

snoc_inj : (u : Word) (b : ℕ) (w : Word) (c : ℕ) → u ++ b ∷ [] ≡ w ++ c ∷ [] → (u ≡ w) × (b ≡ c)
snoc_inj [] b [] c e = (refl, cc)
snoc_inj [] b (y ∷ w) c e = absurd (let t : [] ≡ w ++ c ∷ [] = cc in cons≢nil w c [] t)
snoc_inj (x ∷ u) b [] c e = absurd (let t : [] ≡ u ++ b ∷ [] = cc in cons≢nil u b [] t)
snoc_inj (x ∷ u) b (y ∷ w) c e =
    let h : x ≡ y = cc in
    let t : u ++ b ∷ [] ≡ w ++ c ∷ [] = cc in
    let ih = snoc_inj u b w c t in
    let ih0 = ih.0 in (cc, ih.1)

-- the language's own notions: s can be completed; no word ends in s
abbrev pub Begins : {A : Type 0} → Lang A → Word → Type 0
Begins {A} L s = (x : Word) × (v : A) × L (s ++ x) v

abbrev pub Ended : {A : Type 0} → Lang A → Word → Type 0
Ended {A} L s = (w : Word) × (v : A) × (r : Word) × L w v × (s ≡ w ++ r)

-- s is a proper beginning of a word and holds no word
abbrev pub Unfinished : {A : Type 0} → Lang A → Word → Type 0
Unfinished L s = Begins L s × ¬ Ended L s

-- what follows from exactness
module _ {A : Type 0} {L : Lang A} {p : Reader A} (e : Exact L p) where
  pub sound : (s : Word) (v : A) (r : Word) → p s ≡ done v r → (w : Word) × (s ≡ w ++ r) × L w v
  sound s v r h = go (e.see s)
    where
      go : Seen L p s → (w : Word) × (s ≡ w ++ r) × L w v
      go (is_done w v' r' q l d) =
          let ev : v' ≡ v = cc in
          let er : r' ≡ r = cc in
          (w, rw (← er) q, rw (← ev) l)
      go (is_more x v' l d) = absurd (done≢more h d)
      go (is_bad u b r' q o k) = absurd (done≢bad {t = b ∷ r'} h (rw q (k r')))

  -- each reader is productive: its language has a word
  pub inhabited : (w : Word) × (v : A) × L w v
  inhabited = go (e.see [])
    where
      go : Seen L p [] → (w : Word) × (v : A) × L w v
      go (is_done w v r q l d) = (w, v, l)
      go (is_more x v l d) = (x, v, l)
      go (is_bad u b r q o k) = absurd (cons≢nil u b r q)

  -- prefix-free, and one reading
  pub unique : (w w' : Word) (v v' : A) (r r' : Word) → L w v → L w' v' → w ++ r ≡ w' ++ r' → (w ≡ w') × (v ≡ v') × (r ≡ r')
  unique w w' v v' r r' l l' q =
      let h : p (w ++ r) ≡ done v r = e.comp w v r l in
      let h' : p (w ++ r) ≡ done v' r' = rw q (e.comp w' v' r' l') in
      let er : r ≡ r' = cc in
      (append_cancel_right w w' r (q ∙ rw er), (cc), er)

  not_begins : (s u : Word) (b : ℕ) (r : Word) → s ≡ u ++ b ∷ r → ((x : Word) → p (u ++ b ∷ x) ≡ bad (b ∷ x)) → ¬ Begins L s
  not_begins s u b r q k (x, v, l) =
      let h : p (s ++ x) ≡ done v [] = rw append-nil at (e.comp (s ++ x) v [] l) in
      let h' : p (s ++ x) ≡ bad (b ∷ r ++ x) = rw (q, append_assoc) (k (r ++ x)) in
      done≢bad h h'

  more_unended : (s : Word) → p s ≡ more → ¬ Ended L s
  more_unended s h (w, v, r, l, q) = done≢more {o = p s} {v = v} {r = r} (rw q (e.comp w v r l)) h

  -- 'more' exactly if s is a proper beginning of a word and no word has ended
  pub more_unfinished : (s : Word) → p s ≡ more → Unfinished L s
  more_unfinished s h = go (e.see s)
    where
      go : Seen L p s → Unfinished L s
      go (is_done w v r q l d) = absurd (done≢more d h)
      go (is_more x v l d) = ((x, v, l), more_unended s h)
      go (is_bad u b r q o k) = absurd (more≢bad {t = b ∷ r} h (rw q (k r)))

  pub unfinished_more : (s : Word) → Unfinished L s → p s ≡ more
  unfinished_more s h = go (e.see s)
    where
      go : Seen L p s → p s ≡ more
      go (is_done w v r q l d) = absurd (h.1 (w, v, r, l, q))
      go (is_more x v l d) = d
      go (is_bad u b r q o k) = absurd (not_begins s u b r q k h.0)

  -- 'bad at r' exactly if r begins with the first byte after which no word could begin so
  pub bad_dead : (s r : Word) → p s ≡ bad r → (u : Word) × (b : ℕ) × (r' : Word) × (r ≡ b ∷ r') × (s ≡ u ++ b ∷ r') × Unfinished L u × ¬ Begins L (u ++ b ∷ [])
  bad_dead s r h = go (e.see s)
    where
      go : Seen L p s → (u : Word) × (b : ℕ) × (r' : Word) × (r ≡ b ∷ r') × (s ≡ u ++ b ∷ r') × Unfinished L u × ¬ Begins L (u ++ b ∷ [])
      go (is_done w v r q l d) = absurd (done≢bad d h)
      go (is_more x v l d) = absurd (more≢bad d h)
      go (is_bad u b r' q o k) =
          let h' : p s ≡ bad (b ∷ r') = rw q (k r') in
          (u, b, r', (cc), q, more_unfinished u o, not_begins (u ++ b ∷ []) u b [] refl k)

  pub dead_bad : (s u : Word) (b : ℕ) (r : Word) → s ≡ u ++ b ∷ r → Unfinished L u → ¬ Begins L (u ++ b ∷ []) → p s ≡ bad (b ∷ r)
  dead_bad s u b r q o d = go (e.see (u ++ b ∷ []))
    where
      in-w : (w : Word) (v : A) (r' : Word) → u ++ b ∷ [] ≡ w ++ r' → L w v → (r' ≡ []) ⊎ ((t : Word) × (u ≡ w ++ t)) → ⊥
      in-w w v r' h l (inl z) = d ([], v, rw append-nil (subst (λ (y : Word). L y v) (sym (h ∙ ap (λ (y : Word). w ++ y) z ∙ append-nil w)) l))
      in-w w v r' h l (inr (t, z)) = o.1 (w, v, t, l, z)

      in-u : (u' : Word) (c : ℕ) (r' : Word) → u ++ b ∷ [] ≡ u' ++ c ∷ r' → ((x : Word) → p (u' ++ c ∷ x) ≡ bad (c ∷ x)) → (r' ≡ []) ⊎ ((t : Word) × (u ≡ (u' ++ c ∷ []) ++ t)) → p s ≡ bad (b ∷ r)
      in-u u' c r' h k (inl z) =
          let h' : u ++ b ∷ [] ≡ u' ++ c ∷ [] = h ∙ rw z in
          let i = snoc_inj u b u' c h' in
          rw (q, i.0, i.1) (k r)
      in-u u' c r' h k (inr (t, z)) = absurd (not_begins u u' c t (z ∙ append_assoc u' (c ∷ []) t) k o.0)

      go : Seen L p (u ++ b ∷ []) → p s ≡ bad (b ∷ r)
      go (is_done w v r' h l m) = absurd (in-w w v r' h l (snoc_split u b w r' h))
      go (is_more x v l m) = absurd (d (x, v, l))
      go (is_bad u' c r' h m k) = in-u u' c r' h k (snoc_split u b (u' ++ c ∷ []) r' (h ∙ sym (append_assoc u' (c ∷ []) r')))

-- r begins with the first byte after which no word could begin so
abbrev pub Dead : {A : Type 0} → Lang A → Word → Word → Type 0
Dead L s r = (u : Word) × (b : ℕ) × (r' : Word) × (r ≡ b ∷ r') × (s ≡ u ++ b ∷ r') × Unfinished L u × ¬ Begins L (u ++ b ∷ [])

-- a reader of the same language, and the same answers
pub seen_like : {A : Type 0} {L L' : Lang A} {p p' : Reader A} (s : Word) → ((w : Word) (v : A) → L w v → L' w v) → ((t : Word) → p' t ≡ p t) → Seen L p s → Seen L' p' s
seen_like s f g (is_done w v r q l d) = is_done w v r q (f w v l) (g s ∙ d)
seen_like s f g (is_more x v l d) = is_more x v (f (s ++ x) v l) (g s ∙ d)
seen_like s f g (is_bad u b r q o k) = is_bad u b r q (g u ∙ o) (λ x. g (u ++ b ∷ x) ∙ k x)

pub exact_like : {A : Type 0} {L L' : Lang A} {p : Reader A} → ((w : Word) (v : A) → L w v → L' w v) → ((w : Word) (v : A) → L' w v → L w v) → Exact L p → Exact L' p
exact_like f g e = record {
  comp = λ w v r l. e.comp w v r (g w v l);
  see = λ s. seen_like s f (λ t. refl) (e.see s);
}

-- whether an outcome leaves a word possible: all was read as one, or more is wanted
abbrev pub goes : {A : Type 0} → Out A → Bool
goes (done v []) = true
goes (done v (b ∷ r)) = false
goes more = true
goes (bad r) = false

-- so an exact reader tells which strings begin a word
pub begins_iff : {A : Type 0} {L : Lang A} {p : Reader A} → Exact L p → (s : Word) → (goes (p s) ≡ true) ↔ Begins L s
begins_iff {A} {L} {p} e s = (to (p s) refl, from)
  where
    to : (o : Out A) → p s ≡ o → goes o ≡ true → Begins L s
    to (done v []) q h = let z = sound e s v [] q in ([], v, subst (λ (y : Word). L y v) (sym (append-nil z.0) ∙ sym z.1 ∙ sym (append-nil s)) z.2)
    to (done v (b ∷ r)) q h = absurd (let z : ◌≡◌ {A = ℕ} 0 1 = cc in omega arith)
    to more q h = (more_unfinished e s q).0
    to (bad r) q h = absurd (let z : ◌≡◌ {A = ℕ} 0 1 = cc in omega arith)

    at : (o : Out A) → p s ≡ o → Begins L s → goes o ≡ true
    at (done v []) q i = refl
    at (done v (b ∷ r)) q (x, v', l) =
        let z = sound e s v (b ∷ r) q in
        let u = unique e z.0 (s ++ x) v v' (b ∷ (r ++ x)) [] z.2 l (sym (append_assoc z.0 (b ∷ r) x) ∙ ap (λ (y : Word). y ++ x) (sym z.1) ∙ sym (append-nil (s ++ x))) in
        absurd (cons≢nil [] b (r ++ x) (sym u.2))
    at more q i = refl
    at (bad r) q i = let z = bad_dead e s r q in absurd (z.6 (begins-left (z.0 ++ z.1 ∷ []) z.2 (subst (λ (y : Word). Begins L y) (z.4 ∙ sym (append_assoc z.0 (z.1 ∷ []) z.2)) i)))
      where
        begins-left : (u w : Word) → Begins L (u ++ w) → Begins L u
        begins-left u w (x, v, l) = (w ++ x, v, subst (λ (y : Word). L y v) (append_assoc u w x) l)

    from : Begins L s → goes (p s) ≡ true
    from i = at (p s) refl i
