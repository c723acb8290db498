-- An exact reader under a limit of size: the four answers, each exactly when the language says so.
use Rattle.std.specs.Prelude.{◌≡◌, refl, [], ◌∷◌, ◌++◌, ◌↔◌, Bool, true, false, cond, ℕ, zero, suc, ◌-◌, ◌≤◌, ◌<◌, length, leb}
use Rattle.std.proofs.Common.{sym, ap, subst, ◌∙◌, append_assoc, append-nil, arith, length-append, leb-true, leb-false, le-leb}
use Rattle.std.proofs.lemmas.Bool.{lt-leb}
use Rattle.exact.specs.Exact.{Word, Lang, Out, done, more, bad, Reader, Seen, is_done, is_more, is_bad, Exact, Begins, Unfinished, sound, unique, more_unfinished, unfinished_more, bad_dead, dead_bad, Dead}

-- a word that keeps the limit; more is wanted; no word from this byte on; the limit is reached and no word ended
pub data Ans (A : Type 0) : Type 0 where
  fine : A → Word → Ans A
  wait : Ans A
  wrong : Word → Ans A
  long : Ans A

-- what a reader says, under the limit n
abbrev pub limited : {A : Type 0} → ℕ → Word → Out A → Ans A
limited n t (done v r) = cond (leb (length t - length r) n) (fine v r) long
limited n t more = cond (leb n (length t)) long wait
limited n t (bad r) = cond (leb n (length t - length r)) long (wrong r)

pub record Limited {A : Type 0} (L : Lang A) (n : ℕ) (a : Word → Ans A) : Type 0 where
  -- a word of at most n bytes
  pub fines : (t : Word) (v : A) (r : Word) → (a t ≡ fine v r) ↔ ((w : Word) × (t ≡ w ++ r) × L w v × (length w ≤ n))
  -- all of t is open, and below n
  pub waits : (t : Word) → (a t ≡ wait) ↔ (Unfinished L t × (length t < n))
  -- r begins with the first byte after which no word could begin so, and below n
  pub wrongs : (t r : Word) → (a t ≡ wrong r) ↔ (Dead L t r × (length t - length r < n))
  -- the first n bytes are open
  pub longs : (t : Word) → (a t ≡ long) ↔ ((u : Word) × (r : Word) × (t ≡ u ++ r) × (length u ≡ n) × Unfinished L u)

pub split : (n : ℕ) (w : Word) → n ≤ length w → (u : Word) × (x : Word) × (w ≡ u ++ x) × (length u ≡ n)
split zero w h = ([], w, refl, refl)
split (suc n) [] h = absurd (omega arith)
split (suc n) (b ∷ w) h = let s = split n w (omega arith) in let e = s.2 in let l = s.3 in (b ∷ s.0, s.1, ap (λ (y : Word). b ∷ y) e, omega arith)

pub shorter : (w r u x : Word) → w ++ r ≡ u ++ x → length w ≤ length u → (y : Word) × (u ≡ w ++ y)
shorter [] r u x e h = (u, refl)
shorter (b ∷ w) r [] x e h = absurd (omega arith)
shorter (b ∷ w) r (c ∷ u) x e h =
    let q : c ≡ b = cc in
    let i : w ++ r ≡ u ++ x = cc in
    let s = shorter w r u x i (omega arith) in
    let k = s.1 in (s.0, cc)

pub unfinished_left : {A : Type 0} {L : Lang A} (u x : Word) → Unfinished L (u ++ x) → Unfinished L u
unfinished_left {A} {L} u x o = (
  (x ++ o.0.0, o.0.1, subst (λ (y : Word). L y o.0.1) (append_assoc u x o.0.0) o.0.2),
  λ (w, v, r, l, e). o.1 (w, v, r ++ x, l, rw (e, append_assoc)),
)

module _ {A : Type 0} {L : Lang A} {p : Reader A} (e : Exact L p) (n : ℕ) where
  fine_not_long : {v : A} {r : Word} {X : Type 0} → long ≡ fine v r → X
  fine_not_long h = absurd (let z : ◌≡◌ {A = ℕ} 0 1 = cc in omega arith)

  -- the first n bytes of what is open
  first_open : (t u x : Word) → t ≡ u ++ x → Unfinished L u → n ≤ length u → (u : Word) × (r : Word) × (t ≡ u ++ r) × (length u ≡ n) × Unfinished L u
  first_open t u x i o h =
      let s = split n u h in
      (s.0, s.1 ++ x, i ∙ ap (λ (y : Word). y ++ x) s.2 ∙ append_assoc s.0 s.1 x, s.3, unfinished_left s.0 s.1 (subst (λ (y : Word). Unfinished L y) s.2 o))

  -- the first n bytes of a longer word
  word_open : (t w : Word) (v : A) (r : Word) → t ≡ w ++ r → L w v → n < length w → (u : Word) × (r : Word) × (t ≡ u ++ r) × (length u ≡ n) × Unfinished L u
  word_open t w v r i l h =
      let s = split n w (omega arith) in (
        s.0,
        s.1 ++ r,
        i ∙ ap (λ (y : Word). y ++ r) s.2 ∙ append_assoc s.0 s.1 r,
        s.3,
        (
          (s.1, v, subst (λ (y : Word). L y v) s.2 l),
          λ (w', v', r', l', q).
              let j : w ++ [] ≡ w' ++ (r' ++ s.1) = append-nil w ∙ s.2 ∙ ap (λ (y : Word). y ++ s.1) q ∙ append_assoc w' r' s.1 in
              let k = (unique e w w' v v' [] (r' ++ s.1) l l' j).0 in
              omega (arith, ap length k, ap length q, length-append w' r', s.3),
        ),
      )

  of_done : (t : Word) (v : A) (r : Word) → p t ≡ done v r → (w : Word) × (t ≡ w ++ r) × L w v × (length t - length r ≡ length w)
  of_done t v r d = let s = sound e t v r d in let i = s.1 in (s.0, i, s.2, omega (arith, ap length i ∙ length-append s.0 r))

  -- the answers say so
  says_fine : (t : Word) (v : A) (r : Word) (o : Out A) → p t ≡ o → limited n t o ≡ fine v r → (w : Word) × (t ≡ w ++ r) × L w v × (length w ≤ n)
  says_fine t v r (done v' r') d h = go (leb (length t - length r') n) refl h
    where
      go : (z : Bool) → leb (length t - length r') n ≡ z → cond {A = Ans A} z (fine v' r') long ≡ fine v r → (w : Word) × (t ≡ w ++ r) × L w v × (length w ≤ n)
      go true y k =
          let a : v' ≡ v = cc in
          let b : r' ≡ r = cc in
          let s = of_done t v r (d ∙ rw (a, b)) in
          let q = s.3 in
          (s.0, s.1, s.2, omega (arith, leb-true _ n y, ap length b))
      go false y k = fine_not_long k
  says_fine t v r more d h = go (leb n (length t)) h
    where
      go : (z : Bool) → cond {A = Ans A} z long wait ≡ fine v r → (w : Word) × (t ≡ w ++ r) × L w v × (length w ≤ n)
      go true k = fine_not_long k
      go false k = absurd (let z : ◌≡◌ {A = ℕ} 0 1 = cc in omega arith)
  says_fine t v r (bad r') d h = go (leb n (length t - length r')) h
    where
      go : (z : Bool) → cond {A = Ans A} z long (wrong r') ≡ fine v r → (w : Word) × (t ≡ w ++ r) × L w v × (length w ≤ n)
      go true k = fine_not_long k
      go false k = absurd (let z : ◌≡◌ {A = ℕ} 0 1 = cc in omega arith)

  says_wait : (t : Word) (o : Out A) → p t ≡ o → limited n t o ≡ wait → Unfinished L t × (length t < n)
  says_wait t (done v r) d h = go (leb (length t - length r) n) h
    where
      go : (z : Bool) → cond {A = Ans A} z (fine v r) long ≡ wait → Unfinished L t × (length t < n)
      go true k = absurd (let z : ◌≡◌ {A = ℕ} 0 1 = cc in omega arith)
      go false k = absurd (let z : ◌≡◌ {A = ℕ} 0 1 = cc in omega arith)
  says_wait t more d h = go (leb n (length t)) refl h
    where
      go : (z : Bool) → leb n (length t) ≡ z → cond {A = Ans A} z long wait ≡ wait → Unfinished L t × (length t < n)
      go true y k = absurd (let z : ◌≡◌ {A = ℕ} 0 1 = cc in omega arith)
      go false y k = (more_unfinished e t d, leb-false n (length t) y)
  says_wait t (bad r) d h = go (leb n (length t - length r)) h
    where
      go : (z : Bool) → cond {A = Ans A} z long (wrong r) ≡ wait → Unfinished L t × (length t < n)
      go true k = absurd (let z : ◌≡◌ {A = ℕ} 0 1 = cc in omega arith)
      go false k = absurd (let z : ◌≡◌ {A = ℕ} 0 1 = cc in omega arith)

  says_wrong : (t r : Word) (o : Out A) → p t ≡ o → limited n t o ≡ wrong r → Dead L t r × (length t - length r < n)
  says_wrong t r (done v r') d h = go (leb (length t - length r') n) h
    where
      go : (z : Bool) → cond {A = Ans A} z (fine v r') long ≡ wrong r → Dead L t r × (length t - length r < n)
      go true k = absurd (let z : ◌≡◌ {A = ℕ} 0 1 = cc in omega arith)
      go false k = absurd (let z : ◌≡◌ {A = ℕ} 0 1 = cc in omega arith)
  says_wrong t r more d h = go (leb n (length t)) h
    where
      go : (z : Bool) → cond {A = Ans A} z long wait ≡ wrong r → Dead L t r × (length t - length r < n)
      go true k = absurd (let z : ◌≡◌ {A = ℕ} 0 1 = cc in omega arith)
      go false k = absurd (let z : ◌≡◌ {A = ℕ} 0 1 = cc in omega arith)
  says_wrong t r (bad r') d h = go (leb n (length t - length r')) refl h
    where
      go : (z : Bool) → leb n (length t - length r') ≡ z → cond {A = Ans A} z long (wrong r') ≡ wrong r → Dead L t r × (length t - length r < n)
      go true y k = absurd (let z : ◌≡◌ {A = ℕ} 0 1 = cc in omega arith)
      go false y k =
          let b : r' ≡ r = cc in
          (bad_dead e t r (d ∙ rw b), rw (← b) (leb-false n _ y))

  says_long : (t : Word) (o : Out A) → p t ≡ o → limited n t o ≡ long → (u : Word) × (r : Word) × (t ≡ u ++ r) × (length u ≡ n) × Unfinished L u
  says_long t (done v r) d h = go (leb (length t - length r) n) refl h (of_done t v r d)
    where
      go : (z : Bool) → leb (length t - length r) n ≡ z → cond {A = Ans A} z (fine v r) long ≡ long → (w : Word) × (t ≡ w ++ r) × L w v × (length t - length r ≡ length w) → (u : Word) × (r : Word) × (t ≡ u ++ r) × (length u ≡ n) × Unfinished L u
      go true y k s = absurd (let z : ◌≡◌ {A = ℕ} 0 1 = cc in omega arith)
      go false y k (w, i, l, q) = word_open t w v r i l (omega (arith, leb-false (length t - length r) n y))
  says_long t more d h = go (leb n (length t)) refl h
    where
      go : (z : Bool) → leb n (length t) ≡ z → cond {A = Ans A} z long wait ≡ long → (u : Word) × (r : Word) × (t ≡ u ++ r) × (length u ≡ n) × Unfinished L u
      go true y k = first_open t t [] (sym (append-nil t)) (more_unfinished e t d) (leb-true n _ y)
      go false y k = absurd (let z : ◌≡◌ {A = ℕ} 0 1 = cc in omega arith)
  says_long t (bad r) d h = go (leb n (length t - length r)) refl h (bad_dead e t r d)
    where
      go : (z : Bool) → leb n (length t - length r) ≡ z → cond {A = Ans A} z long (wrong r) ≡ long → Dead L t r → (u : Word) × (r : Word) × (t ≡ u ++ r) × (length u ≡ n) × Unfinished L u
      go true y k (u, b, r', q, i, o, x) = first_open t u (b ∷ r') i o (omega (arith, leb-true n (length t - length r) y, ap length i ∙ length-append u (b ∷ r'), ap length q))
      go false y k s = absurd (let z : ◌≡◌ {A = ℕ} 0 1 = cc in omega arith)

  dead_not : (c : Word) (b : ℕ) → Dead L (c ++ b ∷ []) (b ∷ []) → ¬ Begins L (c ++ b ∷ [])
  dead_not c b (u, b', r, q, i, o, x) y =
      let k : r ≡ [] = cc in
      x (subst (λ (z : Word). Begins L z) (i ∙ ap (λ (z : Word). u ++ b' ∷ z) k) y)

  -- and only so
  long_says : (t u r : Word) → t ≡ u ++ r → length u ≡ n → Unfinished L u → limited n t (p t) ≡ long
  long_says t u r i h o = go (e.see t)
    where
      go : Seen L p t → limited n t (p t) ≡ long
      go (is_done w v r' j l d) = rw d (at (leb (length t - length r') n) refl)
        where
          at : (z : Bool) → leb (length t - length r') n ≡ z → cond {A = Ans A} (leb (length t - length r') n) (fine v r') long ≡ long
          at false y = rw y
          at true y =
              let s = shorter w r' u r (sym j ∙ i) (omega (arith, leb-true (length t - length r') n y, ap length j ∙ length-append w r')) in
              absurd (o.1 (w, v, s.0, l, s.1))
      go (is_more x v l d) = rw (d, le-leb n (length t) (omega (arith, ap length i ∙ length-append u r)))
      go (is_bad c b r' j m k) = rw (j, k r') (at (leb n (length (c ++ b ∷ r') - length (b ∷ r'))) refl)
        where
          at : (z : Bool) → leb n (length (c ++ b ∷ r') - length (b ∷ r')) ≡ z → cond {A = Ans A} (leb n (length (c ++ b ∷ r') - length (b ∷ r'))) long (wrong (b ∷ r')) ≡ long
          at true y = rw y
          at false y =
              let a : (c ++ b ∷ []) ++ r' ≡ u ++ r = append_assoc c (b ∷ []) r' ∙ sym j ∙ i in
              let s = shorter (c ++ b ∷ []) r' u r a (omega (arith, leb-false n (length (c ++ b ∷ r') - length (b ∷ r')) y, length-append c (b ∷ r'), length-append c (b ∷ []))) in
              absurd (dead_not c b (bad_dead e (c ++ b ∷ []) (b ∷ []) (k []))
              (s.0 ++ o.0.0, o.0.1, subst (λ (y : Word). L y o.0.1) (ap (λ (y : Word). y ++ o.0.0) s.1 ∙ append_assoc (c ++ b ∷ []) s.0 o.0.0) o.0.2))

  pub limit_exact : Limited L n (λ t. limited n t (p t))
  limit_exact = record {
    fines = λ t v r. (says_fine t v r (p t) refl, λ (w, i, l, h). rw (i, e.comp w v r l, le-leb (length (w ++ r) - length r) n (omega (arith, length-append w r))));
    waits = λ t. (says_wait t (p t) refl, λ (o, h). rw (unfinished_more e t o, lt-leb n (length t) h));
    wrongs = λ t r. (says_wrong t r (p t) refl, λ ((u, b, r', q, i, o, x), h). rw (q, dead_bad e t u b r' i o x, lt-leb n (length t - length (b ∷ r')) (rw q at h)));
    longs = λ t. (says_long t (p t) refl, λ (u, r, i, h, o). long_says t u r i h o);
  }
