-- Readers one after the other: nothing read, one reader and then another, another value.
use Rattle.std.specs.Prelude.{◌≡◌, refl, [], ◌∷◌, ◌++◌, Bool, true, false, ℕ}
use Rattle.std.proofs.Common.{sym, ap, subst, ◌∙◌, append_assoc, append-nil, arith}
use Rattle.exact.specs.Exact.{Word, Lang, Out, done, more, bad, Reader, Seen, is_done, is_more, is_bad, Exact, inhabited, exact_like}

-- nothing is read
pub data Ret {A : Type 0} (a : A) (w : Word) (v : A) : Type 0 where
  ret : w ≡ [] → v ≡ a → Ret a w v

abbrev pub ret_p : {A : Type 0} → A → Reader A
ret_p a s = done a s

pub ret_exact : {A : Type 0} (a : A) → Exact (Ret a) (ret_p a)
ret_exact {A} a = record { comp = c; see = λ s. is_done [] a s refl (ret refl refl) refl }
  where
    c : (w : Word) (v : A) (r : Word) → Ret a w v → ret_p a (w ++ r) ≡ done v r
    c w v r (ret e q) = rw (e, q)

-- one after the other
pub data Seq {A B : Type 0} (L : Lang A) (M : A → Lang B) (w : Word) (v : B) : Type 0 where
  seq : (w₁ : Word) (a : A) (w₂ : Word) → w ≡ w₁ ++ w₂ → L w₁ a → M a w₂ v → Seq L M w v

abbrev pub and_then : {A B : Type 0} → Out A → (A → Reader B) → Out B
and_then (done a r) q = q a r
and_then more q = more
and_then (bad r) q = bad r

abbrev pub bind_p : {A B : Type 0} → Reader A → (A → Reader B) → Reader B
bind_p p q s = and_then (p s) q

-- a word was read: what follows says what is seen
pub seen_after : {A B : Type 0} {L : Lang A} {M : A → Lang B} {p : Reader A} (q : A → Reader B) → Exact L p
    → (s w : Word) (a : A) (r : Word) → s ≡ w ++ r → L w a → Seen (M a) (q a) r → Seen (Seq L M) (bind_p p q) s
seen_after {A} {B} {L} {M} {p} q e s w a r h l t = go t
  where
    on : (y : Word) → bind_p p q (w ++ y) ≡ q a y
    on y = ap (λ (o : Out A). and_then o q) (e.comp w a y l)

    go : Seen (M a) (q a) r → Seen (Seq L M) (bind_p p q) s
    go (is_done w₂ v r₂ h₂ l₂ d) = is_done (w ++ w₂) v r₂ (h ∙ ap (λ (y : Word). w ++ y) h₂ ∙ sym (append_assoc w w₂ r₂)) (seq w a w₂ refl l l₂) (rw h (on r ∙ d))
    go (is_more x v l₂ d) = is_more x v (seq w a (r ++ x) (rw (h, append_assoc)) l l₂) (rw h (on r ∙ d))
    go (is_bad u b r₂ h₂ o k) =
        is_bad (w ++ u) b r₂ (h ∙ ap (λ (y : Word). w ++ y) h₂ ∙ sym (append_assoc w u (b ∷ r₂)))
        (on u ∙ o) (λ x. rw append_assoc (on (u ++ b ∷ x) ∙ k x))

-- what is seen of p, and of q wherever p is done, says what is seen of both
pub seen_bind : {A B : Type 0} {L : Lang A} {M : A → Lang B} {p : Reader A} (q : A → Reader B) → Exact L p → (s : Word)
    → ((w : Word) (a : A) → L w a → (w' : Word) × (v : B) × M a w' v)
    → ((w : Word) (a : A) (r : Word) → s ≡ w ++ r → L w a → Seen (M a) (q a) r)
    → Seen (Seq L M) (bind_p p q) s
seen_bind {A} {B} {L} {M} {p} q e s some f = go (e.see s)
  where
    go : Seen L p s → Seen (Seq L M) (bind_p p q) s
    go (is_done w a r h l d) = seen_after q e s w a r h l (f w a r h l)
    go (is_more x a l d) =
        let i = some (s ++ x) a l in
        is_more (x ++ i.0) i.1 (seq (s ++ x) a i.0 (sym (append_assoc s x i.0)) l i.2) (ap (λ (o : Out A). and_then o q) d)
    go (is_bad u b r h o k) = is_bad u b r h (ap (λ (o : Out A). and_then o q) o) (λ x. ap (λ (o : Out A). and_then o q) (k x))

pub bind_exact : {A B : Type 0} {L : Lang A} {M : A → Lang B} {p : Reader A} {q : A → Reader B}
    → Exact L p → ((w : Word) (a : A) → L w a → Exact (M a) (q a)) → Exact (Seq L M) (bind_p p q)
bind_exact {A} {B} {L} {M} {p} {q} e f = record {
  comp = c;
  see = λ s. seen_bind q e s (λ w a l. inhabited (f w a l)) (λ w a r h l. (f w a l).see r);
}
  where
    c : (w : Word) (v : B) (r : Word) → Seq L M w v → bind_p p q (w ++ r) ≡ done v r
    c w v r (seq w₁ a w₂ h l m) = rw (h, append_assoc) (ap (λ (o : Out A). and_then o q) (e.comp w₁ a (w₂ ++ r) l) ∙ (f w₁ a l).comp w₂ v r m)

-- another reading
pub data Map {A B : Type 0} (f : A → B) (L : Lang A) (w : Word) (v : B) : Type 0 where
  mapped : (a : A) → L w a → v ≡ f a → Map f L w v

abbrev pub map_p : {A B : Type 0} → (A → B) → Reader A → Reader B
map_p f p = bind_p p (λ a. ret_p (f a))

pub map_exact : {A B : Type 0} (f : A → B) {L : Lang A} {p : Reader A} → Exact L p → Exact (Map f L) (map_p f p)
map_exact {A} {B} f {L} {p} e = exact_like to from (bind_exact e (λ w a l. ret_exact (f a)))
  where
    to : (w : Word) (v : B) → Seq L (λ a. Ret (f a)) w v → Map f L w v
    to w v (seq w₁ a w₂ h l (ret k q)) = mapped a (subst (λ (y : Word). L y a) (sym (h ∙ rw (k, append-nil))) l) q

    from : (w : Word) (v : B) → Map f L w v → Seq L (λ a. Ret (f a)) w v
    from w v (mapped a l q) = seq w a [] (sym (append-nil w)) l (ret refl q)

pub clash : {X : Type 0} → true ≡ false → X
clash h = absurd (let z : ◌≡◌ {A = ℕ} 0 1 = cc in omega arith)

-- one reader or the other, by a test that is known before
pub data If {A : Type 0} (z : Bool) (L M : Lang A) (w : Word) (v : A) : Type 0 where
  yes_if : z ≡ true → L w v → If z L M w v
  no_if : z ≡ false → M w v → If z L M w v

abbrev pub if_p : {A : Type 0} → Bool → Reader A → Reader A → Reader A
if_p true p q = p
if_p false p q = q

pub if_exact : {A : Type 0} (z : Bool) {L M : Lang A} {p q : Reader A} → (z ≡ true → Exact L p) → (z ≡ false → Exact M q) → Exact (If z L M) (if_p z p q)
if_exact {A} true {L} {M} f g = exact_like (λ w v l. yes_if refl l) from (f refl)
  where
    from : (w : Word) (v : A) → If true L M w v → L w v
    from w v (yes_if e l) = l
    from w v (no_if e l) = clash e
if_exact {A} false {L} {M} f g = exact_like (λ w v l. no_if refl l) from (g refl)
  where
    from : (w : Word) (v : A) → If false L M w v → M w v
    from w v (yes_if e l) = clash (sym e)
    from w v (no_if e l) = l
