-- Again and again: a reader that says after each turn whether there is another.
use Rattle.std.specs.Prelude.{◌≡◌, refl, [], ◌++◌, ℕ, zero, suc, ◌<◌, length}
use Rattle.std.proofs.Common.{ap, ◌∙◌, append_assoc, append-nil, arith, length-append}
use Rattle.exact.specs.Exact.{Word, Lang, done, more, Reader, Seen, is_done, is_more, is_bad, Exact, seen_like}
use Rattle.exact.specs.Chain.{Seq, seq, bind_p, seen_bind}

-- again and again: each turn says whether there is another
pub data Turn (A B : Type 0) : Type 0 where
  again : A → Turn A B
  stop : B → Turn A B

pub data Loop {A B : Type 0} (L : A → Lang (Turn A B)) : A → Word → B → Type 0 where
  last : {a : A} {w : Word} {v : B} → L a w (stop v) → Loop L a w v
  next : {a : A} {w : Word} {v : B} (w₁ : Word) (a' : A) (w₂ : Word) → w ≡ w₁ ++ w₂ → L a w₁ (again a') → Loop L a' w₂ v → Loop L a w v

abbrev pub onward : {A B : Type 0} → (A → Reader B) → Turn A B → Reader B
onward k (again a) s = k a s
onward k (stop b) s = done b s

abbrev pub loop_n : {A B : Type 0} → (A → Reader (Turn A B)) → ℕ → A → Reader B
loop_n body zero a s = more
loop_n body (suc n) a s = bind_p (body a) (onward (loop_n body n)) s

unfoldable pub loop_p : {A B : Type 0} → (A → Reader (Turn A B)) → A → Reader B
loop_p body a s = loop_n body (suc (length s)) a s

-- what follows a turn
pub data Onward {A B : Type 0} (M : A → Lang B) : Turn A B → Word → B → Type 0 where
  on_again : {a : A} {w : Word} {v : B} → M a w v → Onward M (again a) w v
  on_stop : {b : B} {w : Word} {v : B} → w ≡ [] → v ≡ b → Onward M (stop b) w v

module _ {A B : Type 0} {L : A → Lang (Turn A B)} {body : A → Reader (Turn A B)} (Inv : A → Type 0)
    (f : (a : A) → Inv a → Exact (L a) (body a))
    -- a turn keeps what must hold, and reads something
    (keeps : (a : A) (w : Word) (a' : A) → Inv a → L a w (again a') → Inv a')
    (reads : (a : A) (w : Word) (a' : A) → Inv a → L a w (again a') → 0 < length w)
    -- it can end
    (ends : (a : A) → Inv a → (w : Word) × (v : B) × Loop L a w v)
  where
    -- two ways to go on that agree on what is shorter
    agree : (a : A) → Inv a → (s : Word) (k k' : A → Reader B) → ((a' : A) (r : Word) → Inv a' → length r < length s → k a' r ≡ k' a' r)
        → bind_p (body a) (onward k) s ≡ bind_p (body a) (onward k') s
    agree a i s k k' g = go ((f a i).see s)
      where
        go : Seen (L a) (body a) s → bind_p (body a) (onward k) s ≡ bind_p (body a) (onward k') s
        go (is_done w (again a') r e l d) =
            let h : length r < length s = rw (e, length-append) (let z = reads a w a' i l in omega arith) in
            rw d (g a' r (keeps a w a' i l) h)
        go (is_done w (stop b) r e l d) = rw d
        go (is_more x v l d) = rw d
        go (is_bad u b r e o x) = rw (e, x r)

    -- more fuel changes nothing
    fuel : (n m : ℕ) (a : A) → Inv a → (s : Word) → length s < n → length s < m → loop_n body n a s ≡ loop_n body m a s
    fuel zero m a i s h k = absurd (omega arith)
    fuel (suc n) zero a i s h k = absurd (omega arith)
    fuel (suc n) (suc m) a i s h k = agree a i s (loop_n body n) (loop_n body m) (λ a' r i' t. fuel n m a' i' r (omega arith) (omega arith))

    -- the unfolding equation
    pub loop_eq : (a : A) → Inv a → (s : Word) → loop_p body a s ≡ bind_p (body a) (onward (loop_p body)) s
    unfolding loop_p
    loop_eq a i s = agree a i s (loop_n body (length s)) (loop_p body) (λ a' r i' t. fuel (length s) (suc (length r)) a' i' r t (omega arith))

    loop_comp : (a : A) → Inv a → (w : Word) (v : B) (r : Word) → Loop L a w v → loop_p body a (w ++ r) ≡ done v r
    loop_comp a i w v r (last l) = loop_eq a i (w ++ r) ∙ rw ((f a i).comp w (stop v) r l)
    loop_comp a i w v r (next w₁ a' w₂ e l t) =
        loop_eq a i (w ++ r) ∙ rw (e, append_assoc, (f a i).comp w₁ (again a') (w₂ ++ r) l) (loop_comp a' (keeps a w₁ a' i l) w₂ v r t)

    loop_of : (a : A) (w : Word) (v : B) → Seq (L a) (Onward (Loop L)) w v → Loop L a w v
    loop_of a w v (seq w₁ (again a') w₂ e l (on_again t)) = next w₁ a' w₂ e l t
    loop_of a w v (seq w₁ (stop b) w₂ e l (on_stop h k)) =
        let l' : L a w (stop v) = rw (e, h, append-nil, k) l in last l'

    loop_some : (a : A) → Inv a → (w : Word) (t : Turn A B) → L a w t → (w' : Word) × (v : B) × Onward (Loop L) t w' v
    loop_some a i w (again a') l = let z = ends a' (keeps a w a' i l) in (z.0, z.1, on_again z.2)
    loop_some a i w (stop b) l = ([], b, on_stop refl refl)

    loop_see : (n : ℕ) (a : A) → Inv a → (s : Word) → length s < n → Seen (Loop L a) (loop_p body a) s
    loop_see zero a i s h = absurd (omega arith)
    loop_see (suc n) a i s h =
        seen_like s (loop_of a) (loop_eq a i) (seen_bind (onward (loop_p body)) (f a i) s (loop_some a i) (λ w t r e l. go (λ a' i' r' h'. loop_see n a' i' r' h') w t r e l))
      where
        go : ((a' : A) → Inv a' → (r : Word) → length r < n → Seen (Loop L a') (loop_p body a') r)
            → (w : Word) (t : Turn A B) (r : Word) → s ≡ w ++ r → L a w t → Seen (Onward (Loop L) t) (onward (loop_p body) t) r
        go rec w (again a') r e l =
            let z = reads a w a' i l in
            let h' : length r < n = omega (arith, ap length e ∙ length-append w r) in
            seen_like r (λ w' v t. on_again t) (λ y. refl) (rec a' (keeps a w a' i l) r h')
        go rec w (stop b) r e l = is_done [] b r refl (on_stop refl refl) refl

    pub loop_exact : (a : A) → Inv a → Exact (Loop L a) (loop_p body a)
    loop_exact a i = record { comp = loop_comp a i; see = λ s. loop_see (suc (length s)) a i s (omega arith) }
