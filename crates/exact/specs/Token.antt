-- Tokens: as many bytes as can begin one, ended by what follows.
use Rattle.std.specs.Prelude.{◌≡◌, refl, [], ◌∷◌, ◌++◌, Bool, true, false, ℕ}
use Rattle.std.proofs.Common.{append_assoc, append-nil}
use Rattle.exact.specs.Exact.{Word, Lang, done, more, bad, Reader, Seen, is_done, is_more, is_bad, Exact, inhabited}
use Rattle.exact.specs.Byte.{pick, seen_first}

-- a token: as many bytes as can begin one, then what follows. `pre n`: n begins a token; `ok n`: n is one.
pub data TokenFrom {A : Type 0} (pre ok : Word → Bool) (K : Word → Lang A) (n : Word) (w : Word) (v : A) : Type 0 where
  token : (m k : Word) → w ≡ m ++ k → pre (n ++ m) ≡ true → ok (n ++ m) ≡ true → K (n ++ m) k v → TokenFrom pre ok K n w v

abbrev pub token_p : {A : Type 0} → (pre ok : Word → Bool) → (Word → Reader A) → Word → Reader A
token_p pre ok q n [] = more
token_p pre ok q n (b ∷ r) = pick (pre (n ++ b ∷ [])) (token_p pre ok q (n ++ b ∷ []) r) (pick (ok n) (q n (b ∷ r)) (bad (b ∷ r)))

module _ {A : Type 0} {pre ok : Word → Bool} {K : Word → Lang A} {q : Word → Reader A}
    -- a beginning of a beginning is one
    (closed : (n m : Word) → pre (n ++ m) ≡ true → pre n ≡ true)
    -- a beginning can be completed
    (fill : (n : Word) → pre n ≡ true → (m : Word) × (pre (n ++ m) ≡ true) × (ok (n ++ m) ≡ true))
    -- what follows begins with a byte that cannot go on with the token
    (apart : (n k : Word) (v : A) → pre n ≡ true → ok n ≡ true → K n k v → (b : ℕ) × (k' : Word) × (k ≡ b ∷ k') × (pre (n ++ b ∷ []) ≡ false))
    (f : (n : Word) → pre n ≡ true → ok n ≡ true → Exact (K n) (q n))
  where
    token_comp : (n m k : Word) (v : A) (r : Word) → pre (n ++ m) ≡ true → ok (n ++ m) ≡ true → K (n ++ m) k v → token_p pre ok q n ((m ++ k) ++ r) ≡ done v r
    token_comp n [] k v r h o l =
        let h' : pre n ≡ true = rw append-nil at h in
        let o' : ok n ≡ true = rw append-nil at o in
        let l' : K n k v = rw append-nil at l in
        let a = apart n k v h' o' l' in
        rw (a.2, a.3, o') (rw a.2 at ((f n h' o').comp k v r l'))
    token_comp n (b ∷ m) k v r h o l =
        let e : n ++ b ∷ m ≡ (n ++ b ∷ []) ++ m = rw append_assoc in
        let h' : pre ((n ++ b ∷ []) ++ m) ≡ true = rw e at h in
        rw (closed (n ++ b ∷ []) m h') (token_comp (n ++ b ∷ []) m k v r h' (rw e at o) (rw e at l))

    token_up : (n : Word) (b : ℕ) (w : Word) (v : A) → TokenFrom pre ok K (n ++ b ∷ []) w v → TokenFrom pre ok K n (b ∷ w) v
    token_up n b w v (token m k e h o l) = token (b ∷ m) k (rw e) (rw append_assoc at h) (rw append_assoc at o) (rw append_assoc at l)

    token_here : (n : Word) → pre n ≡ true → ok n ≡ true → (k : Word) (v : A) → K n k v → TokenFrom pre ok K n k v
    token_here n h o k v l = token [] k refl (rw append-nil h) (rw append-nil o) (rw append-nil l)

    token_go : (n : Word) (b : ℕ) → pre (n ++ b ∷ []) ≡ true → (r : Word) → Seen (TokenFrom pre ok K (n ++ b ∷ [])) (token_p pre ok q (n ++ b ∷ [])) r → Seen (TokenFrom pre ok K n) (token_p pre ok q n) (b ∷ r)
    token_go n b e r (is_done w v r' h l d) = is_done (b ∷ w) v r' (rw h) (token_up n b w v l) (rw e d)
    token_go n b e r (is_more x v l d) = is_more x v (token_up n b (r ++ x) v l) (rw e d)
    token_go n b e r (is_bad u c r' h o k) = is_bad (b ∷ u) c r' (rw h) (rw e o) (λ x. rw e (k x))

    token_see : (n : Word) → pre n ≡ true → (s : Word) → Seen (TokenFrom pre ok K n) (token_p pre ok q n) s
    token_see n h [] =
        let a = fill n h in
        let i = inhabited (f (n ++ a.0) a.1 a.2) in
        is_more (a.0 ++ i.0) i.1 (token a.0 i.0 refl a.1 a.2 i.2) refl
    token_see n h (b ∷ r) = at (pre (n ++ b ∷ [])) refl (λ e. token_go n b e r (token_see (n ++ b ∷ []) e r))
      where
        last : (z : Bool) → ok n ≡ z → pre (n ++ b ∷ []) ≡ false → Seen (TokenFrom pre ok K n) (token_p pre ok q n) (b ∷ r)
        last true o e = seen_first b r (token_here n h o) refl (λ y. rw (e, o)) ((f n h o).see (b ∷ r))
        last false o e = is_bad [] b r refl refl (λ x. rw (e, o))

        at : (z : Bool) → pre (n ++ b ∷ []) ≡ z → (pre (n ++ b ∷ []) ≡ true → Seen (TokenFrom pre ok K n) (token_p pre ok q n) (b ∷ r)) → Seen (TokenFrom pre ok K n) (token_p pre ok q n) (b ∷ r)
        at true e go = go e
        at false e go = last (ok n) refl e

    pub token_exact : (n : Word) → pre n ≡ true → Exact (TokenFrom pre ok K n) (token_p pre ok q n)
    token_exact n h = record { comp = c; see = token_see n h }
      where
        c : (w : Word) (v : A) (r : Word) → TokenFrom pre ok K n w v → token_p pre ok q n (w ++ r) ≡ done v r
        c w v r (token m k e h' o l) = rw e (token_comp n m k v r h' o l)
