-- Laws of the tests that the definitions are made of.
use Rattle.std.specs.Prelude.{◌≡◌, refl, [], ◌∷◌, ◌++◌, ◌⊎◌, Bool, true, false, ◌&&◌, ◌||◌, ℕ, ◌≤◌, eqb, leb}
use Rattle.std.proofs.Common.{sym, inl, inr, arith, leb-true, le-leb}
use Rattle.exact.specs.Byte.{eqb-true}
use Rattle.grammar.specs.Bytes.{Bytes, within, every, same}

pub and_left : (a b : Bool) → a && b ≡ true → a ≡ true
and_left true b h = refl
and_left false b h = h

pub and_right : (a b : Bool) → a && b ≡ true → b ≡ true
and_right true b h = h
and_right false b h = let z : b ≡ true = cc in z

pub and_both : (a b : Bool) → a ≡ true → b ≡ true → a && b ≡ true
and_both a b h k = rw (h, k)

pub and_false : (a b : Bool) → b ≡ false → a && b ≡ false
and_false true b h = h
and_false false b h = refl

pub or_cases : (a b : Bool) → a || b ≡ true → (a ≡ true) ⊎ (b ≡ true)
or_cases true b h = inl refl
or_cases false b h = inr h

pub or_left : (a b : Bool) → a ≡ true → a || b ≡ true
or_left a b h = rw h

pub or_right : (a b : Bool) → b ≡ true → a || b ≡ true
or_right true b h = refl
or_right false b h = h

pub in_range : (lo hi b : ℕ) → within lo hi b ≡ true → (lo ≤ b) × (b ≤ hi)
unfolding within
in_range lo hi b h = (leb-true lo b (and_left (leb lo b) (leb b hi) h), leb-true b hi (and_right (leb lo b) (leb b hi) h))

pub range_in : (lo hi b : ℕ) → lo ≤ b → b ≤ hi → within lo hi b ≡ true
unfolding within
range_in lo hi b h k = and_both (leb lo b) (leb b hi) (le-leb lo b h) (le-leb b hi k)

-- a test that is another, read both ways
pub same_test : (x y : Bool) → (x ≡ true → y ≡ true) → (y ≡ true → x ≡ true) → x ≡ y
same_test true y f g = sym (f refl)
same_test false true f g = g refl
same_test false false f g = refl

pub every_left : (t : ℕ → Bool) (n m : Bytes) → every t (n ++ m) ≡ true → every t n ≡ true
every_left t [] m h = refl
every_left t (b ∷ n) m h = and_both (t b) (every t n) (and_left (t b) (every t (n ++ m)) h) (every_left t n m (and_right (t b) (every t (n ++ m)) h))

pub every_right : (t : ℕ → Bool) (n m : Bytes) → every t (n ++ m) ≡ true → every t m ≡ true
every_right t [] m h = h
every_right t (b ∷ n) m h = every_right t n m (and_right (t b) (every t (n ++ m)) h)

pub every_append : (t : ℕ → Bool) (n m : Bytes) → every t n ≡ true → every t m ≡ true → every t (n ++ m) ≡ true
every_append t [] m h k = k
every_append t (b ∷ n) m h k = and_both (t b) (every t (n ++ m)) (and_left (t b) (every t n) h) (every_append t n m (and_right (t b) (every t n) h) k)

pub every_snoc : (t : ℕ → Bool) (n : Bytes) (b : ℕ) → t b ≡ false → every t (n ++ b ∷ []) ≡ false
every_snoc t [] b h = rw h
every_snoc t (c ∷ n) b h = and_false (t c) (every t (n ++ b ∷ [])) (every_snoc t n b h)

pub same_true : (x y : Bytes) → same x y ≡ true → y ≡ x
same_true [] [] h = refl
same_true [] (y ∷ ys) h = absurd (let z : ◌≡◌ {A = ℕ} 0 1 = cc in omega arith)
same_true (x ∷ xs) [] h = absurd (let z : ◌≡◌ {A = ℕ} 0 1 = cc in omega arith)
same_true (x ∷ xs) (y ∷ ys) h =
    let a = eqb-true x y (and_left (eqb x y) (same xs ys) h) in
    let b = same_true xs ys (and_right (eqb x y) (same xs ys) h) in cc

pub every_last : (t : ℕ → Bool) (n : Bytes) (b : ℕ) → every t (n ++ b ∷ []) ≡ true → t b ≡ true
every_last t [] b h = and_left (t b) true h
every_last t (x ∷ n) b h = every_last t n b (and_right (t x) (every t (n ++ b ∷ [])) h)

pub uncons : {a : ℕ} {x y : Bytes} → a ∷ x ≡ a ∷ y → x ≡ y
uncons e = cc
