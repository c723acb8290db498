-- One law for every class of bytes: what antt computes at each number of a range, or of a list, holds at each number of it.
use mathlib.Core.Path.{◌≡◌, refl, sym, subst}
use mathlib.Core.Bool.{Bool, true, false}
use mathlib.Core.List.{List, [], ◌∷◌}
use mathlib.Core.Logic.{⊎_elim, inl, inr}
use Prim.Native.Nat.{ℕ, zero, suc, ◌+◌, ◌≤◌, ◌<◌}
use native.Mathlib.Omega.{arith}
use native.Mathlib.Decide.{ℕ_discrete}
use lib.Dec.{T, eqb}
use types.Run.{OneOf}
use borrow.Author.Tests.{ne_eqb}
use Rattle.number.specs.Bytes.{pick, and}

and_left : (a b : Bool) → T (and a b) → T a
and_left true b t = tt
and_left false b t = t

and_right : (a b : Bool) → T (and a b) → T b
and_right true b t = t
and_right false b t = absurd t

abbrev same : Bool → Bool → Bool
same true b = b
same false true = false
same false false = true

same_eq : (a b : Bool) → T (same a b) → a ≡ b
same_eq true true t = refl
same_eq true false t = absurd t
same_eq false true t = absurd t
same_eq false false t = refl

-- f is v at each of the n numbers from low on
abbrev pub all_is : (ℕ → Bool) → Bool → ℕ → ℕ → Bool
all_is f v low zero = true
all_is f v low (suc n) = and (same v (f low)) (all_is f v (suc low) n)

pub ranged : (f : ℕ → Bool) (v : Bool) (low n : ℕ) → T (all_is f v low n) → (b : ℕ) → low ≤ b → b < low + n → v ≡ f b
ranged f v low zero t b h k = absurd (omega arith)
ranged f v low (suc n) t b h k =
    go (ℕ_discrete low b) (ranged f v (suc low) n (and_right (same v (f low)) (all_is f v (suc low) n) t) b)
  where
    go : Dec (low ≡ b) → (suc low ≤ b → b < suc low + n → v ≡ f b) → v ≡ f b
    go (yes e) rest = subst (λ (x : ℕ). v ≡ f x) e (same_eq v (f low) (and_left (same v (f low)) (all_is f v (suc low) n) t))
    go (no ne) rest = rest (omega arith) (omega arith)

-- f is v at each number of a list
abbrev pub all_of : (ℕ → Bool) → Bool → List ℕ → Bool
all_of f v [] = true
all_of f v (k ∷ ks) = and (same v (f k)) (all_of f v ks)

pub keyed : (f : ℕ → Bool) (v : Bool) (ks : List ℕ) → T (all_of f v ks) → (b : ℕ) → OneOf ks b → v ≡ f b
keyed f v [] t b h = absurd h
keyed f v (k ∷ []) t b h = subst (λ (x : ℕ). v ≡ f x) (sym h) (same_eq v (f k) (and_left (same v (f k)) true t))
keyed f v (k ∷ j ∷ ks) t b h =
    ⊎_elim
    (λ e. subst (λ (x : ℕ). v ≡ f x) (sym e) (same_eq v (f k) (and_left (same v (f k)) (all_of f v (j ∷ ks)) t)))
    (keyed f v (j ∷ ks) (and_right (same v (f k)) (all_of f v (j ∷ ks)) t) b)
    h

-- f is v at each of the n numbers from low on, but for those of a list
abbrev pub is_key : List ℕ → ℕ → Bool
is_key [] b = false
is_key (k ∷ ks) b = pick (eqb b k) true (is_key ks b)

no_key : (ks : List ℕ) (b : ℕ) → (OneOf ks b → ⊥) → is_key ks b ≡ false
no_key [] b h = refl
no_key (k ∷ []) b h = rw (ne_eqb b k h)
no_key (k ∷ j ∷ ks) b h = rw (ne_eqb b k (λ e. h (inl e))) (no_key (j ∷ ks) b (λ e. h (inr e)))

pub ranged_but : (f : ℕ → Bool) (v : Bool) (ks : List ℕ) (low n : ℕ) → T (all_is (λ b. pick (is_key ks b) v (f b)) v low n) → (b : ℕ) → low ≤ b → b < low + n → (OneOf ks b → ⊥) → v ≡ f b
ranged_but f v ks low n t b h k ne =
    rw (no_key ks b ne) at (ranged (λ x. pick (is_key ks x) v (f x)) v low n t b h k)
