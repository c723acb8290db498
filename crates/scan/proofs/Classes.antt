-- One law for every class of bytes: what antt computes at each number of a range holds at each number of it.
use mathlib.Core.Path.{◌≡◌, refl, sym, subst, ◌∙◌}
use mathlib.Core.List.{List, [], ◌∷◌}
use mathlib.Core.Logic.{inl, inr, ⊎_elim}
use mathlib.Core.Bool.{Bool, true, false, ◌||◌, cond}
use Prim.Native.Nat.{ℕ, zero, suc, ◌+◌, ◌≤◌, ◌<◌}
use Prim.Native.Char.{code}
use native.Mathlib.Omega.{arith}
use native.Mathlib.Decide.{ℕ_discrete}
use types.Run.{OneOf}
use lib.Dec.{T, eqb}
use borrow.Author.Tests.{ne_eqb}
use Rattle.std.specs.Char.{is_ascii_alphabetic}
use Rattle.grammar.specs.Bytes.{digit, within}
use Rattle.grammar.specs.Name.{letter, name_start, name_byte}

abbrev both : Bool → Bool → Bool
both true b = b
both false b = false

both_left : (a b : Bool) → T (both a b) → T a
both_left true b t = tt
both_left false b t = t

both_right : (a b : Bool) → T (both a b) → T b
both_right true b t = t
both_right false b t = absurd t

abbrev same : Bool → Bool → Bool
same true b = b
same false true = false
same false false = true

same_eq : (a b : Bool) → T (same a b) → a ≡ b
same_eq true true t = refl
same_eq true false t = absurd t
same_eq false true t = absurd t
same_eq false false t = refl

-- f is v at each of the n numbers from lo on
abbrev pub all_is : (ℕ → Bool) → Bool → ℕ → ℕ → Bool
all_is f v lo zero = true
all_is f v lo (suc n) = both (same v (f lo)) (all_is f v (suc lo) n)

pub ranged : (f : ℕ → Bool) (v : Bool) (lo n : ℕ) → T (all_is f v lo n) → (b : ℕ) → lo ≤ b → b < lo + n → v ≡ f b
ranged f v lo zero t b h k = absurd (omega arith)
ranged f v lo (suc n) t b h k = go (ℕ_discrete lo b) (ranged f v (suc lo) n (both_right (same v (f lo)) (all_is f v (suc lo) n) t) b)
  where
    go : Dec (lo ≡ b) → (suc lo ≤ b → b < suc lo + n → v ≡ f b) → v ≡ f b
    go (yes e) rec = subst (λ (x : ℕ). v ≡ f x) e (same_eq v (f lo) (both_left (same v (f lo)) (all_is f v (suc lo) n) t))
    go (no ne) rec = rec (omega arith) (omega arith)

-- f is v at each number of a list
abbrev pub all_of : (ℕ → Bool) → Bool → List ℕ → Bool
all_of f v [] = true
all_of f v (k ∷ ks) = both (same v (f k)) (all_of f v ks)

pub keyed : (f : ℕ → Bool) (v : Bool) (ks : List ℕ) → T (all_of f v ks) → (b : ℕ) → OneOf ks b → v ≡ f b
keyed f v [] t b h = absurd h
keyed f v (k ∷ []) t b h = subst (λ (x : ℕ). v ≡ f x) (sym h) (same_eq v (f k) (both_left (same v (f k)) true t))
keyed f v (k ∷ j ∷ ks) t b h =
    ⊎_elim (λ e. subst (λ (x : ℕ). v ≡ f x) (sym e) (same_eq v (f k) (both_left (same v (f k)) (all_of f v (j ∷ ks)) t)))
    (keyed f v (j ∷ ks) (both_right (same v (f k)) (all_of f v (j ∷ ks)) t) b)
    h

-- f is v at each of the n numbers from lo on, but for those of a list
abbrev pub is_key : List ℕ → ℕ → Bool
is_key [] b = false
is_key (k ∷ ks) b = cond (eqb b k) true (is_key ks b)

no_key : (ks : List ℕ) (b : ℕ) → (OneOf ks b → ⊥) → is_key ks b ≡ false
no_key [] b h = refl
no_key (k ∷ []) b h = rw (ne_eqb b k h)
no_key (k ∷ j ∷ ks) b h = rw (ne_eqb b k (λ e. h (inl e))) (no_key (j ∷ ks) b (λ e. h (inr e)))

pub ranged_but : (f : ℕ → Bool) (v : Bool) (ks : List ℕ) (lo n : ℕ) → T (all_is (λ b. cond (is_key ks b) v (f b)) v lo n) → (b : ℕ) → lo ≤ b → b < lo + n → (OneOf ks b → ⊥) → v ≡ f b
ranged_but f v ks lo n t b h k ne = rw (no_key ks b ne) at (ranged (λ x. cond (is_key ks x) v (f x)) v lo n t b h k)

-- two classes that agree at each of the numbers below n
pub alike : (f g : ℕ → Bool) (n : ℕ) → T (all_is (λ b. same (f b) (g b)) true 0 n) → (b : ℕ) → b < n → f b ≡ g b
alike f g n t b h = same_eq (f b) (g b) (subst T (ranged (λ b. same (f b) (g b)) true 0 n t b (omega arith) (omega arith)) tt)

pub start_class : (b : ℕ) → b < 256 → (is_ascii_alphabetic b || eqb b 95) ≡ name_start b
unfolding name_start letter within
start_class b h = alike (λ b. is_ascii_alphabetic b || eqb b 95) name_start 256 tt b h

-- a name's bytes that are no letters
unfoldable pub sign : ℕ → Bool
sign b = eqb (code "_") b || (digit b || (eqb (code "-") b || (eqb (code ".") b || eqb (code ":") b)))

pub letter_name : (b : ℕ) → is_ascii_alphabetic b ≡ true → true ≡ name_byte b
unfolding name_byte name_start letter within
letter_name b h = rw h

pub sign_name : (b : ℕ) (v : Bool) → is_ascii_alphabetic b ≡ false → v ≡ sign b → v ≡ name_byte b
unfolding name_byte name_start sign letter within
sign_name b v h e = rw h (e ∙ go (eqb (code "_") b) _)
  where
    go : (x y : Bool) → x || y ≡ x || y
    go x y = refl
