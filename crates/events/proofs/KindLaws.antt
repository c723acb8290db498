-- What holds kind by kind, computed once.
use mathlib.Core.Path.{◌≡◌, refl, sym, ap, subst, ◌∙◌}
use mathlib.Core.List.{List, [], ◌∷◌}
use mathlib.Core.Bool.{Bool, true, false, ◌&&◌, cond}
use Prim.Native.Nat.{ℕ, zero, suc, ◌<◌}
use native.Mathlib.Omega.{arith}
use lib.ListN.{length}
use lib.Dec.{eqb, leb}
use borrow.Author.Tests.{leb-true, eqb-true, eqb-false, ne_eqb}
use Rattle.table.specs.Table.{Entry, table, rows_in, rows_of}

-- how many kinds there are
abbrev pub KINDS : ℕ
KINDS = length table

-- the values of a function from n - 1 down to 0: where two such lists are the same, which antt computes, so are the functions below n
abbrev pub listed : {A : Type 0} → (ℕ → A) → ℕ → List A
listed f zero = []
listed f (suc n) = f n ∷ listed f n

abbrev pub first_of : {A : Type 0} → A → List A → A
first_of x [] = x
first_of x (y ∷ l) = y

abbrev pub rest_of : {A : Type 0} → List A → List A
rest_of [] = []
rest_of (y ∷ l) = l

pub listed_same : {A : Type 0} (f g : ℕ → A) (n k : ℕ) → listed f n ≡ listed g n → k < n → f k ≡ g k
listed_same f g zero k e h = absurd (omega arith)
listed_same f g (suc n) k e h = go (eqb k n) refl (λ i. listed_same f g n k (ap rest_of e) i)
  where
    go : (z : Bool) → eqb k n ≡ z → (k < n → f k ≡ g k) → f k ≡ g k
    go true q r = subst (λ (m : ℕ). f m ≡ g m) (sym (eqb-true k n q)) (ap (first_of (f n)) e)
    go false q r = r (let z = eqb-false k n q in omega arith)

clash : {A : Type 0} → true ≡ false → A
clash e = absurd cc

both : (a b : Bool) → a && b ≡ true → (a ≡ true) × (b ≡ true)
both true b e = (refl, e)
both false b e = clash (sym e)

-- no kind is above the last
abbrev every : List Entry → Bool
every [] = true
every (x ∷ l) = leb x.kind KINDS && every l

none_above : (l : List Entry) (k : ℕ) → KINDS < k → every l ≡ true → rows_in l k ≡ []
none_above [] k h e = refl
none_above (x ∷ l) k h e =
    let q = both (leb x.kind KINDS) (every l) e in
    let z = leb-true x.kind KINDS q.0 in
    ap (λ (b : Bool). cond b x.rows (rows_in l k)) (ne_eqb x.kind k (λ w. omega arith)) ∙ none_above l k h q.1

pub above : (k : ℕ) → KINDS < k → rows_of k ≡ []
unfolding table
above k h = none_above table k h refl
