-- Counted from the table: what holds of each number below n, and how many rows there are.
use mathlib.Core.Path.{◌≡◌, refl, sym, ap, subst}
use mathlib.Core.List.{List, [], ◌∷◌, ◌++◌}
use mathlib.Core.Bool.{Bool, true, false}
use Prim.Native.Nat.{ℕ, zero, suc, ◌≤◌, ◌<◌}
use native.Mathlib.Omega.{arith}
use lib.ListN.{length}
use lib.Dec.{eqb}
use borrow.Author.Tests.{leb-true, eqb-true, eqb-false}
use Rattle.table.specs.Table.{Row, Entry, table}

-- the values of a function from n - 1 down to 0: where two such lists are the same, which antt computes, so are the functions below n
abbrev pub listed : {A : Type 0} → (ℕ → A) → ℕ → List A
listed f zero = []
listed f (suc n) = f n ∷ listed f n

abbrev first_of : {A : Type 0} → A → List A → A
first_of x [] = x
first_of x (y ∷ l) = y

abbrev rest_of : {A : Type 0} → List A → List A
rest_of [] = []
rest_of (y ∷ l) = l

pub listed_same : {A : Type 0} (f g : ℕ → A) (n k : ℕ) → listed f n ≡ listed g n → k < n → f k ≡ g k
listed_same f g zero k e h = absurd (omega arith)
listed_same f g (suc n) k e h = go (eqb k n) refl (λ i. listed_same f g n k (ap rest_of e) i)
  where
    go : (z : Bool) → eqb k n ≡ z → (k < n → f k ≡ g k) → f k ≡ g k
    go true q r = subst (λ (m : ℕ). f m ≡ g m) (sym (eqb-true k n q)) (ap (first_of (f n)) e)
    go false q r = r (let z = eqb-false k n q in omega arith)

-- the rows of all kinds in order
abbrev pub all_rows : List Entry → List Row
all_rows [] = []
all_rows (e ∷ entries) = e.rows ++ all_rows entries

-- how many rows there are
abbrev pub ROWS : ℕ
ROWS = length (all_rows table)

-- there are few
pub few_rows : ROWS ≤ 255
unfolding table
few_rows = leb-true ROWS 255 refl
