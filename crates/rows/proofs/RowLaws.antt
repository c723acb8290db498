-- The rows one behind the other: what is left at the row i is that row and what is left behind it.
use Rattle.std.proofs.Common.{◌≡◌, ℕ, suc, ◌+◌, ◌<◌, ◌≤◌, Bool, List, [], ◌∷◌, length, get_or, drop, refl, sym, ap, ◌∙◌, add-one, drop-cons, map}
use lib.ListN.{drop_of_length-le}
use Rattle.table.specs.Table.{Row}
use Rattle.table.specs.Says.{Result, by_need}
use Rattle.rows.specs.Coding.{need_of, may_miss, row_of, as_rows}
use Rattle.rows.specs.declared.data.Need.{Need as CodedNeed}
use Rattle.rows.specs.declared.data.Need.TheVariants.{Required, Optional}
use Rattle.rows.specs.declared.data.Row.{Row as Coded}

-- the rows from the row i on
abbrev pub left : List Coded → ℕ → List Row
left l i = as_rows (drop i l)

pub next_row : (l : List Coded) (i : ℕ) (d : Coded) → i < length l → left l i ≡ row_of (get_or l i d) ∷ left l (i + 1)
unfolding as_rows
next_row l i d h = rw (add-one, drop-cons l i d h) refl

pub no_row : (l : List Coded) (i : ℕ) → length l ≤ i → left l i ≡ []
unfolding as_rows
no_row l i h = ap (λ (x : List Coded). map row_of x) (drop_of_length-le l h)

pub length_rows : (l : List Coded) → length (as_rows l) ≡ length l
unfolding as_rows
length_rows [] = refl
length_rows (c ∷ l) = ap suc (length_rows l)

-- a row must be there, or may be missing
pub by_coded : (n : CodedNeed) (f : Bool → Result) → by_need (need_of n) f ≡ f (may_miss n)
by_coded Required f = refl
by_coded Optional f = refl
