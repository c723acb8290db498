-- What a match on the kind shows of the definition's free kinds.
use Rattle.std.specs.Prelude.{◌≡◌, false, ℕ}
use borrow.Author.Tests.{ne_eqb}
use Rattle.lane.specs.Chart.{is_free}

pub not_free : (k : ℕ) → (k ≡ 0 → ⊥) → (k ≡ 2 → ⊥) → (k ≡ 10 → ⊥) → is_free k ≡ false
not_free k a b c = rw (ne_eqb k 2 b, ne_eqb k 10 c, ne_eqb k 0 a)
