-- A test of every byte, and the tests of one.
use mathlib.Core.Path.{◌≡◌, refl, sym, ap, ◌∙◌}
use mathlib.Core.List.{[], ◌∷◌}
use Rattle.std.specs.List.{list_all}
use mathlib.Core.Bool.{Bool, true, false, ◌&&◌}
use Prim.Native.Nat.{ℕ, ◌+◌, ◌≤◌, ◌<◌}
use native.Mathlib.Numerals.{add-one}
use lib.ListN.{length, drop, get_or, drop_of_length-le}
use lib.Dec.{eqb}
use lib.Seq.{drop-cons}
use borrow.Author.Tests.{ne_eqb, eq-eqb, eqb-true, eqb-false}
use Rattle.grammar.specs.Bytes.{Bytes, every}
use Rattle.value.specs.Text.{altered}

-- std's test of every byte
pub every_is : (t : ℕ → Bool) (w : Bytes) → list_all t w ≡ every t w
every_is t [] = refl
every_is t (b ∷ w) = ap (λ (z : Bool). t b && z) (every_is t w)

pub equal_turned : (a b : ℕ) → eqb a b ≡ eqb b a
equal_turned a b = go (eqb a b) refl
  where
    go : (z : Bool) → eqb a b ≡ z → z ≡ eqb b a
    go true h = sym (eq-eqb b a (sym (eqb-true a b h)))
    go false h = sym (ne_eqb b a (λ e. eqb-false a b h (sym e)))
