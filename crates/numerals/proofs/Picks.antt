-- A definition that picks its case by tests, met by what the code's tests showed: the set that closes most returns.
use mathlib.Core.Path.{◌≡◌, sym, ap, ◌∙◌}
use mathlib.Core.Bool.{Bool, true, false}
use borrow.Author.Tests.{eq-eqb, ne_eqb, lt-ltb, le-ltb, le-leb, lt-leb, not-true, not-false}
use Rattle.number.specs.Bytes.{pick}

pub pick_yes : {A : Type 0} (t : Bool) (x a b : A) → t ≡ true → x ≡ a → x ≡ pick t a b
pick_yes t x a b e h = rw (e, h)

pub pick_no : {A : Type 0} (t : Bool) (x a b : A) → t ≡ false → x ≡ b → x ≡ pick t a b
pick_no t x a b e h = rw (e, h)

-- what a call returned, and what a test then showed of it
pub told : (r s t : Bool) → r ≡ s → r ≡ t → s ≡ t
told r s t d e = sym d ∙ e

-- a function of a value whose constructor a match has shown
pub known : {A B : Type 0} (f : A → B) {x y : A} {r : B} → x ≡ y → r ≡ f y → r ≡ f x
known f e h = h ∙ ap f (sym e)

pub ruleset picks = (pick_yes, pick_no, told, eq-eqb, ne_eqb, lt-ltb, le-ltb, le-leb, lt-leb, not-true, not-false)
