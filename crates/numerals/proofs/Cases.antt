-- The last arm of a match: the definitions at all other variants.
use mathlib.Core.Path.{◌≡◌, refl}
use mathlib.Core.Bool.{Bool, false}
use Prim.Native.Nat.{ℕ}
use Rattle.number.specs.Positive.{number_read}
use Rattle.numerals.specs.Scan.{inside, broken, int_body_end, number_body_end, body_decimals, body_end}
use Rattle.std.specs.Prelude.{None}
use Rattle.numerals.specs.declared.ends.Ends.{Ends}
use Rattle.numerals.specs.declared.scan.Body.{Body}
use Rattle.numerals.specs.declared.scan.Digits.{Digits}

pub not_inside : (e : Ends) → (e ≡ Ends.Inside → ⊥) → false ≡ inside e
unfolding inside
not_inside Ends.Front h = refl
not_inside Ends.Inside h = absurd (h refl)
not_inside Ends.Behind h = refl
not_inside Ends.Broken h = refl

pub not_broken : (e : Ends) → (e ≡ Ends.Broken → ⊥) → false ≡ broken e
unfolding broken
not_broken Ends.Front h = refl
not_broken Ends.Inside h = refl
not_broken Ends.Behind h = refl
not_broken Ends.Broken h = absurd (h refl)

pub no_int_lem : (s : Body) → ((minus : Bool) (d : Digits) → s ≡ Body.Whole minus d → ⊥) → None ≡ int_body_end s
unfolding int_body_end
no_int_lem Body.Start h = refl
no_int_lem (Body.Signed minus) h = refl
no_int_lem (Body.Whole minus d) h = absurd (h minus d refl)
no_int_lem Body.Point h = refl
no_int_lem (Body.Part d) h = refl
no_int_lem (Body.Mark d) h = refl
no_int_lem (Body.Turned minus d) h = refl
no_int_lem (Body.Power minus e d) h = refl
no_int_lem Body.Dead h = refl

pub no_end : (s : Body) → ((minus : Bool) (d : Digits) → s ≡ Body.Whole minus d → ⊥) → ((d : Digits) → s ≡ Body.Part d → ⊥) → ((minus : Bool) (e : ℕ) (d : Digits) → s ≡ Body.Power minus e d → ⊥) → None ≡ body_end s
unfolding body_end number_body_end body_decimals number_read
no_end Body.Start w p e = refl
no_end (Body.Signed minus) w p e = refl
no_end (Body.Whole minus d) w p e = absurd (w minus d refl)
no_end Body.Point w p e = refl
no_end (Body.Part d) w p e = absurd (p d refl)
no_end (Body.Mark d) w p e = refl
no_end (Body.Turned minus d) w p e = refl
no_end (Body.Power minus x d) w p e = absurd (e minus x d refl)
no_end Body.Dead w p e = refl
