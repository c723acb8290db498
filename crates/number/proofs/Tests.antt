-- Small laws of tests and of bytes: what the test of a class says, and a definition that picks its case, met by what tests showed.
use mathlib.Core.Path.{◌≡◌, refl, sym, ◌∙◌}
use mathlib.Core.Bool.{Bool, true, false}
use Prim.Native.Nat.{ℕ, ◌≤◌}
use native.Mathlib.Omega.{arith}
use lib.Dec.{leb}
use borrow.Author.Tests.{leb-true, ne_eqb, lt-leb}
use Rattle.number.specs.Bytes.{and, blank, digit}

-- a value by the two cases of a test
pub cases : {P : Type 0} (t : Bool) → (t ≡ true → P) → (t ≡ false → P) → P
cases true f g = f refl
cases false f g = g refl

pub never : {P : Type 0} {t : Bool} → t ≡ true → t ≡ false → P
never y n = absurd (let z : true ≡ false = sym y ∙ n in let w : ◌≡◌ {A = ℕ} 0 1 = cc in omega arith)

pub and_left : (a b : Bool) → and a b ≡ true → a ≡ true
and_left true b h = refl
and_left false b h = h

pub and_right : (a b : Bool) → and a b ≡ true → b ≡ true
and_right true b h = h
and_right false b h = never h refl

pub digit_low : (b : ℕ) → digit b ≡ true → 48 ≤ b
unfolding digit
digit_low b h = leb-true 48 b (and_left (leb 48 b) (leb b 57) h)

pub digit_high : (b : ℕ) → digit b ≡ true → b ≤ 57
unfolding digit
digit_high b h = leb-true b 57 (and_right (leb 48 b) (leb b 57) h)

pub and_false : (a : Bool) → and a false ≡ false
and_false true = refl
and_false false = refl

pub and_true : (a : Bool) → and a true ≡ a
and_true true = refl
and_true false = refl

pub digit_no_blank : (b : ℕ) → digit b ≡ true → blank b ≡ false
unfolding blank
digit_no_blank b h =
    let low : 48 ≤ b = digit_low b h in
    rw (lt-leb b 10 (omega arith), and_false (leb 9 b), ne_eqb b 13 (λ e. omega arith), ne_eqb b 32 (λ e. omega arith))
