-- What the classes are, number by number, and that each number has one.
use Rattle.std.specs.Prelude.{◌≡◌, refl, ◌↔◌, Bool, true, false, ℕ, eqb, leb}
use Rattle.std.proofs.Common.{sym, ◌∙◌, arith, eqb-true, ne_eqb, leb-true, leb-false, le-leb}
use Rattle.std.proofs.lemmas.Bool.{eqb-false, lt-leb}
use Rattle.routes.specs.Classes.{Undefined, ARoute, Return, ManualRemoval, Reserved, Own, class_of}
use Rattle.routes.specs.Theorems.{Has, undefined, a_route, return, removal, reserved, own}

-- the class that the definition gives has the number
pub class_has : (n c : ℕ) → Has n c → class_of n ≡ c
unfolding class_of
class_has n c undefined = refl
class_has n c (a_route low high) = rw (ne_eqb n 0 (λ z. omega arith), le-leb 1 n low, le-leb n 99 high)
class_has n c return = refl
class_has n c removal = refl
class_has n c (reserved low high other) =
    rw (ne_eqb n 0 (λ z. omega arith), le-leb 1 n (omega arith), lt-leb n 99 (omega arith), ne_eqb n 900 other, ne_eqb n 999 (λ z. omega arith), le-leb n 998 high)
class_has n c (own low) =
    rw (ne_eqb n 0 (λ z. omega arith), le-leb 1 n (omega arith), lt-leb n 99 (omega arith), ne_eqb n 900 (λ z. omega arith), ne_eqb n 999 (λ z. omega arith), lt-leb n 998 (omega arith))

-- every number is in a class
pub each_has : (n : ℕ) → (c : ℕ) × Has n c
each_has n = go (eqb n 0) refl (leb n 99) refl (eqb n 900) refl (eqb n 999) refl (leb n 998) refl
  where
    go : (a : Bool) → eqb n 0 ≡ a → (b : Bool) → leb n 99 ≡ b → (d : Bool) → eqb n 900 ≡ d → (e : Bool) → eqb n 999 ≡ e → (f : Bool) → leb n 998 ≡ f → (c : ℕ) × Has n c
    go true p b q d r e s f t = (Undefined, rw (eqb-true n 0 p) undefined)
    go false p true q d r e s f t = (ARoute, a_route {n = n} (let z = eqb-false n 0 p in omega arith) (leb-true n 99 q))
    go false p false q true r e s f t = (Return, rw (eqb-true n 900 r) return)
    go false p false q false r true s f t = (ManualRemoval, rw (eqb-true n 999 s) removal)
    go false p false q false r false s true t = (Reserved, reserved {n = n} (let z = leb-false n 99 q in omega arith) (leb-true n 998 t) (eqb-false n 900 r))
    go false p false q false r false s false t = (Own, own {n = n} (let z = leb-false n 998 t in let y = eqb-false n 999 s in omega arith))

-- so the class of a number is the one that has it
pub class_exact : (n c : ℕ) → (class_of n ≡ c) ↔ Has n c
class_exact n c = (λ e. let (d, h) = each_has n in rw (sym e ∙ class_has n d h) h, class_has n c)

-- the promise of the call determines its answer
pub class_only : (n : ℕ) {r r' : ℕ} → r ≡ class_of n → r' ≡ class_of n → r ≡ r'
class_only n p q = p ∙ sym q

-- the order's numbers, and those beside them
pub paper :
    (class_of 0 ≡ Undefined)
    × (class_of 1 ≡ ARoute)
    × (class_of 99 ≡ ARoute)
    × (class_of 100 ≡ Reserved)
    × (class_of 899 ≡ Reserved)
    × (class_of 900 ≡ Return)
    × (class_of 901 ≡ Reserved)
    × (class_of 998 ≡ Reserved)
    × (class_of 999 ≡ ManualRemoval)
    × (class_of 1000 ≡ Own)
    × (class_of 65535 ≡ Own)
unfolding class_of
paper = (refl, refl, refl, refl, refl, refl, refl, refl, refl, refl, refl)
