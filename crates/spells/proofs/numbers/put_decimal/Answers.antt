-- What stands before the point, then what stands behind it.
use mathlib.Core.Path.{◌≡◌, sym, ap}
use Prim.Native.Nat.{ℕ, ◌%◌, ◌^◌, min}
use native.Mathlib.Omega.{arith}
use lib.ListN.{length, length-append}
use Rattle.number.specs.Positive.{BEHIND}
use Rattle.spelling.specs.Written.{print_part, print_decimal}
use Rattle.printing.specs.Writes.{◌then◌}
use Rattle.spells.proofs.numbers.put_decimal.Goals as goal

-- at most six digits behind the point
least_is : {r : ℕ} (d : ℕ) → r ≡ min d 6 → r ≡ min BEHIND d
least_is d h = omega arith

pub put_digits-mid-requires : goal.put_digits-mid-requires
unfolding print_decimal
put_digits-mid-requires c = omega (arith, rw length-append at c.requires)

pub put_part-requires : goal.put_part-requires
unfolding print_decimal
put_part-requires c =
    let l = ap (λ (d : ℕ). length (print_part (c.args.millionths % 10 ^ BEHIND) d)) (least_is c.args.decimals c.min-least.ensures) in
    (omega arith, omega (arith, l, rw length-append at c.requires, c.put_digits-mid.ensures.next))

pub returns : goal.returns
unfolding print_decimal
returns c = rw (sym (least_is c.args.decimals c.min-least.ensures)) (c.put_digits-mid.ensures then c.put_part.ensures)
