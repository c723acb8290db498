-- The theorems of the crate, for a reader to find: exactness of the scan, the law of one more byte, the range of a number, and
-- the bench table.
use mathlib.Core.Path.{◌≡◌, refl}
use mathlib.Core.Bool.{true}
use mathlib.Core.List.{[], ◌∷◌}
use Prim.Native.Nat.{ℕ}
use mathlib.Core.Logic.{◌↔◌}
use Rattle.number.specs.Bytes.{Bytes, blank, digit, non_empty, all, trim, drop_front, drop_back, keep_before, value_from, before, behind}
use Rattle.number.specs.Whole.{sized, signed, int_of}
use Rattle.number.specs.Positive.{number, written, short, above, millionths, decimal, parted, unsigned, power_written, out, number_of, NumberRange}
use Rattle.number.specs.Bench.{Bench, bench}
use Rattle.numerals.specs.Scan.{run, ScannedMore, ScannedOn, IntExact, NumberExact}
use Rattle.numerals.proofs.IntLaws as int_laws
use Rattle.numerals.proofs.NumberLaws as number-laws

-- the state after the bytes w then b is the step by b of the state after w
pub scanned_more : ScannedMore
unfolding run
scanned_more S step s [] b = refl
scanned_more S step s (c ∷ w) b = scanned_more S step (step s c) w b

-- the state after the bytes w then u is the state after u from the state after w
pub scanned_on : ScannedOn
unfolding run
scanned_on S step s [] u = refl
scanned_on S step s (c ∷ w) u = scanned_on S step (step s c) w u

pub int_exact : IntExact
int_exact = int_laws.int_exact

pub number_exact : NumberExact
number_exact = number-laws.number_exact

-- with an exponent the value is the exact decimal: f and g are the digits before and behind the point, e what the exponent's digits write
pub power_exact : (f g x : Bytes) (m : ℕ) → written f g ≡ true → power_written x ≡ true → (out f g x ≡ number m) ↔ number-laws.Powered f g x m
power_exact = number-laws.power_exact

-- an accepted number is 1 to 9,999,999,999,999 millionths
pub number_range : NumberRange
number_range = number-laws.number_range

-- P9 and P10 hold of the definitions
pub bench_holds : Bench bench
unfolding int_of signed sized trim drop_back drop_front keep_before blank non_empty all digit value_from number_of parted unsigned decimal written short above millionths before behind
bench_holds = (refl, (refl, (refl, (refl, (refl, (refl, (refl, (refl, tt))))))))
