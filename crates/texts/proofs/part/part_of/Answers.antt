-- The bytes up to the end are as many as were asked.
use mathlib.Core.Path.{◌≡◌, refl}
use Prim.Native.Nat.{◌+◌, ◌-◌}
use native.Mathlib.Omega.{arith}
use Rattle.texts.proofs.part.part_of.Goals as goal

-- The bytes up to the end are as many as were asked.
pub returns : goal.returns
returns c = let same : (c.args.at + c.args.n) - c.args.at ≡ c.args.n = omega arith in record { block = refl; offset = omega arith; bytes = rw same }
