-- Each test that fails decides; where none does, the class of the byte does.
use Prim.Native.Nat.{◌≤◌, ◌<◌}
use native.Mathlib.Omega.{arith}
use borrow.Author.Tests.{le-leb, lt-leb}
use Rattle.tags.proofs.attributes.goes_on.Goals as goal

-- Each test that fails decides; where none does, the class of the byte does.
pub returns-then-glue-eq0 : goal.returns-then-glue-eq0
returns-then-glue-eq0 c = rw c.if-glue-eq0.true

pub returns-then-n-ge-ATTRIBUTES : goal.returns-then-n-ge-ATTRIBUTES
returns-then-n-ge-ATTRIBUTES c = let h : 1 ≤ c.args.glue = omega (arith, c.if-glue-eq0.false) in let k : 31 < c.args.n = omega arith in rw (le-leb 1 c.args.glue h, lt-leb c.args.n 31 k)

pub returns : goal.returns
returns c = let h : 1 ≤ c.args.glue = omega (arith, c.if-glue-eq0.false) in let k : c.args.n ≤ 31 = omega arith in rw (le-leb 1 c.args.glue h, le-leb c.args.n 31 k) c.is_name_start.ensures
