use native.Mathlib.Omega.{arith}
use Rattle.scan.proofs.Chain.{exits, known, rest_none, rest_fails, rest_more, rest_done}
use Rattle.scan.proofs.literal.Goals as goal

pub loop-b-init : goal.loop-b-init
loop-b-init c = (omega arith, omega arith, rest_none _ _ _)

pub returns-in_err-i : goal.returns-in_err-i
returns-in_err-i c = rw (exits c.from_residual.ensures.1) (rest_fails _ _ _ _ _ c.loop-b-test.true c.loop-b.invariant.2 (omega arith) c.in_err-i.ensures)

pub loop-b-preserved : goal.loop-b-preserved
loop-b-preserved c =
    let g = known c.in_ok-i.was c.byte.ensures in
    let a = g.says.1 in
    (omega arith, g.says.2, rest_more _ _ _ _ _ c.loop-b-test.true c.loop-b.invariant.2 g)

pub returns : goal.returns
returns c = record { says = (0, omega arith, omega arith, rest_done _ _ _ _ _ c.loop-b-test.false c.loop-b.invariant.2) }
