-- The invariant: the state after what was read up to here.
use native.Mathlib.Omega.{arith}
use Rattle.decodes.proofs.DecodeLaws.{taken}
use Rattle.decodes.proofs.NumberLaws.{scanned_none, scanned_next, scanned_end, scanned_fail}
use Rattle.decodes.proofs.numbers.walked.Goals as goal

pub loop-i-init : goal.loop-i-init
loop-i-init c = scanned_none _ c.start-s.ensures

pub returns-in_err-c : goal.returns-in_err-c
returns-in_err-c c = rw c.from_residual.ensures (scanned_fail c.loop-i.invariant c.in_err-c.ensures)

pub char_step-s-requires : goal.char_step-s-requires
char_step-s-requires c = (taken c.in_ok-c.was c.unit.ensures).code_point_holds

pub loop-i-smaller : goal.loop-i-smaller
loop-i-smaller c = let t = taken c.in_ok-c.was c.unit.ensures in let a = t.from in let b = t.upto in omega arith

pub loop-i-preserved : goal.loop-i-preserved
loop-i-preserved c = scanned_next c.loop-i.invariant (taken c.in_ok-c.was c.unit.ensures) c.char_step-s.ensures

pub returns : goal.returns
returns c = scanned_end c.loop-i.invariant c.loop-i-test.false
