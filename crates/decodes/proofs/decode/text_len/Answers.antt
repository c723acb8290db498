-- The invariant: so many bytes were read up to here.
use native.Mathlib.Omega.{arith}
use Rattle.decodes.proofs.DecodeLaws.{taken, counted_none, counted_more, counted_room, counted_end, counted_fail}
use Rattle.decodes.proofs.decode.text_len.Goals as goal

pub loop-i-init : goal.loop-i-init
loop-i-init c = counted_none _

pub returns-in_err-c : goal.returns-in_err-c
returns-in_err-c c = rw c.from_residual.ensures (counted_fail c.loop-i.invariant c.in_err-c.ensures)

pub overflow_add-n : goal.overflow_add-n
overflow_add-n c = let z = counted_room c.loop-i.invariant (taken c.in_ok-c.was c.unit.ensures) c.utf8_len-n.ensures in omega arith

pub loop-i-smaller : goal.loop-i-smaller
loop-i-smaller c = let t = taken c.in_ok-c.was c.unit.ensures in let a = t.from in let b = t.upto in omega arith

pub loop-i-preserved : goal.loop-i-preserved
loop-i-preserved c = counted_more c.loop-i.invariant (taken c.in_ok-c.was c.unit.ensures) c.utf8_len-n.ensures

pub returns : goal.returns
returns c = counted_end c.loop-i.invariant c.loop-i-test.false
