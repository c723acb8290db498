-- The invariant: what was read up to here stands first, if there is room for it.
use mathlib.Core.Path.{ap}
use Prim.Native.Nat.{ℕ, ◌+◌}
use native.Mathlib.Omega.{arith}
use Rattle.decodes.proofs.DecodeLaws.{taken, counted_room, filled_none, filled_more, filled_end, filled_fail}
use Rattle.decodes.proofs.decode.decode.Goals as goal

pub loop-i-init : goal.loop-i-init
loop-i-init c = filled_none _ _

pub returns-in_err-c : goal.returns-in_err-c
returns-in_err-c c = rw c.from_residual.ensures (filled_fail c.loop-i.invariant c.in_err-c.ensures)

pub overflow_add-next : goal.overflow_add-next
overflow_add-next c = let z = counted_room c.loop-i.invariant.counted (taken c.in_ok-c.was c.unit.ensures) c.utf8_len.ensures in omega arith

pub put_utf8-n-requires : goal.put_utf8-n-requires
put_utf8-n-requires c = ((taken c.in_ok-c.was c.unit.ensures).code_point_holds, ap (λ (m : ℕ). c.loop-i.n + m) c.utf8_len.ensures)

pub loop-i-smaller : goal.loop-i-smaller
loop-i-smaller c = let t = (taken c.in_ok-c.was c.unit.ensures) in let a = t.from in let b = t.upto in omega arith

pub loop-i-preserved : goal.loop-i-preserved
loop-i-preserved c = filled_more c.loop-i.invariant (taken c.in_ok-c.was c.unit.ensures) c.put_utf8-n.ensures

pub returns : goal.returns
returns c = filled_end c.loop-i.invariant c.loop-i-test.false
