-- The invariant: the window lies in its buffer, and what waits in its own.
use mathlib.Core.Path.{refl}
use native.Mathlib.Omega.{arith}
use lib.ListN.{length}
use Rattle.windows.proofs.LineLaws.{left_room}
use Rattle.why.proofs.ReasonLaws.{stepped_held, stepped_inside, opened_held}
use Rattle.why.proofs.explain.Goals as goal

pub loop-turns-init : goal.loop-turns-init
loop-turns-init g c = (refl, refl, opened_held _ c.opened-w.ensures, omega arith)

pub made_room-room-requires : goal.made_room-room-requires
made_room-room-requires g c = record { at_in_bounds = c.loop-turns.invariant.3; in_bounds = omega arith }

pub topped_up-w-requires : goal.topped_up-w-requires
topped_up-w-requires g c = record { held = c.loop-turns.invariant.2; in_bounds = omega arith }

pub step-s-requires : goal.step-s-requires
step-s-requires g c = record { held = c.topped_up-w.ensures.held; waiting_in_bounds = left_room c.loop-turns.w.dry (length c.loop-turns.out) c.loop-turns.waiting c.made_room-room.ensures (omega arith) }

pub ended-requires : goal.ended-requires
ended-requires g c = stepped_inside c.step-s.ensures

pub overflow_sub-turns : goal.overflow_sub-turns
overflow_sub-turns g c = omega (arith, c.loop-turns-test.true)

pub loop-turns-smaller : goal.loop-turns-smaller
loop-turns-smaller g c = omega (arith, c.loop-turns-test.true)

pub loop-turns-preserved : goal.loop-turns-preserved
loop-turns-preserved g c = (omega (arith, c.buf-1.given, c.loop-turns.invariant.0), omega (arith, c.out-1.given, c.loop-turns.invariant.1), stepped_held c.step-s.ensures, stepped_inside c.step-s.ensures)
