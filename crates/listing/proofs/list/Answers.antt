-- The invariant: turns have led to where the loop is.
use mathlib.Core.Path.{◌≡◌, refl}
use Prim.Native.Nat.{ℕ, ◌-◌}
use native.Mathlib.Omega.{arith}
use lib.ListN.{length}
use borrow.Author.Rules.{rules}
use Rattle.windows.proofs.LineLaws.{left_room}
use Rattle.listing.proofs.ListLaws.{going_opened, going_on, going_ends, going_stops, going_out}
use Rattle.listing.proofs.list.Goals as goal

pub loop-turns-init : goal.loop-turns-init
loop-turns-init g c = (refl, refl, going_opened _ _ c.opened-w.ensures)

pub made_room-room-requires : goal.made_room-room-requires
made_room-room-requires g c = record { at_in_bounds = c.loop-turns.invariant.2.waits; in_bounds = omega arith }

pub returns-then-not-room : goal.returns-then-not-room
returns-then-not-room g c = record { ended = λ e. absurd (let z : ◌≡◌ {A = ℕ} 0 1 = cc in omega arith); stopped = λ e. absurd (let z : ◌≡◌ {A = ℕ} 0 1 = cc in omega arith); unended = λ e. absurd (let z : ◌≡◌ {A = ℕ} 0 1 = cc in omega arith) }

pub topped_up-w-requires : goal.topped_up-w-requires
topped_up-w-requires g c = record { held = c.loop-turns.invariant.2.held; in_bounds = omega arith }

pub returns-then-w : goal.returns-then-w
returns-then-w g c = record { ended = λ e. absurd (let z : ◌≡◌ {A = ℕ} 0 1 = cc in omega arith); stopped = λ _. going_stops c.loop-turns.invariant.2 c.topped_up-w.ensures c.if-w.true; unended = λ e. absurd (let z : ◌≡◌ {A = ℕ} 0 1 = cc in omega arith) }

pub turn-stand-requires : goal.turn-stand-requires
turn-stand-requires g c = record { held = c.topped_up-w.ensures.held; waiting_in_bounds = left_room c.loop-turns.w.dry (length c.loop-turns.out) c.loop-turns.waiting c.made_room-room.ensures (omega arith) }

pub ended-requires : goal.ended-requires
ended-requires g c = c.turn-stand.ensures.printed.inside

pub returns-then-stand : goal.returns-then-stand
returns-then-stand g c = record { ended = λ _. going_ends c.loop-turns.invariant.2 c.topped_up-w.ensures c.made_room-room.ensures c.turn-stand.ensures c.if-stand.true; stopped = λ e. absurd (c.ended.ensures.result_nonzero e); unended = λ e. absurd (c.ended.ensures.result_nonzero_2 e) }

pub loop-turns-preserved : goal.loop-turns-preserved
loop-turns-preserved g c = (search rules, search rules, going_on c.loop-turns.invariant.2 c.topped_up-w.ensures c.made_room-room.ensures c.turn-stand.ensures (c.loop-turns.turns - 1) (omega (arith, c.loop-turns-test.true)) c.if-stand.false)

pub returns : goal.returns
returns g c = record { ended = λ e. absurd (let z : ◌≡◌ {A = ℕ} 0 1 = cc in omega arith); stopped = λ e. absurd (let z : ◌≡◌ {A = ℕ} 0 1 = cc in omega arith); unended = λ _. going_out c.loop-turns.invariant.2 (omega (arith, c.loop-turns-test.false)) }
