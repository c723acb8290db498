-- Each answer in the order that document 01 gives.
use Rattle.std.proofs.Common.{refl, arith}
use Rattle.std.proofs.lemmas.Result.{err_from_is_err_and}
use Rattle.writes.proofs.StepLaws.{not_zero}
use Rattle.writes.proofs.MessageLaws.{of_entry, small, countable, is_refused, no_entry, no_room_case, is_written}
use Rattle.writes.proofs.messages.put_cells.Goals.{then-out-lt-LARGEST+else-out-n, else-out-lt-LARGEST}
use Rattle.writes.proofs.messages.put_cells.Goals as goal

-- Each answer in the order that document 01 gives.
pub returns-in_default : goal.returns-in_default
returns-in_default c = no_entry c.args.kind c.args.values.now.cells.now c.args.values.now.id.now c.args.values.now.texts.now c.args.out.now c.in_default.ensures

pub returns-in_err-rows_allow : goal.returns-in_err-rows_allow
returns-in_err-rows_allow c = let p = err_from_is_err_and c.from_residual.result c.from_residual.ensures.1 in rw (p.1, p.2) (is_refused c.args.kind c.args.values.now.cells.now c.args.values.now.id.now c.args.values.now.texts.now c.args.out.now (of_entry c.args.kind c.args.values.now.cells.now c.args.values.now.id.now c.args.values.now.texts.now c.in-Some.ensures c.in_err-rows_allow.ensures) (not_zero _))

pub put_message-n-requires : goal.put_message-n-requires
put_message-n-requires c = (c.in-Some.ensures, countable c.args.kind c.args.values.now.cells.now c.args.values.now.id.now c.args.values.now.texts.now (of_entry c.args.kind c.args.values.now.cells.now c.args.values.now.id.now c.args.values.now.texts.now c.in-Some.ensures c.in_ok-rows_allow.ensures) refl c.in-Some.ensures.kind)

pub returns-then-out-n : goal.returns-then-out-n
returns-then-out-n c = no_room_case c.args.kind c.args.values.now.cells.now c.args.values.now.id.now c.args.values.now.texts.now c.args.out.now (of_entry c.args.kind c.args.values.now.cells.now c.args.values.now.id.now c.args.values.now.texts.now c.in-Some.ensures c.in_ok-rows_allow.ensures) refl c.in-Some.ensures.kind c.put_message-n.ensures.next c.if-out-n.true

pub put_message-requires : goal.put_message-requires
put_message-requires c = (c.in-Some.ensures, countable c.args.kind c.args.values.now.cells.now c.args.values.now.id.now c.args.values.now.texts.now (of_entry c.args.kind c.args.values.now.cells.now c.args.values.now.id.now c.args.values.now.texts.now c.in-Some.ensures c.in_ok-rows_allow.ensures) refl c.in-Some.ensures.kind)

pub returns : goal.returns
returns c = is_written c.args.kind c.args.values.now.cells.now c.args.values.now.id.now c.args.values.now.texts.now c.args.out.now (of_entry c.args.kind c.args.values.now.cells.now c.args.values.now.id.now c.args.values.now.texts.now c.in-Some.ensures c.in_ok-rows_allow.ensures) refl c.in-Some.ensures.kind (elim c.if-out-lt-LARGEST.branch [ then-out-lt-LARGEST+else-out-n w ↦ omega (arith, w.put_message-n.ensures.next, w.if-out-n.false) | else-out-lt-LARGEST w ↦ (let x = small c.args.kind c.args.values.now.cells.now c.args.values.now.id.now c.args.values.now.texts.now (of_entry c.args.kind c.args.values.now.cells.now c.args.values.now.id.now c.args.values.now.texts.now c.in-Some.ensures c.in_ok-rows_allow.ensures) refl c.in-Some.ensures.kind in omega (arith, w.if-out-lt-LARGEST.false)) ]) c.put_message.ensures
