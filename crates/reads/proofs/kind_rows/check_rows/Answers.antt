-- The invariant: what is tried with what is left says what all rows say.
use mathlib.Core.Path.{ap, ◌∙◌}
use native.Mathlib.Omega.{arith}
use Rattle.refusals.specs.Numbers.{told}
use Rattle.reads.proofs.TableLaws.{only_features}
use Rattle.reads.proofs.LoopLaws.{told_and, loop_starts, loop_goes_on, loop_ends}
use Rattle.reads.proofs.kind_rows.check_rows.Goals.{then-tried-ne0, else-tried-ne0}
use Rattle.reads.proofs.kind_rows.check_rows.Goals as goal

pub loop-i-init : goal.loop-i-init
loop-i-init c = (loop_starts _ _ _ _ c.args.sort.features c.rows_of-rows.result.now c.args.cells.now, omega arith)

pub loop-i-preserved : goal.loop-i-preserved
loop-i-preserved c =
    let v = c.rows_of-rows.ensures.few in
    let u = c.loop-i.invariant.0.long in (
      loop_goes_on _ _ _ _ _ c.rows_of-rows.result.now _ _ c.loop-i.invariant.0 c.loop-i-test.true c.try_row-tried.ensures c.put.ensures (omega arith) (ap told c.and-answer.ensures ∙ told_and c.loop-i.answer c.try_row-tried.result.answer),
      elim c.if-tried-ne0.branch [
        | then-tried-ne0 w ↦ let e = w.guess-is in let g = c.loop-i.invariant.1 in omega arith
        | else-tried-ne0 w ↦ let e = w.guess-is in let g = c.loop-i.invariant.1 in omega arith
      ],
    )

pub returns : goal.returns
returns c = loop_ends _ _ _ _ _ c.rows_of-rows.result.now _ c.args.sort c.rows_of-rows.ensures.all (only_features c.args.sort c.rows_of-rows.ensures) c.loop-i.invariant.0 c.loop-i-test.false
