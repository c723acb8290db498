-- The invariant: the rows before i do not refuse.
use Rattle.std.proofs.Common.{sym, ◌∙◌}
use Rattle.std.proofs.lemmas.Result.{err_from_is_err_and}
use Rattle.writes.proofs.StepLaws.{refusal_step, no_refusal, refusal_decides}
use Rattle.writes.proofs.refusing.rows_allow.Goals as goal

pub returns-in_err-row_allows : goal.returns-in_err-row_allows
returns-in_err-row_allows c = let p = err_from_is_err_and c.from_residual.result c.from_residual.ensures.1 in rw (p.1, p.2) (sym (c.loop-i.invariant ∙ refusal_step c.args.rows.now c.loop-i.i c.args.values.now.cells.now _ c.loop-i-test.true c.cell_of.ensures c.args.values.now.id.now c.args.values.now.texts.now c.in_err-row_allows.ensures ∙ refusal_decides _ _))

pub loop-i-preserved : goal.loop-i-preserved
loop-i-preserved c = c.loop-i.invariant ∙ refusal_step c.args.rows.now c.loop-i.i c.args.values.now.cells.now _ c.loop-i-test.true c.cell_of.ensures c.args.values.now.id.now c.args.values.now.texts.now c.in_ok-row_allows.ensures

pub returns : goal.returns
returns c = sym (c.loop-i.invariant ∙ no_refusal c.args.rows.now c.loop-i.i c.args.values.now.cells.now c.loop-i-test.false c.args.values.now.id.now c.args.values.now.texts.now)
