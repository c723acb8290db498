-- The invariant: the first i bytes of the text are written.
use native.Mathlib.Omega.{arith}
use Rattle.spelling.specs.Written.{escape}
use Rattle.printing.specs.Writes.{wrote_none}
use Rattle.spelling.proofs.EscapeLaws.{escape_fits}
use Rattle.spells.proofs.RunLaws.{run_fits, wrote_run, wrote_byte, wrote_whole}
use Rattle.spells.proofs.escapes.put_escaped.Goals as goal

pub loop-i-init : goal.loop-i-init
unfolding escape
loop-i-init c = (omega arith, wrote_none _ _)

pub slice_bounds-put-count : goal.slice_bounds-put-count
slice_bounds-put-count c = omega (arith, c.stay_run-j.ensures.from)

pub put-mid-requires : goal.put-mid-requires
put-mid-requires c = omega (arith, run_fits c.stay_run-j.ensures, c.loop-i.invariant.1.next, c.requires)

pub returns-then-text-j : goal.returns-then-text-j
returns-then-text-j c = wrote_whole c.args.text.now _ (wrote_run c.args.text.now c.loop-i.invariant.1 c.stay_run-j.ensures c.put-mid.ensures) c.if-text-j.true

pub put_reference-next-requires : goal.put_reference-next-requires
put_reference-next-requires c = let w = wrote_run c.args.text.now c.loop-i.invariant.1 c.stay_run-j.ensures c.put-mid.ensures in omega (arith, escape_fits c.args.text.now _ c.if-text-j.false, w.next, c.requires)

pub loop-i-smaller : goal.loop-i-smaller
loop-i-smaller c = omega (arith, c.stay_run-j.ensures.from)

pub loop-i-preserved : goal.loop-i-preserved
loop-i-preserved c = (omega arith, wrote_byte c.args.text.now _ (wrote_run c.args.text.now c.loop-i.invariant.1 c.stay_run-j.ensures c.put-mid.ensures) c.if-text-j.false c.put_reference-next.ensures)

pub returns : goal.returns
returns c = wrote_whole c.args.text.now _ c.loop-i.invariant.1 c.loop-i-test.false
