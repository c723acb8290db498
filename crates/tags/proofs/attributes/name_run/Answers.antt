-- The invariant: the bytes up to `i` begin a name that is not full.
use mathlib.Core.Path.{sym, ◌∙◌}
use native.Mathlib.Omega.{arith}
use Rattle.tags.proofs.NameLaws.{part_more, run_end, run_stop}
use Rattle.tags.proofs.attributes.name_run.Goals as goal

pub letter_eights-i-requires : goal.letter_eights-i-requires
letter_eights-i-requires c = (omega arith, c.requires.1, omega arith, omega arith, c.name_stop-stop.ensures.3)

pub loop-i-init : goal.loop-i-init
loop-i-init c = c.letter_eights-i.ensures.0

pub returns-then-not-is_in_name : goal.returns-then-not-is_in_name
returns-then-not-is_in_name c = run_stop _ _ _ c.loop-i.invariant (sym c.is_in_name.ensures ∙ c.if-not-is_in_name.true)

pub loop-i-preserved : goal.loop-i-preserved
loop-i-preserved c = part_more _ _ _ c.loop-i.invariant (omega arith) (omega arith) (sym c.is_in_name.ensures ∙ c.if-not-is_in_name.false)

pub returns : goal.returns
returns c = run_end _ _ _ _ c.loop-i.invariant c.loop-i-test.false c.name_stop-stop.ensures.2
