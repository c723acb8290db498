use mathlib.Core.Path.{sym, ◌∙◌}
use native.Mathlib.Omega.{arith}
use Rattle.scan.proofs.Walk.{glue_start, glue_next}
use Rattle.scan.proofs.skip_glue.Goals as goal

pub loop-i-init : goal.loop-i-init
loop-i-init c = glue_start _ _ c.requires

pub loop-i-preserved : goal.loop-i-preserved
loop-i-preserved c = glue_next _ _ _ c.loop-i.invariant c.loop-i-test.true (sym c.is_glue.ensures ∙ c.if-is_glue.true)

pub returns-else-is_glue : goal.returns-else-is_glue
returns-else-is_glue c = record { walked = c.loop-i.invariant; ends = λ h. sym c.is_glue.ensures ∙ c.if-is_glue.false }

pub returns : goal.returns
returns c = record { walked = c.loop-i.invariant; ends = λ h. absurd (let k = c.loop-i-test.false in omega arith) }
