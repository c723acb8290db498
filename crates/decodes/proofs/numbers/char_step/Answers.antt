-- The loop keeps the state after the bytes passed.
use mathlib.Core.Path.{refl, ◌∙◌}
use Rattle.numerals.proofs.CodeLaws.{passed_none, passed_more, passed_all}
use Rattle.decodes.proofs.NumberLaws.{first_run}
use Rattle.decodes.proofs.numbers.char_step.Goals as goal

pub loop-b-init : goal.loop-b-init
loop-b-init c = passed_none _ _ refl

pub loop-b-preserved : goal.loop-b-preserved
loop-b-preserved c = passed_more _ _ c.loop-b.invariant c.loop-b-test.true refl c.step-s.ensures

pub returns : goal.returns
returns c = passed_all _ _ c.loop-b.invariant c.loop-b-test.false ∙ first_run _ _ _ c.utf8_len.ensures c.utf8_bytes-bytes.ensures.bytes
