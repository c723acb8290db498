-- Whether the slice reaches so far.
use native.Mathlib.Omega.{arith}
use Rattle.value.proofs.PartLaws.{part_out, part_in}
use Rattle.texts.proofs.part.part_or.Goals as goal

-- Whether the slice reaches so far.
pub returns-then-s-at : goal.returns-then-s-at
returns-then-s-at c = part_out _ _ _ _ _ _ (omega arith) c.part_of.ensures

pub returns-then-s-at-2 : goal.returns-then-s-at-2
returns-then-s-at-2 c = part_out _ _ _ _ _ _ (omega arith) c.part_of-then-s-at-2.ensures

pub returns : goal.returns
returns c = part_in _ _ _ _ _ _ (omega arith) c.part_of-2.ensures
