-- The invariant: the bytes up to `i` begin a name that is not full.
use native.Mathlib.Omega.{arith}
use Rattle.tags.proofs.NameLaws.{part_first, part_many}
use Rattle.tags.proofs.attributes.letter_eights.Goals as goal

pub loop-i-init : goal.loop-i-init
loop-i-init c = (part_first _ _ c.requires.0 c.requires.1, c.requires.4)

pub returns-then-not-eight_letters : goal.returns-then-not-eight_letters
returns-then-not-eight_letters c = c.loop-i.invariant

pub loop-i-preserved : goal.loop-i-preserved
loop-i-preserved c = (part_many _ _ 8 _ c.loop-i.invariant.0 (omega arith) (omega arith) (c.eight_letters.ensures c.if-not-eight_letters.false), omega arith)

pub returns : goal.returns
returns c = c.loop-i.invariant
