-- The invariant: v is a text if and only if what is left of it is one.
use native.Mathlib.Omega.{arith}
use Rattle.pieces.proofs.Answers.{known}
use Rattle.spells.proofs.TextLaws.{along_start, along_next, along_end, along_fail}
use Rattle.spells.proofs.characters.is_text.Goals as goal

pub loop-i-init : goal.loop-i-init
loop-i-init c = along_start _

pub returns-then-v-j : goal.returns-then-v-j
returns-then-v-j c = along_end (c.ascii_eights-j.ensures.along c.loop-i.invariant) c.if-v-j.true

pub returns-in_default : goal.returns-in_default
returns-in_default c = along_fail (c.ascii_eights-j.ensures.along c.loop-i.invariant) c.if-v-j.false c.in_default.not-Ok c.character.ensures

pub loop-i-smaller : goal.loop-i-smaller
loop-i-smaller c = let k = known c.in-Ok.is c.character.ensures in let a = k.far in let b = k.upto in omega (arith, c.ascii_eights-j.ensures.from)

pub loop-i-preserved : goal.loop-i-preserved
loop-i-preserved c = along_next (c.ascii_eights-j.ensures.along c.loop-i.invariant) c.if-v-j.false (known c.in-Ok.is c.character.ensures)

pub returns : goal.returns
returns c = along_end c.loop-i.invariant c.loop-i-test.false
