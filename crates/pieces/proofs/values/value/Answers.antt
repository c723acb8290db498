-- The invariant: the value goes on at `i` after the items read so far.
use native.Mathlib.Omega.{arith}
use Rattle.scan.proofs.Chain.{exits, known}
use Rattle.pieces.proofs.ValueLaws.{value_start, value-end, value-ran, value-stop, value-fail, value-next}
use Rattle.pieces.proofs.values.value.Goals as goal

pub loop-i-init : goal.loop-i-init
loop-i-init c = value_start _ c.requires.0 _ _

pub passed-j-requires : goal.passed-j-requires
passed-j-requires c = (c.requires.0, c.loop-i-test.true)

pub returns-then-s-j : goal.returns-then-s-j
returns-then-s-j c = value-end _ c.requires.0 _ _ _ (value-ran _ c.requires.0 _ _ _ c.loop-i.invariant _ c.passed-j.ensures) c.if-s-j.true

pub returns-then-s-j-2 : goal.returns-then-s-j-2
returns-then-s-j-2 c = value-stop _ c.requires.0 _ _ _ (value-ran _ c.requires.0 _ _ _ c.loop-i.invariant _ c.passed-j.ensures) c.if-s-j.false c.if-s-j-2.true

pub returns-in_err-i : goal.returns-in_err-i
returns-in_err-i c = rw (exits c.from_residual.ensures.1) (value-fail _ c.requires.0 _ _ _ (value-ran _ c.requires.0 _ _ _ c.loop-i.invariant _ c.passed-j.ensures) c.if-s-j.false c.if-s-j-2.false c.in_err-i.ensures)

pub loop-i-smaller : goal.loop-i-smaller
loop-i-smaller c = let g = known c.in_ok-i.was c.behind.ensures in let y = g.says.1 in let z = g.says.2 in omega arith

pub loop-i-preserved : goal.loop-i-preserved
loop-i-preserved c = value-next _ c.requires.0 _ _ _ (value-ran _ c.requires.0 _ _ _ c.loop-i.invariant _ c.passed-j.ensures) c.if-s-j.false c.if-s-j-2.false (known c.in_ok-i.was c.behind.ensures)

pub returns : goal.returns
returns c = value-end _ c.requires.0 _ _ _ c.loop-i.invariant c.loop-i-test.false
