-- The invariant: the comment goes on at `i` after the marks read so far.
use native.Mathlib.Omega.{arith}
use Rattle.scan.proofs.Chain.{exits}
use Rattle.pieces.proofs.Answers.{known}
use Rattle.fillers.proofs.CommentLaws.{marks_start, marks_end, marks_ran, marks-cut, marks-shut, marks-fail, marks-next, past_from}
use Rattle.fillers.proofs.comments.marks.Goals as goal

pub loop-i-init : goal.loop-i-init
loop-i-init c = marks_start _ _

pub returns-then-s-j : goal.returns-then-s-j
returns-then-s-j c = marks_end _ _ _ (marks_ran _ _ _ c.loop-i.invariant _ c.run-j.ensures) c.if-s-j.true

pub past_dash-k-requires : goal.past_dash-k-requires
past_dash-k-requires c = c.if-s-j.false

pub returns-then-s-k : goal.returns-then-s-k
returns-then-s-k c = marks-cut _ _ _ (marks_ran _ _ _ c.loop-i.invariant _ c.run-j.ensures) c.if-s-j.false _ c.past_dash-k.ensures c.if-s-k.true

pub returns-then-s-k-eq45 : goal.returns-then-s-k-eq45
returns-then-s-k-eq45 c = marks-shut _ _ _ (marks_ran _ _ _ c.loop-i.invariant _ c.run-j.ensures) c.if-s-j.false _ c.past_dash-k.ensures c.if-s-k.false c.if-s-k-eq45.true c.byte.ensures

pub returns-in_err-c : goal.returns-in_err-c
returns-in_err-c c = rw (exits c.from_residual.ensures.1) (marks-fail _ _ _ (marks_ran _ _ _ c.loop-i.invariant _ c.run-j.ensures) c.if-s-j.false _ c.past_dash-k.ensures c.if-s-k.false c.if-s-k-eq45.false c.in_err-c.ensures)

pub loop-i-smaller : goal.loop-i-smaller
loop-i-smaller c = let g = known c.in_ok-c.was c.character.ensures in let y = g.far in let x = past_from c.past_dash-k.ensures in omega arith

pub loop-i-preserved : goal.loop-i-preserved
loop-i-preserved c = marks-next _ _ _ (marks_ran _ _ _ c.loop-i.invariant _ c.run-j.ensures) c.if-s-j.false _ c.past_dash-k.ensures c.if-s-k.false c.if-s-k-eq45.false (known c.in_ok-c.was c.character.ensures)

pub returns : goal.returns
returns c = marks_end _ _ _ c.loop-i.invariant c.loop-i-test.false
