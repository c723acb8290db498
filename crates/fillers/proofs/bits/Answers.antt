-- The invariant: the filler goes on at `i` behind comments, with no `]` before it.
use native.Mathlib.Omega.{arith}
use Rattle.scan.proofs.Chain.{exits, known}
use Rattle.fillers.proofs.FillLaws.{known_gap, fill_start, fill_fails, fill-short, fill-tag, fill-comment-fails, fill-next}
use Rattle.fillers.proofs.bits.Goals as goal

pub loop-j-init : goal.loop-j-init
loop-j-init c = fill_start _ _ _ c.requires

pub gap-requires : goal.gap-requires
gap-requires c = c.loop-j.invariant.upto

pub returns-in_err-j : goal.returns-in_err-j
returns-in_err-j c = rw (exits c.from_residual.ensures.1) (fill_fails _ _ _ _ c.loop-j.invariant c.in_err-j.ensures)

pub overflow_sub-s : goal.overflow_sub-s
overflow_sub-s c = let g = known_gap c.in_ok-j.was c.gap.ensures in let h = g.says.1 in omega arith

pub returns-then-s-j-lt2 : goal.returns-then-s-j-lt2
returns-then-s-j-lt2 c = fill-short _ _ _ _ c.loop-j.invariant _ (known_gap c.in_ok-j.was c.gap.ensures) c.if-s-j-lt2.true

pub overflow_add-j : goal.overflow_add-j
overflow_add-j c = let g = known_gap c.in_ok-j.was c.gap.ensures in let h = g.says.1 in omega arith

pub returns-then-s-j-ne33 : goal.returns-then-s-j-ne33
returns-then-s-j-ne33 c = fill-tag _ _ _ _ c.loop-j.invariant _ (known_gap c.in_ok-j.was c.gap.ensures) (omega arith) c.if-s-j-ne33.true

pub returns-in_err-i : goal.returns-in_err-i
returns-in_err-i c = rw (exits c.from_residual-in_err-i.ensures.1) (fill-comment-fails _ _ _ _ c.loop-j.invariant _ (known_gap c.in_ok-j.was c.gap.ensures) (omega arith) c.if-s-j-ne33.false c.in_err-i.ensures)

pub loop-j-smaller : goal.loop-j-smaller
loop-j-smaller c = let g = known_gap c.in_ok-j.was c.gap.ensures in let a = g.says.0 in let k = known c.in_ok-i.was c.comment.ensures in let b = k.says.1 in let d = k.says.2 in omega arith

pub loop-j-preserved : goal.loop-j-preserved
loop-j-preserved c = fill-next _ _ _ _ c.loop-j.invariant _ (known_gap c.in_ok-j.was c.gap.ensures) (omega arith) c.if-s-j-ne33.false (known c.in_ok-i.was c.comment.ensures)
