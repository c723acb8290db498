-- The invariant: the text goes on at `i`, behind `n` brackets in a row.
use native.Mathlib.Omega.{arith}
use Rattle.scan.proofs.Chain.{exits}
use Rattle.pieces.proofs.Answers.{known}
use Rattle.fillers.proofs.TextLaws.{text_start, text_end, text_cleared, text-stop, text-fail, text-next}
use Rattle.fillers.proofs.texts.text.Goals as goal

pub loop-i-init : goal.loop-i-init
loop-i-init c = text_start _ _ c.requires

pub returns-then-s-j : goal.returns-then-s-j
returns-then-s-j c = text_end _ _ _ _ (text_cleared _ _ _ _ c.loop-i.invariant _ c.clear-j.ensures) c.if-s-j.true

pub returns-then-s-j-eq60 : goal.returns-then-s-j-eq60
returns-then-s-j-eq60 c = text-stop _ _ _ _ (text_cleared _ _ _ _ c.loop-i.invariant _ c.clear-j.ensures) c.if-s-j.false c.if-s-j-eq60.true

pub returns-in_err-c : goal.returns-in_err-c
returns-in_err-c c = rw (exits c.from_residual.ensures.1) (text-fail _ _ _ _ (text_cleared _ _ _ _ c.loop-i.invariant _ c.clear-j.ensures) c.if-s-j.false c.if-s-j-eq60.false c.stop.ensures c.in_err-c.ensures)

pub row-n-requires : goal.row-n-requires
row-n-requires c = let w = text_cleared _ _ _ _ c.loop-i.invariant _ c.clear-j.ensures in let f = w.few in let u = w.upto in (c.if-s-j.false, omega arith)

pub loop-i-smaller : goal.loop-i-smaller
loop-i-smaller c = let g = known c.in_ok-c.was c.item.ensures in let y = g.far in omega arith

pub loop-i-preserved : goal.loop-i-preserved
loop-i-preserved c = text-next _ _ _ _ (text_cleared _ _ _ _ c.loop-i.invariant _ c.clear-j.ensures) c.if-s-j.false c.if-s-j-eq60.false c.stop.ensures (known c.in_ok-c.was c.item.ensures) c.row-n.ensures

pub returns : goal.returns
returns c = text_end _ _ _ _ c.loop-i.invariant c.loop-i-test.false
