use Rattle.std.proofs.Common.{arith}
use Rattle.scan.proofs.Chain.{exits, known}
use Rattle.reader.proofs.elements.Laws.{known_filler, known_start, element_fails, element_empty, element_full, rest_start, content_fails, content_open, content-ends, content-deep, content-child-fails, content-next}
use Rattle.reader.proofs.elements.+content_element.Goals as goal

pub content-loop-j-init : goal.content-loop-j-init
content-loop-j-init t c = rest_start _ _ _ _ c.requires

pub content-filler_lt-requires : goal.content-filler_lt-requires
content-filler_lt-requires t c = c.loop-j.invariant.upto

pub content-returns-in_err-j : goal.content-returns-in_err-j
content-returns-in_err-j t c = rw (exits c.from_residual.ensures.1) (content_fails _ _ _ _ _ c.loop-j.invariant c.in_err-j.ensures)

pub content-returns-then-s-j : goal.content-returns-then-s-j
content-returns-then-s-j t c = content_open _ _ _ _ _ c.loop-j.invariant _ (known_filler c.in_ok-j.was c.filler_lt.ensures) c.if-s-j.true

pub content-returns-then-s-j-eq47 : goal.content-returns-then-s-j-eq47
content-returns-then-s-j-eq47 t c = content-ends _ _ _ _ _ c.loop-j.invariant _ (known_filler c.in_ok-j.was c.filler_lt.ensures) c.if-s-j.false c.if-s-j-eq47.true c.end_tag.ensures

pub content-returns-then-left-eq0 : goal.content-returns-then-left-eq0
content-returns-then-left-eq0 t c = content-deep _ _ _ _ _ c.loop-j.invariant _ (known_filler c.in_ok-j.was c.filler_lt.ensures) c.if-s-j.false c.if-s-j-eq47.false c.if-left-eq0.true

pub content-element-requires : goal.content-element-requires
content-element-requires t c = let g = known_filler c.in_ok-j.was c.filler_lt.ensures in let f = c.loop-j.invariant.from in (omega arith, omega arith)

pub content-returns-in_err-i : goal.content-returns-in_err-i
content-returns-in_err-i t c = rw (exits c.from_residual-in_err-i.ensures.1) (content-child-fails _ _ _ _ _ c.loop-j.invariant _ (known_filler c.in_ok-j.was c.filler_lt.ensures) c.if-s-j.false c.if-s-j-eq47.false c.if-left-eq0.false c.in_err-i.ensures)

pub content-loop-j-smaller : goal.content-loop-j-smaller
content-loop-j-smaller t c = let g = known_filler c.in_ok-j.was c.filler_lt.ensures in let k = known c.in_ok-i.was c.element.ensures in omega arith

pub content-loop-j-preserved : goal.content-loop-j-preserved
content-loop-j-preserved t c = content-next _ _ _ _ _ c.loop-j.invariant _ (known_filler c.in_ok-j.was c.filler_lt.ensures) c.if-s-j.false c.if-s-j-eq47.false c.if-left-eq0.false (known c.in_ok-i.was c.element.ensures)

pub element-returns-in_err-t : goal.element-returns-in_err-t
element-returns-in_err-t t c = rw (exits c.from_residual.ensures.1) (element_fails _ _ _ _ _ c.in_err-t.ensures)

pub element-returns-then-t : goal.element-returns-then-t
element-returns-then-t t c = element_empty _ _ _ _ _ _ (known_start c.in_ok-t.was c.start_tag.ensures) c.if-t.true

pub element-content-requires : goal.element-content-requires
element-content-requires t c = let g = known_start c.in_ok-t.was c.start_tag.ensures in (omega arith, omega arith)

pub element-returns : goal.element-returns
element-returns t c = element_full _ _ _ _ _ _ (known_start c.in_ok-t.was c.start_tag.ensures) c.if-t.false c.content.ensures
