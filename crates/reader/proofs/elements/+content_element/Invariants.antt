-- `content` and `element` meet their contracts: the bytes left fall at each call, since `<` and a tag are read before it.
-- The invariant of content's loop: the content at `at` goes on at i as its model does.
use Rattle.std.proofs.Common.{◌-◌, length}
use Rattle.reader.proofs.elements.Laws.{Rest}
use Rattle.reader.proofs.elements.+content_element.Given as goal

abbrev pub decreases-content : goal.decreases-content
decreases-content l = length l.s.now - l.at

abbrev pub decreases-element : goal.decreases-element
decreases-element l = length l.s.now - l.at

abbrev pub invariant-content-loop-j : goal.invariant-content-loop-j
invariant-content-loop-j l = Rest l.left l.name l.s l.at l.i

abbrev pub decreases-content-loop-j : goal.decreases-content-loop-j
decreases-content-loop-j l = length l.s - l.i
