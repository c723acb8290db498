-- The bytes that are taken are those of the name.
use native.Mathlib.Omega.{arith}
use Rattle.tags.proofs.MarkLaws.{mark_is}
use Rattle.tags.proofs.attributes.mark.Goals as goal

-- The bytes that are taken are those of the name.
pub overflow_mul-result : goal.overflow_mul-result
overflow_mul-result c = omega (arith, c.worth-last.ensures.1)

pub overflow_add-result : goal.overflow_add-result
overflow_add-result c = omega (arith, c.worth-last.ensures.1)

pub overflow_mul-result-2 : goal.overflow_mul-result-2
overflow_mul-result-2 c = omega (arith, c.worth-mid.ensures.1)

pub overflow_add-result-2 : goal.overflow_add-result-2
overflow_add-result-2 c = omega (arith, c.worth-last.ensures.1, c.worth-mid.ensures.1)

pub overflow_mul-result-3 : goal.overflow_mul-result-3
overflow_mul-result-3 c = omega (arith, c.worth-other.ensures.1)

pub overflow_add-result-3 : goal.overflow_add-result-3
overflow_add-result-3 c = omega (arith, c.worth-last.ensures.1, c.worth-mid.ensures.1, c.worth-other.ensures.1)

pub returns : goal.returns
returns c = (omega arith, rw (c.worth-last.ensures.0, c.worth-mid.ensures.0, c.worth-other.ensures.0, c.last_but_one.ensures) (mark_is _ _ _ c.requires.0 c.requires.1))
