-- A fresh name, what opens the value, the value.
use native.Mathlib.Omega.{arith}
use Rattle.scan.proofs.Chain.{exits, known}
use Rattle.tags.proofs.AttributeLaws.{known_fresh, attribute_name_fails, attribute_opening_fails, attribute-value-fails, open_quote, attribute-read}
use Rattle.tags.proofs.attributes.attribute.Goals as goal

pub fresh-requires : goal.fresh-requires
fresh-requires c = c.requires

pub returns-in_err-past : goal.returns-in_err-past
returns-in_err-past c = rw (exits c.from_residual.ensures.1) (attribute_name_fails _ _ _ _ _ c.in_err-past.ensures)

pub opened-requires : goal.opened-requires
opened-requires c = let z = ((known_fresh c.in_ok-past.was c.fresh.ensures).says c.requires).says.upto in omega arith

pub returns-in_err-from : goal.returns-in_err-from
returns-in_err-from c = rw (exits c.from_residual-in_err-from.ensures.1) (attribute_opening_fails _ _ _ _ _ _ (known_fresh c.in_ok-past.was c.fresh.ensures) c.in_err-from.ensures)

pub overflow_sub-from : goal.overflow_sub-from
overflow_sub-from c = let o = (c.opened.ensures.at_done _ c.in_ok-from.was).far in omega arith

pub bounds-s-from : goal.bounds-s-from
bounds-s-from c = let o = c.opened.ensures.at_done _ c.in_ok-from.was in omega (arith, o.far, o.upto)

pub value-requires : goal.value-requires
value-requires c = (open_quote (c.opened.ensures.at_done _ c.in_ok-from.was), (c.opened.ensures.at_done _ c.in_ok-from.was).upto)

pub returns-in_err-end : goal.returns-in_err-end
returns-in_err-end c = rw (exits c.from_residual-in_err-end.ensures.1) (attribute-value-fails _ _ _ _ _ _ (known_fresh c.in_ok-past.was c.fresh.ensures) _ (c.opened.ensures.at_done _ c.in_ok-from.was) c.in_err-end.ensures)

pub returns : goal.returns
returns c = attribute-read _ _ _ _ _ _ (known_fresh c.in_ok-past.was c.fresh.ensures) _ (c.opened.ensures.at_done _ c.in_ok-from.was) (known c.in_ok-end.was c.value.ensures)
