-- The invariant: so many attributes are read, and a table that is lent has their places.
use mathlib.Core.Path.{refl, sym, ◌∙◌}
use native.Mathlib.Omega.{arith}
use Rattle.scan.proofs.Chain.{exits, known_tok}
use Rattle.tags.proofs.AttributeLaws.{known_attribute}
use Rattle.tags.proofs.HeadLaws.{head_start, head_glue_fails, head_ends, head-ready, head-attribute-fails, head-order, head-next}
use Rattle.tags.proofs.attributes.head.Goals as goal

pub loop-j-init : goal.loop-j-init
loop-j-init c = head_start _ _ _ _ _ c.requires refl

pub glue-requires : goal.glue-requires
glue-requires c = c.loop-j.invariant.upto

pub returns-in_err-j : goal.returns-in_err-j
returns-in_err-j c = rw (exits c.from_residual.ensures.1) (head_glue_fails _ _ _ _ _ _ _ _ c.loop-j.invariant c.in_err-j.ensures)

pub bounds-s-j : goal.bounds-s-j
bounds-s-j c = (known_tok c.in_ok-j.was c.glue.ensures).says.1

pub overflow_sub-j : goal.overflow_sub-j
overflow_sub-j c = let g = (known_tok c.in_ok-j.was c.glue.ensures).says.0 in omega arith

pub tag_end-requires : goal.tag_end-requires
tag_end-requires c = (known_tok c.in_ok-j.was c.glue.ensures).says.1

pub returns-then-not-goes_on : goal.returns-then-not-goes_on
returns-then-not-goes_on c = head_ends _ _ _ _ _ _ _ _ c.loop-j.invariant _ (known_tok c.in_ok-j.was c.glue.ensures) (sym c.goes_on.ensures ∙ c.if-not-goes_on.true) _ c.tag_end.ensures

pub attribute-requires : goal.attribute-requires
attribute-requires c = head-ready _ _ _ _ _ _ _ _ c.loop-j.invariant _ (known_tok c.in_ok-j.was c.glue.ensures) (sym c.goes_on.ensures ∙ c.if-not-goes_on.false)

pub returns-in_err-g : goal.returns-in_err-g
returns-in_err-g c = rw (exits c.from_residual-in_err-g.ensures.1) (head-attribute-fails _ _ _ _ _ _ _ _ c.loop-j.invariant _ (known_tok c.in_ok-j.was c.glue.ensures) (sym c.goes_on.ensures ∙ c.if-not-goes_on.false) _ c.in_err-g.ensures)

pub overflow_sub-j-in-loop-j : goal.overflow_sub-j-in-loop-j
overflow_sub-j-in-loop-j c = let o = head-order _ _ _ _ _ _ _ _ c.loop-j.invariant _ (known_tok c.in_ok-j.was c.glue.ensures) (sym c.goes_on.ensures ∙ c.if-not-goes_on.false) _ _ (known_attribute c.in_ok-g.was c.attribute.ensures) in o.0

pub overflow_sub-g : goal.overflow_sub-g
overflow_sub-g c = let o = head-order _ _ _ _ _ _ _ _ c.loop-j.invariant _ (known_tok c.in_ok-j.was c.glue.ensures) (sym c.goes_on.ensures ∙ c.if-not-goes_on.false) _ _ (known_attribute c.in_ok-g.was c.attribute.ensures) in omega (arith, o.0, o.2)

pub overflow_sub-g-in-loop-j : goal.overflow_sub-g-in-loop-j
overflow_sub-g-in-loop-j c = let o = head-order _ _ _ _ _ _ _ _ c.loop-j.invariant _ (known_tok c.in_ok-j.was c.glue.ensures) (sym c.goes_on.ensures ∙ c.if-not-goes_on.false) _ _ (known_attribute c.in_ok-g.was c.attribute.ensures) in o.8

pub overflow_sub-g-in-loop-j-2 : goal.overflow_sub-g-in-loop-j-2
overflow_sub-g-in-loop-j-2 c = let o = head-order _ _ _ _ _ _ _ _ c.loop-j.invariant _ (known_tok c.in_ok-j.was c.glue.ensures) (sym c.goes_on.ensures ∙ c.if-not-goes_on.false) _ _ (known_attribute c.in_ok-g.was c.attribute.ensures) in omega (arith, o.5)

pub overflow_sub-g-in-loop-j-3 : goal.overflow_sub-g-in-loop-j-3
overflow_sub-g-in-loop-j-3 c = let o = head-order _ _ _ _ _ _ _ _ c.loop-j.invariant _ (known_tok c.in_ok-j.was c.glue.ensures) (sym c.goes_on.ensures ∙ c.if-not-goes_on.false) _ _ (known_attribute c.in_ok-g.was c.attribute.ensures) in omega (arith, o.0, o.1)

pub put-requires : goal.put-requires
put-requires c = let o = head-order _ _ _ _ _ _ _ _ c.loop-j.invariant _ (known_tok c.in_ok-j.was c.glue.ensures) (sym c.goes_on.ensures ∙ c.if-not-goes_on.false) _ _ (known_attribute c.in_ok-g.was c.attribute.ensures) in (o.7, omega (arith, o.0, o.1), omega (arith, o.3), omega (arith, o.4))

pub overflow_add-n : goal.overflow_add-n
overflow_add-n c = let o = head-order _ _ _ _ _ _ _ _ c.loop-j.invariant _ (known_tok c.in_ok-j.was c.glue.ensures) (sym c.goes_on.ensures ∙ c.if-not-goes_on.false) _ _ (known_attribute c.in_ok-g.was c.attribute.ensures) in omega (arith, o.7)

pub loop-j-smaller : goal.loop-j-smaller
loop-j-smaller c = let o = head-order _ _ _ _ _ _ _ _ c.loop-j.invariant _ (known_tok c.in_ok-j.was c.glue.ensures) (sym c.goes_on.ensures ∙ c.if-not-goes_on.false) _ _ (known_attribute c.in_ok-g.was c.attribute.ensures) in omega (arith, o.5, o.6)

pub loop-j-preserved : goal.loop-j-preserved
loop-j-preserved c = head-next _ _ _ _ _ _ _ _ c.loop-j.invariant _ (known_tok c.in_ok-j.was c.glue.ensures) (sym c.goes_on.ensures ∙ c.if-not-goes_on.false) _ _ (known_attribute c.in_ok-g.was c.attribute.ensures) _ c.put.ensures
