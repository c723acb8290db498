-- `opening` meets its contract: the name, `=` and the quote, one law of the chain for each return.
use mathlib.Core.Path.{sym, ◌∙◌}
use native.Mathlib.Omega.{arith}
use Rattle.scan.proofs.Chain.{exits, known, known_tok}
use Rattle.reader.proofs.declaration.Laws.{opening_name_fails, opening_equals_fails, opening-glue-fails, opening-quoted, opening-unquoted}
use Rattle.reader.proofs.declaration.opening.Goals as goal

pub returns-in_err-a : goal.returns-in_err-a
returns-in_err-a c = rw (exits c.from_residual.ensures.1) (opening_name_fails _ _ _ c.in_err-a.ensures)

pub glued-requires : goal.glued-requires
glued-requires c = let g = known c.in_ok-a.was c.literal.ensures in omega arith

pub returns-in_err-m : goal.returns-in_err-m
returns-in_err-m c = rw (exits c.from_residual-in_err-m.ensures.1) (opening_equals_fails _ _ _ _ (known c.in_ok-a.was c.literal.ensures) c.in_err-m.ensures)

pub glue-requires : goal.glue-requires
glue-requires c = let g = known c.in_ok-m.was c.glued.ensures in omega arith

pub returns-in_err-e : goal.returns-in_err-e
returns-in_err-e c = rw (exits c.from_residual-in_err-e.ensures.1) (opening-glue-fails _ _ _ _ (known c.in_ok-a.was c.literal.ensures) _ (known c.in_ok-m.was c.glued.ensures) c.in_err-e.ensures)

pub bounds-s-e : goal.bounds-s-e
bounds-s-e c = let g = known_tok c.in_ok-e.was c.glue.ensures in omega arith

pub overflow_add-result : goal.overflow_add-result
overflow_add-result c = let g = known_tok c.in_ok-e.was c.glue.ensures in omega arith

pub returns-then-is_either : goal.returns-then-is_either
returns-then-is_either c = opening-quoted _ _ _ _ (known c.in_ok-a.was c.literal.ensures) _ (known c.in_ok-m.was c.glued.ensures) _ (known_tok c.in_ok-e.was c.glue.ensures) (sym c.is_either.ensures ∙ c.if-is_either.true)

pub returns : goal.returns
returns c = opening-unquoted _ _ _ _ (known c.in_ok-a.was c.literal.ensures) _ (known c.in_ok-m.was c.glued.ensures) _ (known_tok c.in_ok-e.was c.glue.ensures) (sym c.is_either.ensures ∙ c.if-is_either.false)
