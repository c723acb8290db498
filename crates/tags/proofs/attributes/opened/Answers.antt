-- Glue, `=`, glue and a quote, one after the other.
use mathlib.Core.Path.{sym, ◌∙◌}
use native.Mathlib.Omega.{arith}
use Rattle.scan.proofs.Chain.{exits, known, known_tok}
use Rattle.tags.proofs.AttributeLaws.{opened_glue_fails, opened_equals_fails, opened-second-fails, opened-quote, opened-bare}
use Rattle.tags.proofs.attributes.opened.Goals as goal

pub returns-in_err-i : goal.returns-in_err-i
returns-in_err-i c = rw (exits c.from_residual.ensures.1) (opened_glue_fails _ _ c.in_err-i.ensures)

pub byte-requires : goal.byte-requires
byte-requires c = let g = known_tok c.in_ok-i.was c.glue.ensures in omega (arith, g.says.1)

pub returns-in_err-j : goal.returns-in_err-j
returns-in_err-j c = rw (exits c.from_residual-in_err-j.ensures.1) (opened_equals_fails _ _ _ (known_tok c.in_ok-i.was c.glue.ensures) c.in_err-j.ensures)

pub glue-requires-2 : goal.glue-requires-2
glue-requires-2 c = (known c.in_ok-j.was c.byte.ensures).says.2

pub returns-in_err-k : goal.returns-in_err-k
returns-in_err-k c = rw (exits c.from_residual-in_err-k.ensures.1) (opened-second-fails _ _ _ (known_tok c.in_ok-i.was c.glue.ensures) _ (known c.in_ok-j.was c.byte.ensures) c.in_err-k.ensures)

pub bounds-s-k : goal.bounds-s-k
bounds-s-k c = (known_tok c.in_ok-k.was c.glue-2.ensures).says.1

pub overflow_add-result : goal.overflow_add-result
overflow_add-result c = let g = (known_tok c.in_ok-k.was c.glue-2.ensures).says.1 in omega arith

pub returns-then-is_quote : goal.returns-then-is_quote
returns-then-is_quote c = opened-quote _ _ _ (known_tok c.in_ok-i.was c.glue.ensures) _ (known c.in_ok-j.was c.byte.ensures) _ (known_tok c.in_ok-k.was c.glue-2.ensures) (sym c.is_quote.ensures ∙ c.if-is_quote.true)

pub returns : goal.returns
returns c = opened-bare _ _ _ (known_tok c.in_ok-i.was c.glue.ensures) _ (known c.in_ok-j.was c.byte.ensures) _ (known_tok c.in_ok-k.was c.glue-2.ensures) (sym c.is_quote.ensures ∙ c.if-is_quote.false)
