-- `end_tag` meets its contract: `/`, the name, glue and `>`, one law of the chain for each return.
use native.Mathlib.Omega.{arith}
use Rattle.scan.proofs.Chain.{exits, known, end_1, end_2, end_3}
use Rattle.reader.proofs.elements.end_tag.Goals as goal

pub returns-in_err-i : goal.returns-in_err-i
returns-in_err-i c = rw (exits c.from_residual.ensures.1) (end_1 _ _ _ c.in_err-i.ensures)

pub literal-requires : goal.literal-requires
literal-requires c = let g = known c.in_ok-i.was c.byte.ensures in omega arith

pub returns-in_err-j : goal.returns-in_err-j
returns-in_err-j c = rw (exits c.from_residual-in_err-j.ensures.1) (end_2 _ _ _ _ (known c.in_ok-i.was c.byte.ensures) c.in_err-j.ensures)

pub glued-requires : goal.glued-requires
glued-requires c = let g = known c.in_ok-j.was c.literal.ensures in omega arith

pub returns : goal.returns
returns c = end_3 _ _ _ _ (known c.in_ok-i.was c.byte.ensures) (known c.in_ok-j.was c.literal.ensures) c.glued.ensures
