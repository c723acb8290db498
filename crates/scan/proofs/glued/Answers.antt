use native.Mathlib.Omega.{arith}
use Rattle.scan.proofs.Chain.{exits, known_tok, glued_1, glued_2}
use Rattle.scan.proofs.glued.Goals as goal

pub returns-in_err-i : goal.returns-in_err-i
returns-in_err-i c = rw (exits c.from_residual.ensures.1) (glued_1 _ _ _ c.in_err-i.ensures)

pub byte-requires : goal.byte-requires
byte-requires c = let g = known_tok c.in_ok-i.was c.glue.ensures in omega arith

pub returns : goal.returns
returns c = glued_2 _ _ _ (known_tok c.in_ok-i.was c.glue.ensures) c.byte.ensures
