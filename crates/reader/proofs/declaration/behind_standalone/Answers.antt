-- `behind_standalone` meets its contract: glue and the end.
use native.Mathlib.Omega.{arith}
use Rattle.scan.proofs.Chain.{exits, known_tok}
use Rattle.reader.proofs.declaration.Laws.{behind_standalone_fails, behind_standalone_ends}
use Rattle.reader.proofs.declaration.behind_standalone.Goals as goal

pub returns-in_err-a : goal.returns-in_err-a
returns-in_err-a c = rw (exits c.from_residual.ensures.1) (behind_standalone_fails _ _ c.in_err-a.ensures)

pub literal-requires : goal.literal-requires
literal-requires c = let g = known_tok c.in_ok-a.was c.glue.ensures in omega arith

pub returns : goal.returns
returns c = behind_standalone_ends _ _ (known_tok c.in_ok-a.was c.glue.ensures) c.literal.ensures
