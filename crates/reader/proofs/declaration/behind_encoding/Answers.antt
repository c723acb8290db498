-- `behind_encoding` meets its contract: without glue only the end may follow.
use native.Mathlib.Omega.{arith}
use Rattle.scan.proofs.Chain.{exits, known_tok}
use Rattle.reader.proofs.declaration.Laws.{behind_encoding_fails, behind_encoding_ends, behind-encoding-goes-on}
use Rattle.reader.proofs.declaration.behind_encoding.Goals as goal

pub returns-in_err-a : goal.returns-in_err-a
returns-in_err-a c = rw (exits c.from_residual.ensures.1) (behind_encoding_fails _ _ c.in_err-a.ensures)

pub literal-requires : goal.literal-requires
literal-requires c = let g = known_tok c.in_ok-a.was c.glue.ensures in omega arith

pub returns-then-a-at : goal.returns-then-a-at
returns-then-a-at c = behind_encoding_ends _ _ _ (known_tok c.in_ok-a.was c.glue.ensures) c.if-a-at.true c.literal.ensures

pub standalone_or_end-requires : goal.standalone_or_end-requires
standalone_or_end-requires c = let g = known_tok c.in_ok-a.was c.glue.ensures in omega arith

pub returns : goal.returns
returns c = behind-encoding-goes-on _ _ _ (known_tok c.in_ok-a.was c.glue.ensures) c.if-a-at.false c.standalone_or_end.ensures
