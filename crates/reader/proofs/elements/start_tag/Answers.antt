-- `start_tag` meets its contract: a name, then what `head` says.
use native.Mathlib.Omega.{arith}
use Rattle.scan.proofs.Chain.{exits, known_tok}
use Rattle.reader.proofs.elements.Laws.{start_unnamed, start_headless, start_read}
use Rattle.reader.proofs.elements.start_tag.Goals as goal

pub returns-in_err-to : goal.returns-in_err-to
returns-in_err-to c = rw (exits c.from_residual.ensures.1) (start_unnamed _ _ _ c.in_err-to.ensures)

pub head-requires : goal.head-requires
head-requires c = let g = known_tok c.in_ok-to.was c.name.ensures in omega arith

pub returns-in_err-tag : goal.returns-in_err-tag
returns-in_err-tag c = rw (exits c.from_residual-in_err-tag.ensures.1) (start_headless _ _ _ _ (known_tok c.in_ok-to.was c.name.ensures) _ c.in_err-tag.ensures)

pub returns : goal.returns
returns c = start_read _ _ _ _ (known_tok c.in_ok-to.was c.name.ensures) _ c.in_ok-tag.was c.head.ensures
