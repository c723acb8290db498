-- `declared` meets its contract: the declaration, filler and the root, one law for each return.
use native.Mathlib.Omega.{arith}
use Rattle.scan.proofs.Chain.{exits, known}
use Rattle.grammar.specs.Places.{child_of}
use Rattle.reader.specs.Message.{declared_lead}
use Rattle.reader.proofs.elements.Laws.{known_filler}
use Rattle.reader.proofs.message.Laws.{inner_fails, declared_fails, declared_filler_fails, declared-read}
use Rattle.reader.proofs.message.declared.Goals as goal

pub returns-in_err-a : goal.returns-in_err-a
returns-in_err-a c = rw (exits c.from_residual.ensures.1) (inner_fails child_of declared_lead _ _ _ _ (declared_fails _ _ c.in_err-a.ensures))

pub bits-requires : goal.bits-requires
bits-requires c = let g = known c.in_ok-a.was c.declaration.ensures in omega arith

pub returns-in_err-b : goal.returns-in_err-b
returns-in_err-b c = rw (exits c.from_residual-in_err-b.ensures.1) (inner_fails child_of declared_lead _ _ _ _ (declared_filler_fails _ _ _ (known c.in_ok-a.was c.declaration.ensures) c.in_err-b.ensures))

pub root-requires : goal.root-requires
root-requires c = let g = known_filler c.in_ok-b.was c.bits.ensures in omega arith

pub returns : goal.returns
returns c = declared-read _ _ _ (known c.in_ok-a.was c.declaration.ensures) _ (known_filler c.in_ok-b.was c.bits.ensures) c.root.ensures
