-- `root` meets its contract: `Hermes`, its tag, filler, and what is inside, one law for each return.
use native.Mathlib.Omega.{arith}
use Rattle.scan.proofs.Chain.{exits, known}
use Rattle.grammar.specs.Places.{inner_of, root_lead}
use Rattle.reader.proofs.elements.Laws.{known_filler, known_head}
use Rattle.reader.proofs.message.Laws.{inner_fails, root_name_fails, root_tag_fails, root-filler-fails, root-read}
use Rattle.reader.proofs.message.root.Goals as goal

pub returns-in_err-a : goal.returns-in_err-a
returns-in_err-a c = rw (exits c.from_residual.ensures.1) (inner_fails inner_of root_lead _ _ _ _ (root_name_fails _ _ c.in_err-a.ensures))

pub head-requires : goal.head-requires
head-requires c = let g = known c.in_ok-a.was c.literal.ensures in omega arith

pub returns-in_err-tag : goal.returns-in_err-tag
returns-in_err-tag c = rw (exits c.from_residual-in_err-tag.ensures.1) (inner_fails inner_of root_lead _ _ _ _ (root_tag_fails _ _ _ (known c.in_ok-a.was c.literal.ensures) c.in_err-tag.ensures))

pub filler_lt-requires : goal.filler_lt-requires
filler_lt-requires c = let h = known_head c.in_ok-tag.was c.head.ensures in h.upto

pub returns-in_err-i : goal.returns-in_err-i
returns-in_err-i c = rw (exits c.from_residual-in_err-i.ensures.1) (inner_fails inner_of root_lead _ _ _ _ (root-filler-fails _ _ _ (known c.in_ok-a.was c.literal.ensures) _ (known_head c.in_ok-tag.was c.head.ensures) c.in_err-i.ensures))

pub inside-requires : goal.inside-requires
inside-requires c = let h = known_filler c.in_ok-i.was c.filler_lt.ensures in omega arith

pub returns : goal.returns
returns c = root-read _ _ _ (known c.in_ok-a.was c.literal.ensures) _ (known_head c.in_ok-tag.was c.head.ensures) _ (known_filler c.in_ok-i.was c.filler_lt.ensures) c.inside.ensures
