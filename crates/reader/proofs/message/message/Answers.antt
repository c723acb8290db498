-- `message` meets its contract: the byte behind the first `<` says whether a declaration follows.
use Rattle.scan.proofs.Chain.{exits, known}
use Rattle.grammar.specs.Places.{child_of, lead}
use Rattle.reader.proofs.message.Laws.{inner_fails, message_fails, message_open, message-declared, message-plain}
use Rattle.reader.proofs.message.message.Goals as goal

pub returns-in_err-a : goal.returns-in_err-a
returns-in_err-a c = rw (exits c.from_residual.ensures.1) (inner_fails child_of lead _ _ _ _ (message_fails _ _ c.in_err-a.ensures))

pub returns-then-s-a : goal.returns-then-s-a
returns-then-s-a c = inner_fails child_of lead _ _ _ _ (message_open _ _ _ (known c.in_ok-a.was c.byte.ensures) c.if-s-a.true)

pub returns-then-s-a-eq63 : goal.returns-then-s-a-eq63
returns-then-s-a-eq63 c = message-declared _ _ _ (known c.in_ok-a.was c.byte.ensures) c.if-s-a.false c.if-s-a-eq63.true c.declared.ensures

pub returns : goal.returns
returns c = message-plain _ _ _ (known c.in_ok-a.was c.byte.ensures) c.if-s-a.false c.if-s-a-eq63.false c.root.ensures
