-- The ranges of the lead are the model's choices.
use native.Mathlib.Omega.{arith}
use Rattle.scan.proofs.Chain.{exits}
use Rattle.pieces.proofs.Answers.{unread, next, read}
use Rattle.pieces.proofs.CharacterLaws.{char_two, char_three}
use Rattle.pieces.proofs.characters.behind.Goals as goal

-- The ranges of the lead are the model's choices.
pub returns-in_err-two-in-194-to-223 : goal.returns-in_err-two-in-194-to-223
returns-in_err-two-in-194-to-223 c = rw (exits c.from_residual.ensures.1) (unread (char_two _ _ _ c.requires (omega arith) (omega arith) c.in_err-two-in-194-to-223.ensures))

pub returns-in_ok-two-in-194-to-223 : goal.returns-in_ok-two-in-194-to-223
returns-in_ok-two-in-194-to-223 c = next (char_two _ _ _ c.requires (omega arith) (omega arith) (read c.in_ok-two-in-194-to-223.was c.two.ensures))

pub returns-in_err-three-in-224-to-239 : goal.returns-in_err-three-in-224-to-239
returns-in_err-three-in-224-to-239 c = rw (exits c.from_residual-in_err-three-in-224-to-239.ensures.1) (unread (char_three _ _ _ c.requires (omega arith) (omega arith) c.in_err-three-in-224-to-239.ensures))

pub returns-in_ok-three-in-224-to-239 : goal.returns-in_ok-three-in-224-to-239
returns-in_ok-three-in-224-to-239 c = next (char_three _ _ _ c.requires (omega arith) (omega arith) (read c.in_ok-three-in-224-to-239.was c.three.ensures))

pub returns-in_err-character-in_default : goal.returns-in_err-character-in_default
returns-in_err-character-in_default c = rw (exits c.from_residual-in_err-character-in_default.ensures.1) (unread c.in_err-character-in_default.ensures)

pub returns-in_ok-character-in_default : goal.returns-in_ok-character-in_default
returns-in_ok-character-in_default c = next (read c.in_ok-character-in_default.was c.character.ensures)
