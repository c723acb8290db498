-- The byte behind the lead, by its range; then the number is the model's.
use native.Mathlib.Omega.{arith}
use Rattle.scan.proofs.Chain.{exits}
use Rattle.pieces.proofs.Answers.{known}
use Rattle.pieces.proofs.CharacterLaws.{in_tail, two_fails, two_read}
use Rattle.pieces.proofs.characters.two.Goals as goal

-- The byte behind the lead, by its range; then the number is the model's.
pub returns-in_err-c : goal.returns-in_err-c
returns-in_err-c c = rw (exits c.from_residual.ensures.1) (two_fails _ _ _ c.in_err-c.ensures)

pub next6-requires : goal.next6-requires
next6-requires c = let z = in_tail (known c.in_ok-c.was c.tail.ensures) in (omega arith, z.0, z.1)

pub returns : goal.returns
returns c = rw (c.next6.ensures, c.from.ensures) (two_read _ _ _ (known c.in_ok-c.was c.tail.ensures))
