-- The joined tests are one law, and their number another.
use Rattle.pieces.proofs.ValueLaws.{test_number}
use Rattle.spells.proofs.RunLaws.{test_same}
use Rattle.spells.proofs.escapes.stays.Goals as goal

-- The joined tests are one law, and their number another.
pub returns : goal.returns
returns c = let z = test_number _ _ (test_same _) in record { small = z.0; same = z.1 }
