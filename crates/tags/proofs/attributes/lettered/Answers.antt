-- The joined tests are one law, and their number another.
use Rattle.pieces.proofs.ValueLaws.{test_number}
use Rattle.tags.proofs.NameLaws.{letter_test}
use Rattle.tags.proofs.attributes.lettered.Goals as goal

-- The joined tests are one law, and their number another.
pub returns : goal.returns
returns c = let z = test_number _ _ (letter_test _) in record { small = z.0; one = z.1 }
