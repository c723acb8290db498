-- The joined tests are one law, and their number another.
use Rattle.pieces.proofs.ValueLaws.{clear_plain, clear_number}
use Rattle.pieces.proofs.values.clear.Goals as goal

-- The joined tests are one law, and their number another.
pub returns : goal.returns
returns c = let z = clear_number _ _ _ (clear_plain _ _) in record { small = z.0; plain = z.1 }
