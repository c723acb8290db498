-- The count of digits falls at each call.
use Rattle.printing.proofs.digits.+put_places.Given as goal

abbrev pub decreases-put_places : goal.decreases-put_places
decreases-put_places l = l.k
