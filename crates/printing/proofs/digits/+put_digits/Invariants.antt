-- The number falls at each call: it is divided by ten.
use Rattle.printing.proofs.digits.+put_digits.Given as goal

abbrev pub decreases-put_digits : goal.decreases-put_digits
decreases-put_digits l = l.n
