-- `standalone` meets its contract: the opening, the word, the same quote.
use native.Mathlib.Omega.{arith}
use Rattle.scan.proofs.Chain.{exits, known}
use Rattle.reader.proofs.declaration.Laws.{known_open, setting_opening_fails, setting_word_fails, setting_read}
use Rattle.reader.proofs.declaration.standalone.Goals as goal

pub returns-in_err-a : goal.returns-in_err-a
returns-in_err-a c = rw (exits c.from_residual.ensures.1) (setting_opening_fails _ _ _ _ c.in_err-a.ensures)

pub overflow_sub-q : goal.overflow_sub-q
overflow_sub-q c = let g = known_open c.in_ok-a.was c.opening.ensures in omega arith

pub bounds-s-a : goal.bounds-s-a
bounds-s-a c = let g = known_open c.in_ok-a.was c.opening.ensures in omega arith

pub yes_no-requires : goal.yes_no-requires
yes_no-requires c = let g = known_open c.in_ok-a.was c.opening.ensures in omega arith

pub returns-in_err-e : goal.returns-in_err-e
returns-in_err-e c = rw (exits c.from_residual-in_err-e.ensures.1) (setting_word_fails _ _ _ _ _ (known_open c.in_ok-a.was c.opening.ensures) c.in_err-e.ensures)

pub byte-requires : goal.byte-requires
byte-requires c = let g = known c.in_ok-e.was c.yes_no.ensures in omega arith

pub returns : goal.returns
returns c = setting_read _ _ _ _ _ (known_open c.in_ok-a.was c.opening.ensures) (known c.in_ok-e.was c.yes_no.ensures) c.byte.ensures
