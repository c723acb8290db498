-- `setting_of` meets its contract: the opening, the word, the same quote.
use native.Mathlib.Omega.{arith}
use Rattle.scan.proofs.Chain.{exits, known}
use Rattle.reader.proofs.declaration.Laws.{known_open, setting_opening_fails, setting_word_fails, setting_read}
use Rattle.reader.proofs.declaration.setting_of.Goals as goal

pub returns-in_err-i : goal.returns-in_err-i
returns-in_err-i c = rw (exits c.from_residual.ensures.1) (setting_opening_fails _ _ _ _ c.in_err-i.ensures)

pub overflow_sub-q : goal.overflow_sub-q
overflow_sub-q c = let g = known_open c.in_ok-i.was c.opening.ensures in omega arith

pub bounds-s-i : goal.bounds-s-i
bounds-s-i c = let g = known_open c.in_ok-i.was c.opening.ensures in omega arith

pub folded-requires : goal.folded-requires
folded-requires c = let g = known_open c.in_ok-i.was c.opening.ensures in (omega arith, c.requires.1)

pub returns-in_err-e : goal.returns-in_err-e
returns-in_err-e c = rw (exits c.from_residual-in_err-e.ensures.1) (setting_word_fails _ _ _ _ _ (known_open c.in_ok-i.was c.opening.ensures) c.in_err-e.ensures)

pub byte-requires : goal.byte-requires
byte-requires c = let g = known c.in_ok-e.was c.folded.ensures in omega arith

pub returns : goal.returns
returns c = setting_read _ _ _ _ _ (known_open c.in_ok-i.was c.opening.ensures) (known c.in_ok-e.was c.folded.ensures) c.byte.ensures
