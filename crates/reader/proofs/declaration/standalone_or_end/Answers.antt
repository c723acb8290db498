-- `standalone_or_end` meets its contract: the first byte says which.
use native.Mathlib.Omega.{arith}
use mathlib.Core.List.{[]}
use Rattle.scan.proofs.Chain.{exits}
use Rattle.reader.proofs.declaration.Laws.{known_setting, standalone_or_end_stops, standalone-or-end-fails, standalone-or-end-there, standalone_or_end_ends}
use Rattle.reader.proofs.declaration.standalone_or_end.Goals as goal

pub returns-then-s-at : goal.returns-then-s-at
returns-then-s-at c = standalone_or_end_stops _ _ c.if-s-at.true

pub returns-in_err-a : goal.returns-in_err-a
returns-in_err-a c = rw (exits c.from_residual.ensures.1) (standalone-or-end-fails _ _ c.if-s-at.false c.if-s-at-eq115.true c.in_err-a.ensures)

pub behind_standalone-requires : goal.behind_standalone-requires
behind_standalone-requires c = let g = (known_setting c.in_ok-a.was c.standalone.ensures).says [] in omega arith

pub returns-then-s-at-eq115 : goal.returns-then-s-at-eq115
returns-then-s-at-eq115 c = standalone-or-end-there _ _ c.if-s-at.false c.if-s-at-eq115.true (known_setting c.in_ok-a.was c.standalone.ensures) c.behind_standalone.ensures

pub returns : goal.returns
returns c = standalone_or_end_ends _ _ c.if-s-at.false c.if-s-at-eq115.false c.literal.ensures
