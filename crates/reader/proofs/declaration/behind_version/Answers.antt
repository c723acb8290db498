-- `behind_version` meets its contract: without glue only the end may follow; else the first byte says what.
use native.Mathlib.Omega.{arith}
use mathlib.Core.List.{[]}
use Rattle.scan.proofs.Chain.{exits, known_tok}
use Rattle.reader.proofs.declaration.Laws.{known_setting, behind_version_fails, behind_version_ends, behind-version-encoding-fails, behind-version-encoding-there, behind-version-goes-on}
use Rattle.reader.proofs.declaration.behind_version.Goals as goal

pub returns-in_err-a : goal.returns-in_err-a
returns-in_err-a c = rw (exits c.from_residual.ensures.1) (behind_version_fails _ _ c.in_err-a.ensures)

pub literal-requires : goal.literal-requires
literal-requires c = let g = known_tok c.in_ok-a.was c.glue.ensures in omega arith

pub returns-then-a-at : goal.returns-then-a-at
returns-then-a-at c = behind_version_ends _ _ _ (known_tok c.in_ok-a.was c.glue.ensures) c.if-a-at.true c.literal.ensures

pub bounds-s-a : goal.bounds-s-a
bounds-s-a c = let g = known_tok c.in_ok-a.was c.glue.ensures in omega arith

pub encoding-requires : goal.encoding-requires
encoding-requires c = let g = known_tok c.in_ok-a.was c.glue.ensures in omega arith

pub returns-in_err-e : goal.returns-in_err-e
returns-in_err-e c = rw (exits c.from_residual-in_err-e.ensures.1) (behind-version-encoding-fails _ _ _ (known_tok c.in_ok-a.was c.glue.ensures) c.if-a-at.false c.if-s-a-eq101.true c.in_err-e.ensures)

pub behind_encoding-requires : goal.behind_encoding-requires
behind_encoding-requires c = let g = (known_setting c.in_ok-e.was c.encoding.ensures).says [] in omega arith

pub returns-then-s-a-eq101 : goal.returns-then-s-a-eq101
returns-then-s-a-eq101 c = behind-version-encoding-there _ _ _ (known_tok c.in_ok-a.was c.glue.ensures) c.if-a-at.false c.if-s-a-eq101.true (known_setting c.in_ok-e.was c.encoding.ensures) c.behind_encoding.ensures

pub standalone_or_end-requires : goal.standalone_or_end-requires
standalone_or_end-requires c = let g = known_tok c.in_ok-a.was c.glue.ensures in omega arith

pub returns : goal.returns
returns c = behind-version-goes-on _ _ _ (known_tok c.in_ok-a.was c.glue.ensures) c.if-a-at.false c.if-s-a-eq101.false c.standalone_or_end.ensures
