-- `declaration` meets its contract: `xml`, some glue, the version and what follows, one law for each return.
use native.Mathlib.Omega.{arith}
use mathlib.Core.List.{[]}
use Rattle.scan.proofs.Chain.{exits, known, known_tok}
use Rattle.reader.proofs.declaration.Laws.{known_setting, declaration_name_fails, declaration_glue_fails, declaration-unspaced, declaration-version-fails, declaration-read}
use Rattle.reader.proofs.declaration.declaration.Goals as goal

pub returns-in_err-a : goal.returns-in_err-a
returns-in_err-a c = rw (exits c.from_residual.ensures.1) (declaration_name_fails _ _ c.in_err-a.ensures)

pub glue-requires : goal.glue-requires
glue-requires c = let g = known c.in_ok-a.was c.literal.ensures in omega arith

pub returns-in_err-i : goal.returns-in_err-i
returns-in_err-i c = rw (exits c.from_residual-in_err-i.ensures.1) (declaration_glue_fails _ _ _ (known c.in_ok-a.was c.literal.ensures) c.in_err-i.ensures)

pub returns-then-i-a : goal.returns-then-i-a
returns-then-i-a c = declaration-unspaced _ _ _ (known c.in_ok-a.was c.literal.ensures) _ (known_tok c.in_ok-i.was c.glue.ensures) c.if-i-a.true

pub version-requires : goal.version-requires
version-requires c = let g = known_tok c.in_ok-i.was c.glue.ensures in omega arith

pub returns-in_err-e : goal.returns-in_err-e
returns-in_err-e c = rw (exits c.from_residual-in_err-e.ensures.1) (declaration-version-fails _ _ _ (known c.in_ok-a.was c.literal.ensures) _ (known_tok c.in_ok-i.was c.glue.ensures) c.if-i-a.false c.in_err-e.ensures)

pub behind_version-requires : goal.behind_version-requires
behind_version-requires c = let g = (known_setting c.in_ok-e.was c.version.ensures).says [] in omega arith

pub returns : goal.returns
returns c = declaration-read _ _ _ (known c.in_ok-a.was c.literal.ensures) _ (known_tok c.in_ok-i.was c.glue.ensures) c.if-i-a.false (known_setting c.in_ok-e.was c.version.ensures) c.behind_version.ensures
