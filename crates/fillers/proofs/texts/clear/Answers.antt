-- A run where no `]` stands before, else nothing.
use mathlib.Core.Path.{refl}
use mathlib.Core.Logic.{inl, inr}
use Rattle.pieces.proofs.RunLaws.{run_none}
use Rattle.fillers.proofs.texts.clear.Goals as goal

-- A run where no `]` stands before, else nothing.
pub run-requires : goal.run-requires
run-requires c = c.requires

pub returns-then-n-eq0 : goal.returns-then-n-eq0
returns-then-n-eq0 c = record { ran = c.run.ensures; calm = inl c.if-n-eq0.true }

pub returns-else-n-eq0 : goal.returns-else-n-eq0
returns-else-n-eq0 c = record { ran = run_none _ _ _ c.requires; calm = inr refl }
