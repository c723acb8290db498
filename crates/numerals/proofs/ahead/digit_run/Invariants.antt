use mathlib.Core.Path.{◌≡◌}
use Rattle.numerals.specs.Ahead.{Runs}
use Rattle.numerals.proofs.ahead.digit_run.Given as goal

abbrev pub invariant-loop-b : goal.invariant-loop-b
invariant-loop-b l = record { at : l.len ≡ l.b-index; runs : Runs l.v l.n (record { n = l.m; len = l.len }) }
