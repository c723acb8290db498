use mathlib.Core.Path.{◌≡◌}
use lib.ListN.{drop}
use Rattle.number.specs.Bytes.{and, hex, all}
use Rattle.shapes.proofs.guid.all_hex.Given as goal

abbrev pub invariant-loop-b : goal.invariant-loop-b
invariant-loop-b l = and l.ok (all hex (drop l.b-index l.v)) ≡ all hex l.v
