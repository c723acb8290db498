use mathlib.Core.Path.{sym, ap}
use mathlib.Core.Bool.{Bool, cond}
use Rattle.lines.specs.declared.Listed.TheVariants.{Drop, End}
use Rattle.lists.proofs.unfinished.Goals as goal

pub returns-then-last : goal.returns-then-last
returns-then-last c = ap (λ (z : Bool). cond z (End c.args.start 1) (Drop c.args.start)) (sym c.if-last.true)

pub returns : goal.returns
returns c = ap (λ (z : Bool). cond z (End c.args.start 1) (Drop c.args.start)) (sym c.if-last.false)
