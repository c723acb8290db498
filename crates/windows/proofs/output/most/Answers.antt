use Rattle.std.proofs.Common.{◌-◌, Bool, cond, sym, ap}
use Rattle.windows.specs.Printed.{LINE}
use Rattle.windows.proofs.output.most.Goals as goal

pub returns-then-dry : goal.returns-then-dry
returns-then-dry c = ap (λ (z : Bool). cond z 0 (c.args.size - LINE)) (sym c.if-dry.true)

pub returns : goal.returns
returns c = ap (λ (z : Bool). cond z 0 (c.args.size - LINE)) (sym c.if-dry.false)
