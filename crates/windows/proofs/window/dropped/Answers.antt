use Rattle.std.proofs.Common.{ℕ, ◌+◌, ap}
use Rattle.windows.proofs.window.dropped.Goals as goal

pub returns : goal.returns
returns c = ap (λ (x : ℕ). record { base = x; at = c.args.w.at + c.args.n; len = c.args.w.len; last = c.args.w.last; failed = c.args.w.failed; dry = c.args.dry }) c.wrapping_add_u64.ensures.value
