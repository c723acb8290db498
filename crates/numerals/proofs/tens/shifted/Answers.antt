use mathlib.Core.Path.{ap, ◌∙◌}
use Prim.Native.Nat.{ℕ, ◌-◌, ◌^◌, min}
use Rattle.numerals.proofs.CodeLaws.{shift_capped}
use Rattle.numerals.proofs.tens.shifted.Goals as goal

pub returns : goal.returns
returns c = c.min-2.ensures ∙ shift_capped c.args.n c.args.k c.saturating_pow-power.result c.saturating_mul.result (c.saturating_pow-power.ensures ∙ ap (λ (k : ℕ). min (10 ^ k) (2 ^ 64 - 1)) c.min.ensures) c.saturating_mul.ensures
