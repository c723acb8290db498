-- The invariant: the digits behind take each state to a later one.
use mathlib.Core.Path.{refl, sym, ap}
use Prim.Native.Nat.{ℕ, ◌+◌}
use native.Mathlib.Omega.{arith}
use Rattle.numerals.proofs.AheadLaws.{runs_none, runs_more}
use Rattle.numerals.proofs.ahead.digit_run.Goals as goal

pub loop-b-init : goal.loop-b-init
loop-b-init c = record { at = refl; runs = runs_none _ _ }

pub loop-b-preserved : goal.loop-b-preserved
loop-b-preserved c = record { at = ap (λ (i : ℕ). i + 1) c.loop-b.invariant.at; runs = runs_more c.args.v.now c.args.n c.loop-b.m c.loop-b.len c.loop-b.invariant.runs c.loop-b.invariant.at c.loop-b-test.true (omega arith) c.if-m-ge-TENTH.false c.figure_of.ensures (sym c.if-not-is_digit.ensures) }

pub returns-then-m-ge-TENTH : goal.returns-then-m-ge-TENTH
returns-then-m-ge-TENTH c = c.loop-b.invariant.runs

pub returns-after-loop-b : goal.returns-after-loop-b
returns-after-loop-b c = c.loop-b.invariant.runs
