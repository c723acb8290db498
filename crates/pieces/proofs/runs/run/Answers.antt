-- The invariant: what lies behind is plain.
use mathlib.Core.Path.{◌≡◌, sym, subst, ◌∙◌}
use Prim.Native.Nat.{ℕ}
use native.Mathlib.Omega.{arith}
use lib.ListN.{length}
use Rattle.pieces.specs.Parts.{PlainRun}
use Rattle.pieces.proofs.RunLaws.{run_more}
use Rattle.pieces.proofs.runs.run.Goals as goal

pub eights-i-requires : goal.eights-i-requires
eights-i-requires c = c.requires

pub loop-i-init : goal.loop-i-init
loop-i-init c = c.eights-i.ensures

pub returns-then-not-is_plain : goal.returns-then-not-is_plain
returns-then-not-is_plain c = c.loop-i.invariant

pub loop-i-preserved : goal.loop-i-preserved
loop-i-preserved c = run_more _ _ _ _ c.loop-i.invariant (omega arith) (sym c.is_plain.ensures ∙ c.if-not-is_plain.false)

pub returns : goal.returns
returns c =
    let e : c.loop-i.i ≡ length c.args.s.now = let u = c.loop-i.invariant.upto in omega arith in
    subst (λ (i : ℕ). PlainRun c.args.q c.args.s.now c.args.at i) e c.loop-i.invariant
