-- Two bytes behind the lead, by the ranges that the model's tests come to; then the number is the model's.
use mathlib.Core.Path.{◌∙◌}
use native.Mathlib.Omega.{arith}
use Rattle.scan.proofs.Chain.{exits}
use Rattle.pieces.proofs.Answers.{known}
use Rattle.pieces.proofs.CharacterLaws.{three_second_fails, three_bounds, three_third_fails, three_read, three_third_bounds}
use Rattle.pieces.proofs.characters.three.Goals as goal

-- Two bytes behind the lead, by the ranges that the model's tests come to; then the number is the model's.
pub returns-in_err-c : goal.returns-in_err-c
returns-in_err-c c = rw (exits c.from_residual.ensures.1) (three_second_fails _ c.requires.0 c.requires.1 _ _ c.bound.ensures c.bound-2.ensures _ _ c.in_err-c.ensures)

pub returns-in_err-d : goal.returns-in_err-d
returns-in_err-d c = rw (exits c.from_residual-in_err-d.ensures.1) (three_third_fails _ c.requires.0 c.requires.1 _ _ c.bound.ensures c.bound-2.ensures _ _ (known c.in_ok-c.was c.tail.ensures) _ (c.bound-3.ensures ∙ rw c.top.ensures) c.in_err-d.ensures)

pub next6-v-requires : goal.next6-v-requires
next6-v-requires c = let z = three_bounds _ c.requires.0 c.requires.1 _ _ c.bound.ensures c.bound-2.ensures _ _ (known c.in_ok-c.was c.tail.ensures) in (omega arith, z.0, z.1)

pub next6-requires : goal.next6-requires
next6-requires c =
    let y = three_bounds _ c.requires.0 c.requires.1 _ _ c.bound.ensures c.bound-2.ensures _ _ (known c.in_ok-c.was c.tail.ensures) in
    let z = three_third_bounds _ c.requires.0 c.requires.1 _ _ c.bound.ensures c.bound-2.ensures _ _ (known c.in_ok-c.was c.tail.ensures) _ (c.bound-3.ensures ∙ rw c.top.ensures) (known c.in_ok-d.was c.tail-2.ensures) in (omega arith, z.0, z.1)

pub returns : goal.returns
returns c = rw (c.next6.ensures, c.next6-v.ensures, c.from.ensures) (three_read _ c.requires.0 c.requires.1 _ _ c.bound.ensures c.bound-2.ensures _ _ (known c.in_ok-c.was c.tail.ensures) _ (c.bound-3.ensures ∙ rw c.top.ensures) (known c.in_ok-d.was c.tail-2.ensures))
