-- Three bytes behind the lead, by the ranges that the model's tests come to; then the number is the model's.
use native.Mathlib.Omega.{arith}
use Rattle.scan.proofs.Chain.{exits}
use Rattle.pieces.proofs.Answers.{known}
use Rattle.pieces.proofs.CharacterLaws.{in_tail, four_second_fails, four_bounds, four_third_fails, four-fourth-fails, four-read}
use Rattle.pieces.proofs.characters.four.Goals as goal

-- Three bytes behind the lead, by the ranges that the model's tests come to; then the number is the model's.
pub returns-in_err-c : goal.returns-in_err-c
returns-in_err-c c = rw (exits c.from_residual.ensures.1) (four_second_fails _ c.requires.0 c.requires.1 _ _ c.bound.ensures c.bound-2.ensures _ _ c.in_err-c.ensures)

pub returns-in_err-d : goal.returns-in_err-d
returns-in_err-d c = rw (exits c.from_residual-in_err-d.ensures.1) (four_third_fails _ c.requires.0 c.requires.1 _ _ c.bound.ensures c.bound-2.ensures _ _ (known c.in_ok-c.was c.tail.ensures) c.in_err-d.ensures)

pub returns-in_err-e : goal.returns-in_err-e
returns-in_err-e c = rw (exits c.from_residual-in_err-e.ensures.1) (four-fourth-fails _ c.requires.0 c.requires.1 _ _ c.bound.ensures c.bound-2.ensures _ _ (known c.in_ok-c.was c.tail.ensures) (known c.in_ok-d.was c.tail-2.ensures) c.in_err-e.ensures)

pub next6-v-requires : goal.next6-v-requires
next6-v-requires c = let z = four_bounds _ c.requires.0 c.requires.1 _ _ c.bound.ensures c.bound-2.ensures _ _ (known c.in_ok-c.was c.tail.ensures) in (omega arith, z.0, z.1)

pub next6-requires : goal.next6-requires
next6-requires c =
    let x = four_bounds _ c.requires.0 c.requires.1 _ _ c.bound.ensures c.bound-2.ensures _ _ (known c.in_ok-c.was c.tail.ensures) in
    let z = in_tail (known c.in_ok-d.was c.tail-2.ensures) in (omega arith, z.0, z.1)

pub next6-requires-2 : goal.next6-requires-2
next6-requires-2 c =
    let x = four_bounds _ c.requires.0 c.requires.1 _ _ c.bound.ensures c.bound-2.ensures _ _ (known c.in_ok-c.was c.tail.ensures) in
    let y = in_tail (known c.in_ok-d.was c.tail-2.ensures) in
    let z = in_tail (known c.in_ok-e.was c.tail-3.ensures) in (omega arith, z.0, z.1)

pub returns : goal.returns
returns c = rw (c.next6-2.ensures, c.next6.ensures, c.next6-v.ensures, c.from.ensures) (four-read _ c.requires.0 c.requires.1 _ _ c.bound.ensures c.bound-2.ensures _ _ (known c.in_ok-c.was c.tail.ensures) (known c.in_ok-d.was c.tail-2.ensures) (known c.in_ok-e.was c.tail-3.ensures))
