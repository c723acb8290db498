-- The invariant: what is left of the content says what all of it says.
use mathlib.Core.Path.{refl, sym, ◌∙◌}
use Rattle.std.proofs.Common.{◌-◌, take, drop}
use Rattle.rows.proofs.SameLaws.{bytes_same}
use native.Mathlib.Omega.{arith}
use Rattle.reads.proofs.ChildLaws.{known_child, found_ahead, none_inside, search_starts, search_ends, search_finds, search_goes_on}
use Rattle.reads.proofs.features.first_child.Goals as goal

pub returns-then-inside-eq0 : goal.returns-then-inside-eq0
returns-then-inside-eq0 c = none_inside c.args.s.now c.args.inside c.args.name.now c.if-inside-eq0.true refl

pub loop-child-init : goal.loop-child-init
loop-child-init c = search_starts c.args.s.now c.args.inside c.args.name.now c.if-inside-eq0.false

pub slice_bounds-eq-count : goal.slice_bounds-eq-count
slice_bounds-eq-count c = (found_ahead (known_child c.in_ok-child.was c.child.ensures)).ordered

pub slice_bounds-eq-start : goal.slice_bounds-eq-start
slice_bounds-eq-start c = let a = found_ahead (known_child c.in_ok-child.was c.child.ensures) in let o = a.ordered in let w = a.within in omega arith

pub slice_bounds-eq-end : goal.slice_bounds-eq-end
slice_bounds-eq-end c = let a = found_ahead (known_child c.in_ok-child.was c.child.ensures) in let o = a.ordered in let w = a.within in omega arith

pub returns-then-eq : goal.returns-then-eq
returns-then-eq c = search_finds c.loop-child.invariant (known_child c.in_ok-child.was c.child.ensures) (sym c.if-eq.true ∙ (c.eq.ensures ∙ bytes_same c.args.name.now (take (c.in_ok-child.child.outline.to - c.in_ok-child.child.outline.from) (drop c.in_ok-child.child.outline.from c.args.s.now))))

pub loop-child-smaller : goal.loop-child-smaller
loop-child-smaller c = let a = found_ahead (known_child c.in_ok-child.was c.child.ensures) in let o = a.on in let u = a.upto in omega arith

pub loop-child-preserved : goal.loop-child-preserved
loop-child-preserved c = search_goes_on c.loop-child.invariant (known_child c.in_ok-child.was c.child.ensures) (sym c.if-eq.false ∙ (c.eq.ensures ∙ bytes_same c.args.name.now (take (c.in_ok-child.child.outline.to - c.in_ok-child.child.outline.from) (drop c.in_ok-child.child.outline.from c.args.s.now))))

pub returns-in_err-child : goal.returns-in_err-child
returns-in_err-child c = rw c.from_residual.ensures (search_ends c.loop-child.invariant c.in_err-child.ensures)
