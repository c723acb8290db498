-- The invariant: of all earlier names those that are left decide.
use mathlib.Core.Path.{sym, ◌∙◌}
use native.Mathlib.Omega.{arith}
use Rattle.tags.proofs.WalkLaws.{walk_start, walk_in, walk_none, walk_found, walk_equals, walk_opens, walk_on}
use Rattle.tags.proofs.attributes.again.Goals as goal

pub loop-first-init : goal.loop-first-init
loop-first-init c = walk_start _ _ _ _

pub skip_glue-j-requires : goal.skip_glue-j-requires
skip_glue-j-requires c = walk_in _ _ _ _ c.requires.0 c.loop-first.invariant

pub returns-then-at-j : goal.returns-then-at-j
returns-then-at-j c = walk_none _ _ _ _ _ _ c.loop-first.invariant c.skip_glue-j.ensures c.if-at-j.true

pub stands_at-requires : goal.stands_at-requires
stands_at-requires c = (omega arith, omega arith, omega arith)

pub returns-then-stands_at : goal.returns-then-stands_at
returns-then-stands_at c = walk_found _ _ _ _ _ _ c.loop-first.invariant c.skip_glue-j.ensures (omega arith) (omega arith) c.requires.2 c.requires.3 (sym c.if-stands_at.true ∙ c.stands_at.ensures)

pub next-e-requires : goal.next-e-requires
next-e-requires c = (omega arith, omega arith)

pub skip_glue-a-requires : goal.skip_glue-a-requires
skip_glue-a-requires c = walk_equals _ _ _ _ _ _ c.loop-first.invariant c.skip_glue-j.ensures (omega arith) (omega arith) c.requires.2 c.requires.3 _ c.next-e.ensures c.requires.0

pub overflow_add-a : goal.overflow_add-a
overflow_add-a c = let z = walk_opens _ _ _ _ _ _ c.loop-first.invariant c.skip_glue-j.ensures (omega arith) (omega arith) c.requires.2 c.requires.3 _ c.next-e.ensures _ c.skip_glue-a.ensures c.requires.0 in omega arith

pub bounds-s-a : goal.bounds-s-a
bounds-s-a c = let z = walk_opens _ _ _ _ _ _ c.loop-first.invariant c.skip_glue-j.ensures (omega arith) (omega arith) c.requires.2 c.requires.3 _ c.next-e.ensures _ c.skip_glue-a.ensures c.requires.0 in omega arith

pub next-f-requires : goal.next-f-requires
next-f-requires c = let z = walk_opens _ _ _ _ _ _ c.loop-first.invariant c.skip_glue-j.ensures (omega arith) (omega arith) c.requires.2 c.requires.3 _ c.next-e.ensures _ c.skip_glue-a.ensures c.requires.0 in (omega arith, omega arith)

pub loop-first-preserved : goal.loop-first-preserved
loop-first-preserved c = walk_on _ _ _ _ _ _ c.loop-first.invariant c.skip_glue-j.ensures (omega arith) (omega arith) c.requires.2 c.requires.3 _ c.next-e.ensures _ c.skip_glue-a.ensures _ c.next-f.ensures (sym c.if-stands_at.false ∙ c.stands_at.ensures)
