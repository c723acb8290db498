-- By the form, and by whether the attribute is there.
use mathlib.Core.Path.{◌∙◌}
use native.Mathlib.Omega.{arith}
use Rattle.reads.proofs.FieldLaws.{found_inside}
use Rattle.reads.proofs.RowLaws.{child_rowed, absent_rowed, present_rowed}
use Rattle.reads.proofs.trying.try_row.Goals as goal

pub returns-then-is_child : goal.returns-then-is_child
returns-then-is_child c = child_rowed c.args.features c.args.row.now c.is_child.ensures c.if-is_child.true (c.from.ensures ∙ c.carried.ensures)

pub returns-in_default : goal.returns-in_default
returns-in_default c = absent_rowed c.args.features c.args.row.now c.is_child.ensures c.if-is_child.false c.find.ensures c.in_default.is (c.from-in_default.ensures ∙ c.missing.ensures)

pub overflow_add-raw : goal.overflow_add-raw
overflow_add-raw c = let z = found_inside c.find.ensures c.args.attributes.now.held c.in-Some.place c.in-Some.is in omega arith

pub slice_bounds-raw-end : goal.slice_bounds-raw-end
slice_bounds-raw-end c = let z = found_inside c.find.ensures c.args.attributes.now.held c.in-Some.place c.in-Some.is in omega arith

pub returns : goal.returns
returns c = present_rowed c.args.features c.args.row.now c.is_child.ensures c.if-is_child.false c.find.ensures c.in-Some.place (found_inside c.find.ensures c.args.attributes.now.held c.in-Some.place c.in-Some.is) c.in-Some.is c.judged.ensures
