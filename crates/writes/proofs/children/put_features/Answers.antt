-- An empty tag, or the features and the end tag.
use Prim.Native.Nat.{◌/◌}
use Rattle.grammar.specs.Bytes.{text}
use Rattle.printing.proofs.PieceLaws.{has_room, first_fits, rest_fits, last_put, and_put, all_put, same_put, same_fits}
use Rattle.writes.proofs.ChildLaws.{bit_small, features_none, features_are}
use native.Mathlib.Omega.{arith}
use Rattle.writes.proofs.children.put_features.Goals as goal

-- An empty tag, or the features and the end tag.
pub overflow_add-forecast : goal.overflow_add-forecast
overflow_add-forecast c = omega (arith, bit_small c.args.bits, bit_small (c.args.bits / 2), bit_small (c.args.bits / 4))

pub overflow_add-forecast-2 : goal.overflow_add-forecast-2
overflow_add-forecast-2 c = omega (arith, bit_small c.args.bits, bit_small (c.args.bits / 2), bit_small (c.args.bits / 4))

pub put_empty-requires : goal.put_empty-requires
put_empty-requires c = same_fits c.args.at (text "/>") (features_none c.args.name.now c.args.bits c.if-forecast-query-eq0.true) c.requires

pub returns-then-forecast-query-eq0 : goal.returns-then-forecast-query-eq0
returns-then-forecast-query-eq0 c = same_put (features_none c.args.name.now c.args.bits c.if-forecast-query-eq0.true) c.put_empty.ensures

pub put_byte-a-requires : goal.put_byte-a-requires
put_byte-a-requires c = first_fits (has_room (features_are c.args.name.now c.args.bits c.if-forecast-query-eq0.false) c.requires)

pub put_flag-b-requires : goal.put_flag-b-requires
put_flag-b-requires c = (first_fits (rest_fits (has_room (features_are c.args.name.now c.args.bits c.if-forecast-query-eq0.false) c.requires) c.put_byte-a.ensures.next))

pub put_flag-c-requires : goal.put_flag-c-requires
put_flag-c-requires c = (first_fits (rest_fits (rest_fits (has_room (features_are c.args.name.now c.args.bits c.if-forecast-query-eq0.false) c.requires) c.put_byte-a.ensures.next) c.put_flag-b.ensures.next))

pub put_flag-d-requires : goal.put_flag-d-requires
put_flag-d-requires c = (first_fits (rest_fits (rest_fits (rest_fits (has_room (features_are c.args.name.now c.args.bits c.if-forecast-query-eq0.false) c.requires) c.put_byte-a.ensures.next) c.put_flag-b.ensures.next) c.put_flag-c.ensures.next))

pub put_end-requires : goal.put_end-requires
put_end-requires c = first_fits (rest_fits (rest_fits (rest_fits (rest_fits (has_room (features_are c.args.name.now c.args.bits c.if-forecast-query-eq0.false) c.requires) c.put_byte-a.ensures.next) c.put_flag-b.ensures.next) c.put_flag-c.ensures.next) c.put_flag-d.ensures.next)

pub returns : goal.returns
returns c = all_put (features_are c.args.name.now c.args.bits c.if-forecast-query-eq0.false) (and_put c.put_byte-a.ensures (and_put c.put_flag-b.ensures (and_put c.put_flag-c.ensures (and_put c.put_flag-d.ensures (last_put c.put_end.ensures)))))
