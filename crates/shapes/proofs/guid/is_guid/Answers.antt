-- Groups of digits with hyphens between them.
use Rattle.shapes.proofs.GuidLaws.{not_36, tests_joined}
use Rattle.shapes.proofs.guid.is_guid.Goals as goal

pub returns-then-v-ne36 : goal.returns-then-v-ne36
returns-then-v-ne36 c = not_36 c.args.v.now c.if-v-ne36.true

pub returns : goal.returns
returns c = tests_joined c.args.v.now _ _ _ _ _ c.if-v-ne36.false c.all_hex.ensures c.all_hex-2.ensures c.all_hex-3.ensures c.all_hex-4.ensures c.all_hex-5.ensures
