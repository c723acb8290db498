-- The invariant: none of the bytes so far is the one that is looked for.
use Rattle.tags.proofs.attributes.next.Goals as goal

pub loop-i-init : goal.loop-i-init
loop-i-init c = c.clear_eights-i.ensures
