-- Each answer by the outline.
use Rattle.reads.proofs.OutlineLaws.{known_sketch, known_unread, known_sort, accepted_held}
use Rattle.reads.proofs.WholeLaws.{cells_end, cells_unread}
use Rattle.reads.proofs.whole.tell.Goals as goal

pub invariant_of-attributes : goal.invariant_of-attributes
invariant_of-attributes c = record { held = ∣ accepted_held (known_sketch c.in-Ok.is c.requires.1.outlined).accepted c.requires.1.whole ∣₁ }

pub returns-in-Ok : goal.returns-in-Ok
returns-in-Ok c = cells_end (known_sketch c.in-Ok.is c.requires.1.outlined) c.requires.1.whole (known_sort c.in-Ok.is c.requires.2) c.check_rows-answer.ensures c.made.ensures

pub returns-in-Err : goal.returns-in-Err
returns-in-Err c = cells_unread _ (known_unread c.in-Err.is c.requires.1.outlined) c.unread.ensures
