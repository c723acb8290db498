-- `outline` meets its contract: the model's outcome on the first 65,536 bytes behind the glue is the answer.
use mathlib.Core.Path.{sym}
use Rattle.reader.proofs.message.Laws.{known_inner}
use Rattle.reader.proofs.Answering.{long_part, starts_in, outline_ends, outline_more, outline_long, outline_bad}
use Rattle.reader.proofs.outline.Goals as goal

pub slice_bounds-message-end : goal.slice_bounds-message-end
slice_bounds-message-end c = sym (long_part _ _ _ c.skip_glue-start.ensures c.window-n.ensures)

pub message-requires : goal.message-requires
message-requires c = starts_in _ _ _ c.skip_glue-start.ensures c.window-n.ensures

pub returns-then-n-lt-MESSAGE : goal.returns-then-n-lt-MESSAGE
returns-then-n-lt-MESSAGE c = outline_more _ _ _ c.skip_glue-start.ensures c.window-n.ensures _ _ (rw c.in-Err-Open.field-0-is at c.in-Err-Open.ensures) c.if-n-lt-MESSAGE.true

pub returns-in-Ok : goal.returns-in-Ok
returns-in-Ok c = outline_ends _ _ _ c.skip_glue-start.ensures c.window-n.ensures _ _ _ (known_inner c.in-Ok.is c.message.ensures)

pub returns-else-n-lt-MESSAGE : goal.returns-else-n-lt-MESSAGE
returns-else-n-lt-MESSAGE c = outline_long _ _ _ c.skip_glue-start.ensures c.window-n.ensures _ _ (rw c.in-Err-Open.field-0-is at c.in-Err-Open.ensures) c.if-n-lt-MESSAGE.false

pub returns-in-Err-Bad : goal.returns-in-Err-Bad
returns-in-Err-Bad c = outline_bad _ _ _ c.skip_glue-start.ensures c.window-n.ensures _ _ (rw c.in-Err-Bad.field-0-is at c.in-Err-Bad.ensures)
