-- `<`, and behind two `]` also `>`.
use borrow.Author.Tests.{le-leb, lt-leb}
use Rattle.fillers.proofs.texts.stop.Goals as goal

-- `<`, and behind two `]` also `>`.
pub returns-then-n-lt2 : goal.returns-then-n-lt2
returns-then-n-lt2 c = rw (lt-leb 2 _ c.if-n-lt2.true)

pub returns-else-n-lt2 : goal.returns-else-n-lt2
returns-else-n-lt2 c = rw (le-leb 2 _ c.if-n-lt2.false)
