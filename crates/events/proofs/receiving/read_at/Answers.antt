-- What is decoded.
use mathlib.Core.Path.{refl}
use Rattle.events.proofs.NameLaws.{reads_at}
use Rattle.events.proofs.receiving.read_at.Goals as goal

-- src/receiving.rt:14:1
pub returns : goal.returns
returns c = reads_at c.args.p _ _ _ refl c.text_decode-at.ensures c.text_part.ensures c.kept.ensures
