-- `encoding` meets its contract: its word is one of pairs of bytes.
use Rattle.reader.proofs.declaration.Chains.{encoding_pairs}
use Rattle.reader.proofs.declaration.Laws.{setting_as}
use Rattle.reader.proofs.declaration.encoding.Goals as goal

-- `encoding` meets its contract: its word is one of pairs of bytes.
pub returns : goal.returns
returns c = setting_as encoding_pairs c.setting_of.ensures
