-- `version` meets its contract: its word is one of pairs of bytes.
use Rattle.reader.proofs.declaration.Chains.{version_pairs}
use Rattle.reader.proofs.declaration.Laws.{setting_as}
use Rattle.reader.proofs.declaration.version.Goals as goal

-- `version` meets its contract: its word is one of pairs of bytes.
pub returns : goal.returns
returns c = setting_as version_pairs c.setting_of.ensures
