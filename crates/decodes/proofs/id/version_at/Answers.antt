-- A plain value is read where it stands.
use Rattle.decodes.proofs.NumberLaws.{plain_read}
use Rattle.decodes.proofs.id.version_at.Goals as goal

-- A plain value is read where it stands.
pub returns-then-is_plain : goal.returns-then-is_plain
returns-then-is_plain c = plain_read c.is_plain.ensures c.if-is_plain.true c.is_version.ensures
