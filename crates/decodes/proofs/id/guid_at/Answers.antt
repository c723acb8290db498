-- A GUID in its own letters is read where it stands.
use Rattle.decodes.proofs.IdLaws.{guid_stands, guid_there}
use Rattle.decodes.proofs.id.guid_at.Goals as goal

-- A GUID in its own letters is read where it stands.
pub returns-then-is_guid : goal.returns-then-is_guid
returns-then-is_guid c = guid_stands _ c.is_guid.ensures c.if-is_guid.true

pub returns : goal.returns
returns c = rw c.is_some.ensures (guid_there c.id_at.ensures)
