-- A version has at most 7 bytes.
use native.Mathlib.Omega.{arith}
use mathlib.Core.Path.{sym}
use lib.Seq.{length-take-le}
use Rattle.decodes.proofs.IdLaws.{version_unread, version_other, version_read}
use Rattle.decodes.proofs.id.version_decoded.Goals as goal

-- A version has at most 7 bytes.
pub returns-in_default : goal.returns-in_default
returns-in_default c = version_unread c.decode.ensures c.in_default.is

pub returns-then-n-gt7 : goal.returns-then-n-gt7
returns-then-n-gt7 c = version_other c.decode.ensures c.in-Some.is c.if-n-gt7.true

pub slice_bounds-is_version-end : goal.slice_bounds-is_version-end
slice_bounds-is_version-end c = sym (length-take-le _ _ (omega arith))

pub returns : goal.returns
returns c = version_read c.decode.ensures c.in-Some.is c.if-n-gt7.false c.is_version.ensures
