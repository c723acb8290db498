-- Glue and a tag at once, all else bit by bit.
use Rattle.fillers.proofs.FillLaws.{fill_glue}
use Rattle.fillers.proofs.filler_lt.Goals as goal

-- Glue and a tag at once, all else bit by bit.
pub returns-then-is_tag : goal.returns-then-is_tag
returns-then-is_tag c = fill_glue _ _ _ _ c.requires c.skip_glue-j.ensures (c.is_tag.ensures c.if-is_tag.true)
