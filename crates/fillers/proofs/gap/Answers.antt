-- Glue, then the byte behind it says which.
use Rattle.fillers.proofs.FillLaws.{below_root_lem, in_root_lem, gap_open, gap_lt, gap_text, gap_bad}
use Rattle.fillers.proofs.gap.Goals as goal

-- Glue, then the byte behind it says which.
pub returns-then-s-j : goal.returns-then-s-j
returns-then-s-j c = gap_open _ _ _ c.skip_glue-j.ensures _ c.if-s-j.true

pub returns-then-s-j-eq60 : goal.returns-then-s-j-eq60
returns-then-s-j-eq60 c = gap_lt _ _ _ c.skip_glue-j.ensures _ c.if-s-j.false c.if-s-j-eq60.true

pub returns-then-below : goal.returns-then-below
returns-then-below c = below_root_lem c.if-below.true (gap_text _ _ _ c.skip_glue-j.ensures c.text.ensures)

pub returns : goal.returns
returns c = in_root_lem c.if-below.false (gap_bad _ _ _ c.skip_glue-j.ensures c.if-s-j.false c.if-s-j-eq60.false)
