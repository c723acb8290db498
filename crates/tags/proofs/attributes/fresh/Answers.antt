-- The model of a name jumps over the run; the earlier names are asked once, where the name ends or is full.
use mathlib.Core.Path.{sym, ◌∙◌}
use Rattle.tags.proofs.NameLaws.{name_whole, says_end, says_met, says-short, says-full-end, says_long, says_last}
use Rattle.tags.proofs.attributes.fresh.Goals as goal

-- The model of a name jumps over the run; the earlier names are asked once, where the name ends or is full.
pub name_run-i-requires : goal.name_run-i-requires
name_run-i-requires c = (c.requires.stood.inside, c.requires.stood.starts)

pub returns-then-s-i : goal.returns-then-s-i
returns-then-s-i c = says_end _ _ _ _ _ c.name_run-i.ensures c.if-s-i.true

pub name_to-to-requires : goal.name_to-to-requires
name_to-to-requires c = c.if-s-i.false

pub met-requires : goal.met-requires
met-requires c = let z = name_whole _ c.args.first _ _ _ c.name_run-i.ensures c.if-s-i.false c.name_to-to.ensures in (c.requires, z.0, z.1, z.2)

pub returns-then-met : goal.returns-then-met
returns-then-met c = says_met _ _ _ _ _ c.name_run-i.ensures c.if-s-i.false c.name_to-to.ensures _ _ c.met.ensures c.if-met.true

pub returns-then-to-i : goal.returns-then-to-i
returns-then-to-i c = says-short _ _ _ _ _ c.name_run-i.ensures c.if-s-i.false c.name_to-to.ensures _ _ c.met.ensures c.if-met.false c.if-to-i.true

pub returns-then-s-i-lt2 : goal.returns-then-s-i-lt2
returns-then-s-i-lt2 c = says-full-end _ _ _ _ _ c.name_run-i.ensures c.if-s-i.false c.name_to-to.ensures _ _ c.met.ensures c.if-met.false c.if-to-i.false c.if-s-i-lt2.true

pub returns-then-is_name_byte : goal.returns-then-is_name_byte
returns-then-is_name_byte c = says_long _ _ _ _ _ c.name_run-i.ensures c.if-s-i.false c.name_to-to.ensures _ _ c.met.ensures c.if-met.false c.if-to-i.false c.if-s-i-lt2.false (sym c.is_name_byte.ensures ∙ c.if-is_name_byte.true)

pub returns : goal.returns
returns c = says_last _ _ _ _ _ c.name_run-i.ensures c.if-s-i.false c.name_to-to.ensures _ _ c.met.ensures c.if-met.false c.if-to-i.false c.if-s-i-lt2.false (sym c.is_name_byte.ensures ∙ c.if-is_name_byte.false)
