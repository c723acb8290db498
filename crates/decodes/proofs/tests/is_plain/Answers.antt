use mathlib.Core.Path.{◌∙◌}
use mathlib.Core.Bool.{not}
use lib.Dec.{eqb}
use borrow.Author.Tests.{tests}
use Rattle.std.proofs.Common.{rules}
use Rattle.std.proofs.lemmas.Iterator.{YieldsList-from_slice}
use Rattle.std.proofs.lemmas.Iterator.Search.{all_from_yields_List}
use Rattle.value.specs.Text.{altered}
use Rattle.decodes.specs.Plain.{plain_char}
use Rattle.decodes.proofs.TestLaws.{every_is}
use Rattle.decodes.proofs.tests.is_plain.Goals as goal

pub returns : goal.returns
returns c = all_from_yields_List plain_char _ _ _ c.all.ensures.ran (YieldsList-from_slice c.args.w.now (cc)) (λ x b q k. search (rules, tests)) ∙ every_is plain_char c.args.w.now
