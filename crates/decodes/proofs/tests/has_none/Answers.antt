use mathlib.Core.Path.{◌∙◌}
use mathlib.Core.Bool.{not}
use lib.Dec.{eqb}
use borrow.Author.Tests.{tests}
use Rattle.std.proofs.Common.{rules}
use Rattle.std.proofs.lemmas.Iterator.{YieldsList-from_slice}
use Rattle.std.proofs.lemmas.Iterator.Search.{all_from_yields_List}
use Rattle.value.specs.Text.{altered}
use Rattle.decodes.specs.Plain.{plain_char}
use Rattle.decodes.proofs.TestLaws.{every_is, equal_turned}
use Rattle.decodes.proofs.tests.has_none.Goals as goal

pub returns : goal.returns
returns c = all_from_yields_List (λ b. not (eqb c.args.q b)) _ _ _ c.all.ensures.ran (YieldsList-from_slice c.args.w.now (cc)) (λ x b q k. search (rules, tests, equal_turned)) ∙ every_is (λ b. not (eqb c.args.q b)) c.args.w.now
