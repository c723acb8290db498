use mathlib.Core.Path.{◌≡◌, ◌∙◌}
use native.Mathlib.Omega.{arith}
use borrow.Author.Tests.{tests}
use Rattle.std.proofs.Common.{rules}
use Rattle.std.proofs.lemmas.Iterator.{YieldsList-from_slice}
use Rattle.std.proofs.lemmas.Iterator.Consumers.{count_from_yields_List}
use Rattle.std.proofs.lemmas.Iterator.Search.{YieldsList-from_take_while}
use Rattle.std.proofs.lemmas.List.Folds.{length-prefix_len}
use Rattle.number.specs.Bytes.{digit}
use Rattle.shapes.specs.Rows.{figures}
use Rattle.shapes.proofs.VersionLaws.{figures_first, figures_upto}
use Rattle.shapes.proofs.version.digits.Goals as goal

pub returns : goal.returns
returns c =
    let n : c.count.result ≡ figures c.args.v.now = count_from_yields_List c.take_while.result _ c.count.ensures.ran (YieldsList-from_take_while _ digit (YieldsList-from_slice c.args.v.now (cc)) c.take_while.ensures.closure c.take_while.ensures.done (λ x b q k. search (rules, tests))) ∙ length-prefix_len digit c.args.v.now ∙ figures_first c.args.v.now in
    record { upto = omega (arith, figures_upto c.args.v.now); count = n }
