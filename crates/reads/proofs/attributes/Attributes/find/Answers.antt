-- The guess, or all from the first on.
use Rattle.reads.proofs.FindLaws.{guessed}
use Rattle.reads.proofs.attributes.Attributes.find.Goals as goal

pub returns-then-is_named : goal.returns-then-is_named
returns-then-is_named c = record { says = λ h. guessed c.args.self.now.message.now c.args.self.now.base c.args.self.now.table.now c.args.name.now h c.if-guess-self.true c.is_named.ensures c.if-is_named.true c.value.ensures }
