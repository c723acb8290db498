use Rattle.reads.specs.Held.{place}
use Rattle.reads.specs.Attributes.{HeldIn}
use Rattle.reads.proofs.FindLaws.{Left}
use Rattle.reads.proofs.attributes.Attributes.search.Given as goal

abbrev pub invariant-loop-i : goal.invariant-loop-i
invariant-loop-i l = (h : HeldIn l.self) → Left l.self.message.now l.self.base l.self.table.now l.self.count l.i l.name (place h l.name)
