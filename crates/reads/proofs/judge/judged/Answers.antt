-- Each arm by its form.
use Rattle.reads.proofs.RowLaws.{text_arm, some_arm, int_arm, id_arm, version_arm, size_arm, child_arm}
use Rattle.reads.proofs.judge.judged.Goals as goal

pub returns-in-Features : goal.returns-in-Features
returns-in-Features c = child_arm c.in-Features.is c.from.ensures

pub returns-in-Text : goal.returns-in-Text
returns-in-Text c = text_arm c.in-Text.is c.place-cell.ensures c.text-answer.ensures

pub returns-in-SomeText : goal.returns-in-SomeText
returns-in-SomeText c = some_arm c.in-SomeText.is c.place-cell.ensures c.some_text-answer.ensures

pub returns-in-Int : goal.returns-in-Int
returns-in-Int c = int_arm c.from-in-Int.ensures c.in-Int.is c.int.ensures

pub returns-in-Guid : goal.returns-in-Guid
returns-in-Guid c = id_arm c.in-Guid.is c.place-cell.ensures c.guid-answer.ensures

pub returns-in-Version : goal.returns-in-Version
returns-in-Version c = version_arm c.in-Version.is c.place-cell.ensures c.version-answer.ensures

pub returns-in-Positive : goal.returns-in-Positive
returns-in-Positive c = size_arm c.from-in-Positive.ensures c.in-Positive.is c.size.ensures
