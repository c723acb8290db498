-- Each form by its own test.
use Rattle.std.proofs.Common.{refl, ap}
use Rattle.table.specs.Table.{words, some_words, whole, guid, version, positive, features}
use Rattle.rows.specs.Coding.{form_of}
use Rattle.writes.proofs.WorthLaws.{worth_absent, said}
use Rattle.writes.proofs.refusing.row_allows.Goals as goal

-- Each form by its own test.
pub returns-then-cell-eq0 : goal.returns-then-cell-eq0
returns-then-cell-eq0 c = worth_absent c.args.row.now c.args.cell.there c.args.cell.a c.args.cell.b c.args.values.now.id.now c.args.values.now.texts.now c.if-cell-eq0.true c.missing.ensures

pub returns-in-Features : goal.returns-in-Features
returns-in-Features c = said c.args.row.now c.args.cell.there c.args.cell.a c.args.cell.b c.args.values.now.id.now c.args.values.now.texts.now features c.if-cell-eq0.false (ap form_of c.in-Features.is) refl

pub returns-in-Text : goal.returns-in-Text
returns-in-Text c = said c.args.row.now c.args.cell.there c.args.cell.a c.args.cell.b c.args.values.now.id.now c.args.values.now.texts.now (words c.in-Text.most) c.if-cell-eq0.false (ap form_of c.in-Text.is) c.text.ensures

pub returns-in-SomeText : goal.returns-in-SomeText
returns-in-SomeText c = said c.args.row.now c.args.cell.there c.args.cell.a c.args.cell.b c.args.values.now.id.now c.args.values.now.texts.now (some_words c.in-SomeText.most) c.if-cell-eq0.false (ap form_of c.in-SomeText.is) c.some_text.ensures

pub returns-in-Int : goal.returns-in-Int
returns-in-Int c = said c.args.row.now c.args.cell.there c.args.cell.a c.args.cell.b c.args.values.now.id.now c.args.values.now.texts.now (whole c.in-Int.low c.in-Int.high) c.if-cell-eq0.false (ap form_of c.in-Int.is) c.ranged.ensures

pub returns-in-Guid : goal.returns-in-Guid
returns-in-Guid c = said c.args.row.now c.args.cell.there c.args.cell.a c.args.cell.b c.args.values.now.id.now c.args.values.now.texts.now guid c.if-cell-eq0.false (ap form_of c.in-Guid.is) c.an_id.ensures

pub returns-in-Version : goal.returns-in-Version
returns-in-Version c = said c.args.row.now c.args.cell.there c.args.cell.a c.args.cell.b c.args.values.now.id.now c.args.values.now.texts.now version c.if-cell-eq0.false (ap form_of c.in-Version.is) c.a_version.ensures

pub returns-in-Positive : goal.returns-in-Positive
returns-in-Positive c = said c.args.row.now c.args.cell.there c.args.cell.a c.args.cell.b c.args.values.now.id.now c.args.values.now.texts.now positive c.if-cell-eq0.false (ap form_of c.in-Positive.is) c.a_measure.ensures
