-- The first entry of that name.
use Rattle.std.proofs.Common.{◌≡◌, ◌<◌, ◌+◌, length, rules, tests, arith}
use Rattle.std.proofs.lemmas.Option.{MatchOption-at_some, MatchOption-at_none}
use Rattle.std.proofs.lemmas.Iterator.{YieldsList-from_slice}
use Rattle.std.proofs.lemmas.Iterator.Search.{position_from_yields_List}
use Rattle.table.specs.Table.{kind_of}
use Rattle.rows.proofs.EntryLaws.{named_by, named}
use Rattle.rows.proofs.kind.kind_named.Goals.{In-Some}
use Rattle.rows.proofs.kind.kind_named.Goals as goal

some : (c : In-Some) → (c.in-Some.i < length c.entries.result.now) × (c.in-Some.i + 1 ≡ kind_of c.args.name.now)
some c = MatchOption-at_some _ _ c.in-Some.i c.in-Some.is (named c.args.name.now c.entries.ensures (position_from_yields_List (named_by c.args.name.now) _ _ c.position.result c.position.ensures.ran (YieldsList-from_slice _ c.iter.ensures.rest) (λ x b q k. search (rules, tests))))

-- The first entry of that name.
pub returns-in-Some : goal.returns-in-Some
returns-in-Some c = (some c).1

pub overflow_cast-result : goal.overflow_cast-result
overflow_cast-result c = let i = (some c).0 in let n = c.entries.ensures.few in omega arith

pub overflow_add-result : goal.overflow_add-result
overflow_add-result c = let i = (some c).0 in let n = c.entries.ensures.few in omega arith

pub returns-in-None : goal.returns-in-None
returns-in-None c = MatchOption-at_none _ _ c.in-None.is (named c.args.name.now c.entries.ensures (position_from_yields_List (named_by c.args.name.now) _ _ c.position.result c.position.ensures.ran (YieldsList-from_slice _ c.iter.ensures.rest) (λ x b q k. search (rules, tests))))
