-- `table` has the chart's entry for each state and kind: at an arm the chart computes, and at `_` no row is left.
use mathlib.Core.Path.{refl}
use mathlib.Core.List.{[], ◌∷◌}
use Rattle.lane.specs.Chart.{chart, by_rows}
use Rattle.moves.proofs.Rows.{at, other_kind, other_state}
use Rattle.moves.proofs.chart.table.Goals as goal

-- `table` has the chart's entry for each state and kind: at an arm the chart computes, and at `_` no row is left.
pub returns-in-1-kind : goal.returns-in-1-kind
unfolding by_rows chart
returns-in-1-kind c = at c.from.ensures c.in-0.is c.in-1-kind.is (λ u r. refl)

pub returns-in_default-kind : goal.returns-in_default-kind
unfolding chart
returns-in_default-kind c = other_kind 0 (1 ∷ []) tt c.in-0.is c.in_default-kind.in_default-kind-own.rest

pub returns-in-1-kind-2 : goal.returns-in-1-kind-2
unfolding by_rows chart
returns-in-1-kind-2 c = at c.from-in-1-kind-2.ensures c.in-1.is c.in-1-kind-2.is (λ u r. refl)

pub returns-in_default-kind-2 : goal.returns-in_default-kind-2
unfolding chart
returns-in_default-kind-2 c = other_kind 1 (1 ∷ []) tt c.in-1.is c.in_default-kind-2.in_default-kind-2-own.rest

pub returns-in-3-kind : goal.returns-in-3-kind
unfolding by_rows chart
returns-in-3-kind c = at c.from-in-3-kind.ensures c.in-2.is c.in-3-kind.is (λ u r. refl)

pub returns-in-5-kind : goal.returns-in-5-kind
unfolding by_rows chart
returns-in-5-kind c = at c.from-in-5-kind.ensures c.in-2.is c.in-5-kind.is (λ u r. refl)

pub returns-in-11 : goal.returns-in-11
unfolding by_rows chart
returns-in-11 c = at c.from-in-11.ensures c.in-2.is c.in-11.is (λ u r. refl)

pub returns-in_default-kind-3 : goal.returns-in_default-kind-3
unfolding chart
returns-in_default-kind-3 c = other_kind 2 (11 ∷ 5 ∷ 3 ∷ []) tt c.in-2.is c.in_default-kind-3.in_default-kind-3-own.rest

pub returns-in-4-kind : goal.returns-in-4-kind
unfolding by_rows chart
returns-in-4-kind c = at c.from-in-4-kind.ensures c.in-3.is c.in-4-kind.is (λ u r. refl)

pub returns-in-5-kind-2 : goal.returns-in-5-kind-2
unfolding by_rows chart
returns-in-5-kind-2 c = at c.from-in-5-kind-2.ensures c.in-3.is c.in-5-kind-2.is (λ u r. refl)

pub returns-in_default-kind-4 : goal.returns-in_default-kind-4
unfolding chart
returns-in_default-kind-4 c = other_kind 3 (5 ∷ 4 ∷ []) tt c.in-3.is c.in_default-kind-4.in_default-kind-4-own.rest

pub returns-in-6-kind : goal.returns-in-6-kind
unfolding by_rows chart
returns-in-6-kind c = at c.from-in-6-kind.ensures c.in-4.is c.in-6-kind.is (λ u r. refl)

pub returns-in-3-kind-2 : goal.returns-in-3-kind-2
unfolding by_rows chart
returns-in-3-kind-2 c = at c.from-in-3-kind-2.ensures c.in-4.is c.in-3-kind-2.is (λ u r. refl)

pub returns-in-7-kind : goal.returns-in-7-kind
unfolding by_rows chart
returns-in-7-kind c = at c.received_from.ensures c.in-4.is c.in-7-kind.is (λ u r. refl)

pub returns-in-11-kind : goal.returns-in-11-kind
unfolding by_rows chart
returns-in-11-kind c = at c.from-in-11-kind.ensures c.in-4.is c.in-11-kind.is (λ u r. refl)

pub returns-in_default-kind-5 : goal.returns-in_default-kind-5
unfolding chart
returns-in_default-kind-5 c = other_kind 4 (11 ∷ 7 ∷ 3 ∷ 6 ∷ []) tt c.in-4.is c.in_default-kind-5.in_default-kind-5-own.rest

pub returns-in-4-kind-2 : goal.returns-in-4-kind-2
unfolding by_rows chart
returns-in-4-kind-2 c = at c.from-in-4-kind-2.ensures c.in-5.is c.in-4-kind-2.is (λ u r. refl)

pub returns-in-6-kind-2 : goal.returns-in-6-kind-2
unfolding by_rows chart
returns-in-6-kind-2 c = at c.from-in-6-kind-2.ensures c.in-5.is c.in-6-kind-2.is (λ u r. refl)

pub returns-in-7-kind-2 : goal.returns-in-7-kind-2
unfolding by_rows chart
returns-in-7-kind-2 c = at c.from-in-7-kind-2.ensures c.in-5.is c.in-7-kind-2.is (λ u r. refl)

pub returns-in_default-kind-6 : goal.returns-in_default-kind-6
unfolding chart
returns-in_default-kind-6 c = other_kind 5 (7 ∷ 6 ∷ 4 ∷ []) tt c.in-5.is c.in_default-kind-6.in_default-kind-6-own.rest

pub returns-in-8-kind : goal.returns-in-8-kind
unfolding by_rows chart
returns-in-8-kind c = at c.from-in-8-kind.ensures c.in-6.is c.in-8-kind.is (λ u r. refl)

pub returns-in-9 : goal.returns-in-9
unfolding by_rows chart
returns-in-9 c = at c.from-in-9.ensures c.in-6.is c.in-9.is (λ u r. refl)

pub returns-in-4-kind-3 : goal.returns-in-4-kind-3
unfolding by_rows chart
returns-in-4-kind-3 c = at c.received_from-in-4-kind-3.ensures c.in-6.is c.in-4-kind-3.is (λ u r. refl)

pub returns-in-11-kind-2 : goal.returns-in-11-kind-2
unfolding by_rows chart
returns-in-11-kind-2 c = at c.received_from-in-11-kind-2.ensures c.in-6.is c.in-11-kind-2.is (λ u r. refl)

pub returns-in_default-kind-7 : goal.returns-in_default-kind-7
unfolding chart
returns-in_default-kind-7 c = other_kind 6 (11 ∷ 4 ∷ 9 ∷ 8 ∷ []) tt c.in-6.is c.in_default-kind-7.in_default-kind-7-own.rest

pub returns-in-4-kind-4 : goal.returns-in-4-kind-4
unfolding by_rows chart
returns-in-4-kind-4 c = at c.received_from-in-4-kind-4.ensures c.in-7.is c.in-4-kind-4.is (λ u r. refl)

pub returns-in-9-kind : goal.returns-in-9-kind
unfolding by_rows chart
returns-in-9-kind c = at c.from-in-9-kind.ensures c.in-7.is c.in-9-kind.is (λ u r. refl)

pub returns-in-11-kind-3 : goal.returns-in-11-kind-3
unfolding by_rows chart
returns-in-11-kind-3 c = at c.received_from-in-11-kind-3.ensures c.in-7.is c.in-11-kind-3.is (λ u r. refl)

pub returns-in_default-kind-8 : goal.returns-in_default-kind-8
unfolding chart
returns-in_default-kind-8 c = other_kind 7 (11 ∷ 9 ∷ 4 ∷ []) tt c.in-7.is c.in_default-kind-8.in_default-kind-8-own.rest

pub returns-in-8-kind-2 : goal.returns-in-8-kind-2
unfolding by_rows chart
returns-in-8-kind-2 c = at c.from-in-8-kind-2.ensures c.in-8.is c.in-8-kind-2.is (λ u r. refl)

pub returns-in_default-kind-9 : goal.returns-in_default-kind-9
unfolding chart
returns-in_default-kind-9 c = other_kind 8 (8 ∷ []) tt c.in-8.is c.in_default-kind-9.in_default-kind-9-own.rest

pub returns-in_default : goal.returns-in_default
unfolding chart
returns-in_default c = other_state (8 ∷ 7 ∷ 6 ∷ 5 ∷ 4 ∷ 3 ∷ 2 ∷ 1 ∷ 0 ∷ []) tt c.in_default.in_default-own.rest
