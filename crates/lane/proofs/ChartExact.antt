-- T2.L1: `next` has exactly the paper's rows. What it answers for the nine states, the twelve kinds, both senders, received and sent,
-- with the id in use and with another, is the table below, written out from the paper; beyond these numbers nothing moves.
use Rattle.std.specs.Prelude.{◌≡◌, refl, [], ◌∷◌, Bool, true, ◌⊎◌, ℕ, T, leb, Some}
use Rattle.std.proofs.Common.{inl, inr, ⊎_elim, leb→le}
use Rattle.lane.specs.Names.{U, D, Finished, BoardForecast}
use Rattle.lane.specs.Chart.{both, among, is_free, chart, by_rows, next}
use Rattle.lane.proofs.Laws.{both_parts}
use Rattle.lane.proofs.Laws.{is_true, by_rows_lem, next_cases}
use Rattle.lane.specs.ChartExact.{text, line, expected, shown, cells, kinds, computed, lines, states, Named}

pub chart_exact : lines states ≡ expected
unfolding next by_rows chart expected lines states line computed text cells kinds shown
chart_exact = refl

-- Beyond these numbers, only a free kind passes, and it keeps the state.
inside : ℕ → ℕ → ℕ → ℕ → Bool
inside s k u n = both (leb s Finished) (both (leb n Finished) (both (leb k BoardForecast) (among u (U ∷ D ∷ []))))

pub chart_beyond : (s k u : ℕ) (received same : Bool) (n : ℕ) → next s k u received same ≡ Some n → ((is_free k ≡ true) × (n ≡ s)) ⊎ Named s k u n
unfolding chart inside
chart_beyond s k u r same n q = ⊎_elim inl (λ p. inr (named (by_rows_lem inside s k u n r chart tt p.0))) (next_cases s k u r same n q)
  where
    named : T (inside s k u n) → Named s k u n
    named t =
        let a = both_parts (leb s 8) (both (leb n 8) (both (leb k 11) (among u (1 ∷ 2 ∷ [])))) t in
        let b = both_parts (leb n 8) (both (leb k 11) (among u (1 ∷ 2 ∷ []))) a.1 in
        let c = both_parts (leb k 11) (among u (1 ∷ 2 ∷ [])) b.1 in
        record { state = leb→le s 8 a.0; next = leb→le n 8 b.0; kind = leb→le k 11 c.0; sender = is_true (among u (1 ∷ 2 ∷ [])) c.1 }
