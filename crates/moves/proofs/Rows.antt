-- What a match over the state and one over the kind show of the chart's rows.
use Rattle.std.specs.Prelude.{Option, None}
use mathlib.Core.Path.{◌≡◌, refl, ◌∙◌}
use mathlib.Core.List.{List, [], ◌∷◌}
use mathlib.Core.Bool.{Bool, true, false}
use Prim.Native.Nat.{ℕ}
use native.Mathlib.Decide.{ℕ_discrete}
use lib.Dec.{T, eqb}
use borrow.Author.Tests.{ne_eqb}
use Rattle.lane.specs.Chart.{pick, both, either, among, Row, chart, by_rows}
use Rattle.lane.proofs.Laws.{both_parts}
use Rattle.moves.specs.Entry.{IsEntry, lets}
use Rattle.moves.specs.declared.chart.Entry.{Entry}

-- at an arm's state and kind the chart computes
pub at : {s k s₀ k₀ : ℕ} {e e₀ : Option Entry} → e ≡ e₀ → s ≡ s₀ → k ≡ k₀ → ((u : ℕ) (r : Bool) → lets e₀ u r ≡ by_rows chart s₀ k₀ u r) → IsEntry s k e
at q es ek h = record { says = λ u r. rw (q, es, ek) (h u r) }

-- what a match has shown at `_`: the number is none of its keys (the last one first)
abbrev pub Past : List ℕ → ℕ → Type 0
Past [] n = Unit {0}
Past (k ∷ ks) n = Past ks n × (n ≡ k → ⊥)

past : (ks : List ℕ) (n m : ℕ) → Past ks n → T (among m ks) → eqb n m ≡ false
past [] n m p t = absurd t
past (k ∷ ks) n m p t = go (ℕ_discrete m k) (past ks n m p.0)
  where
    go : Dec (m ≡ k) → (T (among m ks) → eqb n m ≡ false) → eqb n m ≡ false
    go (yes e) rest = ne_eqb n m (λ h. p.1 (h ∙ e))
    go (no ne) rest = rest (rw (ne_eqb m k ne) at t)

-- the rows for state s are for the kinds ks only
abbrev pub only_kinds : ℕ → List ℕ → List Row → Bool
only_kinds s ks [] = true
only_kinds s ks (x ∷ xs) = both (pick (eqb s x.state) (among x.message ks) true) (only_kinds s ks xs)

off_kind : (z : Bool) (ks : List ℕ) (k m : ℕ) → Past ks k → T (pick z (among m ks) true) → (b : Bool) → both z (both (eqb k m) b) ≡ false
off_kind true ks k m p t b = rw (past ks k m p t)
off_kind false ks k m p t b = refl

no_kind : (s : ℕ) (ks : List ℕ) (k u : ℕ) (r : Bool) (xs : List Row) → Past ks k → T (only_kinds s ks xs) → None ≡ by_rows xs s k u r
unfolding by_rows
no_kind s ks k u r [] p t = refl
no_kind s ks k u r (x ∷ xs) p t =
    let b = both_parts (pick (eqb s x.state) (among x.message ks) true) (only_kinds s ks xs) t in
    rw (off_kind (eqb s x.state) ks k x.message p b.0 (both (either x.may_be_sent r) (eqb u x.sender)))
    (no_kind s ks k u r xs p b.1)

-- a kind that no arm of the state names
pub other_kind : {s k : ℕ} (s₀ : ℕ) (ks : List ℕ) → T (only_kinds s₀ ks chart) → s ≡ s₀ → Past ks k → IsEntry s k None
other_kind {k = k} s₀ ks t es p = record { says = λ u r. rw es (no_kind s₀ ks k u r chart p t) }

-- the rows are for the states ss only
abbrev pub only_states : List ℕ → List Row → Bool
only_states ss [] = true
only_states ss (x ∷ xs) = both (among x.state ss) (only_states ss xs)

no_state : (s : ℕ) (ss : List ℕ) (k u : ℕ) (r : Bool) (xs : List Row) → Past ss s → T (only_states ss xs) → None ≡ by_rows xs s k u r
unfolding by_rows
no_state s ss k u r [] p t = refl
no_state s ss k u r (x ∷ xs) p t =
    let b = both_parts (among x.state ss) (only_states ss xs) t in
    rw (past ss s x.state p b.0) (no_state s ss k u r xs p b.1)

-- a state that no arm names
pub other_state : {s k : ℕ} (ss : List ℕ) → T (only_states ss chart) → Past ss s → IsEntry s k None
other_state {s} {k} ss t p = record { says = λ u r. no_state s ss k u r chart p t }
