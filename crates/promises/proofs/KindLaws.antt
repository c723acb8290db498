-- What the chart lets pass to be sent is a kind of the table.
use Rattle.std.specs.Prelude.{Option, Some, None}
use mathlib.Core.Path.{◌≡◌, refl, sym, ap, ◌∙◌}
use mathlib.Core.Bool.{Bool, true, false}
use mathlib.Core.Logic.{⊎_elim}
use Prim.Native.Nat.{ℕ}
use native.Mathlib.Omega.{arith}
use lib.Dec.{eqb}
use borrow.Author.Tests.{eqb-true}
use Rattle.lane.specs.Chart.{is_free, Sent as IsSent, chart, next}
use Rattle.lane.specs.Record.{carries_own, step_out}
use Rattle.lane.proofs.Laws.{by_rows_lem, is_true, next_cases, sent_by}
use Rattle.lane.specs.declared.Lane.{Lane}
use Rattle.lane.specs.declared.Moved.{Moved}
use Rattle.grammar.specs.Bytes.{Bytes}
use Rattle.message.specs.declared.cells.Message.{Message}
use Rattle.table.specs.Table.{table, is_kind}
use Rattle.meant.specs.Events.{event_sent}
use Rattle.promises.specs.Sending.{moved_by}

-- a kind that the chart lets pass is one of the table
kind_row : ℕ → ℕ → ℕ → ℕ → Bool
kind_row s k u n = is_kind k

free_kind : (k : ℕ) → is_free k ≡ true → (k ≡ 0 → ⊥) → is_kind k ≡ true
unfolding table
free_kind k e z = go (eqb k 2) refl (eqb k 10) refl (eqb k 0) refl
  where
    go : (a : Bool) → eqb k 2 ≡ a → (b : Bool) → eqb k 10 ≡ b → (c : Bool) → eqb k 0 ≡ c → is_kind k ≡ true
    go true ea b eb c ec = rw (eqb-true k 2 ea) refl
    go false ea true eb c ec = rw (eqb-true k 10 eb) refl
    go false ea false eb true ec = absurd (z (eqb-true k 0 ec))
    go false ea false eb false ec = absurd (let x : false ≡ true = rw (ea, eb, ec) at e in let y : ◌≡◌ {A = ℕ} 0 1 = cc in omega arith)

none_sent : (s k u : ℕ) (same : Bool) (n : ℕ) → k ≡ 0 → next s k u IsSent same ≡ Some n → ⊥
unfolding next
none_sent s k u same n e q = let z : None ≡ Some n = rw e at q in let y : ◌≡◌ {A = ℕ} 0 1 = cc in omega arith

sendable_kind : (s k u : ℕ) (same : Bool) (n : ℕ) → next s k u IsSent same ≡ Some n → is_kind k ≡ true
unfolding kind_row chart table
sendable_kind s k u same n q =
    ⊎_elim (λ p. free_kind k p.0 (λ e. none_sent s k u same n e q))
    (λ p. is_true (is_kind k) (by_rows_lem kind_row s k u n IsSent chart tt p.0))
    (next_cases s k u IsSent same n q)

pub accepted_kind : (l : Lane) (m : Message) (texts : Bytes) → (moved_by l m texts).refusal ≡ 0 → is_kind m.kind ≡ true
accepted_kind l m texts z = go (step_out l (event_sent m texts)) refl
  where
    go : (st : Option ℕ) → step_out l (event_sent m texts) ≡ st → is_kind m.kind ≡ true
    go (Some n) e = sendable_kind l.state m.kind l.side (carries_own l (event_sent m texts)) n e
    go None e = absurd (let x : 8 ≡ 0 = sym (ap (λ (v : Moved). v.refusal) (sent_by l (event_sent m texts) None e)) ∙ z in omega arith)
