-- When receiving and sending give each belt order, and only then; and what a start and a foreign stop do.
use mathlib.Core.Path.{◌≡◌, refl, sym, ap, subst, ◌∙◌}
use mathlib.Core.List.{[], ◌∷◌}
use mathlib.Core.Bool.{true, false}
use mathlib.Core.Logic.{◌⊎◌, inl, inr, ⊎_elim, ◌↔◌}
use Prim.Native.Nat.{ℕ, suc, ◌≤◌, ◌<◌}
use native.Mathlib.Omega.{arith}
use lib.ListN.{length}
use lib.Dec.{eqb}
use borrow.Author.Tests.{eqb-false, ne_eqb}
use Rattle.exact.specs.Chain.{clash}
use Rattle.number.proofs.Tests.{cases}
use Rattle.grammar.specs.Bytes.{Bytes}
use Rattle.lane.specs.Names.{U, D, Ready, Both, StartTransport, StopTransport, TransportFinished, NoOrder, Run, Cancel, StopNow}
use Rattle.lane.specs.Chart.{among}
use Rattle.lane.specs.Record.{running_used, ended, received}
use Rattle.lane.specs.Belt.{started}
use Rattle.lane.proofs.Belt.{start_run, start_cancel_ready, start_cancel_other, foreign_stop}
use Rattle.lane.specs.Orders.{StartsOwn, StartsOther}
use Rattle.lane.proofs.Orders.{order_run_received, order_cancel_received, order_stop_ended, order_stop_received, order_run_sent, order_sent_else}
use Rattle.lane.proofs.OrderLaws.{end_not}
use Rattle.lane.specs.declared.Event.{Event}
use Rattle.lane.specs.declared.Lane.{Lane}
use Rattle.lane.specs.declared.Moved.{Moved}
use Rattle.message.specs.Checked.{Checks}
use Rattle.message.specs.Messages.{id_of}
use Rattle.message.specs.declared.checking.Checked.{Checked}
use Rattle.message.specs.declared.cells.Message.{Message}
use Rattle.message.proofs.Theorems.{check_only}
use Rattle.meant.specs.Notices.{notice}
use Rattle.meant.proofs.Theorems.{notice_lengths}
use Rattle.meant.specs.Events.{event_of, event_sent}
use Rattle.promises.specs.Receiving.{asks_reply, moved_by, Owes, nothing_yet, a_notice, a_reply, no_reply, told, Receives}
use Rattle.promises.specs.Sending.{Sends}
use Rattle.promises.specs.declared.Received.{Received}
use Rattle.promises.specs.declared.Sent.{Sent}
use Rattle.promises.proofs.Theorems as all

-- the refusals that end the connection
abbrev pub Ends : ℕ → Type 0
Ends n = among n (2 ∷ 3 ∷ 4 ∷ 5 ∷ 6 ∷ 9 ∷ []) ≡ true

-- of what moves a lane, all but 0 and 1 end the connection
ends_else : (n : ℕ) → all.Moves n → (n ≡ 0 → ⊥) → (n ≡ 1 → ⊥) → Ends n
ends_else = all.each_move (λ n. (n ≡ 0 → ⊥) → (n ≡ 1 → ⊥) → Ends n) (λ a b. absurd (a refl)) (λ a b. absurd (b refl)) (λ a b. refl) (λ a b. refl) (λ a b. refl) (λ a b. refl) (λ a b. refl) (λ a b. refl)

ends_not : (n k : ℕ) → n ≡ k → among k (2 ∷ 3 ∷ 4 ∷ 5 ∷ 6 ∷ 9 ∷ []) ≡ false → Ends n → ⊥
ends_not n k e f h = clash (sym h ∙ ap (λ (n : ℕ). among n (2 ∷ 3 ∷ 4 ∷ 5 ∷ 6 ∷ 9 ∷ [])) e ∙ f)

stops : Lane → Moved → Type 0
stops l v = (v.order ≡ StopNow) ↔ (Ends v.refusal × (running_used l.state ≡ true))

ended_stops : (l : Lane) (n : ℕ) → Ends n → stops l (ended l n)
unfolding stops
ended_stops l n h = (λ e. (h, (order_stop_ended l n).0 e), λ q. (order_stop_ended l n).1 q.1)

received_stops : (l : Lane) (e : Event) → stops l (received l e)
unfolding stops
received_stops l e =
    ⊎_elim (λ z. (λ o. absurd (let x : 0 ≡ 9 = sym z ∙ ((order_stop_received l e).0 o).0 in omega arith), λ q. absurd (ends_not (received l e).refusal 0 z refl q.0)))
    (λ z. (λ o. (rw z refl, ((order_stop_received l e).0 o).1), λ q. (order_stop_received l e).1 (ap (λ (v : Moved). v.refusal) z, q.1)))
    (all.received_refusal l e)

moved_stops : (l : Lane) (n : ℕ) (i : Event) → all.Low n → stops l (moved_by l n i)
unfolding moved_by stops
moved_stops l n i h =
    cases (eqb n 0) (λ e. rw e (received_stops l i))
    (λ e. rw e (cases (eqb n 1) (λ f. rw f (λ z. absurd (let x : 0 ≡ 3 = z in omega arith), λ q. clash (sym q.0))) (λ f. rw f (ended_stops l n (ends_else n (all.low_moves n h) (eqb-false n 0 e) (eqb-false n 1 f))))))

module _ {l : Lane} {s old new : Bytes} {r : Received} (p : Receives l s old new r) where
  -- T2.L8: "Belt order 3, stop now, is given when a refusal that ends the connection meets Transporting, Stopped or Finished."
  pub receive_order_stop : (r.order ≡ StopNow) ↔ (Ends r.refusal × (running_used l.state ≡ true))
  unfolding stops
  receive_order_stop = ⊎_elim yes none (all.room p)
    where
      yes : length p.due ≤ length old → (r.order ≡ StopNow) ↔ (Ends r.refusal × (running_used l.state ≡ true))
      yes h =
          let v = moved_stops l p.checked.refusal (all.event p) (all.checked_low p.checks) in
          let e = all.told_refusal p h in
          (λ o. let q = v.0 (sym (all.told_order p h) ∙ o) in (subst Ends (sym e) q.0, q.1), λ q. all.told_order p h ∙ v.1 (subst Ends e q.0, q.1))

      none : length old < length p.due → (r.order ≡ StopNow) ↔ (Ends r.refusal × (running_used l.state ≡ true))
      none h =
          let e = all.fits_not p h in
          (λ o. absurd (let x : 0 ≡ 3 = sym (ap (λ (r : Received). r.order) e) ∙ o in omega arith), λ q. absurd (ends_not r.refusal 7 (ap (λ (r : Received). r.refusal) e) refl q.0))

  -- an order that only an accepted message gives
  given_by : (o : ℕ) → (o ≡ Run) ⊎ (o ≡ Cancel) → (P : Event → Type 0) → ((e : Event) → ((received l e).order ≡ o) ↔ P e)
      → (r.order ≡ o) ↔ ((r.refusal ≡ 0) × P (event_of r.message p.forecast))
  unfolding moved_by
  given_by o w P iff = (to, from)
    where
      from : (r.refusal ≡ 0) × P (event_of r.message p.forecast) → r.order ≡ o
      from (z, q) =
          let a = all.accepts p z in
          a.order ∙ (iff (event_of p.checked.message p.forecast)).1 (subst (λ (m : Message). P (event_of m p.forecast)) a.message q)

      not_none : {X : Type 0} → o ≡ 0 → X
      not_none e = absurd (⊎_elim (λ f. let x : ◌≡◌ {A = ℕ} 1 0 = sym f ∙ e in omega arith) (λ f. let x : ◌≡◌ {A = ℕ} 2 0 = sym f ∙ e in omega arith) w)

      not_end : {X : Type 0} (n : ℕ) → (ended l n).order ≡ o → X
      not_end n e = absurd (end_not (running_used l.state) o w e)

      chart-zero : (e : Event) → (received l e).order ≡ o → (received l e).refusal ≡ 0
      chart-zero e h = ⊎_elim (λ z. z) (λ z. not_end 9 (sym (ap (λ (v : Moved). v.order) z) ∙ h)) (all.received_refusal l e)

      moved_zero : (n : ℕ) (i : Event) → (moved_by l n i).order ≡ o → (moved_by l n i).refusal ≡ 0
      moved_zero n i e =
          cases (eqb n 0) (λ f. rw f (chart-zero i (rw f at e)))
          (λ f. cases (eqb n 1) (λ g. not_none (sym (rw (f, g) at e))) (λ g. not_end n (rw (f, g) at e)))

      yes : length p.due ≤ length old → r.order ≡ o → (r.refusal ≡ 0) × P (event_of r.message p.forecast)
      yes h e =
          let z : r.refusal ≡ 0 = all.told_refusal p h ∙ moved_zero p.checked.refusal (all.event p) (sym (all.told_order p h) ∙ e) in
          let a = all.accepts p z in
          (z, subst (λ (m : Message). P (event_of m p.forecast)) (sym a.message) ((iff (event_of p.checked.message p.forecast)).0 (sym a.order ∙ e)))

      to : r.order ≡ o → (r.refusal ≡ 0) × P (event_of r.message p.forecast)
      to e = ⊎_elim (λ h. yes h e) (λ h. not_none (sym e ∙ ap (λ (r : Received). r.order) (all.fits_not p h))) (all.room p)

  -- "A received StartTransport in Both with the offered id orders the belt to run (1)"
  pub receive_order_run : (r.order ≡ Run) ↔ ((r.refusal ≡ 0) × StartsOwn l (event_of r.message p.forecast) U)
  receive_order_run = given_by Run (inl refl) (λ e. StartsOwn l e U) (order_run_received l)

  -- "with another id, or in Ready, it orders cancel (2)"
  pub receive_order_cancel : (r.order ≡ Cancel) ↔ ((r.refusal ≡ 0) × StartsOther l (event_of r.message p.forecast) U)
  receive_order_cancel = given_by Cancel (inr refl) (λ e. StartsOther l e U) (order_cancel_received l)

-- sending: run with an accepted StartTransport, and no other order
module _ {l : Lane} {m : Message} {texts old new : Bytes} {r : Sent} (p : Sends l m texts old new r) where
  pub send_order_run : (r.order ≡ Run) ↔ ((r.refusal ≡ 0) × StartsOwn l (event_sent m texts) D)
  send_order_run = (to (all.decides p), from (all.decides p))
    where
      to : all.Decides l m texts old new r → r.order ≡ Run → (r.refusal ≡ 0) × StartsOwn l (event_sent m texts) D
      to (all.refused_by_case n e f) o = absurd (let x : 0 ≡ 1 = sym (ap (λ (r : Sent). r.order) e) ∙ o in omega arith)
      to (all.may_not_case a n e f) o = absurd (let x : 0 ≡ 1 = sym (ap (λ (r : Sent). r.order) e) ∙ o in omega arith)
      to (all.lacks_room a b h e f) o = absurd (let x : 0 ≡ 1 = sym (ap (λ (r : Sent). r.order) e) ∙ o in omega arith)
      to (all.goes a b h e f) o = (ap (λ (r : Sent). r.refusal) e, (order_run_sent l (event_sent m texts)).0 (sym (ap (λ (r : Sent). r.order) e) ∙ o))

      from : all.Decides l m texts old new r → (r.refusal ≡ 0) × StartsOwn l (event_sent m texts) D → r.order ≡ Run
      from (all.refused_by_case n e f) (z, q) = absurd (n (sym (ap (λ (r : Sent). r.refusal) e) ∙ z))
      from (all.may_not_case a n e f) (z, q) = absurd (let x : 8 ≡ 0 = sym (ap (λ (r : Sent). r.refusal) e) ∙ z in omega arith)
      from (all.lacks_room a b h e f) (z, q) = absurd (let x : 7 ≡ 0 = sym (ap (λ (r : Sent). r.refusal) e) ∙ z in omega arith)
      from (all.goes a b h e f) (z, q) = ap (λ (r : Sent). r.order) e ∙ (order_run_sent l (event_sent m texts)).1 q

  pub send_order_else : (r.order ≡ Run) ⊎ (r.order ≡ NoOrder)
  send_order_else = go (all.decides p)
    where
      go : all.Decides l m texts old new r → (r.order ≡ Run) ⊎ (r.order ≡ NoOrder)
      go (all.refused_by_case n e f) = inr (ap (λ (r : Sent). r.order) e)
      go (all.may_not_case a n e f) = inr (ap (λ (r : Sent). r.order) e)
      go (all.lacks_room a b h e f) = inr (ap (λ (r : Sent). r.order) e)
      go (all.goes a b h e f) = let o = ap (λ (r : Sent). r.order) e in ⊎_elim (λ q. inl (o ∙ q)) (λ q. inr (o ∙ q)) (order_sent_else l (event_sent m texts))

-- an input whose message passed `check`: what the chart makes of it is told, where what is owed fits
module _ {l : Lane} {s old new : Bytes} {r : Received} (p : Receives l s old new r) {c : Checked} (h : Checks s c) (z : c.refusal ≡ 0) where
  same_checked : p.checked ≡ c
  same_checked = check_only p.checks h

  moved_is : (v : Moved) → received l (event_of c.message p.forecast) ≡ v → all.moved p ≡ v
  moved_is v e = ap (λ (c : Checked). moved_by l c.refusal (event_of c.message p.forecast)) same_checked ∙ all.moved_on l c.refusal (event_of c.message p.forecast) z ∙ e

  owed : (v : Moved) → received l (event_of c.message p.forecast) ≡ v → Owes s c.message v.refusal p.due
  owed v e = subst (λ (v : Moved). Owes s c.message v.refusal p.due) (moved_is v e) (subst (λ (x : Checked). Owes s x.message (all.moved p).refusal p.due) same_checked p.owes)

  told_as : (v : Moved) → received l (event_of c.message p.forecast) ≡ v → length p.due ≤ length old → r ≡ told c v (length p.due)
  told_as v e f = all.fits p f ∙ ap (λ (x : Checked). told x (all.moved p) (length p.due)) same_checked ∙ ap (λ (v : Moved). told c v (length p.due)) (moved_is v e)

  -- nothing is owed for a message that is no CheckAlive
  owes_none : {b : Bytes} → Owes s c.message 0 b → (c.message.kind ≡ 10 → ⊥) → b ≡ []
  unfolding asks_reply
  owes_none (nothing_yet e f) n = f
  owes_none (a_notice y w f) n = absurd (y refl)
  owes_none (a_reply y a b) n = clash (let x : false ≡ true = rw (ne_eqb c.message.kind 10 n) at a in sym x)
  owes_none (no_reply y a f) n = f

  owes_notice : (n : ℕ) {b : Bytes} → Owes s c.message (suc (suc n)) b → b ≡ notice (suc (suc n))
  owes_notice n (nothing_yet e f) = absurd (omega arith)
  owes_notice n (a_notice y w f) = f
  owes_notice n (a_reply y a b) = absurd (omega arith)
  owes_notice n (no_reply y a f) = absurd (omega arith)

  start_told : (order : ℕ) → c.message.kind ≡ StartTransport → received l (event_of c.message p.forecast) ≡ started l (id_of c.message) order → r ≡ told c (started l (id_of c.message) order) 0
  start_told order k e =
      let d : p.due ≡ [] = owes_none (owed (started l (id_of c.message) order) e) (λ x. let y : ◌≡◌ {A = ℕ} 7 10 = sym k ∙ x in omega arith) in
      told_as (started l (id_of c.message) order) e (let y = ap length d in omega arith) ∙ ap (λ (b : Bytes). told c (started l (id_of c.message) order) (length b)) d

  -- T2.L6
  pub receive_start_run : c.message.kind ≡ StartTransport → l.side ≡ U → l.state ≡ Both → l.offered ≡ id_of c.message
      → r ≡ told c (started l (id_of c.message) Run) 0
  receive_start_run k es et ei = start_told Run k (start_run l (event_of c.message p.forecast) k es et ei)

  -- T2.L5
  pub receive_start_cancel : c.message.kind ≡ StartTransport → l.side ≡ U → (l.state ≡ Ready) ⊎ ((l.state ≡ Both) × (l.offered ≡ id_of c.message → ⊥))
      → r ≡ told c (started l (id_of c.message) Cancel) 0
  receive_start_cancel k es w = start_told Cancel k (⊎_elim (start_cancel_ready l (event_of c.message p.forecast) k es) (λ q. start_cancel_other l (event_of c.message p.forecast) k es q.0 q.1) w)

  -- T2.L7: the Notification of 9 has 99 bytes
  pub receive_foreign_stop : (c.message.kind ≡ StopTransport) ⊎ (c.message.kind ≡ TransportFinished) → (l.running ≡ id_of c.message → ⊥) → 99 ≤ length old
      → r ≡ told c (ended l 9) 99
  receive_foreign_stop w n f =
      let e = foreign_stop l (event_of c.message p.forecast) w n in
      let d : p.due ≡ notice 9 = owes_notice 7 (owed (ended l 9) e) in
      let y : length p.due ≡ 99 = ap length d ∙ notice_lengths.5 in
      told_as (ended l 9) e (omega arith) ∙ ap (told c (ended l 9)) y
