-- T2.L2: in any run of calls, each refusal and each record is the one that document 01 makes of the record before; no call follows only the first message.
use Rattle.std.specs.Prelude.{Option, Some, None}
use mathlib.Core.Path.{◌≡◌, refl, sym, ap, subst, ◌∙◌}
use mathlib.Core.List.{List, [], ◌∷◌}
use mathlib.Core.Bool.{Bool, true, false}
use mathlib.Core.Logic.{⊎_elim}
use Prim.Native.Nat.{ℕ}
use native.Mathlib.Omega.{arith}
use lib.ListN.{length}
use lib.Dec.{eqb}
use borrow.Author.Tests.{eqb-true, eq-eqb, ne_eqb, le-leb, lt-leb}
use Rattle.exact.specs.Chain.{clash}
use Rattle.grammar.specs.Bytes.{Bytes}
use Rattle.lane.specs.Names.{ProtocolError}
use Rattle.lane.specs.Chart.{among, Received as IsReceived}
use Rattle.lane.specs.Record.{blank, step_in, step_out, received}
use Rattle.lane.proofs.Laws.{received_by_lem, sent_by}
use Rattle.lane.specs.StepForStep.{gets, sends as puts, Follows as ByChart}
use Rattle.lane.proofs.StepForStep.{charted}
use Rattle.lane.specs.declared.Event.{Event}
use Rattle.lane.specs.declared.Lane.{Lane}
use Rattle.lane.specs.declared.Moved.{Moved}
use Rattle.message.specs.Checked.{Checks}
use Rattle.message.specs.declared.checking.Checked.{Checked}
use Rattle.message.specs.declared.cells.Message.{Message}
use Rattle.message.proofs.Theorems.{check_only}
use Rattle.number.proofs.Tests.{cases}
use Rattle.meant.specs.Meant.{refusal_of}
use Rattle.meant.specs.Written.{written_of}
use Rattle.meant.specs.Events.{Carried, event_of, forecast_id, Carries, event_sent}
use Rattle.meant.proofs.EventLaws.{carries_only}
use Rattle.promises.specs.Receiving.{moved_by, Owes, Receives}
use Rattle.promises.specs.Sending as sending
use Rattle.promises.specs.Sending.{Sends}
use Rattle.promises.specs.Runs.{Call, receives, sends, loses, Makes, by_receiving, by_sending, by_losing, numbered, Outcome, waits, ends, moves, Follows, answers, lacks, refuses, may_not_case, no_room_case, goes, lost, Turn, Run, calls_of}
use Rattle.promises.specs.declared.Received.{Received}
use Rattle.promises.specs.declared.Sent.{Sent}
use Rattle.promises.proofs.Theorems as all
use Rattle.promises.proofs.Totals.{receive_total, send_total}

-- the refusals of `check` that end the connection
abbrev Ending : ℕ → Type 0
Ending n = among n (2 ∷ 3 ∷ 4 ∷ 5 ∷ 6 ∷ []) ≡ true

-- of 0 to 6, all but 0 and 1
low_ends : (n : ℕ) → all.Low n → eqb n 0 ≡ false → eqb n 1 ≡ false → Ending n
low_ends n h e f = rw (e, f) at h

not_ending : {X : Type 0} (n k : ℕ) → n ≡ k → among k (2 ∷ 3 ∷ 4 ∷ 5 ∷ 6 ∷ []) ≡ false → Ending n → X
not_ending n k e f h = clash (sym h ∙ ap (λ (n : ℕ). among n (2 ∷ 3 ∷ 4 ∷ 5 ∷ 6 ∷ [])) e ∙ f)

received_number : (l : Lane) (i : Event) → (received l i).refusal ≡ numbered (step_in l i) ProtocolError
received_number l i = go (step_in l i) refl
  where
    go : (st : Option ℕ) → step_in l i ≡ st → (received l i).refusal ≡ numbered (step_in l i) ProtocolError
    go (Some n) e = ap (λ (v : Moved). v.refusal) (received_by_lem l i (Some n) e) ∙ rw e refl
    go None e = ap (λ (v : Moved). v.refusal) (received_by_lem l i None e) ∙ rw e refl

-- what the promise moves a lane by is the outcome
outcome : (l : Lane) (c : Checked) (f : Carried) → all.Low c.refusal → Outcome l c f (moved_by l c.refusal (event_of c.message f)).refusal (moved_by l c.refusal (event_of c.message f)).lane
unfolding moved_by
outcome l c F h =
    cases (eqb c.refusal 0) (λ e. rw e (moves (eqb-true c.refusal 0 e) (received_number l (event_of c.message F)) (charted l (gets (event_of c.message F)) (received l (event_of c.message F)).lane refl)))
    (λ e. rw e (cases (eqb c.refusal 1) (λ f. rw f (waits (eqb-true c.refusal 1 f) refl refl)) (λ f. rw f (ends (low_ends c.refusal h e f) refl refl))))

at : {l : Lane} {n n' : ℕ} {x x' : Lane} {c : Call} → n' ≡ n → x' ≡ x → Follows l n x c → Follows l n' x' c
at {l} {n} {n'} {x} {x'} {c} e f p = subst (λ (n : ℕ). Follows l n x' c) (sym e) (subst (λ (x : Lane). Follows l n x c) (sym f) p)

receiving_follows : {l : Lane} {s old new : Bytes} {r : Received} → Receives l s old new r → Follows l r.refusal r.lane (receives s old)
receiving_follows {l} {s} {old} {new} {r} p =
    let o = outcome l p.checked p.forecast (all.checked_low p.checks) in
    ⊎_elim (λ h. at (all.told_refusal p h) (all.told_lane p h) (answers p.checked p.forecast p.due p.checks p.carries o p.owes h))
    (λ h. lacks p.checked p.forecast p.due (all.moved p).refusal (all.moved p).lane p.checks p.carries o p.owes h (ap (λ (r : Received). r.refusal) (all.fits_not p h)) (ap (λ (r : Received). r.lane) (all.fits_not p h)))
    (all.room p)

-- the step of a message that may be sent, and of one that may not
step_out_lem : (l : Lane) (m : Message) (texts : Bytes) → (sending.moved_by l m texts).refusal ≡ 0 → (x : ℕ) × (step_out l (event_sent m texts) ≡ Some x)
step_out_lem l m texts z = go (step_out l (event_sent m texts)) refl
  where
    go : (st : Option ℕ) → step_out l (event_sent m texts) ≡ st → (x : ℕ) × (step_out l (event_sent m texts) ≡ Some x)
    go (Some x) e = (x, e)
    go None e = absurd (let y : 8 ≡ 0 = sym (ap (λ (v : Moved). v.refusal) (sent_by l (event_sent m texts) None e)) ∙ z in omega arith)

no_step_out : (l : Lane) (m : Message) (texts : Bytes) → ((sending.moved_by l m texts).refusal ≡ 0 → ⊥) → step_out l (event_sent m texts) ≡ None
no_step_out l m texts n = go (step_out l (event_sent m texts)) refl
  where
    go : (st : Option ℕ) → step_out l (event_sent m texts) ≡ st → step_out l (event_sent m texts) ≡ None
    go (Some x) e = absurd (n (ap (λ (v : Moved). v.refusal) (sent_by l (event_sent m texts) (Some x) e)))
    go None e = e

sending_follows : {l : Lane} {m : Message} {texts old new : Bytes} {r : Sent} → Sends l m texts old new r → Follows l r.refusal r.lane (sends m texts old)
sending_follows {l} {m} {texts} {old} {new} {r} p = go (all.decides p)
  where
    go : all.Decides l m texts old new r → Follows l r.refusal r.lane (sends m texts old)
    go (all.refused_by_case n e f) = refuses n (ap (λ (r : Sent). r.refusal) e) (ap (λ (r : Sent). r.lane) e)
    go (all.may_not_case a n e f) = may_not_case a (no_step_out l m texts n) (ap (λ (r : Sent). r.refusal) e) (ap (λ (r : Sent). r.lane) e)
    go (all.lacks_room a b h e f) = let (x, q) = step_out_lem l m texts b in no_room_case x a q h (ap (λ (r : Sent). r.refusal) e) (ap (λ (r : Sent). r.lane) e)
    go (all.goes a b h e f) = let (x, q) = step_out_lem l m texts b in goes x a q h (ap (λ (r : Sent). r.refusal) e) (charted l (puts (event_sent m texts)) r.lane (ap (λ (r : Sent). r.lane) e))

follows : (l : Lane) (n : ℕ) (l' : Lane) (c : Call) → Makes l n l' c → Follows l n l' c
follows l n l' (receives s old) (by_receiving new r p en el) = at en el (receiving_follows p)
follows l n l' (sends m texts old) (by_sending new r p en el) = at en el (sending_follows p)
follows l n l' loses (by_losing en el) = lost en el

pub step_for_step : (l : Lane) (ts : List Turn) → Run Makes l ts → Run Follows l ts
step_for_step l [] r = tt
step_for_step l (t ∷ ts) r = (follows l t.refusal t.lane t.call r.0, step_for_step t.lane ts r.1)

-- the chart makes one record
chart_only : (received : Bool) (l : Lane) (e : Event) (step : Option ℕ) {x y o : Lane} → ByChart received l e step x o → ByChart received l e step y o → x ≡ y
chart_only received l e step {x} {y} p q = go step refl
  where
    go : (st : Option ℕ) → step ≡ st → x ≡ y
    go (Some n) e = p.moves n e ∙ sym (q.moves n e)
    go None e = p.refuses e ∙ sym (q.refuses e)

-- a checked input has one outcome
module _ {l : Lane} {c : Checked} {F : Carried} {n m : ℕ} {x y : Lane} where
  outcome_only : Outcome l c F n x → Outcome l c F m y → (n ≡ m) × (x ≡ y)
  outcome_only (waits e f g) (waits e' f' g') = (f ∙ sym f', g ∙ sym g')
  outcome_only (waits e f g) (ends e' f' g') = not_ending c.refusal 1 e refl e'
  outcome_only (waits e f g) (moves e' f' g') = absurd (omega arith)
  outcome_only (ends e f g) (waits e' f' g') = not_ending c.refusal 1 e' refl e
  outcome_only (ends e f g) (ends e' f' g') = (f ∙ sym f', g ∙ sym g')
  outcome_only (ends e f g) (moves e' f' g') = not_ending c.refusal 0 e' refl e
  outcome_only (moves e f g) (waits e' f' g') = absurd (omega arith)
  outcome_only (moves e f g) (ends e' f' g') = not_ending c.refusal 0 e refl e'
  outcome_only (moves e f g) (moves e' f' g') = (f ∙ sym f', chart_only IsReceived l (event_of c.message F) (step_in l (event_of c.message F)) g g')

-- what is due for an outcome is one
due_only : {l : Lane} {s : Bytes} {c c' : Checked} {F F' : Carried} {n m : ℕ} {x y : Lane} {b b' : Bytes} → Checks s c → Checks s c' → Carries s (forecast_id c.message) F → Carries s (forecast_id c'.message) F' → Outcome l c F n x → Outcome l c' F' m y → Owes s c.message n b → Owes s c'.message m b' → (n ≡ m) × (x ≡ y) × (b ≡ b')
due_only {l} {s} {c} {c'} {F} {F'} {n} {m} {x} {y} {b} {b'} h h' i i' o o' w w' =
    let q : c' ≡ c = check_only h' h in
    let k : F' ≡ F = carries_only (subst (λ (c : Checked). Carries s (forecast_id c.message) F') q i') i in
    let (e, f) = outcome_only o (subst (λ (F : Carried). Outcome l c F m y) k (subst (λ (c : Checked). Outcome l c F' m y) q o')) in
    (e, f, all.owes_one w (subst (λ (n : ℕ). Owes s c.message n b') (sym e) (subst (λ (c : Checked). Owes s c.message m b') q w')))

-- what sending answers by document 01 is what it promises
sends_as : {l : Lane} {m : Message} {texts old : Bytes} {n : ℕ} {x : Lane} → Follows l n x (sends m texts old) → (n ≡ (sending.answer_of l m texts (length old)).refusal) × (x ≡ (sending.answer_of l m texts (length old)).lane)
unfolding sending.answer_of
sends_as {l} {m} {texts} {old} (refuses z e f) = let a = ne_eqb (refusal_of m texts) 0 z in (e ∙ rw a refl, f ∙ rw a refl)
sends_as {l} {m} {texts} {old} (may_not_case z q e f) =
    let a = eq-eqb (refusal_of m texts) 0 z in
    let v = sent_by l (event_sent m texts) None q in
    (e ∙ rw (a, v) refl, f ∙ rw (a, v) refl)
sends_as {l} {m} {texts} {old} (no_room_case k z q h e f) =
    let a = eq-eqb (refusal_of m texts) 0 z in
    let v = sent_by l (event_sent m texts) (Some k) q in
    let b = lt-leb (length (written_of m texts)) (length old) h in
    (e ∙ rw (a, v, b) refl, f ∙ rw (a, v, b) refl)
sends_as {l} {m} {texts} {old} (goes k z q h e f) =
    let a = eq-eqb (refusal_of m texts) 0 z in
    let v = sent_by l (event_sent m texts) (Some k) q in
    let b = le-leb (length (written_of m texts)) (length old) h in
    (e ∙ rw (a, v, b) refl, f.moves k q ∙ rw (a, v, b) refl)

-- no second refusal, and no second record, follows a call
pub follows_only : {l : Lane} (c : Call) {n m : ℕ} {x y : Lane} → Follows l n x c → Follows l m y c → (n ≡ m) × (x ≡ y)
follows_only (receives s old) (answers c F b h y o w f) (answers c' F' b' h' y' o' w' f') = let (e, g, i) = due_only h h' y y' o o' w w' in (e, g)
follows_only (receives s old) (answers c F b h y o w f) (lacks c' F' b' k x h' y' o' w' f' e g) = let (i, j, q) = due_only h h' y y' o o' w w' in absurd (let z = ap length q in omega arith)
follows_only (receives s old) (lacks c F b k x h y o w f e g) (answers c' F' b' h' y' o' w' f') = let (i, j, q) = due_only h h' y y' o o' w w' in absurd (let z = ap length q in omega arith)
follows_only (receives s old) (lacks c F b k x h y o w f e g) (lacks c' F' b' k' x' h' y' o' w' f' e' g') = (e ∙ sym e', g ∙ sym g')
follows_only (sends m texts old) p q = let (a, b) = sends_as p in let (c, d) = sends_as q in (a ∙ sym c, b ∙ sym d)
follows_only loses (lost e f) (lost e' f') = (e ∙ sym e', f ∙ sym f')

-- what follows a call is what it promises, so both runs are the same
makes : (l : Lane) (n : ℕ) (l' : Lane) (c : Call) → Follows l n l' c → Makes l n l' c
makes l n l' (receives s old) f =
    let (new, r, p) = receive_total l s old in
    let (e, g) = follows_only (receives s old) f (receiving_follows p) in
    by_receiving new r p e g
makes l n l' (sends m texts old) f =
    let (new, r, p) = send_total l m texts old in
    let (e, g) = follows_only (sends m texts old) f (sending_follows p) in
    by_sending new r p e g
makes l n l' loses (lost e f) = by_losing e f

pub step_for_step_back : (l : Lane) (ts : List Turn) → Run Follows l ts → Run Makes l ts
step_for_step_back l [] r = tt
step_for_step_back l (t ∷ ts) r = (makes l t.refusal t.lane t.call r.0, step_for_step_back t.lane ts r.1)

-- every list of calls has a run ..
made : (l : Lane) (c : Call) → (n : ℕ) × (l' : Lane) × Makes l n l' c
made l (receives s old) = let (new, r, p) = receive_total l s old in (r.refusal, r.lane, by_receiving new r p refl refl)
made l (sends m texts old) = let (new, r, p) = send_total l m texts old in (r.refusal, r.lane, by_sending new r p refl refl)
made l loses = (0, blank l, by_losing refl refl)

pub run_total : (l : Lane) (cs : List Call) → (ts : List Turn) × (calls_of ts ≡ cs) × Run Makes l ts
run_total l [] = ([], refl, tt)
run_total l (c ∷ cs) =
    let (n, x, m) = made l c in
    let (ts, e, r) = run_total x cs in
    (record { call = c; refusal = n; lane = x } ∷ ts, ap (λ (cs : List Call). c ∷ cs) e, (m, r))

-- .. and one only
same_turn : (t u : Turn) → t.call ≡ u.call → t.refusal ≡ u.refusal → t.lane ≡ u.lane → t ≡ u
same_turn t u a b c =
    ap (λ (k : Call). record { call = k; refusal = t.refusal; lane = t.lane }) a
    ∙ ap (λ (n : ℕ). record { call = u.call; refusal = n; lane = t.lane }) b
    ∙ ap (λ (l : Lane). record { call = u.call; refusal = u.refusal; lane = l }) c

pub run_only : (l : Lane) (ts us : List Turn) → calls_of ts ≡ calls_of us → Run Follows l ts → Run Follows l us → ts ≡ us
run_only l [] [] e p q = refl
run_only l [] (u ∷ us) e p q = absurd (let z : ◌≡◌ {A = ℕ} 0 1 = cc in omega arith)
run_only l (t ∷ ts) [] e p q = absurd (let z : ◌≡◌ {A = ℕ} 0 1 = cc in omega arith)
run_only l (t ∷ ts) (u ∷ us) e p q =
    let c : u.call ≡ t.call = cc in
    let cs : calls_of ts ≡ calls_of us = cc in
    let (n, x) = follows_only t.call p.0 (subst (λ (c : Call). Follows l u.refusal u.lane c) c q.0) in
    ap (λ (t : Turn). t ∷ ts) (same_turn t u (sym c) n x) ∙ ap (λ (ts : List Turn). u ∷ ts) (run_only t.lane ts us cs p.1 (subst (λ (l : Lane). Run Follows l us) (sym x) q.1))
