-- What the promises exclude: "a reader that refuses everything or gives one fixed message"; "a lane that does nothing, or follows the first message and then only claims to".
use Rattle.std.specs.Prelude.{Some, None}
use mathlib.Core.Path.{◌≡◌, refl, sym, ap, ◌∙◌}
use mathlib.Core.List.{[]}
use mathlib.Core.Logic.{◌⊎◌, inl, inr, ⊎_elim}
use Prim.Native.Nat.{ℕ}
use native.Mathlib.Omega.{arith}
use Rattle.grammar.specs.Bytes.{Bytes, text}
use Rattle.lane.specs.Names.{D, DescribedDown, ServiceDescription, MayNotBeSent, ProtocolError}
use Rattle.lane.specs.Chart.{chart, by_rows, next}
use Rattle.lane.specs.Record.{fresh, step_in, step_out}
use Rattle.lane.specs.declared.Event.{Event}
use Rattle.lane.specs.declared.Lane.{Lane}
use Rattle.message.specs.Checked.{Checks}
use Rattle.message.specs.Messages.{message_from}
use Rattle.message.specs.declared.checking.Checked.{Checked}
use Rattle.message.specs.declared.cells.Message.{Message}
use Rattle.meant.specs.Meant.{refusal_of}
use Rattle.meant.specs.Events.{Carried, event_of, event_sent}
use Rattle.promises.specs.Runs.{receives, sends, Outcome, waits, ends, moves, Follows, answers, lacks, refuses, may_not_case, no_room_case, goes}
use Rattle.promises.proofs.BenchCalls.{bench_carried}
use Rattle.promises.proofs.WholeHandover.{texts, service, service_good}

-- P2
abbrev alive : Bytes
alive = text "<Hermes><CheckAlive/></Hermes>"

-- P2 is accepted by whatever keeps the promise of `check`
pub not_all_refused : (c : Checked) → Checks alive c → c.refusal ≡ 0
not_all_refused c h = (bench_carried.1.0.0 [] c h).0

-- and what is told of P2 is not what is told of P5
pub not_one_message : (c c' : Checked) → Checks alive c → Checks (text "<Hermes><X><Hermes></Hermes></X></Hermes>") c' → c.message ≡ c'.message → ⊥
not_one_message c c' h h' e =
    let a = (bench_carried.1.0.0 [] c h).3 in
    let b = (bench_carried.1.1.1.1.0.0 [] c' h').3 in
    let x : ◌≡◌ {A = ℕ} 10 0 = sym a ∙ ap (λ (m : Message). m.kind) e ∙ b in
    omega arith

-- P2 is answered by 0 in every lane, if there is room
alive_step : (l : Lane) (i : Event) → i.kind ≡ 10 → step_in l i ≡ Some l.state
unfolding next
alive_step l i e = rw e refl

alive_outcome : {l l' : Lane} {c : Checked} {F : Carried} {n : ℕ} → Outcome l c F n l' → c.refusal ≡ 0 → c.message.kind ≡ 10 → n ≡ 0
alive_outcome (waits e f g) z k = absurd (omega arith)
alive_outcome (ends e f g) z k = f ∙ z
alive_outcome {l} {c = c} {F} (moves e f g) z k = f ∙ rw (alive_step l (event_of c.message F) k) refl

alive_answered : {l l' : Lane} {n : ℕ} {old : Bytes} → Follows l n l' (receives alive old) → (n ≡ 0) ⊎ (n ≡ 7)
alive_answered (answers c F b h y o w f) = inl (alive_outcome o (not_all_refused c h) (bench_carried.1.0.0 [] c h).3)
alive_answered (lacks c F b k x h y o w f e g) = inr e

-- no lane always asks for more
pub not_lazy : {l l' : Lane} {old : Bytes} → Follows l 1 l' (receives alive old) → ⊥
not_lazy p = ⊎_elim (λ e. omega arith) (λ e. omega arith) (alive_answered p)

-- nor says 9 to what the chart lets pass
pub not_nine : {l l' : Lane} {old : Bytes} → Follows l ProtocolError l' (receives alive old) → ⊥
not_nine p = ⊎_elim (λ e. omega arith) (λ e. omega arith) (alive_answered p)

-- nor refuses to send: the downstream side's first ServiceDescription may be sent
service_step : (i : Event) → i.kind ≡ ServiceDescription → step_out (fresh D) i ≡ Some DescribedDown
unfolding next by_rows chart
service_step i e = rw e refl

mute_never : {m : Message} {texts old : Bytes} {l' : Lane} → m.kind ≡ ServiceDescription → refusal_of m texts ≡ 0 → Follows (fresh D) MayNotBeSent l' (sends m texts old) → ⊥
mute_never k z (refuses n e f) = n z
mute_never {m} {texts} k z (may_not_case a q e f) = let x : Some DescribedDown ≡ None = sym (service_step (event_sent m texts) k) ∙ q in let y : ◌≡◌ {A = ℕ} 0 1 = cc in omega arith
mute_never k z (no_room_case x a q h e f) = omega arith
mute_never k z (goes x a q h e f) = omega arith

pub not_mute : {old : Bytes} {l' : Lane} → Follows (fresh D) MayNotBeSent l' (sends service texts old) → ⊥
unfolding message_from
not_mute p = mute_never refl service_good p
