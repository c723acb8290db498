-- Every call has a result that meets its promise, so no premise that a promise is met is empty.
use Rattle.std.specs.Prelude.{Option, Some, None}
use Rattle.value.specs.declared.text.Span.{Span}
use mathlib.Core.Path.{◌≡◌, refl, sym, ap, subst, ◌∙◌}
use mathlib.Core.List.{[], ◌++◌}
use mathlib.Core.Bool.{true}
use Prim.Native.Nat.{ℕ, ◌+◌, ◌-◌}
use native.Mathlib.Omega.{arith}
use lib.ListN.{length, take, drop}
use lib.Seq.{drop-append_seam, take-append_seam}
use lib.Dec.{eqb}
use borrow.Author.Tests.{eqb-true, eqb-false}
use Rattle.number.proofs.Tests.{cases}
use Rattle.grammar.specs.Bytes.{Bytes}
use Rattle.grammar.specs.Message.{Laid}
use Rattle.grammar.specs.Answer.{Answer, Answers, ends_at, more_from, malformed_at, too_long_from}
use Rattle.model.proofs.Theorems.{answers_total}
use Rattle.lane.specs.declared.Lane.{Lane}
use Rattle.message.specs.Checked.{Checks, ends, more, malformed, too_long, checked_as, unread}
use Rattle.message.specs.declared.checking.Checked.{Checked}
use Rattle.message.specs.declared.cells.Message.{Message}
use Rattle.meant.specs.Written.{written_of}
use Rattle.meant.specs.Notices.{notice}
use Rattle.meant.specs.First.{first_in}
use Rattle.meant.specs.Replies.{same_of, bare_of, Reply, same_id_case, no_id_case}
use Rattle.promises.specs.Receiving.{asks_reply, reply_id, moved_by, Owes, nothing_yet, a_notice, a_reply, no_reply, answer_of, Receives}
use Rattle.meant.specs.Events.{Carried, no_forecast_case, a_forecast, event_of, forecast_id, Carries, carries_none, carries_one, Sound}
use Rattle.promises.specs.Sending as sending
use Rattle.promises.specs.Sending.{Sends}
use Rattle.promises.specs.declared.Received.{Received}
use Rattle.promises.specs.declared.Sent.{Sent}
use Rattle.promises.proofs.SoundLaws.{id_sound, forecast_sound}

-- the bytes of a message that ends
ended_bytes : (s g w rest : Bytes) (start end : ℕ) → s ≡ g ++ (w ++ rest) → start ≡ length g → end ≡ length g + length w → take (end - start) (drop start s) ≡ w
ended_bytes s g w rest start end e a b =
    let n : end - start ≡ length w = omega arith in
    ap (λ (k : ℕ). take k (drop start s)) n ∙ ap (λ (k : ℕ). take (length w) (drop k s)) a ∙ ap (λ (x : Bytes). take (length w) (drop (length g) x)) e ∙ ap (take (length w)) (drop-append_seam g (w ++ rest)) ∙ take-append_seam w rest

pub check_total : (s : Bytes) → (c : Checked) × Checks s c
check_total s = go (answers_total s).0 (answers_total s).1
  where
    go : (a : Answer) → Answers s a → (c : Checked) × Checks s c
    go (ends_at start end) x =
        let l = x.message.layout in
        (checked_as start end l, ends start end x l (subst (λ (b : Bytes). Laid b l) (sym (ended_bytes s x.g x.bytes x.rest start end x.behind.whole x.starts x.ends)) x.message.laid) refl)
    go (more_from start) x = (unread 1 start 0, more start x refl)
    go (malformed_at start place) x = (unread 2 start place, malformed start place x refl)
    go (too_long_from start) x = (unread 3 start 0, too_long start x refl)

reply_total : (s : Bytes) (w : Option Span) → Sound s w → (b : Bytes) × Reply s w b
reply_total s None h = (written_of bare_of [], no_id_case refl refl)
reply_total s (Some p) h = let (v, t, l, k) = h p refl in (written_of (same_of (length v)) v, same_id_case p refl l v t k refl)

carried_total : (s : Bytes) (w : Option Span) → Sound s w → (f : Carried) × Carries s w f
carried_total s None h = (no_forecast_case, carries_none refl refl)
carried_total s (Some p) h = let (v, t, l, k) = h p refl in (a_forecast v, carries_one p refl v t refl)

owed_total : (s : Bytes) (m : Message) (n : ℕ) → Sound s (reply_id m) → (b : Bytes) × Owes s m n b
owed_total s m n h = cases (eqb n 1) (λ e. ([], nothing_yet (eqb-true n 1 e) refl)) (λ e. cases (eqb n 0) (λ z. cases (asks_reply m) (λ a. replied (eqb-true n 0 z) a) (λ a. ([], no_reply (eqb-true n 0 z) a refl))) (λ z. (notice n, a_notice (eqb-false n 0 z) (eqb-false n 1 e) refl)))
  where
    replied : n ≡ 0 → asks_reply m ≡ true → (b : Bytes) × Owes s m n b
    replied z a = let (b, x) = reply_total s (reply_id m) h in (b, a_reply z a x)

-- "Every byte string, every lane record and every caller's buffer .. gets one defined reply": one at least; `receive-only` says one at most
pub receive_total : (l : Lane) (s old : Bytes) → (new : Bytes) × (r : Received) × Receives l s old new r
receive_total l s old =
    let (c, h) = check_total s in
    let (f, k) = carried_total s (forecast_id c.message) (forecast_sound h) in
    let (b, o) = owed_total s c.message (moved_by l c.refusal (event_of c.message f)).refusal (id_sound h) in
    (first_in b old, answer_of l c (event_of c.message f) b (length old), record { checked = c; checks = h; forecast = f; carries = k; due = b; owes = o; answer = refl; buffer = refl })

pub send_total : (l : Lane) (m : Message) (texts old : Bytes) → (new : Bytes) × (r : Sent) × Sends l m texts old new r
send_total l m texts old = (sending.buffer_of l m texts old, sending.answer_of l m texts (length old), record { answer = refl; buffer = refl })
