-- The table P carried to the calls: each row is what `read`, `check`, `int_of`, `number_of` and `receive` answer.
use mathlib.Core.Path.{◌≡◌, sym, ap, subst, ◌∙◌}
use mathlib.Core.List.{List, [], ◌∷◌, ◌++◌, append-nil}
use Prim.Native.Nat.{◌≤◌}
use native.Mathlib.Omega.{arith}
use lib.ListN.{length}
use Rattle.exact.specs.Exact.{done, sound}
use Rattle.grammar.specs.Bytes.{Bytes, text}
use Rattle.grammar.specs.Limits.{MESSAGE}
use Rattle.grammar.specs.Message.{Message as IsMessage}
use Rattle.grammar.specs.Answer.{Answer, Answers, ends_at, more_from, malformed_at, too_long_from}
use Rattle.model.specs.Messages.{message_p}
use Rattle.model.proofs.Messages.{message_exact}
use Rattle.model.proofs.Answers.{answered}
use Rattle.model.proofs.Theorems.{answers_only}
use Rattle.number.specs.Whole.{int_of, capped, paper as int_paper}
use Rattle.number.specs.Positive.{Number, number_of, decimals_of, number_read}
use Rattle.std.specs.Prelude.{Option}
use Rattle.number.specs.declared.Int.{Int}
use Rattle.number.specs.declared.Positive.{Positive}
use Rattle.lane.specs.Record.{blank, received}
use Rattle.lane.specs.Free.{passed}
use Rattle.lane.proofs.Free.{check_alive_received, unknown_received}
use Rattle.lane.specs.declared.Event.{Event}
use Rattle.lane.specs.declared.Lane.{Lane}
use Rattle.lane.specs.declared.Moved.{Moved}
use Rattle.message.specs.Checked.{Checks, ends, more, malformed, too_long, unread}
use Rattle.message.specs.declared.checking.Checked.{Checked}
use Rattle.message.specs.declared.cells.Message.{Message}
use Rattle.meant.specs.Events.{event_of}
use Rattle.promises.specs.Receiving.{moved_by, Receives}
use Rattle.promises.specs.Bench.{Case, reads, says, whole, positive, receives, reading_in, reading_of, Holds, All, bench, bench_holds}
use Rattle.promises.specs.declared.Received.{Received}
use Rattle.promises.proofs.Theorems as all
use Rattle.promises.proofs.SentReceived.{Finds, finds}

-- what a check shows of an answer
abbrev pub Shows : Answer → Checked → Type 0
Shows (ends_at start end) c = (c.start ≡ start) × (c.end ≡ end)
Shows (more_from start) c = c ≡ unread 1 start 0
Shows (malformed_at start place) c = c ≡ unread 2 start place
Shows (too_long_from start) c = c ≡ unread 3 start 0

-- what receiving tells of it in a lane, with room
abbrev pub Tells : Lane → Answer → Received → Type 0
Tells l (ends_at start end) r = r.used ≡ end
Tells l (more_from start) r = (r.refusal ≡ 1) × (r.lane ≡ l)
Tells l (malformed_at start place) r = (r.refusal ≡ 2) × (r.lane ≡ blank l) × (r.place ≡ place)
Tells l (too_long_from start) r = (r.refusal ≡ 3) × (r.lane ≡ blank l)

-- what the calls answer to a row
abbrev pub Carried : Case → Type 0
Carried (reads s a) =
    ((b : Answer) → Answers (text s) b → b ≡ a)
    × ((c : Checked) → Checks (text s) c → Shows a c)
    × ((l : Lane) (old new : Bytes) (r : Received) → Receives l (text s) old new r → 525 ≤ length old → Tells l a r)
Carried (says s end kind) =
    ((rest : Bytes) (c : Checked) → Checks (text s ++ rest) c → (c.refusal ≡ 0) × (c.start ≡ 0) × (c.end ≡ end) × (c.message.kind ≡ kind))
    × ((l : Lane) (rest old new : Bytes) (r : Received) → Receives l (text s ++ rest) old new r → 525 ≤ length old
    → (r.refusal ≡ 0) × (r.lane ≡ (passed l).lane) × (r.used ≡ end) × (r.message.kind ≡ kind))
Carried (whole s x) = (r : Option Int) → int_paper r ≡ capped (int_of (text s)) → int_paper r ≡ capped x
Carried (positive s x) = (r : Option Positive) → r ≡ number_read (number_of (text s)) (decimals_of (text s)) → r ≡ number_read x (decimals_of (text s))
Carried (receives l s v) =
    (rest old new : Bytes) (r : Received) → Receives l (text s ++ rest) old new r → 525 ≤ length old
    → (r.refusal ≡ v.refusal) × (r.lane ≡ v.lane) × (r.order ≡ v.order) × (r.used ≡ length (text s))

shown : {s : Bytes} (a : Answer) → Answers s a → {c : Checked} → Checks s c → Shows a c
shown {s} a h {c} (ends start end x l w e) = subst (λ (a : Answer). Shows a c) (answers_only s (ends_at start end) a x h) (ap (λ (c : Checked). c.start) e, ap (λ (c : Checked). c.end) e)
shown {s} a h {c} (more start x e) = subst (λ (a : Answer). Shows a c) (answers_only s (more_from start) a x h) e
shown {s} a h {c} (malformed start place x e) = subst (λ (a : Answer). Shows a c) (answers_only s (malformed_at start place) a x h) e
shown {s} a h {c} (too_long start x e) = subst (λ (a : Answer). Shows a c) (answers_only s (too_long_from start) a x h) e

-- a whole message, by the model
pub whole_message : (s : Bytes) → message_p s ≡ done (reading_in (message_p s)) [] → IsMessage s (reading_in (message_p s))
whole_message s e = let (w, q, m) = sound message_exact s (reading_in (message_p s)) [] e in subst (λ (b : Bytes). IsMessage b (reading_in (message_p s))) (sym (q ∙ append-nil w)) m

-- with room, receiving tells what was checked and what it did to the lane
module _ {l : Lane} {s old new : Bytes} {r : Received} (p : Receives l s old new r) (room : 525 ≤ length old) where
  wide : length p.due ≤ length old
  wide = let x = all.owes_long p.owes in omega arith

  moved_as : {v : Moved} → all.moved p ≡ v → (r.refusal ≡ v.refusal) × (r.lane ≡ v.lane) × (r.order ≡ v.order)
  moved_as m = (all.told_refusal p wide ∙ ap (λ (v : Moved). v.refusal) m, all.told_lane p wide ∙ ap (λ (v : Moved). v.lane) m, all.told_order p wide ∙ ap (λ (v : Moved). v.order) m)

  unread_as : {c : Checked} → p.checked ≡ c → (r.refusal ≡ (moved_by l c.refusal (event_of c.message p.forecast)).refusal) × (r.lane ≡ (moved_by l c.refusal (event_of c.message p.forecast)).lane)
  unread_as e = let (a, b, o) = moved_as (ap (λ (c : Checked). moved_by l c.refusal (event_of c.message p.forecast)) e) in (a, b)

  tells : (a : Answer) → Shows a p.checked → Tells l a r
  unfolding moved_by
  tells (ends_at start end) e = all.told_used p wide ∙ e.1
  tells (more_from start) e = unread_as e
  tells (malformed_at start place) e = let (a, b) = unread_as e in (a, b, all.told_place p wide ∙ ap (λ (c : Checked). c.place) e)
  tells (too_long_from start) e = unread_as e

  -- a message that was checked, and what the chart makes of it
  pub in_lane : (v : Moved) → p.checked.refusal ≡ 0 → received l (all.event p) ≡ v → (r.refusal ≡ v.refusal) × (r.lane ≡ v.lane) × (r.order ≡ v.order) × (r.used ≡ p.checked.end)
  in_lane v z e = let (a, b, o) = moved_as (all.moved_on l p.checked.refusal (all.event p) z ∙ e) in (a, b, o, all.told_used p wide)

-- what else a row needs: the limit is far, and a kind that is told is accepted in every lane
abbrev Aside : Case → Type 0
Aside (reads s a) = Unit {0}
Aside (says s end kind) = (end ≤ MESSAGE) × ((l : Lane) (e : Event) → e.kind ≡ kind → received l e ≡ passed l)
Aside (whole s x) = Unit {0}
Aside (positive s x) = Unit {0}
Aside (receives l s v) = length (text s) ≤ MESSAGE

carried : (c : Case) → Aside c → Holds c → Carried c
carried (reads s a) n e =
    let x : Answers (text s) a = subst (λ (a : Answer). Answers (text s) a) e (answered (text s)) in
    (λ b h. answers_only (text s) b a h x, λ c h. shown a x h, λ l old new r p room. tells p room a (shown a x p.checks))
carried (says s end kind) (n, pass) (e, l, k, z) = (check_of, receive_of)
  where
    found : (rest : Bytes) (c : Checked) → Checks (text s ++ rest) c → Finds (text s) (reading_of s) c
    found rest c h = finds rest (whole_message (text s) e) (omega arith) h z

    check_of : (rest : Bytes) (c : Checked) → Checks (text s ++ rest) c → (c.refusal ≡ 0) × (c.start ≡ 0) × (c.end ≡ end) × (c.message.kind ≡ kind)
    check_of rest c h = let f = found rest c h in (f.refusal ∙ z, f.start, f.end ∙ l, f.kind ∙ k)

    receive_of : (w : Lane) (rest old new : Bytes) (r : Received) → Receives w (text s ++ rest) old new r → 525 ≤ length old
        → (r.refusal ≡ 0) × (r.lane ≡ (passed w).lane) × (r.used ≡ end) × (r.message.kind ≡ kind)
    receive_of w rest old new r p room =
        let f = found rest p.checked p.checks in
        let (a, b, c, d) = in_lane p room (passed w) (f.refusal ∙ z) (pass w (all.event p) (f.kind ∙ k)) in
        (a, b, d ∙ f.end ∙ l, ap (λ (m : Message). m.kind) (all.accepts p a).message ∙ f.kind ∙ k)
carried (whole s x) n e = λ r h. h ∙ ap capped e
carried (positive s x) n e = λ r h. h ∙ ap (λ (y : Number). number_read y (decimals_of (text s))) e
carried (receives l s v) n (e, z, g) = λ rest old new r p room.
    let f = finds rest (whole_message (text s) e) n p.checks z in
    let (a, b, c, d) = in_lane p room v (f.refusal ∙ z) (ap (λ (m : Message). received l (event_of m p.forecast)) f.message ∙ g f.place p.forecast) in
    (a, b, c, d ∙ f.end)

abbrev pub AllCarried : List Case → Type 0
AllCarried [] = Unit {0}
AllCarried (c ∷ l) = Carried c × AllCarried l

AllAside : List Case → Type 0
AllAside [] = Unit {0}
AllAside (c ∷ l) = Aside c × AllAside l

all_carried : (l : List Case) → AllAside l → All l → AllCarried l
unfolding AllAside
all_carried [] n h = tt
all_carried (c ∷ l) n h = (carried c n.0 h.0, all_carried l n.1 h.1)

pub bench_carried : AllCarried bench
unfolding AllAside
bench_carried =
    all_carried bench
    (tt, ((omega arith, check_alive_received), (tt, (tt, ((omega arith, unknown_received), (tt, (tt, (tt, (tt, (tt, (tt, (tt, (tt, (tt, (tt, (tt, (omega arith, (omega arith, tt))))))))))))))))))
    bench_holds
