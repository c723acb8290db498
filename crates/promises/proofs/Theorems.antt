-- The theorems of receiving and sending, for a reader to find.
use Rattle.std.specs.Prelude.{Option, Some, None}
use mathlib.Core.Path.{◌≡◌, refl, sym, ap, subst, ◌∙◌}
use mathlib.Core.List.{List, [], ◌∷◌, ◌++◌}
use mathlib.Core.Bool.{Bool, true, false}
use mathlib.Core.Logic.{◌⊎◌, inl, inr, ⊎_elim, ◌↔◌}
use Prim.Native.Nat.{ℕ, ◌≤◌, ◌<◌}
use native.Mathlib.Omega.{arith}
use lib.ListN.{length, drop, length-append, length-drop}
use lib.Seq.{drop-append_seam}
use lib.Dec.{eqb, leb}
use borrow.Author.Tests.{ne_eqb, eq-eqb, eqb-true, eqb-false, leb-true, leb-false, le-leb, lt-leb}
use Rattle.exact.specs.Chain.{clash}
use Rattle.grammar.specs.Bytes.{Bytes}
use Rattle.grammar.specs.Message.{read_layout}
use Rattle.number.proofs.Tests.{cases}
use Rattle.lane.specs.Names.{NoOrder}
use Rattle.lane.specs.Chart.{either, among}
use Rattle.lane.specs.Record.{ended, kept as kept_moved, step_in, received}
use Rattle.lane.proofs.Laws.{received_by_lem}
use Rattle.lane.specs.IdsZero.{IdsZero}
use Rattle.lane.proofs.IdsZero.{lost_ids_zero, received_ids_zero, sent_ids_zero}
use Rattle.lane.specs.declared.Event.{Event}
use Rattle.lane.specs.declared.Lane.{Lane}
use Rattle.lane.specs.declared.Moved.{Moved}
use Rattle.table.specs.Table.{table, rows_of}
use Rattle.table.specs.Says.{child_of, said_of, rows_for}
use Rattle.message.specs.Checked.{Checks, ends, more, malformed, too_long}
use Rattle.message.specs.Messages.{fields_of, message_by}
use Rattle.message.specs.declared.checking.Checked.{Checked}
use Rattle.message.specs.declared.cells.Message.{Message}
use Rattle.message.proofs.Theorems.{check_only}
use Rattle.meant.specs.Meant.{refusal_of, rows_with}
use Rattle.meant.specs.Written.{written_of}
use Rattle.meant.specs.Notices.{description, notice}
use Rattle.meant.specs.First.{first_in}
use Rattle.meant.specs.Replies.{Reply}
use Rattle.meant.proofs.ReplyLaws.{reply_one, reply_long}
use Rattle.meant.specs.Events.{Carried, event_of, forecast_id, Carries, event_sent}
use Rattle.meant.proofs.EventLaws.{carries_only}
use Rattle.promises.specs.Receiving.{asks_reply, reply_id, moved_by, Owes, nothing_yet, a_notice, a_reply, no_reply, no_room, told, answer_of, Receives, ReceivesInto}
use Rattle.promises.specs.Sending as sending
use Rattle.promises.specs.Sending.{Sends}
use Rattle.promises.specs.declared.Receipt.{Receipt}
use Rattle.promises.specs.declared.Received.{Received}
use Rattle.promises.specs.declared.Sent.{Sent}
use Rattle.promises.proofs.ListedLaws.{Listed, table_listed, meant_listed}

-- what is owed for two inputs is the same, if a reply is
pub owes_alike : {a b d d' : Bytes} {m : Message} {n : ℕ} → (n ≡ 0 → asks_reply m ≡ true → Reply a (reply_id m) d → Reply b (reply_id m) d' → d ≡ d') → Owes a m n d → Owes b m n d' → d ≡ d'
owes_alike h (nothing_yet e f) (nothing_yet e' f') = f ∙ sym f'
owes_alike h (nothing_yet e f) (a_notice y z f') = absurd (z e)
owes_alike h (nothing_yet e f) (a_reply z a r) = absurd (omega arith)
owes_alike h (nothing_yet e f) (no_reply z a f') = absurd (omega arith)
owes_alike h (a_notice y z f) (nothing_yet e f') = absurd (z e)
owes_alike h (a_notice y z f) (a_notice y' z' f') = f ∙ sym f'
owes_alike h (a_notice y z f) (a_reply e a r) = absurd (y e)
owes_alike h (a_notice y z f) (no_reply e a f') = absurd (y e)
owes_alike h (a_reply z a r) (nothing_yet e f') = absurd (omega arith)
owes_alike h (a_reply e a r) (a_notice y z f) = absurd (y e)
owes_alike h (a_reply z a r) (a_reply z' a' r') = h z a r r'
owes_alike h (a_reply z a r) (no_reply z' a' f) = clash (sym a ∙ a')
owes_alike h (no_reply z a f) (nothing_yet e f') = absurd (omega arith)
owes_alike h (no_reply e a f) (a_notice y z f') = absurd (y e)
owes_alike h (no_reply z a f) (a_reply z' a' r) = clash (sym a' ∙ a)
owes_alike h (no_reply z a f) (no_reply z' a' f') = f ∙ sym f'

-- what is owed is one
pub owes_one : {s b b' : Bytes} {m : Message} {n : ℕ} → Owes s m n b → Owes s m n b' → b ≡ b'
owes_one = owes_alike (λ z a r r'. reply_one r r')

-- no second result, and no other buffer, satisfies the promise of `receive`
pub receive_only : {l : Lane} {s old new new' : Bytes} {r r' : Received} → Receives l s old new r → Receives l s old new' r' → (r ≡ r') × (new ≡ new')
receive_only {l} {s} {old} {new} {new'} {r} {r'} p q =
    let c = check_only p.checks q.checks in
    let f = carries_only p.carries (subst (λ (c : Checked). Carries s (forecast_id c.message) q.forecast) (sym c) q.carries) in
    let k : event_of p.checked.message p.forecast ≡ event_of q.checked.message q.forecast = ap (λ (f : Carried). event_of p.checked.message f) f ∙ ap (λ (c : Checked). event_of c.message q.forecast) c in
    let b =
    owes_one p.owes
    (subst (λ (e : Event). Owes s p.checked.message (moved_by l p.checked.refusal e).refusal q.due) (sym k)
    (subst (λ (c : Checked). Owes s c.message (moved_by l c.refusal (event_of q.checked.message q.forecast)).refusal q.due) (sym c) q.owes)) in (
      p.answer ∙ ap (λ (c : Checked). answer_of l c (event_of p.checked.message p.forecast) p.due (length old)) c ∙ ap (λ (e : Event). answer_of l q.checked e p.due (length old)) k ∙ ap (λ (b : Bytes). answer_of l q.checked (event_of q.checked.message q.forecast) b (length old)) b ∙ sym q.answer,
      (let x = p.buffer in let y = q.buffer in cc),
    )

-- no second result, no other cells and no other buffer satisfy the promise of `receive_into`
pub receive_into_only : {l : Lane} {s old new new' : Bytes} {cells cells' : List ℕ} {r r' : Receipt} → ReceivesInto l s old new cells r → ReceivesInto l s old new' cells' r' → (r ≡ r') × (cells ≡ cells') × (new ≡ new')
receive_into_only {cells = cells} {cells'} {r} {r'} p q =
    let (e, b) = receive_only p q in
    let m : message_by r.kind cells r.id ≡ message_by r'.kind cells' r'.id = ap (λ (x : Received). x.message) e in (
      same (ap (λ (x : Received). x.refusal) e) (ap (λ (x : Received). x.lane) e) (ap (λ (x : Received). x.order) e) (ap (λ (x : Received). x.used) e) (ap (λ (x : Received). x.written) e) (ap (λ (x : Received). x.place) e) (ap (λ (m : Message). m.kind) m) (ap (λ (m : Message). m.id) m),
      ap (λ (m : Message). m.cells) m,
      b,
    )
  where
    same : {a o u w p k a' o' u' w' p' k' : ℕ} {l l' : Lane} {i i' : Bytes} → a ≡ a' → l ≡ l' → o ≡ o' → u ≡ u' → w ≡ w' → p ≡ p' → k ≡ k' → i ≡ i'
        → ◌≡◌ {A = Receipt} (record { refusal = a; lane = l; order = o; used = u; written = w; place = p; kind = k; id = i }) (record { refusal = a'; lane = l'; order = o'; used = u'; written = w'; place = p'; kind = k'; id = i' })
    same a b c d e f g h = cc

-- nor of `send`
pub send_only : {l : Lane} {m : Message} {texts old new new' : Bytes} {r r' : Sent} → Sends l m texts old new r → Sends l m texts old new' r' → (r ≡ r') × (new ≡ new')
send_only p q = (p.answer ∙ sym q.answer, p.buffer ∙ sym q.buffer)

-- what `check` refuses is one of 0 to 6
abbrev pub Low : ℕ → Type 0
Low n = among n (0 ∷ 1 ∷ 2 ∷ 3 ∷ 4 ∷ 5 ∷ 6 ∷ []) ≡ true

-- one of a list is one of a longer one
among_more : (n : ℕ) (l k : List ℕ) → among n l ≡ true → among n (l ++ k) ≡ true
among_more n [] k e = clash (sym e)
among_more n (x ∷ l) k e = go (eqb n x) refl (λ h. among_more n l k h)
  where
    go : (z : Bool) → eqb n x ≡ z → (among n l ≡ true → among n (l ++ k) ≡ true) → either (eqb n x) (among n (l ++ k)) ≡ true
    go true f r = rw f refl
    go false f r = rw f (r (rw f at e))

low_listed : (n : ℕ) → Listed n → Low n
low_listed n e = go (eqb n 0) refl (eqb n 4) refl (eqb n 5) refl (eqb n 6) refl
  where
    go : (a : Bool) → eqb n 0 ≡ a → (b : Bool) → eqb n 4 ≡ b → (c : Bool) → eqb n 5 ≡ c → (d : Bool) → eqb n 6 ≡ d → Low n
    go true ea b eb c ec d ed = rw ea refl
    go false ea true eb c ec d ed = rw (eqb-true n 4 eb) refl
    go false ea false eb true ec d ed = rw (eqb-true n 5 ec) refl
    go false ea false eb false ec true ed = rw (eqb-true n 6 ed) refl
    go false ea false eb false ec false ed = clash (sym e ∙ rw (ea, eb, ec, ed) refl)

pub checked_low : {s : Bytes} {c : Checked} → Checks s c → Low c.refusal
checked_low (ends start end p l w e) = subst (λ (c : Checked). Low c.refusal) (sym e) (low_listed (said_of (read_layout l)).refusal (table_listed (rows_for table (said_of (read_layout l)).kind (child_of (read_layout l))) (child_of (read_layout l))))
checked_low (more start p e) = subst (λ (c : Checked). Low c.refusal) (sym e) refl
checked_low (malformed start place p e) = subst (λ (c : Checked). Low c.refusal) (sym e) refl
checked_low (too_long start p e) = subst (λ (c : Checked). Low c.refusal) (sym e) refl

-- what the lane is moved by: 0 to 6, or 9
abbrev pub Moves : ℕ → Type 0
Moves n = among n (0 ∷ 1 ∷ 2 ∷ 3 ∷ 4 ∷ 5 ∷ 6 ∷ 9 ∷ []) ≡ true

pub received_refusal : (l : Lane) (e : Event) → ((received l e).refusal ≡ 0) ⊎ (received l e ≡ ended l 9)
received_refusal l e = go (step_in l e) refl
  where
    go : (st : Option ℕ) → step_in l e ≡ st → ((received l e).refusal ≡ 0) ⊎ (received l e ≡ ended l 9)
    go (Some n) q = inl (ap (λ (v : Moved). v.refusal) (received_by_lem l e (Some n) q))
    go None q = inr (received_by_lem l e None q)

pub low_moves : (n : ℕ) → Low n → Moves n
low_moves n e = among_more n (0 ∷ 1 ∷ 2 ∷ 3 ∷ 4 ∷ 5 ∷ 6 ∷ []) (9 ∷ []) e

moved_listed : (l : Lane) (n : ℕ) (i : Event) → Low n → Moves (moved_by l n i).refusal
unfolding moved_by
moved_listed l n i h =
    cases (eqb n 0)
    (λ e. rw e (⊎_elim (λ z. subst Moves (sym z) refl) (λ z. subst (λ (v : Moved). Moves v.refusal) (sym z) refl) (received_refusal l i)))
    (λ e. rw e (cases (eqb n 1) (λ f. rw f refl) (λ f. rw f (low_moves n h))))

abbrev Any : ℕ → Type 0
Any n = among n (0 ∷ 1 ∷ 2 ∷ 3 ∷ 4 ∷ 5 ∷ 6 ∷ 7 ∷ 9 ∷ []) ≡ true

-- by the number: a fact of each number that moves is a fact of all
pub each_move : (P : ℕ → Type 0) → P 0 → P 1 → P 2 → P 3 → P 4 → P 5 → P 6 → P 9 → (n : ℕ) → Moves n → P n
each_move P p0 p1 p2 p3 p4 p5 p6 p9 n e = go (eqb n 0) refl (eqb n 1) refl (eqb n 2) refl (eqb n 3) refl (eqb n 4) refl (eqb n 5) refl (eqb n 6) refl (eqb n 9) refl
  where
    at : (k : ℕ) → eqb n k ≡ true → P k → P n
    at k f p = subst P (sym (eqb-true n k f)) p

    go : (a : Bool) → eqb n 0 ≡ a → (b : Bool) → eqb n 1 ≡ b → (c : Bool) → eqb n 2 ≡ c → (d : Bool) → eqb n 3 ≡ d → (f : Bool) → eqb n 4 ≡ f → (g : Bool) → eqb n 5 ≡ g → (h : Bool) → eqb n 6 ≡ h → (i : Bool) → eqb n 9 ≡ i → P n
    go true ea b eb c ec d ed f ef g eg h eh i ei = at 0 ea p0
    go false ea true eb c ec d ed f ef g eg h eh i ei = at 1 eb p1
    go false ea false eb true ec d ed f ef g eg h eh i ei = at 2 ec p2
    go false ea false eb false ec true ed f ef g eg h eh i ei = at 3 ed p3
    go false ea false eb false ec false ed true ef g eg h eh i ei = at 4 ef p4
    go false ea false eb false ec false ed false ef true eg h eh i ei = at 5 eg p5
    go false ea false eb false ec false ed false ef false eg true eh i ei = at 6 eh p6
    go false ea false eb false ec false ed false ef false eg false eh true ei = at 9 ei p9
    go false ea false eb false ec false ed false ef false eg false eh false ei = clash (sym e ∙ rw (ea, eb, ec, ed, ef, eg, eh, ei) refl)

wider : (n : ℕ) → Moves n → Any n
wider = each_move Any refl refl refl refl refl refl refl refl

not_seven : (n : ℕ) → Moves n → n ≡ 7 → ⊥
not_seven = each_move (λ n. n ≡ 7 → ⊥) (λ e. omega arith) (λ e. omega arith) (λ e. omega arith) (λ e. omega arith) (λ e. omega arith) (λ e. omega arith) (λ e. omega arith) (λ e. omega arith)

-- what is owed with 1, and how long it can get
owes_nothing : {s b : Bytes} {m : Message} {n : ℕ} → Owes s m n b → n ≡ 1 → b ≡ []
owes_nothing (nothing_yet e f) h = f
owes_nothing (a_notice y z f) h = absurd (z h)
owes_nothing (a_reply z a r) h = absurd (omega arith)
owes_nothing (no_reply z a f) h = f

notice_long : (n : ℕ) → length (notice n) ≤ 99
unfolding notice description
notice_long n =
    cases (eqb n 2) (λ h. rw h (omega arith))
    (λ a. rw a (cases (eqb n 3) (λ h. rw h (omega arith))
    (λ b. rw b (cases (eqb n 4) (λ h. rw h (omega arith))
    (λ c. rw c (cases (eqb n 5) (λ h. rw h (omega arith))
    (λ d. rw d (cases (eqb n 6) (λ h. rw h (omega arith))
    (λ e. rw e (cases (eqb n 9) (λ h. rw h (omega arith))
    (λ f. rw f (omega arith))))))))))))

pub owes_long : {s b : Bytes} {m : Message} {n : ℕ} → Owes s m n b → length b ≤ 525
owes_long (nothing_yet e f) = let x = ap length f in omega arith
owes_long {n = n} (a_notice y z f) = let x = ap length f in let y = notice_long n in omega arith
owes_long (a_reply z a r) = reply_long r
owes_long (no_reply z a f) = let x = ap length f in omega arith

nothing_first : (old : Bytes) → first_in [] old ≡ old
nothing_first old = rw (le-leb 0 (length old) (omega arith)) refl

-- 1 is `check`'s
pub moved_one : (l : Lane) (n : ℕ) (i : Event) → n ≡ 1 → moved_by l n i ≡ kept_moved l 1
unfolding moved_by
moved_one l n i e = rw e refl

moved_one_refusal : (l : Lane) (n : ℕ) (i : Event) → n ≡ 1 → (moved_by l n i).refusal ≡ 1
moved_one_refusal l n i e = ap (λ (v : Moved). v.refusal) (moved_one l n i e)

only_one : (l : Lane) (n : ℕ) (i : Event) → (moved_by l n i).refusal ≡ 1 → n ≡ 1
unfolding moved_by
only_one l n i e =
    cases (eqb n 0)
    (λ f. absurd (⊎_elim (λ z. let x : 0 ≡ 1 = sym z ∙ (rw f at e) in omega arith) (λ z. let x : 9 ≡ 1 = sym (ap (λ (v : Moved). v.refusal) z) ∙ (rw f at e) in omega arith) (received_refusal l i)))
    (λ f. cases (eqb n 1) (λ g. eqb-true n 1 g) (λ g. rw (f, g) at e))

more_ends : {s : Bytes} {c : Checked} → Checks s c → c.refusal ≡ 1 → c.end ≡ 0
more_ends (ends start end p l w e) h = absurd (not_one (said_of (read_layout l)).refusal (table_listed (rows_for table (said_of (read_layout l)).kind (child_of (read_layout l))) (child_of (read_layout l))) (sym (ap (λ (c : Checked). c.refusal) e) ∙ h))
  where
    not_one : (n : ℕ) → Listed n → n ≡ 1 → ⊥
    not_one n h e = clash (let x : false ≡ true = rw e at h in sym x)
more_ends (more start p e) h = ap (λ (c : Checked). c.end) e
more_ends (malformed start place p e) h = ap (λ (c : Checked). c.end) e
more_ends (too_long start p e) h = ap (λ (c : Checked). c.end) e

moved_ids_zero : (l : Lane) (n : ℕ) (i : Event) → (n ≡ 1 → ⊥) → IdsZero (moved_by l n i).lane
unfolding moved_by
moved_ids_zero l n i h =
    cases (eqb n 0) (λ e. rw e (received_ids_zero l i))
    (λ e. rw (e, ne_eqb n 1 h) (lost_ids_zero l))

-- T1.1: receiving answers 0 to 7, or 9
module _ {l : Lane} {s old new : Bytes} {r : Received} (p : Receives l s old new r) where
  abbrev pub event : Event
  event = event_of p.checked.message p.forecast

  abbrev pub moved : Moved
  moved = moved_by l p.checked.refusal event

  moves : Moves moved.refusal
  moves = moved_listed l p.checked.refusal event (checked_low p.checks)

  -- the answer where what is owed fits, and where it does not
  pub fits : length p.due ≤ length old → r ≡ told p.checked moved (length p.due)
  unfolding answer_of
  fits h = p.answer ∙ rw (le-leb (length p.due) (length old) h) refl

  pub fits_not : length old < length p.due → r ≡ no_room l
  unfolding answer_of
  fits_not h = p.answer ∙ rw (lt-leb (length p.due) (length old) h) refl

  pub room : (length p.due ≤ length old) ⊎ (length old < length p.due)
  room = cases (leb (length p.due) (length old)) (λ e. inl (leb-true (length p.due) (length old) e)) (λ e. inr (leb-false (length p.due) (length old) e))

  pub told_refusal : length p.due ≤ length old → r.refusal ≡ moved.refusal
  unfolding told
  told_refusal h = ap (λ (r : Received). r.refusal) (fits h)

  pub told_written : length p.due ≤ length old → r.written ≡ length p.due
  unfolding told
  told_written h = ap (λ (r : Received). r.written) (fits h)

  pub told_lane : length p.due ≤ length old → r.lane ≡ moved.lane
  unfolding told
  told_lane h = ap (λ (r : Received). r.lane) (fits h)

  pub told_order : length p.due ≤ length old → r.order ≡ moved.order
  unfolding told
  told_order h = ap (λ (r : Received). r.order) (fits h)

  pub told_used : length p.due ≤ length old → r.used ≡ p.checked.end
  unfolding told
  told_used h = ap (λ (r : Received). r.used) (fits h)

  pub told_place : length p.due ≤ length old → r.place ≡ p.checked.place
  unfolding told
  told_place h = ap (λ (r : Received). r.place) (fits h)

  pub receive_listed : among r.refusal (0 ∷ 1 ∷ 2 ∷ 3 ∷ 4 ∷ 5 ∷ 6 ∷ 7 ∷ 9 ∷ []) ≡ true
  receive_listed =
      ⊎_elim (λ h. subst (λ (n : ℕ). among n (0 ∷ 1 ∷ 2 ∷ 3 ∷ 4 ∷ 5 ∷ 6 ∷ 7 ∷ 9 ∷ []) ≡ true) (sym (told_refusal h)) (wider moved.refusal moves))
      (λ h. subst (λ (r : Received). among r.refusal (0 ∷ 1 ∷ 2 ∷ 3 ∷ 4 ∷ 5 ∷ 6 ∷ 7 ∷ 9 ∷ []) ≡ true) (sym (fits_not h)) refl)
      room

  -- T1.4: "7 is given exactly if the bytes to be written .. are more than the buffer holds"
  pub receive_seven_iff : (r.refusal ≡ 7) ↔ (length old < length p.due)
  receive_seven_iff = (to, λ h. ap (λ (r : Received). r.refusal) (fits_not h))
    where
      to : r.refusal ≡ 7 → length old < length p.due
      to e = ⊎_elim (λ h. absurd (not_seven moved.refusal moves (sym (told_refusal h) ∙ e))) (λ h. h) room

  -- T1.8: behind what was written the buffer is as it was, and it has its length
  pub receive_rest_kept : (drop r.written new ≡ drop r.written old) × (length new ≡ length old)
  receive_rest_kept = ⊎_elim here (λ h. (ap (drop r.written) (unwritten h), ap length (unwritten h))) room
    where
      unwritten : length old < length p.due → new ≡ old
      unwritten h = p.buffer ∙ rw (lt-leb (length p.due) (length old) h) refl

      overlay : length p.due ≤ length old → new ≡ p.due ++ drop (length p.due) old
      overlay h = p.buffer ∙ rw (le-leb (length p.due) (length old) h) refl

      here : length p.due ≤ length old → (drop r.written new ≡ drop r.written old) × (length new ≡ length old)
      here h =
          let n : r.written ≡ length p.due = told_written h in
          let o = overlay h in
          (ap (λ (k : ℕ). drop k new) n ∙ ap (drop (length p.due)) o ∙ drop-append_seam p.due (drop (length p.due) old) ∙ sym (ap (λ (k : ℕ). drop k old) n), (let a = ap length o ∙ length-append p.due (drop (length p.due) old) in let b = length-drop (length p.due) old in omega arith))

  -- T2.L4: 1 and 7 keep the record and the buffer, and use nothing
  pub receive_kept : (r.refusal ≡ 1) ⊎ (r.refusal ≡ 7) → (r.lane ≡ l) × (new ≡ old) × (r.order ≡ NoOrder) × (r.used ≡ 0) × (r.written ≡ 0)
  receive_kept w = ⊎_elim (λ h. one h (⊎_elim (λ e. sym (told_refusal h) ∙ e) (λ e. absurd (not_seven moved.refusal moves (sym (told_refusal h) ∙ e))) w)) none room
    where
      none : length old < length p.due → (r.lane ≡ l) × (new ≡ old) × (r.order ≡ NoOrder) × (r.used ≡ 0) × (r.written ≡ 0)
      none h =
          let e = fits_not h in
          (ap (λ (r : Received). r.lane) e, p.buffer ∙ rw (lt-leb (length p.due) (length old) h) refl, ap (λ (r : Received). r.order) e, ap (λ (r : Received). r.used) e, ap (λ (r : Received). r.written) e)

      one : length p.due ≤ length old → moved.refusal ≡ 1 → (r.lane ≡ l) × (new ≡ old) × (r.order ≡ NoOrder) × (r.used ≡ 0) × (r.written ≡ 0)
      one h e =
          let d : p.due ≡ [] = owes_nothing p.owes e in
          let c : p.checked.refusal ≡ 1 = only_one l p.checked.refusal event e in
          let v : moved ≡ kept_moved l 1 = moved_one l p.checked.refusal event c in
          (told_lane h ∙ ap (λ (v : Moved). v.lane) v, p.buffer ∙ ap (λ (b : Bytes). first_in b old) d ∙ nothing_first old, told_order h ∙ ap (λ (v : Moved). v.order) v, told_used h ∙ more_ends p.checks c, told_written h ∙ ap length d)

  -- T2.L3: "Ids not in use are .. zero bytes in every record returned with an accepted message or as NotConnected"
  pub receive_ids_zero : (r.refusal ≡ 1 → ⊥) → (r.refusal ≡ 7 → ⊥) → IdsZero r.lane
  receive_ids_zero n m =
      ⊎_elim (λ h. subst IdsZero (sym (told_lane h)) (moved_ids_zero l p.checked.refusal event (λ e. n (told_refusal h ∙ moved_one_refusal l p.checked.refusal event e))))
      (λ h. absurd (m (ap (λ (r : Received). r.refusal) (fits_not h))))
      room

  -- T2.L9: with 525 bytes of room, 7 is never answered
  pub receive_room_525 : 525 ≤ length old → r.refusal ≡ 7 → ⊥
  receive_room_525 h e = let x = receive_seven_iff.0 e in let y = owes_long p.owes in omega arith

-- an accepted message: `check` let it pass, the chart moved the lane, and it is told
pub record Accepts {l : Lane} {s old new : Bytes} {r : Received} (p : Receives l s old new r) : Type 0 where
  pub checked : p.checked.refusal ≡ 0
  pub fitted : length p.due ≤ length old
  pub lane : r.lane ≡ (received l (event_of p.checked.message p.forecast)).lane
  pub order : r.order ≡ (received l (event_of p.checked.message p.forecast)).order
  pub accepted : (received l (event_of p.checked.message p.forecast)).refusal ≡ 0
  pub message : r.message ≡ p.checked.message

pub moved_zero : (l : Lane) (n : ℕ) (i : Event) → (moved_by l n i).refusal ≡ 0 → n ≡ 0
unfolding moved_by
moved_zero l n i e =
    cases (eqb n 0) (λ f. eqb-true n 0 f)
    (λ f. cases (eqb n 1) (λ g. absurd (let x : 1 ≡ 0 = rw (f, g) at e in omega arith)) (λ g. rw (f, g) at e))

pub moved_on : (l : Lane) (n : ℕ) (i : Event) → n ≡ 0 → moved_by l n i ≡ received l i
unfolding moved_by
moved_on l n i e = rw e refl

pub accepts : {l : Lane} {s old new : Bytes} {r : Received} (p : Receives l s old new r) → r.refusal ≡ 0 → Accepts p
unfolding told
accepts {l} {s} {old} {new} {r} p e = ⊎_elim yes (λ h. absurd (let x : 7 ≡ 0 = sym (ap (λ (r : Received). r.refusal) (fits_not p h)) ∙ e in omega arith)) (room p)
  where
    yes : length p.due ≤ length old → Accepts p
    yes h =
        let z : (moved p).refusal ≡ 0 = sym (told_refusal p h) ∙ e in
        let c = moved_zero l p.checked.refusal (event p) z in
        let v = moved_on l p.checked.refusal (event p) c in
        record {
          checked = c;
          fitted = h;
          lane = told_lane p h ∙ ap (λ (v : Moved). v.lane) v;
          order = told_order p h ∙ ap (λ (v : Moved). v.order) v;
          accepted = sym (ap (λ (v : Moved). v.refusal) v) ∙ z;
          message = ap (λ (r : Received). r.message) (fits p h) ∙ rw (eq-eqb (moved p).refusal 0 z) refl;
        }

-- sending: the four answers
pub data Decides (l : Lane) (m : Message) (texts old new : Bytes) (r : Sent) : Type 0 where
  refused_by_case : (refusal_of m texts ≡ 0 → ⊥) → r ≡ sending.kept l (refusal_of m texts) → new ≡ old → Decides l m texts old new r
  may_not_case : refusal_of m texts ≡ 0 → ((sending.moved_by l m texts).refusal ≡ 0 → ⊥) → r ≡ sending.kept l 8 → new ≡ old → Decides l m texts old new r
  lacks_room : refusal_of m texts ≡ 0 → (sending.moved_by l m texts).refusal ≡ 0 → length old < length (written_of m texts) → r ≡ sending.kept l 7 → new ≡ old → Decides l m texts old new r
  goes : refusal_of m texts ≡ 0 → (sending.moved_by l m texts).refusal ≡ 0 → length (written_of m texts) ≤ length old
      → r ≡ record { refusal = 0; lane = (sending.moved_by l m texts).lane; order = (sending.moved_by l m texts).order; written = length (written_of m texts) }
      → new ≡ written_of m texts ++ drop (length (written_of m texts)) old
      → Decides l m texts old new r

pub decides : {l : Lane} {m : Message} {texts old new : Bytes} {r : Sent} → Sends l m texts old new r → Decides l m texts old new r
unfolding sending.answer_of sending.buffer_of
decides {l} {m} {texts} {old} {new} {r} p =
    cases (eqb (refusal_of m texts) 0)
    (λ a. cases (eqb (sending.moved_by l m texts).refusal 0)
    (λ b. cases (leb (length (written_of m texts)) (length old))
    (λ c. goes (eqb-true (refusal_of m texts) 0 a) (eqb-true (sending.moved_by l m texts).refusal 0 b) (leb-true (length (written_of m texts)) (length old) c) (p.answer ∙ rw (a, b, c) refl) (p.buffer ∙ rw (a, b, c) refl))
    (λ c. lacks_room (eqb-true (refusal_of m texts) 0 a) (eqb-true (sending.moved_by l m texts).refusal 0 b) (leb-false (length (written_of m texts)) (length old) c) (p.answer ∙ rw (a, b, c) refl) (p.buffer ∙ rw (a, b, c) refl)))
    (λ b. may_not_case (eqb-true (refusal_of m texts) 0 a) (eqb-false (sending.moved_by l m texts).refusal 0 b) (p.answer ∙ rw (a, b) refl) (p.buffer ∙ rw (a, b) refl)))
    (λ a. refused_by_case (eqb-false (refusal_of m texts) 0 a) (p.answer ∙ rw a refl) (p.buffer ∙ rw a refl))

module _ {l : Lane} {m : Message} {texts old new : Bytes} {r : Sent} (p : Sends l m texts old new r) where
  -- T1.1: sending answers 0, 4, 5, 6, 7 or 8
  pub send_listed : among r.refusal (0 ∷ 4 ∷ 5 ∷ 6 ∷ 7 ∷ 8 ∷ []) ≡ true
  send_listed = go (decides p)
    where
      at : {r' : Sent} → r ≡ r' → among r'.refusal (0 ∷ 4 ∷ 5 ∷ 6 ∷ 7 ∷ 8 ∷ []) ≡ true → among r.refusal (0 ∷ 4 ∷ 5 ∷ 6 ∷ 7 ∷ 8 ∷ []) ≡ true
      at e h = subst (λ (r : Sent). among r.refusal (0 ∷ 4 ∷ 5 ∷ 6 ∷ 7 ∷ 8 ∷ []) ≡ true) (sym e) h

      go : Decides l m texts old new r → among r.refusal (0 ∷ 4 ∷ 5 ∷ 6 ∷ 7 ∷ 8 ∷ []) ≡ true
      go (refused_by_case n e f) = at e (among_more (refusal_of m texts) (0 ∷ 4 ∷ 5 ∷ 6 ∷ []) (7 ∷ 8 ∷ []) (meant_listed (rows_with (rows_of m.kind) (fields_of m)) (fields_of m) texts))
      go (may_not_case a n e f) = at e refl
      go (lacks_room a b h e f) = at e refl
      go (goes a b h e f) = at e refl

  -- T1.4: 7 exactly if the message may be sent and its bytes are more than the buffer holds
  pub send_seven_iff : (r.refusal ≡ 7) ↔ ((refusal_of m texts ≡ 0) × ((sending.moved_by l m texts).refusal ≡ 0) × (length old < length (written_of m texts)))
  send_seven_iff = (to (decides p), from (decides p))
    where
      to : Decides l m texts old new r → r.refusal ≡ 7 → (refusal_of m texts ≡ 0) × ((sending.moved_by l m texts).refusal ≡ 0) × (length old < length (written_of m texts))
      to (refused_by_case n e f) h = absurd (no_seven (refusal_of m texts) (meant_listed (rows_with (rows_of m.kind) (fields_of m)) (fields_of m) texts) (sym (ap (λ (r : Sent). r.refusal) e) ∙ h))
        where
          no_seven : (n : ℕ) → Listed n → n ≡ 7 → ⊥
          no_seven n h e = clash (let x : false ≡ true = rw e at h in sym x)
      to (may_not_case a n e f) h = absurd (let x : 8 ≡ 7 = sym (ap (λ (r : Sent). r.refusal) e) ∙ h in omega arith)
      to (lacks_room a b h e f) g = (a, b, h)
      to (goes a b h e f) g = absurd (let x : 0 ≡ 7 = sym (ap (λ (r : Sent). r.refusal) e) ∙ g in omega arith)

      from : Decides l m texts old new r → (refusal_of m texts ≡ 0) × ((sending.moved_by l m texts).refusal ≡ 0) × (length old < length (written_of m texts)) → r.refusal ≡ 7
      from (refused_by_case n e f) (a, b, h) = absurd (n a)
      from (may_not_case a n e f) (a', b, h) = absurd (n b)
      from (lacks_room a b h e f) q = ap (λ (r : Sent). r.refusal) e
      from (goes a b h e f) (a', b', k) = absurd (omega arith)

  -- T2.L4: "every refusal keeps record and buffer"
  pub send_kept : (r.refusal ≡ 0 → ⊥) → (r.lane ≡ l) × (new ≡ old) × (r.order ≡ NoOrder) × (r.written ≡ 0)
  send_kept n = go (decides p)
    where
      by : {k : ℕ} → r ≡ sending.kept l k → new ≡ old → (r.lane ≡ l) × (new ≡ old) × (r.order ≡ NoOrder) × (r.written ≡ 0)
      by e f = (ap (λ (r : Sent). r.lane) e, f, ap (λ (r : Sent). r.order) e, ap (λ (r : Sent). r.written) e)

      go : Decides l m texts old new r → (r.lane ≡ l) × (new ≡ old) × (r.order ≡ NoOrder) × (r.written ≡ 0)
      go (refused_by_case k e f) = by e f
      go (may_not_case a k e f) = by e f
      go (lacks_room a b h e f) = by e f
      go (goes a b h e f) = absurd (n (ap (λ (r : Sent). r.refusal) e))

  -- T1.8: behind the message the buffer is as it was
  pub send_rest_kept : drop r.written new ≡ drop r.written old
  send_rest_kept = go (decides p)
    where
      go : Decides l m texts old new r → drop r.written new ≡ drop r.written old
      go (refused_by_case k e f) = ap (drop r.written) f
      go (may_not_case a k e f) = ap (drop r.written) f
      go (lacks_room a b h e f) = ap (drop r.written) f
      go (goes a b h e f) =
          let n : r.written ≡ length (written_of m texts) = ap (λ (r : Sent). r.written) e in
          ap (λ (k : ℕ). drop k new) n ∙ ap (drop (length (written_of m texts))) f ∙ drop-append_seam (written_of m texts) (drop (length (written_of m texts)) old) ∙ sym (ap (λ (k : ℕ). drop k old) n)

  -- T2.L3
  pub send_ids_zero : r.refusal ≡ 0 → IdsZero r.lane
  send_ids_zero z = go (decides p)
    where
      go : Decides l m texts old new r → IdsZero r.lane
      go (refused_by_case k e f) = absurd (k (sym (ap (λ (r : Sent). r.refusal) e) ∙ z))
      go (may_not_case a k e f) = absurd (let x : 8 ≡ 0 = sym (ap (λ (r : Sent). r.refusal) e) ∙ z in omega arith)
      go (lacks_room a b h e f) = absurd (let x : 7 ≡ 0 = sym (ap (λ (r : Sent). r.refusal) e) ∙ z in omega arith)
      go (goes a b h e f) = subst IdsZero (sym (ap (λ (r : Sent). r.lane) e)) (sent_ids_zero l (event_sent m texts) b)
