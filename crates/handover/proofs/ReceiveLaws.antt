-- What is written back, and each answer of receiving.
use Rattle.std.specs.Prelude.{Option}
use Rattle.value.specs.declared.text.Span.{Span}
use mathlib.Core.Path.{◌≡◌, refl, sym, ap, subst, ◌∙◌}
use mathlib.Core.List.{List, []}
use mathlib.Core.Bool.{Bool, true, false, cond}
use Prim.Native.Nat.{ℕ}
use native.Mathlib.Omega.{arith}
use lib.ListN.{length, replicate, length-replicate}
use lib.Dec.{leb}
use borrow.Author.Tests.{ne_eqb, eq-eqb, le-leb}
use Rattle.lane.specs.declared.Event.{Event}
use Rattle.lane.specs.declared.Lane.{Lane}
use Rattle.lane.specs.declared.Moved.{Moved}
use Rattle.grammar.specs.Bytes.{Bytes}
use Rattle.message.specs.Cells.{NUMBERS, cell_at, words_by}
use Rattle.message.specs.Checked.{Checks, handed_by, ChecksInto}
use Rattle.message.specs.Messages.{message_by, blank}
use Rattle.message.specs.declared.checking.Checked.{Checked}
use Rattle.message.specs.declared.cells.Message.{Message}
use Rattle.meant.specs.Notices.{notice}
use Rattle.message.proofs.Theorems.{id_handed}
use Rattle.message.specs.declared.checking.Found.{Found}
use Rattle.meant.specs.declared.Written.{Written as Count}
use Rattle.meant.specs.First.{First}
use Rattle.meant.specs.Replies.{Replies}
use Rattle.meant.proofs.ReplyLaws.{reply_written}
use Rattle.meant.specs.Events.{Carried, event_of, forecast_id, Carries, Sound, event_with}
use Rattle.events.specs.Says.{Got}
use Rattle.meant.proofs.EventLaws.{forecast_any}
use Rattle.promises.specs.Receiving.{asks_reply, reply_id, moved_for, moved_by, Owes, nothing_yet, a_notice, a_reply, no_reply, no_room, told, answer_of, Receives, ReceivesInto}
use Rattle.handover.specs.Inner.{Written, Answers, asks_by, no_receipt, refused_by, told_by, Finishes, lacks_room, refuses, tells}
use Rattle.promises.specs.declared.Receipt.{Receipt}
use Rattle.promises.specs.declared.Received.{Received}
use Rattle.handover.proofs.IdLaws.{asks_alive, asks_cells, alive_cells}
use Rattle.promises.proofs.SoundLaws.{id_sound, forecast_sound}

-- whatever stands for the id of cells
pub forecast_cells : {s : Bytes} {cells : List ℕ} {f : Found} → ChecksInto s cells f → (i : Bytes) → Sound s (forecast_id (message_by f.kind cells i))
forecast_cells {s} {cells} {f} x i = subst (Sound s) (forecast_any f.kind cells f.id i) (forecast_sound x.checks)

-- nothing is written anywhere
first_nothing : (old : Bytes) → First [] old old (record { refusal = 0; count = 0 })
first_nothing old = let e = le-leb 0 (length old) (omega arith) in record { answer = rw e refl; buffer = rw e refl }

module _ (s : Bytes) (m : Message) (n : ℕ) where
  pub wrote_nothing_yet : (old : Bytes) → n ≡ 1 → Written s m n old old (record { refusal = 0; count = 0 })
  wrote_nothing_yet old e = record { due = []; owes = nothing_yet e refl; first = first_nothing old }

  pub wrote_notice : {old new : Bytes} {r : Count} → (n ≡ 1 → ⊥) → (n ≡ 0 → ⊥) → First (notice n) old new r → Written s m n old new r
  wrote_notice a b f = record { due = notice n; owes = a_notice b a refl; first = f }

  pub wrote_reply : {old new : Bytes} {r : Count} {q : Bool} → n ≡ 0 → q ≡ asks_reply m → q ≡ true → Sound s (reply_id m) → Replies s (reply_id m) old new r → Written s m n old new r
  wrote_reply e f g h x = let (b, y, z) = reply_written h x in record { due = b; owes = a_reply e (sym f ∙ g) y; first = z }

  pub wrote_no_reply : (old : Bytes) {q : Bool} → n ≡ 0 → q ≡ asks_reply m → q ≡ false → Written s m n old old (record { refusal = 0; count = 0 })
  wrote_no_reply old e f g = record { due = []; owes = no_reply e (sym f ∙ g) refl; first = first_nothing old }

-- a message, and the blank one in its place
pub told_refused : (c : Checked) (v : Moved) (n : ℕ) {b : Message} → (v.refusal ≡ 0 → ⊥) → b ≡ blank 0
    → record { refusal = v.refusal; lane = v.lane; order = v.order; used = c.end; written = n; place = c.place; message = b } ≡ told c v n
unfolding told
told_refused c v n h e = rw (ne_eqb v.refusal 0 h) (ap (λ (b : Message). record { refusal = v.refusal; lane = v.lane; order = v.order; used = c.end; written = n; place = c.place; message = b }) e)

pub told_accepted : (c : Checked) (v : Moved) (n : ℕ) → v.refusal ≡ 0
    → record { refusal = v.refusal; lane = v.lane; order = v.order; used = c.end; written = n; place = c.place; message = c.message } ≡ told c v n
unfolding told
told_accepted c v n e = rw (eq-eqb v.refusal 0 e) refl

pub room_lacks : (l : Lane) {b : Message} → b ≡ blank 0 → record { refusal = 7; lane = l; order = 0; used = 0; written = 0; place = 0; message = b } ≡ no_room l
room_lacks l e = ap (λ (b : Message). record { refusal = 7; lane = l; order = 0; used = 0; written = 0; place = 0; message = b }) e

-- the two answers, by whether it fits
module _ (l : Lane) {s old new : Bytes} {c : Checked} {v : Moved} {w : Count} (h : Checks s c) {F : Carried} (y : Carries s (forecast_id c.message) F) (e : v ≡ moved_by l c.refusal (event_of c.message F)) (x : Written s c.message v.refusal old new w) where
  owed : Owes s c.message (moved_by l c.refusal (event_of c.message F)).refusal x.due
  owed = subst (λ (v : Moved). Owes s c.message v.refusal x.due) e x.owes

  fits : (z : Bool) → leb (length x.due) (length old) ≡ z → (w.refusal ≡ cond z 0 7) × (w.count ≡ cond z (length x.due) 0)
  fits true f = (ap (λ (w : Count). w.refusal) x.first.answer ∙ rw f refl, ap (λ (w : Count). w.count) x.first.answer ∙ rw f refl)
  fits false f = (ap (λ (w : Count). w.refusal) x.first.answer ∙ rw f refl, ap (λ (w : Count). w.count) x.first.answer ∙ rw f refl)

  pub is_no_room : {r : Received} → (w.refusal ≡ 0 → ⊥) → r ≡ no_room l → Receives l s old new r
  unfolding answer_of
  is_no_room n f = record { checked = c; checks = h; forecast = F; carries = y; due = x.due; owes = owed; answer = f ∙ go (leb (length x.due) (length old)) refl; buffer = x.first.buffer }
    where
      go : (z : Bool) → leb (length x.due) (length old) ≡ z → no_room l ≡ answer_of l c (event_of c.message F) x.due (length old)
      go true g = absurd (n (fits true g).0)
      go false g = rw g refl

  pub is_told : {r : Received} → w.refusal ≡ 0 → r ≡ told c v w.count → Receives l s old new r
  unfolding answer_of
  is_told z f = record { checked = c; checks = h; forecast = F; carries = y; due = x.due; owes = owed; answer = f ∙ go (leb (length x.due) (length old)) refl; buffer = x.first.buffer }
    where
      go : (b : Bool) → leb (length x.due) (length old) ≡ b → told c v w.count ≡ answer_of l c (event_of c.message F) x.due (length old)
      go true g = rw (g, ← e) (ap (told c v) (fits true g).1)
      go false g = absurd (let y : 7 ≡ 0 = sym (fits false g).0 ∙ z in omega arith)

-- so for each message with that Id
module _ {s : Bytes} {n : ℕ} {asks : Bool} {id : Option Span} where
  pub answers_nothing_yet : (old : Bytes) → n ≡ 1 → Answers s n asks id old old (record { refusal = 0; count = 0 })
  answers_nothing_yet old e = record { says = λ m f g. wrote_nothing_yet s m n old e }

  pub answers_notice : {old new : Bytes} {r : Count} → (n ≡ 1 → ⊥) → (n ≡ 0 → ⊥) → First (notice n) old new r → Answers s n asks id old new r
  answers_notice a b x = record { says = λ m f g. wrote_notice s m n a b x }

  pub answers_reply : {old new : Bytes} {r : Count} → n ≡ 0 → asks ≡ true → (asks ≡ true → Sound s id) → Replies s id old new r → Answers s n asks id old new r
  answers_reply {old} {new} {r} e t h x = record { says = λ m f g. wrote_reply s m n e f t (subst (Sound s) (g t) (h t)) (subst (λ (w : Option Span). Replies s w old new r) (g t) x) }

  pub answers_none : (old : Bytes) → n ≡ 0 → asks ≡ false → Answers s n asks id old old (record { refusal = 0; count = 0 })
  answers_none old e t = record { says = λ m f g. wrote_no_reply s m n old e f t }

-- the cells stay as many
pub finish_long : {l : Lane} {f : Found} {v : Moved} {w : Count} {before after : List ℕ} {r : Receipt} → Finishes l f v w before after r → length after ≡ length before
finish_long {before = before} (lacks_room n e h) = ap length e ∙ length-replicate {A = ℕ} (length before) 0
finish_long {before = before} (refuses z n e h) = ap length e ∙ length-replicate {A = ℕ} (length before) 0
finish_long (tells z y e h) = ap length e

-- the three answers with cells
module _ (l : Lane) {s : Bytes} {cells : List ℕ} {f : Found} {e : Event} {v : Moved} {asks : Bool} {alive : Option Span} (x : ChecksInto s cells f) (g : Got s f.kind cells f.id e) (ev : v ≡ moved_for l f.refusal e) (ea : asks ≡ asks_by f.kind (cell_at cells 0) (cell_at cells 1)) (ei : alive ≡ words_by (cell_at cells 3) (cell_at cells 4) (cell_at cells 5)) where
  abbrev message : Message
  message = message_by f.kind cells f.id

  same_id_case : asks ≡ true → alive ≡ reply_id message
  same_id_case t = ei ∙ alive_cells cells f.id f.kind (asks_alive f.kind (cell_at cells 0) (cell_at cells 1) (sym ea ∙ t))

  pub sound_id : asks ≡ true → Sound s alive
  sound_id t = subst (Sound s) (sym (same_id_case t)) (id_sound x.checks)

  carried : Carries s (forecast_id message) g.forecast
  carried = g.carries f.id

  moved : v ≡ moved_by l f.refusal (event_of message g.forecast)
  unfolding moved_by
  moved = ev ∙ ap (moved_for l f.refusal) (g.is ∙ ap (λ (id : Bytes). event_with f.kind id g.forecast) (id_handed x.checks))

  module _ {old new : Bytes} {w : Count} (y : Answers s v.refusal asks alive old new w) where
    wrote : Written s message v.refusal old new w
    wrote = y.says message (ea ∙ asks_cells cells f.id f.kind) same_id_case

    into_no_room : {after : List ℕ} {r : Receipt} → (w.refusal ≡ 0 → ⊥) → after ≡ replicate NUMBERS 0 → r ≡ no_receipt l → ReceivesInto l s old new after r
    into_no_room {after} {r} n z e =
        subst (λ (r : Receipt). ReceivesInto l s old new after r) (sym e) (subst (λ (c : List ℕ). ReceivesInto l s old new c (no_receipt l)) (sym z)
        (is_no_room l x.checks carried moved wrote n (room_lacks l refl)))

    into_refused : {after : List ℕ} {r : Receipt} → w.refusal ≡ 0 → (v.refusal ≡ 0 → ⊥) → after ≡ replicate NUMBERS 0 → r ≡ refused_by f v w.count → ReceivesInto l s old new after r
    into_refused {after} {r} h n z e =
        subst (λ (r : Receipt). ReceivesInto l s old new after r) (sym e) (subst (λ (c : List ℕ). ReceivesInto l s old new c (refused_by f v w.count)) (sym z)
        (is_told l x.checks carried moved wrote h (told_refused (handed_by f cells) v w.count n refl)))

    into_told : {r : Receipt} → w.refusal ≡ 0 → v.refusal ≡ 0 → r ≡ told_by f v w.count → ReceivesInto l s old new cells r
    into_told {r} h z e =
        subst (λ (r : Receipt). ReceivesInto l s old new cells r) (sym e) (is_told l x.checks carried moved wrote h (told_accepted (handed_by f cells) v w.count z))

    zeros_so : {after : List ℕ} → after ≡ replicate (length cells) 0 → after ≡ replicate NUMBERS 0
    zeros_so e = e ∙ ap (λ (n : ℕ). replicate n 0) x.long

    pub into_all : {after : List ℕ} {r : Receipt} → Finishes l f v w cells after r → ReceivesInto l s old new after r
    into_all (lacks_room n e h) = into_no_room n (zeros_so e) h
    into_all (refuses z n e h) = into_refused z n (zeros_so e) h
    into_all {after} {r} (tells z y e h) = subst (λ (c : List ℕ). ReceivesInto l s old new c r) (sym e) (into_told z y h)
