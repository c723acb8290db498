-- T2.W6: what one end sends, the other end's `check` reads as that message. T2.L10 for the reply that receiving writes.
use Rattle.std.specs.Prelude.{Option}
use Rattle.value.specs.declared.text.Span.{Span}
use mathlib.Core.Path.{◌≡◌, refl, sym, ap, subst, ◌∙◌}
use mathlib.Core.List.{List, [], ◌++◌}
use mathlib.Core.Bool.{true}
use Prim.Native.Nat.{ℕ, ◌-◌, ◌≤◌}
use native.Mathlib.Omega.{arith}
use lib.ListN.{length, take, drop}
use lib.Seq.{take-append_seam}
use borrow.Author.Tests.{le-leb, eq-eqb}
use Rattle.exact.specs.Chain.{clash}
use Rattle.grammar.specs.Bytes.{Bytes}
use Rattle.grammar.specs.Limits.{MESSAGE}
use Rattle.grammar.specs.Tree.{Tree}
use Rattle.grammar.specs.Message.{Message as IsMessage, read_layout}
use Rattle.grammar.specs.Answer.{Answers, ends_at, more_from, malformed_at, too_long_from}
use Rattle.model.proofs.Cuts.{piece_behind}
use Rattle.model.proofs.Theorems.{one_reading, answers_only}
use Rattle.lane.specs.declared.Lane.{Lane}
use Rattle.table.specs.Table.{Row, is_kind, rows_of}
use Rattle.table.specs.Theorems.{rows_table}
use Rattle.table.specs.Says.{child_of, said_of, values_of}
use Rattle.message.specs.Checked.{Checks, ends, more, malformed, too_long, message_of, places_in}
use Rattle.message.specs.Handed.{HandedOut}
use Rattle.message.specs.Messages.{message_from, fields_of}
use Rattle.message.specs.declared.checking.Checked.{Checked}
use Rattle.message.specs.declared.cells.Message.{Message}
use Rattle.message.proofs.Theorems.{handed_out}
use Rattle.meant.specs.Meant.{meant_of, refusal_of}
use Rattle.meant.specs.Written.{written_of}
use Rattle.meant.proofs.Theorems.{reads_back, written_small}
use Rattle.meant.specs.Replies.{SameId}
use Rattle.meant.proofs.ReplyLaws.{reply_reads_back}
use Rattle.promises.specs.Receiving.{asks_reply, reply_id, Owes, nothing_yet, a_notice, a_reply, no_reply, Receives}
use Rattle.promises.specs.Sending.{Sends}
use Rattle.promises.specs.declared.Received.{Received}
use Rattle.promises.specs.declared.Sent.{Sent}
use Rattle.promises.proofs.KindLaws.{accepted_kind}
use Rattle.promises.proofs.Theorems as all

-- an input that starts with a message w of reading t: what any check of it finds
pub record Finds (w : Bytes) (t : Tree) (c : Checked) : Type 0 where
  pub start : c.start ≡ 0
  pub end : c.end ≡ length w
  pub kind : c.message.kind ≡ (said_of t).kind
  pub refusal : c.refusal ≡ (said_of t).refusal
  -- where its raw values stand, and what is handed out
  pub place : Bytes → Option Span
  pub message : c.message ≡ message_of (said_of t).kind place (child_of t)

ended_at : {w : Bytes} {t : Tree} (rest : Bytes) → IsMessage w t → length w ≤ MESSAGE → Answers (w ++ rest) (ends_at 0 (length w))
ended_at {w} {t} rest m h = record { g = []; bytes = w; rest = rest; reading = t; behind = piece_behind rest refl m refl; message = m; fits = h; starts = refl; ends = omega arith }

first_of : (w rest : Bytes) → take (length w - 0) (drop 0 (w ++ rest)) ≡ w
first_of w rest = let n : length w - 0 ≡ length w = omega arith in ap (λ (k : ℕ). take k (w ++ rest)) n ∙ take-append_seam w rest

-- the answer to such an input is one
pub finds : {w : Bytes} {t : Tree} (rest : Bytes) → IsMessage w t → length w ≤ MESSAGE → {c : Checked} → Checks (w ++ rest) c → (said_of t).refusal ≡ 0 → Finds w t c
unfolding message_from
finds {w} {t} rest m h {c} (ends start end a l k e) z =
    let q : ends_at start end ≡ ends_at 0 (length w) = answers_only (w ++ rest) (ends_at start end) (ends_at 0 (length w)) a (ended_at rest m h) in
    let qs : start ≡ 0 = cc in
    let qe : end ≡ length w = cc in
    let x : take (end - start) (drop start (w ++ rest)) ≡ w = ap (λ (n : ℕ). take (n - start) (drop start (w ++ rest))) qe ∙ ap (λ (n : ℕ). take (length w - n) (drop n (w ++ rest))) qs ∙ first_of w rest in
    let y : read_layout l ≡ t = one_reading (record { layout = l; laid = k; reads = refl }) (subst (λ (b : Bytes). IsMessage b t) (sym x) m) in
    let f : (said_of (read_layout l)).refusal ≡ 0 = ap (λ (t : Tree). (said_of t).refusal) y ∙ z in
    record {
      start = ap (λ (c : Checked). c.start) e ∙ qs;
      end = ap (λ (c : Checked). c.end) e ∙ qe;
      kind = ap (λ (c : Checked). c.message.kind) e ∙ rw (eq-eqb (said_of (read_layout l)).refusal 0 f) (ap (λ (t : Tree). (said_of t).kind) y);
      refusal = ap (λ (c : Checked). c.refusal) e ∙ ap (λ (t : Tree). (said_of t).refusal) y;
      place = places_in start l;
      message = ap (λ (c : Checked). c.message) e ∙ rw (eq-eqb (said_of (read_layout l)).refusal 0 f) (ap (λ (t : Tree). message_of (said_of t).kind (places_in start l) (child_of t)) y);
    }
finds {w} {t} rest m h (more start a e) z = absurd (let q : more_from start ≡ ends_at 0 (length w) = answers_only (w ++ rest) (more_from start) (ends_at 0 (length w)) a (ended_at rest m h) in let y : ◌≡◌ {A = ℕ} 0 1 = cc in omega arith)
finds {w} {t} rest m h (malformed start place a e) z = absurd (let q : malformed_at start place ≡ ends_at 0 (length w) = answers_only (w ++ rest) (malformed_at start place) (ends_at 0 (length w)) a (ended_at rest m h) in let y : ◌≡◌ {A = ℕ} 0 1 = cc in omega arith)
finds {w} {t} rest m h (too_long start a e) z = absurd (let q : too_long_from start ≡ ends_at 0 (length w) = answers_only (w ++ rest) (too_long_from start) (ends_at 0 (length w)) a (ended_at rest m h) in let y : ◌≡◌ {A = ℕ} 0 1 = cc in omega arith)

-- a check of n bytes that m was written as, and whatever stands behind them
pub record ReadAs (s : Bytes) (m : Message) (texts : Bytes) (n : ℕ) (c : Checked) : Type 0 where
  pub refusal : c.refusal ≡ 0
  pub start : c.start ≡ 0
  pub end : c.end ≡ n
  pub kind : c.message.kind ≡ m.kind
  -- T3.14: what is handed out is the one reading's ..
  pub handed : HandedOut s c
  -- .. whose values are those that were meant
  pub values : (said_of handed.reading).values ≡ meant_of (rows_of m.kind) (fields_of m) texts

pub written_is_read : (m : Message) (texts : Bytes) → is_kind m.kind ≡ true → refusal_of m texts ≡ 0 → (rest : Bytes) {c : Checked} → Checks (written_of m texts ++ rest) c → ReadAs (written_of m texts ++ rest) m texts (length (written_of m texts)) c
written_is_read m texts i z rest {c} x =
    let (t, a, k, n, v) = reads_back m texts i z in
    let b = written_small m texts i z in
    let f = finds rest a (omega arith) x n in
    let h = handed_out x (f.refusal ∙ n) in
    let w : take (c.end - c.start) (drop c.start (written_of m texts ++ rest)) ≡ written_of m texts = ap (λ (n : ℕ). take (n - c.start) (drop c.start (written_of m texts ++ rest))) f.end ∙ ap (λ (n : ℕ). take (length (written_of m texts) - n) (drop n (written_of m texts ++ rest))) f.start ∙ first_of (written_of m texts) rest in
    let q : t ≡ h.reading = h.one t (subst (λ (b : Bytes). IsMessage b t) (sym w) a) in
    record { refusal = f.refusal ∙ n; start = f.start; end = f.end; kind = f.kind ∙ k; handed = h; values = sym (ap (λ (t : Tree). (said_of t).values) q) ∙ v }

-- the kind and the values of what was read
pub read_kind : {s : Bytes} (m : Message) (texts : Bytes) {n : ℕ} {c : Checked} (a : ReadAs s m texts n c) → (said_of a.handed.reading).kind ≡ m.kind
unfolding message_from
read_kind m texts a = sym (ap (λ (m : Message). m.kind) a.handed.fields) ∙ a.kind

pub read_values : {s : Bytes} (m : Message) (texts : Bytes) {n : ℕ} {c : Checked} (a : ReadAs s m texts n c) → values_of (rows_of m.kind) (child_of a.handed.reading) ≡ meant_of (rows_of m.kind) (fields_of m) texts
read_values m texts a =
    let t = a.handed.reading in
    subst (λ (k : ℕ). values_of (rows_of k) (child_of t) ≡ meant_of (rows_of m.kind) (fields_of m) texts) (read_kind m texts a)
    (sym (ap (λ (l : List Row). values_of l (child_of t)) (rows_table (said_of t).kind (child_of t))) ∙ a.values)

-- what `send` put first in a buffer
pub sent_is_received : {l : Lane} {m : Message} {texts old new : Bytes} {r : Sent} → Sends l m texts old new r → r.refusal ≡ 0
    → (take r.written new ≡ written_of m texts)
    × ((rest : Bytes) (c : Checked) → Checks (take r.written new ++ rest) c → ReadAs (take r.written new ++ rest) m texts r.written c)
sent_is_received {l} {m} {texts} {old} {new} {r} p z = go (all.decides p)
  where
    go : all.Decides l m texts old new r
        → (take r.written new ≡ written_of m texts)
        × ((rest : Bytes) (c : Checked) → Checks (take r.written new ++ rest) c → ReadAs (take r.written new ++ rest) m texts r.written c)
    go (all.refused_by_case n e f) = absurd (n (sym (ap (λ (r : Sent). r.refusal) e) ∙ z))
    go (all.may_not_case a n e f) = absurd (let x : 8 ≡ 0 = sym (ap (λ (r : Sent). r.refusal) e) ∙ z in omega arith)
    go (all.lacks_room a b h e f) = absurd (let x : 7 ≡ 0 = sym (ap (λ (r : Sent). r.refusal) e) ∙ z in omega arith)
    go (all.goes a b h e f) =
        let n : r.written ≡ length (written_of m texts) = ap (λ (r : Sent). r.written) e in
        let w : take r.written new ≡ written_of m texts = ap (λ (k : ℕ). take k new) n ∙ ap (take (length (written_of m texts))) f ∙ take-append_seam (written_of m texts) (drop (length (written_of m texts)) old) in
        (w, λ rest c x. subst (λ (k : ℕ). ReadAs (take r.written new ++ rest) m texts k c) (sym n) (subst (λ (b : Bytes). ReadAs (b ++ rest) m texts (length (written_of m texts)) c) (sym w) (written_is_read m texts (accepted_kind l m texts b) a rest (subst (λ (b : Bytes). Checks (b ++ rest) c) w x))))

-- T2.L10: the reply that receiving wrote reads as a CheckAlive of Type 2 with the same Id, or no Id
pub receive_reply : {l : Lane} {s old new : Bytes} {r : Received} → Receives l s old new r → r.refusal ≡ 0 → asks_reply r.message ≡ true
    → (t : Tree) × IsMessage (take r.written new) t × ((said_of t).kind ≡ 10) × ((said_of t).refusal ≡ 0) × SameId s (reply_id r.message) (said_of t).values
receive_reply {l} {s} {old} {new} {r} p z q = go p.owes
  where
    a : all.Accepts p
    a = all.accepts p z

    zero_moved : (all.moved p).refusal ≡ 0
    zero_moved = sym (all.told_refusal p (all.accepts p z).fitted) ∙ z

    asks : asks_reply p.checked.message ≡ true
    asks = ap asks_reply (sym (all.accepts p z).message) ∙ q

    first : take r.written new ≡ p.due
    first = ap (λ (k : ℕ). take k new) (all.told_written p (all.accepts p z).fitted) ∙ ap (take (length p.due)) (p.buffer ∙ rw (le-leb (length p.due) (length old) (all.accepts p z).fitted) refl) ∙ take-append_seam p.due (drop (length p.due) old)

    go : Owes s p.checked.message (all.moved p).refusal p.due → (t : Tree) × IsMessage (take r.written new) t × ((said_of t).kind ≡ 10) × ((said_of t).refusal ≡ 0) × SameId s (reply_id r.message) (said_of t).values
    go (nothing_yet e f) = absurd (let x : 1 ≡ 0 = sym e ∙ zero_moved in omega arith)
    go (a_notice y w f) = absurd (y zero_moved)
    go (a_reply y w b) =
        let (t, i, k, n, v) = reply_reads_back b in
        (t, subst (λ (b : Bytes). IsMessage b t) (sym first) i, k, n, subst (λ (m : Message). SameId s (reply_id m) (said_of t).values) (sym (all.accepts p z).message) v)
    go (no_reply y w f) = clash (sym asks ∙ w)
