-- What the promises of `check` and `check_into` determine, and that what is handed out is the one reading's.
use Rattle.std.specs.Prelude.{Option}
use Rattle.value.specs.declared.text.Span.{Span}
use mathlib.Core.Path.{◌≡◌, refl, sym, ap, subst, ◌∙◌}
use mathlib.Core.List.{List}
use mathlib.Core.Bool.{Bool, true, false, cond}
use Prim.Native.Nat.{ℕ, ◌-◌}
use native.Mathlib.Omega.{arith}
use lib.ListN.{take, drop, replicate}
use lib.Dec.{eqb, leb}
use borrow.Author.Tests.{eq-eqb}
use Rattle.grammar.specs.Bytes.{Bytes}
use Rattle.grammar.specs.Tree.{Tree}
use Rattle.grammar.specs.Message.{Layout, Laid, read_layout}
use Rattle.grammar.specs.Answer.{Answer as PaperAnswer, Answers, ends_at, more_from, malformed_at, too_long_from}
use Rattle.model.proofs.Theorems.{one_layout, one_reading, answers_only}
use Rattle.table.specs.Table.{Entry}
use Rattle.value.specs.Ids.{no_bytes}
use Rattle.table.specs.Says.{child_of, said_in, said_of}
use Rattle.message.specs.Checked.{unread, message_in, places_in, message_of, checked_in, ChecksBy, Checks, ends, more, malformed, too_long, handed_by, ChecksInto}
use Rattle.message.specs.Handed.{HandedBy}
use Rattle.message.specs.Cells.{NUMBERS, is_there, cell_at}
use Rattle.message.specs.Messages.{blank, message_from, message_by, id_of, id_cell}
use Rattle.message.specs.declared.checking.Checked.{Checked}
use Rattle.message.specs.declared.cells.Message.{Message}
use Rattle.message.specs.declared.checking.Found.{Found}
use Rattle.message.proofs.HandedLaws.{there_reads, absent_not}
use Rattle.message.proofs.MessageLaws.{message_table}
use Rattle.message.proofs.GuidLaws.{id_of_cells}
use Rattle.message.proofs.BackLaws.{handed_id}

-- the result of the call for an answer of the paper, by a given table
abbrev ResultOf : List Entry → Bytes → PaperAnswer → Checked → Type 0
ResultOf by s (ends_at start end) r = (l : Layout) × Laid (take (end - start) (drop start s)) l × (r ≡ checked_in by start end l)
ResultOf by s (more_from start) r = r ≡ unread 1 start 0
ResultOf by s (malformed_at start place) r = r ≡ unread 2 start place
ResultOf by s (too_long_from start) r = r ≡ unread 3 start 0

answered : {by : List Entry} {s : Bytes} {r : Checked} → ChecksBy by s r → (a : PaperAnswer) × Answers s a × ResultOf by s a r
answered (ends start end p l w e) = (ends_at start end, p, (l, w, e))
answered (more start p e) = (more_from start, p, e)
answered (malformed start place p e) = (malformed_at start place, p, e)
answered (too_long start p e) = (too_long_from start, p, e)

same_result : (by : List Entry) (s : Bytes) (a : PaperAnswer) {r r' : Checked} → ResultOf by s a r → ResultOf by s a r' → r ≡ r'
same_result by s (ends_at start end) (l, w, e) (l', w', e') = e ∙ ap (checked_in by start end) (one_layout w w') ∙ sym e'
same_result by s (more_from start) e e' = e ∙ sym e'
same_result by s (malformed_at start place) e e' = e ∙ sym e'
same_result by s (too_long_from start) e e' = e ∙ sym e'

-- no second result satisfies the promise of `check`, by any table
pub check_only : {by : List Entry} {s : Bytes} {r r' : Checked} → ChecksBy by s r → ChecksBy by s r' → r ≡ r'
check_only {by} {s} {r} {r'} p q =
    let (a, x, y) = answered p in
    let (a', x', y') = answered q in
    same_result by s a y (subst (λ (b : PaperAnswer). ResultOf by s b r') (sym (answers_only s a a' x x')) y')

-- T3.14, by any table
pub handed_out : {by : List Entry} {s : Bytes} {r : Checked} → ChecksBy by s r → r.refusal ≡ 0 → HandedBy by s r
handed_out {by} {s} {r} (ends start end p l w e) h = subst (λ (r : Checked). HandedBy by s r) (sym e) (record {
  reading = read_layout l;
  message = record { layout = l; laid = w; reads = refl };
  one = λ t m. one_reading m (record { layout = l; laid = w; reads = refl });
  place = places_in start l;
  fields = ap (λ (z : Bool). cond z (message_in by (said_in by (read_layout l)).kind (places_in start l) (child_of (read_layout l))) (blank (said_in by (read_layout l)).kind)) (eq-eqb (said_in by (read_layout l)).refusal 0 (sym (ap (λ (r : Checked). r.refusal) e) ∙ h));
  there = there_reads s start end l w;
  absent = absent_not s start end l w;
})
handed_out (more start p e) h = absurd (let z = sym (ap (λ (r : Checked). r.refusal) e) ∙ h in omega arith)
handed_out (malformed start place p e) h = absurd (let z = sym (ap (λ (r : Checked). r.refusal) e) ∙ h in omega arith)
handed_out (too_long start p e) h = absurd (let z = sym (ap (λ (r : Checked). r.refusal) e) ∙ h in omega arith)

blank_named : (k : ℕ) → no_bytes ≡ id_of (blank k)
blank_named k = sym (id_of_cells (replicate NUMBERS 0) no_bytes k ∙ go (leb NUMBERS (id_cell k)) (is_there (cell_at (replicate NUMBERS 0) (id_cell k))))
  where
    go : (a b : Bool) → cond a no_bytes (cond b no_bytes no_bytes) ≡ no_bytes
    go true b = refl
    go false true = refl
    go false false = refl

message_named : (k : ℕ) (place : Bytes → Option Span) (t : Tree) → (message_of k place t).id ≡ id_of (message_of k place t)
unfolding message_from
message_named k place t = ap (λ (m : Message). m.id) (message_table k place t) ∙ sym (handed_id k place t)

handed_named : {s : Bytes} {c : Checked} → Checks s c → c.message.id ≡ id_of c.message
handed_named (ends start end p l w e) = subst (λ (c : Checked). c.message.id ≡ id_of c.message) (sym e) (go (eqb (said_of (read_layout l)).refusal 0))
  where
    k : ℕ
    k = (said_of (read_layout l)).kind

    m : Message
    m = message_of k (places_in start l) (child_of (read_layout l))

    go : (b : Bool) → (cond b m (blank k)).id ≡ id_of (cond b m (blank k))
    go true = message_named k (places_in start l) (child_of (read_layout l))
    go false = blank_named k
handed_named (more start p e) = subst (λ (c : Checked). c.message.id ≡ id_of c.message) (sym e) (blank_named 0)
handed_named (malformed start place p e) = subst (λ (c : Checked). c.message.id ≡ id_of c.message) (sym e) (blank_named 0)
handed_named (too_long start p e) = subst (λ (c : Checked). c.message.id ≡ id_of c.message) (sym e) (blank_named 0)

-- the id of a message that is handed out is its BoardId; zeros if it has none
pub id_handed : {s : Bytes} {r : Checked} → Checks s r → r.message.id ≡ id_of r.message
id_handed p = handed_named p

-- no second result, and no other cells, satisfy the promise of `check_into`
pub into_only : {s : Bytes} {cells cells' : List ℕ} {r r' : Found} → ChecksInto s cells r → ChecksInto s cells' r' → (r ≡ r') × (cells ≡ cells')
into_only {cells = cells} {cells'} {r} {r'} p q =
    let e : handed_by r cells ≡ handed_by r' cells' = check_only p.checks q.checks in
    let m : message_by r.kind cells r.id ≡ message_by r'.kind cells' r'.id = ap (λ (c : Checked). c.message) e in
    (same (ap (λ (c : Checked). c.refusal) e) (ap (λ (m : Message). m.kind) m) (ap (λ (c : Checked). c.start) e) (ap (λ (c : Checked). c.end) e) (ap (λ (c : Checked). c.place) e) (ap (λ (m : Message). m.id) m), ap (λ (m : Message). m.cells) m)
  where
    same : {a b c d e a' b' c' d' e' : ℕ} {i i' : Bytes} → a ≡ a' → b ≡ b' → c ≡ c' → d ≡ d' → e ≡ e' → i ≡ i'
        → ◌≡◌ {A = Found} (record { refusal = a; kind = b; start = c; end = d; place = e; id = i }) (record { refusal = a'; kind = b'; start = c'; end = d'; place = e'; id = i' })
    same p q r s t u = cc
