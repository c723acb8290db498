-- What is handed out of a message is what its reading says.
use mathlib.Core.Path.{◌≡◌, refl, sym, ap, subst, ◌∙◌}
use mathlib.Core.List.{List, ◌++◌}
use Prim.Native.Nat.{ℕ, ◌*◌}
use native.Mathlib.Omega.{arith}
use lib.ListN.{length, drop, replicate, length-replicate}
use Rattle.grammar.specs.Bytes.{Bytes}
use Rattle.grammar.specs.Message.{read_layout}
use Rattle.table.specs.Table.{Row, rows_of}
use Rattle.table.specs.Says.{refusal_of, child_of, said_of}
use Rattle.table.specs.Theorems.{rows_table}
use Rattle.value.specs.Ids.{no_bytes}
use Rattle.message.specs.Fields.{Field, fields_in}
use Rattle.message.specs.Cells.{NUMBERS, fields_from, cells_of}
use Rattle.message.specs.Checked.{places_in, message_of, Checks, ends as ends_so, more as more_so, malformed as malformed_so, too_long as too_long_so, ChecksInto}
use Rattle.message.specs.Messages.{with_zeros, id_among, message_from, blank, message_by, fields_of, id_of, id_cell, id_by}
use Rattle.message.specs.declared.checking.Checked.{Checked}
use Rattle.message.specs.declared.cells.Message.{Message}
use Rattle.message.proofs.MessageLaws.{message_table, is_refused, is_accepted}
use Rattle.message.proofs.GuidLaws.{id_of_cells}
use Rattle.reads.specs.Whole.{outcome_of, CellsChecked, ends, more, malformed, too_long}
use Rattle.reads.specs.Ids.{TakesId}
use Rattle.message.specs.declared.checking.Found.{Found}
use Rattle.reads.specs.declared.whole.Outcome.{Outcome}
use Rattle.reads.proofs.HandLaws.{AsFields, as_fields}

abbrev pub found_by : Outcome → Bytes → Found
found_by o id = record { refusal = o.refusal; kind = o.kind; start = o.start; end = o.end; place = o.place; id = id }

abbrev pub answered_by : Outcome → Message → Checked
answered_by o m = record { refusal = o.refusal; start = o.start; end = o.end; place = o.place; message = m }

-- a message that is not refused
abbrev zeros : List ℕ
zeros = replicate NUMBERS 0

pub all_cells : {cells : List ℕ} → cells ≡ zeros → length cells ≡ NUMBERS
all_cells e = ap length e ∙ length-replicate {A = ℕ} NUMBERS 0

pub cleared_so : (n : ℕ) {told : List ℕ} → told ≡ replicate n 0 → n ≡ NUMBERS → told ≡ zeros
cleared_so n e h = e ∙ ap (λ (n : ℕ). replicate n 0) h

-- cells and an id are the message of these fields
made_of : (k : ℕ) (fields : List Field) {told : List ℕ} {id : Bytes} → told ≡ cells_of fields ++ drop (3 * length (rows_of k)) zeros → length (cells_of fields) ≡ 3 * length (rows_of k) → id ≡ id_among fields → message_by k told id ≡ message_from k fields
unfolding message_from with_zeros
made_of k fields {told} {id} a n i =
    ap (λ (c : List ℕ). message_by k c id) (a ∙ ap (λ (n : ℕ). cells_of fields ++ drop n zeros) (sym n)) ∙ ap (message_by k (cells_of fields ++ drop (length (cells_of fields)) zeros)) i

id_among_lem : (k : ℕ) (fields : List Field) (told : List ℕ) (id : Bytes) → fields_from (rows_of k) 0 told id ≡ fields → id ≡ id_by (id_cell k) told id → id ≡ id_among fields
unfolding id_of fields_of
id_among_lem k fields told id f i = i ∙ sym (id_of_cells told id k) ∙ ap id_among f

pub into_accepted : {s : Bytes} {before after told : List ℕ} {o : Outcome} {id : Bytes} {r : Found} → before ≡ zeros → CellsChecked s before after o → o.refusal ≡ 0 → TakesId s (id_cell o.kind) after told id → r ≡ found_by o id → length told ≡ NUMBERS → ChecksInto s told r
into_accepted {s} {before} {after} {told} {o} {id} {r} b (ends start end p l w e c) z i h n = subst (λ (r : Found). ChecksInto s told r) (sym h) (record { checks = checks_so; long = n })
  where
    k : ℕ
    k = (said_of (read_layout l)).kind

    refused : (said_of (read_layout l)).refusal ≡ 0
    refused = sym (ap (λ (o : Outcome). o.refusal) e) ∙ z

    kind : o.kind ≡ k
    kind = ap (λ (o : Outcome). o.kind) e

    t : TakesId s (id_cell k) after told id
    t = subst (λ (k : ℕ). TakesId s (id_cell k) after told id) kind i

    x : AsFields s start end l w after id k (drop (3 * length (rows_of k)) before) told
    x = as_fields s start end l w after id k (drop (3 * length (rows_of k)) before) told c (sym (ap (λ (rows : List Row). refusal_of rows (child_of (read_layout l))) (rows_table k (child_of (read_layout l)))) ∙ refused) t.id t.cells

    fields : List Field
    fields = fields_in (rows_of k) (places_in start l) (child_of (read_layout l))

    said : message_by o.kind told id ≡ message_of k (places_in start l) (child_of (read_layout l))
    said =
        ap (λ (k : ℕ). message_by k told id) kind
        ∙ made_of k fields (x.told ∙ ap (λ (y : List ℕ). cells_of fields ++ drop (3 * length (rows_of k)) y) b) x.long (id_among_lem k fields told id x.fields t.by)
        ∙ sym (message_table k (places_in start l) (child_of (read_layout l)))

    checks_so : Checks s (answered_by o (message_by o.kind told id))
    checks_so = ends_so start end p l w (ap (answered_by o) said ∙ ap (λ (o : Outcome). answered_by o (message_of k (places_in start l) (child_of (read_layout l)))) e ∙ is_accepted (said_of (read_layout l)).refusal start end k (message_of k (places_in start l) (child_of (read_layout l))) refused)
into_accepted b (more start p e c) z i h n = absurd (let y = sym (ap (λ (o : Outcome). o.refusal) e) ∙ z in omega arith)
into_accepted b (malformed start place p e c) z i h n = absurd (let y = sym (ap (λ (o : Outcome). o.refusal) e) ∙ z in omega arith)
into_accepted b (too_long start p e c) z i h n = absurd (let y = sym (ap (λ (o : Outcome). o.refusal) e) ∙ z in omega arith)

-- no message, or one that is refused
check_refused : {s : Bytes} {before after : List ℕ} {o : Outcome} {m : Message} {r : Checked} → CellsChecked s before after o → (o.refusal ≡ 0 → ⊥) → m ≡ blank o.kind → r ≡ answered_by o m → Checks s r
check_refused {s} {before} {after} {o} {m} {r} x z q h = go x
  where
    told : {n k start end place : ℕ} → o ≡ outcome_of n k start end place → r ≡ answered_by (outcome_of n k start end place) (blank k)
    told e = h ∙ ap (answered_by o) q ∙ ap (λ (o : Outcome). answered_by o (blank o.kind)) e

    go : CellsChecked s before after o → Checks s r
    go (ends start end p l w e c) = ends_so start end p l w (told e ∙ is_refused (said_of (read_layout l)).refusal start end (said_of (read_layout l)).kind (message_of (said_of (read_layout l)).kind (places_in start l) (child_of (read_layout l))) (λ y. z (ap (λ (o : Outcome). o.refusal) e ∙ y)) refl)
    go (more start p e c) = more_so start p (told e)
    go (malformed start place p e c) = malformed_so start place p (told e)
    go (too_long start p e c) = too_long_so start p (told e)

pub into_refused : {s : Bytes} {before after told : List ℕ} {o : Outcome} {r : Found} → CellsChecked s before after o → (o.refusal ≡ 0 → ⊥) → told ≡ zeros → r ≡ found_by o no_bytes → ChecksInto s told r
into_refused {s} {told} {o} x z t h = subst (λ (r : Found). ChecksInto s told r) (sym h) (subst (λ (l : List ℕ). ChecksInto s l (found_by o no_bytes)) (sym t) (record { checks = check_refused x z refl refl; long = all_cells refl }))

-- the message that the cells are
pub handed : {s : Bytes} {cells : List ℕ} {f : Found} → ChecksInto s cells f → Checks s (record { refusal = f.refusal; start = f.start; end = f.end; place = f.place; message = message_by f.kind cells f.id })
handed x = x.checks
