-- Fields laid into cells and taken from them again are the same.
use Rattle.std.specs.Prelude.{Option, Some, None}
use Rattle.value.specs.declared.text.Span.{Span}
use mathlib.Core.Path.{◌≡◌, refl, sym, ap, ◌∙◌}
use mathlib.Core.List.{List, [], ◌∷◌, ◌++◌, append_assoc}
use mathlib.Core.Bool.{Bool, true, false, not, cond}
use Prim.Native.Nat.{ℕ, ◌+◌, ◌*◌, ◌≤◌}
use native.Mathlib.Nat.{zero-add, suc-add}
use native.Mathlib.Omega.{arith}
use lib.ListN.{length, get_or, drop, replicate, length-append}
use lib.Dec.{eqb}
use Rattle.exact.specs.Chain.{clash}
use Rattle.grammar.specs.Bytes.{Bytes}
use Rattle.grammar.specs.Tree.{Tree}
use Rattle.table.specs.Table.{Row, Form, words, some_words, whole, guid, version, positive, features, rows_of, is_guid}
use Rattle.table.specs.Says.{Result, tried}
use Rattle.message.specs.Fields.{Field, none, a_words, a_whole, a_measure, a_guid, a_features, placed_by, field_for, fields_in}
use Rattle.message.specs.Cells.{NUMBERS, words_by, whole_by, measure_by, guid_by, features_by, field_by, cell_at, fields_from, flag, cell_of, cells_of}
use Rattle.message.specs.Messages.{with_zeros, bytes_in, id_among, message_from, fields_of, id_of}
use Rattle.message.specs.Checked.{message_of}
use Rattle.message.specs.declared.cells.Message.{Message}
use Rattle.message.proofs.MessageLaws.{message_table}
use Rattle.message.proofs.GuidLaws.{both, no_guid, one_guid, one_guid_lem}

-- the sort of value that a form asks for, and that a field is
abbrev pub sort_of : Form → ℕ
sort_of (words n) = 1
sort_of (some_words n) = 1
sort_of (whole lo hi) = 2
sort_of guid = 3
sort_of version = 1
sort_of positive = 4
sort_of features = 5

abbrev pub sort_in : Field → ℕ
sort_in none = 0
sort_in (a_words w) = 1
sort_in (a_whole w) = 2
sort_in (a_measure w) = 4
sort_in (a_guid g) = 3
sort_in (a_features f) = 5

abbrev pub sorts_of : List Row → List ℕ
sorts_of [] = []
sorts_of (r ∷ l) = sort_of r.form ∷ sorts_of l

abbrev pub sorts_in : List Field → List ℕ
sorts_in [] = []
sorts_in (x ∷ l) = sort_in x ∷ sorts_in l

-- the bytes of its ids, and that each is the id
abbrev pub ids_in : List Field → List Bytes
ids_in [] = []
ids_in (none ∷ l) = ids_in l
ids_in (a_words w ∷ l) = ids_in l
ids_in (a_whole w ∷ l) = ids_in l
ids_in (a_measure w ∷ l) = ids_in l
ids_in (a_guid g ∷ l) = bytes_in g ∷ ids_in l
ids_in (a_features f ∷ l) = ids_in l

abbrev pub each : List Bytes → Bytes → List Bytes
each [] id = []
each (v ∷ l) id = id ∷ each l id

-- a field for each row, of its sort, and at most one id
pub record Fits (rows : List Row) (fields : List Field) (id : Bytes) : Type 0 where
  pub sorts : sorts_of rows ≡ sorts_in fields
  pub ids : ids_in fields ≡ each (ids_in fields) id

-- forms of one sort read a cell alike
abbrev form_for : ℕ → Form
form_for k = cond (eqb k 1) version (cond (eqb k 2) (whole 0 0) (cond (eqb k 3) guid (cond (eqb k 4) positive features)))

by_sort : (F : Form) (t a b : ℕ) (id : Bytes) → field_by F t a b id ≡ field_by (form_for (sort_of F)) t a b id
unfolding field_by
by_sort (words n) t a b id = refl
by_sort (some_words n) t a b id = refl
by_sort (whole lo hi) t a b id = refl
by_sort guid t a b id = refl
by_sort version t a b id = refl
by_sort positive t a b id = refl
by_sort features t a b id = refl

some_sort : (F : Form) → 1 ≤ sort_of F
some_sort (words n) = omega arith
some_sort (some_words n) = omega arith
some_sort (whole lo hi) = omega arith
some_sort guid = omega arith
some_sort version = omega arith
some_sort positive = omega arith
some_sort features = omega arith

-- a field's cell is the field
abbrev read : ℕ → List ℕ → Bytes → Field
read k cells id = field_by (form_for k) (cell_at cells 0) (cell_at cells 1) (cell_at cells 2) id

cell_back : (x : Field) (id : Bytes) (rest : List ℕ) → 1 ≤ sort_in x → ids_in (x ∷ []) ≡ each (ids_in (x ∷ [])) id → read (sort_in x) (cell_of x ++ rest) id ≡ x
unfolding field_by words_by whole_by measure_by guid_by features_by
cell_back none id rest h e = absurd (omega arith)
cell_back (a_words None) id rest h e = refl
cell_back (a_words (Some p)) id rest h e = refl
cell_back (a_whole None) id rest h e = refl
cell_back (a_whole (Some n)) id rest h e = refl
cell_back (a_measure None) id rest h e = refl
cell_back (a_measure (Some d)) id rest h e = refl
cell_back (a_guid None) id rest h e = refl
cell_back (a_guid (Some v)) id rest h e = ap (λ (y : Bytes). a_guid (Some y)) (sym (ap (λ (l : List Bytes). get_or l 0 []) e))
cell_back (a_features None) id rest h e = refl
cell_back (a_features (Some f)) id rest h e = go f.forecast f.query f.send
  where
    go : (x y z : Bool) → a_features (features_by 1 (flag x + (2 * flag y + 4 * flag z))) ≡ a_features (Some (record { forecast = x; query = y; send = z }))
    go true true true = refl
    go true true false = refl
    go true false true = refl
    go true false false = refl
    go false true true = refl
    go false true false = refl
    go false false true = refl
    go false false false = refl

-- the cells behind others
at_behind : (pre w : List ℕ) (k : ℕ) → get_or (pre ++ w) (length pre + k) 0 ≡ get_or w k 0
at_behind [] w k = ap (λ (n : ℕ). get_or w n 0) (zero-add k)
at_behind (x ∷ pre) w k = ap (λ (n : ℕ). get_or (x ∷ (pre ++ w)) n 0) (suc-add (length pre) k) ∙ at_behind pre w k

pub cell_long : (x : Field) → length (cell_of x) ≡ 3
cell_long none = refl
cell_long (a_words None) = refl
cell_long (a_words (Some p)) = refl
cell_long (a_whole None) = refl
cell_long (a_whole (Some n)) = refl
cell_long (a_measure None) = refl
cell_long (a_measure (Some d)) = refl
cell_long (a_guid None) = refl
cell_long (a_guid (Some v)) = refl
cell_long (a_features None) = refl
cell_long (a_features (Some f)) = refl

-- one field, then the others
one_id : (x : Field) (l : List Field) (id : Bytes) → ids_in (x ∷ l) ≡ each (ids_in (x ∷ l)) id → (ids_in (x ∷ []) ≡ each (ids_in (x ∷ [])) id) × (ids_in l ≡ each (ids_in l) id)
one_id none l id e = (refl, e)
one_id (a_words w) l id e = (refl, e)
one_id (a_whole w) l id e = (refl, e)
one_id (a_measure w) l id e = (refl, e)
one_id (a_guid g) l id e = (ap (λ (k : List Bytes). get_or k 0 [] ∷ []) e, ap (drop 1) e)
one_id (a_features f) l id e = (refl, e)

head_back : (F : Form) (x : Field) (i : ℕ) (id : Bytes) (pre rest : List ℕ) → length pre ≡ 3 * i → sort_of F ≡ sort_in x → ids_in (x ∷ []) ≡ each (ids_in (x ∷ [])) id
    → field_by F (cell_at (pre ++ (cell_of x ++ rest)) (3 * i)) (cell_at (pre ++ (cell_of x ++ rest)) (3 * i + 1)) (cell_at (pre ++ (cell_of x ++ rest)) (3 * i + 2)) id ≡ x
head_back F x i id pre rest h s e =
    let w = cell_of x ++ rest in
    let p : 3 * i ≡ length pre + 0 = omega arith in
    let at : (k : ℕ) → cell_at (pre ++ w) (3 * i + k) ≡ cell_at w k = λ k. ap (λ (n : ℕ). cell_at (pre ++ w) (n + k)) (sym h) ∙ at_behind pre w k in
    by_sort F (cell_at (pre ++ w) (3 * i)) (cell_at (pre ++ w) (3 * i + 1)) (cell_at (pre ++ w) (3 * i + 2)) id
    ∙ ap (λ (k : ℕ). field_by (form_for k) (cell_at (pre ++ w) (3 * i)) (cell_at (pre ++ w) (3 * i + 1)) (cell_at (pre ++ w) (3 * i + 2)) id) s
    ∙ ap (λ (t : ℕ). field_by (form_for (sort_in x)) t (cell_at (pre ++ w) (3 * i + 1)) (cell_at (pre ++ w) (3 * i + 2)) id) (ap (cell_at (pre ++ w)) p ∙ at_behind pre w 0)
    ∙ ap (λ (a : ℕ). field_by (form_for (sort_in x)) (cell_at w 0) a (cell_at (pre ++ w) (3 * i + 2)) id) (at 1)
    ∙ ap (λ (b : ℕ). field_by (form_for (sort_in x)) (cell_at w 0) (cell_at w 1) b id) (at 2)
    ∙ cell_back x id rest (let z = some_sort F in omega arith) e

all_back : (rows : List Row) (fields : List Field) (i : ℕ) (id : Bytes) (pre rest : List ℕ) → length pre ≡ 3 * i → sorts_of rows ≡ sorts_in fields → ids_in fields ≡ each (ids_in fields) id
    → fields_from rows i (pre ++ (cells_of fields ++ rest)) id ≡ fields
unfolding fields_from cells_of
all_back [] [] i id pre rest h s e = refl
all_back [] (x ∷ k) i id pre rest h s e = absurd (let z = ap length s in omega arith)
all_back (r ∷ l) [] i id pre rest h s e = absurd (let z = ap length s in omega arith)
all_back (r ∷ l) (x ∷ k) i id pre rest h s e =
    let ids = one_id x k id e in
    let long : length (pre ++ cell_of x) ≡ 3 * (i + 1) = let a = length-append pre (cell_of x) in let b = cell_long x in omega arith in
    ap (λ (w : List ℕ). fields_from (r ∷ l) i (pre ++ w) id) (append_assoc (cell_of x) (cells_of k) rest)
    ∙ ap (λ (y : Field). y ∷ fields_from l (i + 1) (pre ++ (cell_of x ++ (cells_of k ++ rest))) id) (head_back r.form x i id pre (cells_of k ++ rest) h (ap (λ (l : List ℕ). get_or l 0 0) s) ids.0)
    ∙ ap (λ (w : List ℕ). x ∷ fields_from l (i + 1) w id) (sym (append_assoc pre (cell_of x) (cells_of k ++ rest)))
    ∙ ap (λ (y : List Field). x ∷ y) (all_back l k (i + 1) id (pre ++ cell_of x) rest long (ap (drop 1) s) ids.1)

pub fields_back : (rows : List Row) (fields : List Field) (id : Bytes) (rest : List ℕ) → Fits rows fields id → fields_from rows 0 (cells_of fields ++ rest) id ≡ fields
fields_back rows fields id rest f = all_back rows fields 0 id [] rest refl f.sorts f.ids

-- a message made of fields that fit its kind has these fields
pub made_back : (k : ℕ) (l : List Field) → Fits (rows_of k) l (id_among l) → fields_of (message_from k l) ≡ l
unfolding fields_of message_from with_zeros
made_back k l f = fields_back (rows_of k) l (id_among l) (drop (length (cells_of l)) (replicate NUMBERS 0)) f

-- what a reading hands out fits
pub handed_sort : (t : Form) (w : Option Span) (x : Result) → sort_in (field_for t w x) ≡ sort_of t
unfolding field_for
handed_sort (words n) w x = refl
handed_sort (some_words n) w x = refl
handed_sort (whole lo hi) w x = refl
handed_sort guid w x = refl
handed_sort version w x = refl
handed_sort positive w x = refl
handed_sort features w x = refl

handed_sorts : (rows : List Row) (place : Bytes → Option Span) (t : Tree) → sorts_of rows ≡ sorts_in (fields_in rows place t)
unfolding fields_in
handed_sorts [] place t = refl
handed_sorts (r ∷ rows) place t = rw (handed_sort r.form (placed_by r.need (place r.name)) (tried r t), ← handed_sorts rows place t)

-- fields of rows of which one at most is a GUID
pub ids_next : (F : Form) (x : Field) (l : List Field) → sort_of F ≡ sort_in x → is_guid F ≡ false → (ids_in (x ∷ l) ≡ ids_in l) × (id_among (x ∷ l) ≡ id_among l)
ids_next F none l s e = (refl, refl)
ids_next F (a_words w) l s e = (refl, refl)
ids_next F (a_whole w) l s e = (refl, refl)
ids_next F (a_measure w) l s e = (refl, refl)
ids_next (words n) (a_guid g) l s e = absurd (omega arith)
ids_next (some_words n) (a_guid g) l s e = absurd (omega arith)
ids_next (whole lo hi) (a_guid g) l s e = absurd (omega arith)
ids_next guid (a_guid g) l s e = clash e
ids_next version (a_guid g) l s e = absurd (omega arith)
ids_next positive (a_guid g) l s e = absurd (omega arith)
ids_next features (a_guid g) l s e = absurd (omega arith)
ids_next F (a_features f) l s e = (refl, refl)

no_ids : (rows : List Row) (l : List Field) → sorts_of rows ≡ sorts_in l → no_guid rows ≡ true → ids_in l ≡ []
no_ids [] [] s e = refl
no_ids [] (x ∷ l) s e = absurd (let z = ap length s in omega arith)
no_ids (r ∷ rows) [] s e = absurd (let z = ap length s in omega arith)
no_ids (r ∷ rows) (x ∷ l) s e =
    let (a, b) = both (not (is_guid r.form)) (no_guid rows) e in
    (ids_next r.form x l (ap (λ (l : List ℕ). get_or l 0 0) s) (not_so (is_guid r.form) a)).0 ∙ no_ids rows l (ap (drop 1) s) b
  where
    not_so : (b : Bool) → not b ≡ true → b ≡ false
    not_so true e = clash (sym e)
    not_so false e = refl

one_id_among : (rows : List Row) (l : List Field) → sorts_of rows ≡ sorts_in l → one_guid rows ≡ true → ids_in l ≡ each (ids_in l) (id_among l)
one_id_among [] [] s e = refl
one_id_among [] (x ∷ l) s e = absurd (let z = ap length s in omega arith)
one_id_among (r ∷ rows) [] s e = absurd (let z = ap length s in omega arith)
one_id_among (r ∷ rows) (x ∷ l) s e = go (is_guid r.form) refl e (λ f. one_id_among rows l (ap (drop 1) s) f)
  where
    head : sort_of r.form ≡ sort_in x
    head = ap (λ (l : List ℕ). get_or l 0 0) s

    go : (b : Bool) → is_guid r.form ≡ b → cond b (no_guid rows) (one_guid rows) ≡ true → (one_guid rows ≡ true → ids_in l ≡ each (ids_in l) (id_among l)) → ids_in (x ∷ l) ≡ each (ids_in (x ∷ l)) (id_among (x ∷ l))
    go true f e k = guid-first x (no_ids rows l (ap (drop 1) s) e)
      where
        guid-first : (x : Field) → ids_in l ≡ [] → ids_in (x ∷ l) ≡ each (ids_in (x ∷ l)) (id_among (x ∷ l))
        guid-first none n = rw n refl
        guid-first (a_words w) n = rw n refl
        guid-first (a_whole w) n = rw n refl
        guid-first (a_measure w) n = rw n refl
        guid-first (a_guid g) n = rw n refl
        guid-first (a_features f) n = rw n refl
    go false f e k =
        let (a, b) = ids_next r.form x l head f in
        a ∙ k e ∙ ap (each (ids_in l)) (sym b) ∙ ap (λ (k : List Bytes). each k (id_among (x ∷ l))) (sym a)

-- the fields of cells have the sorts of their rows
sort_by : (F : Form) (t a b : ℕ) (id : Bytes) → sort_of F ≡ sort_in (field_by F t a b id)
unfolding field_by
sort_by (words n) t a b id = refl
sort_by (some_words n) t a b id = refl
sort_by (whole lo hi) t a b id = refl
sort_by guid t a b id = refl
sort_by version t a b id = refl
sort_by positive t a b id = refl
sort_by features t a b id = refl

sorts_from : (rows : List Row) (i : ℕ) (cells : List ℕ) (id : Bytes) → sorts_of rows ≡ sorts_in (fields_from rows i cells id)
unfolding fields_from
sorts_from [] i cells id = refl
sorts_from (r ∷ rows) i cells id = rw (← sort_by r.form (cell_at cells (3 * i)) (cell_at cells (3 * i + 1)) (cell_at cells (3 * i + 2)) id, ← sorts_from rows (i + 1) cells id)

pub sorts_kind : (m : Message) → sorts_of (rows_of m.kind) ≡ sorts_in (fields_of m)
unfolding fields_of
sorts_kind m = sorts_from (rows_of m.kind) 0 m.cells m.id

pub fits_kind : (k : ℕ) (l : List Field) → sorts_of (rows_of k) ≡ sorts_in l → Fits (rows_of k) l (id_among l)
fits_kind k l s = record { sorts = s; ids = one_id_among (rows_of k) l s (one_guid_lem k) }

-- so the fields of a message that is handed out are those of its reading
pub handed_back : (k : ℕ) (place : Bytes → Option Span) (t : Tree) → fields_of (message_of k place t) ≡ fields_in (rows_of k) place t
handed_back k place t =
    ap fields_of (message_table k place t)
    ∙ made_back k (fields_in (rows_of k) place t) (fits_kind k (fields_in (rows_of k) place t) (handed_sorts (rows_of k) place t))

-- and so is its BoardId
pub handed_id : (k : ℕ) (place : Bytes → Option Span) (t : Tree) → id_of (message_of k place t) ≡ id_among (fields_in (rows_of k) place t)
unfolding id_of
handed_id k place t = ap id_among (handed_back k place t)
