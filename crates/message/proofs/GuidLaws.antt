-- At most one row of a kind is a GUID; its cell, and the BoardId among fields.
use Rattle.std.specs.Prelude.{Some, None}
use mathlib.Core.Path.{◌≡◌, refl, sym, ap, ◌∙◌}
use mathlib.Core.List.{List, [], ◌∷◌}
use mathlib.Core.Bool.{Bool, true, false, ◌&&◌, not, cond}
use Prim.Native.Nat.{ℕ, ◌+◌, ◌*◌, ◌≤◌, ◌<◌}
use native.Mathlib.Omega.{arith}
use lib.ListN.{length}
use lib.Dec.{leb}
use borrow.Author.Tests.{leb-true, lt-leb}
use Rattle.exact.specs.Chain.{clash}
use Rattle.grammar.specs.Bytes.{Bytes}
use Rattle.value.specs.Ids.{no_bytes}
use Rattle.table.specs.Table.{Row, Form, words, some_words, whole, guid, version, positive, features, table, rows_of, is_guid, guid_cell_in}
use Rattle.table.specs.Theorems.{each_rows}
use Rattle.message.specs.Fields.{Field}
use Rattle.message.specs.Cells.{ROWS, NUMBERS, is_there, guid_by, field_by, cell_at, fields_from}
use Rattle.message.specs.Messages.{bytes_in, id_among, id_of, fields_of, id_cell, id_by, message_by}

-- the rows of a kind are few
pub few_rows : (k : ℕ) → length (rows_of k) ≤ ROWS
unfolding table
few_rows k = leb-true _ _ (each_rows (λ l. leb (length l) ROWS) table k refl)

pub both : (a b : Bool) → a && b ≡ true → (a ≡ true) × (b ≡ true)
both true b e = (refl, e)
both false b e = clash (sym e)

-- at most one row of a kind is a GUID
abbrev pub no_guid : List Row → Bool
no_guid [] = true
no_guid (r ∷ l) = not (is_guid r.form) && no_guid l

abbrev pub one_guid : List Row → Bool
one_guid [] = true
one_guid (r ∷ l) = cond (is_guid r.form) (no_guid l) (one_guid l)

pub one_guid_lem : (k : ℕ) → one_guid (rows_of k) ≡ true
unfolding table
one_guid_lem k = each_rows one_guid table k refl

-- its cell stands among the cells, and behind them if there is none
abbrev celled : List Row → Bool
celled l = cond (no_guid l) (leb NUMBERS (guid_cell_in NUMBERS l 0)) (leb (guid_cell_in NUMBERS l 0 + 3) NUMBERS)

all_celled : (k : ℕ) → celled (rows_of k) ≡ true
unfolding table
all_celled k = each_rows celled table k refl

pub no_guid_cell : (k : ℕ) → no_guid (rows_of k) ≡ true → leb NUMBERS (guid_cell_in NUMBERS (rows_of k) 0) ≡ true
no_guid_cell k e = sym (ap (λ (b : Bool). cond b (leb NUMBERS (guid_cell_in NUMBERS (rows_of k) 0)) (leb (guid_cell_in NUMBERS (rows_of k) 0 + 3) NUMBERS)) e) ∙ all_celled k

pub guid_cell_lem : (k : ℕ) → no_guid (rows_of k) ≡ false → leb NUMBERS (guid_cell_in NUMBERS (rows_of k) 0) ≡ false
guid_cell_lem k e = let z : guid_cell_in NUMBERS (rows_of k) 0 + 3 ≤ NUMBERS = leb-true _ _ (sym (ap (λ (b : Bool). cond b (leb NUMBERS (guid_cell_in NUMBERS (rows_of k) 0)) (leb (guid_cell_in NUMBERS (rows_of k) 0 + 3) NUMBERS)) e) ∙ all_celled k) in lt-leb NUMBERS (guid_cell_in NUMBERS (rows_of k) 0) (omega arith)

pub cell_in : (k : ℕ) → guid_cell_in NUMBERS (rows_of k) 0 < NUMBERS → guid_cell_in NUMBERS (rows_of k) 0 + 3 ≤ NUMBERS
cell_in k h = go (no_guid (rows_of k)) refl
  where
    go : (b : Bool) → no_guid (rows_of k) ≡ b → guid_cell_in NUMBERS (rows_of k) 0 + 3 ≤ NUMBERS
    go true e = absurd (let z : NUMBERS ≤ guid_cell_in NUMBERS (rows_of k) 0 = leb-true _ _ (no_guid_cell k e) in omega arith)
    go false e = leb-true _ _ (sym (ap (λ (b : Bool). cond b (leb NUMBERS (guid_cell_in NUMBERS (rows_of k) 0)) (leb (guid_cell_in NUMBERS (rows_of k) 0 + 3) NUMBERS)) e) ∙ all_celled k)

-- the id of a cell
id_here : (t : ℕ) (id : Bytes) → bytes_in (guid_by t id) ≡ cond (is_there t) id no_bytes
unfolding guid_by
id_here t id = go (is_there t)
  where
    go : (b : Bool) → bytes_in (cond b (Some id) None) ≡ cond b id no_bytes
    go true = refl
    go false = refl

-- the id among the fields of cells is the given one, if there is a cell for it, and it is there
module _ (cells : List ℕ) (id : Bytes) where
  one_field : (F : Form) (t a b : ℕ) (l : List Field) → id_among (field_by F t a b id ∷ l) ≡ cond (is_guid F) (cond (is_there t) id no_bytes) (id_among l)
  unfolding field_by
  one_field (words n) t a b l = refl
  one_field (some_words n) t a b l = refl
  one_field (whole lo hi) t a b l = refl
  one_field guid t a b l = id_here t id
  one_field version t a b l = refl
  one_field positive t a b l = refl
  one_field features t a b l = refl

  among_cells : (rows : List Row) (i : ℕ) → i + length rows ≤ ROWS → id_among (fields_from rows i cells id) ≡ id_by (guid_cell_in NUMBERS rows i) cells id
  unfolding fields_from
  among_cells [] i h = refl
  among_cells (r ∷ rows) i h = one_field r.form _ _ _ (fields_from rows (i + 1) cells id) ∙ go (is_guid r.form) (among_cells rows (i + 1) (omega arith))
    where
      go : (b : Bool) → id_among (fields_from rows (i + 1) cells id) ≡ id_by (guid_cell_in NUMBERS rows (i + 1)) cells id → cond b (cond (is_there (cell_at cells (3 * i))) id no_bytes) (id_among (fields_from rows (i + 1) cells id)) ≡ id_by (cond b (3 * i) (guid_cell_in NUMBERS rows (i + 1))) cells id
      go true e = rw (lt-leb NUMBERS (3 * i) (omega arith))
      go false e = e

  pub id_of_cells : (k : ℕ) → id_of (message_by k cells id) ≡ id_by (id_cell k) cells id
  unfolding id_of fields_of id_cell
  id_of_cells k = among_cells (rows_of k) 0 (let f = few_rows k in omega arith)
