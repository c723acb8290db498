-- The id of a message of cells.
use mathlib.Core.Path.{◌≡◌, refl, sym, ap, ◌∙◌}
use mathlib.Core.List.{List}
use Prim.Native.Nat.{ℕ, ◌≤◌, ◌<◌}
use borrow.Author.Tests.{ne_eqb, eq-eqb, le-leb, lt-leb}
use Rattle.grammar.specs.Bytes.{Bytes}
use Rattle.value.specs.Ids.{no_bytes}
use Rattle.table.specs.Table.{rows_of, guid_cell_in}
use Rattle.message.specs.Cells.{NUMBERS, cell_at}
use Rattle.message.specs.Messages.{id_cell, id_by}

-- the id of a kind
module _ (k : ℕ) (cells : List ℕ) (id : Bytes) {at : ℕ} (e : at ≡ guid_cell_in NUMBERS (rows_of k) 0) where
  so : {r : Bytes} → r ≡ id_by at cells id → r ≡ id_by (id_cell k) cells id
  unfolding id_cell
  so h = h ∙ ap (λ (n : ℕ). id_by n cells id) e

  pub named_none : NUMBERS ≤ at → no_bytes ≡ id_by (id_cell k) cells id
  named_none h = so (rw (le-leb NUMBERS at h) refl)

  pub named_absent : at < NUMBERS → {t : ℕ} → t ≡ cell_at cells at → t ≡ 0 → no_bytes ≡ id_by (id_cell k) cells id
  named_absent h f z = so (rw (lt-leb NUMBERS at h, eq-eqb (cell_at cells at) 0 (sym f ∙ z)) refl)

  pub named_there : at < NUMBERS → {t : ℕ} → t ≡ cell_at cells at → (t ≡ 0 → ⊥) → id ≡ id_by (id_cell k) cells id
  named_there h f n = so (rw (lt-leb NUMBERS at h, ne_eqb (cell_at cells at) 0 (λ z. n (f ∙ z))) refl)
