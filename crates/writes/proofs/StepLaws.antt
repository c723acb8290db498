-- The rows one behind the other, each with its cell. Nothing here speaks of a kind.
use mathlib.Core.Path.{◌≡◌, refl, sym, ap, subst, ◌∙◌}
use mathlib.Core.List.{List, [], ◌∷◌, ◌++◌, append_assoc, append-nil}
use Prim.Native.Nat.{ℕ, zero, suc, ◌+◌, ◌-◌, ◌*◌, ◌≤◌, ◌<◌}
use native.Mathlib.Omega.{arith}
use lib.ListN.{length, get_or, length-append}
use Rattle.grammar.specs.Bytes.{Bytes}
use Rattle.printing.specs.Put.{Countable, Wrote}
use Rattle.printing.specs.Writes.{wrote_none, ◌then◌}
use Rattle.table.specs.Table.{Row, Form, words, some_words, whole, guid, version, positive, features}
use Rattle.table.specs.Says.{first}
use Rattle.message.specs.Fields.{Field}
use Rattle.message.specs.Cells.{field_by, cell_at, fields_from}
use Rattle.meant.specs.Meant.{meant_of, first_in}
use Rattle.meant.specs.Written.{attributes_of, child_of, children_of}
use Rattle.refusals.specs.Numbers.{number_of}
use Rattle.refusals.specs.declared.Refusal.{Refusal}
use Rattle.refusals.specs.declared.Refusal.TheVariants.{Incomplete, Malformed, MessageTooLong, Missing, TextTooLong, BadValue, NoRoom, MayNotBeSent, ProtocolError}
use Rattle.cells.specs.declared.numbers.Cell.{Cell}
use Rattle.rows.specs.Coding.{row_of}
use Rattle.rows.specs.declared.data.Row.{Row as Coded}
use Rattle.rows.proofs.RowLaws.{left, next_row, no_row}
use Rattle.writes.specs.Rows.{row_refusal, row_bytes, child_bytes, refusal_from, attributes_from, children_from}

-- a child is the same whatever the third number and the id
child_same : (F : Form) (n : Bytes) (t a b : ℕ) (id : Bytes) → child_of n (field_by F t a b id) ≡ child_of n (field_by F t a 0 [])
unfolding field_by child_of
child_same (words k) n t a b id = refl
child_same (some_words k) n t a b id = refl
child_same (whole lo hi) n t a b id = refl
child_same guid n t a b id = refl
child_same version n t a b id = refl
child_same positive n t a b id = refl
child_same features n t a b id = refl

pub children_same : (l : List Row) (i : ℕ) (cells : List ℕ) (id : Bytes) → children_of l (fields_from l i cells id) ≡ children_from l i cells
unfolding children_from fields_from children_of
children_same [] i cells id = refl
children_same (r ∷ l) i cells id =
    ap (λ (y : Bytes). y ++ children_of l (fields_from l (i + 1) cells id)) (here id ∙ sym (here []))
    ∙ ap (λ (y : Bytes). child_of r.name (field_by r.form (cell_at cells (3 * i)) (cell_at cells (3 * i + 1)) (cell_at cells (3 * i + 2)) []) ++ y) (children_same l (i + 1) cells id)
  where
    here : (id : Bytes) → child_of r.name (field_by r.form (cell_at cells (3 * i)) (cell_at cells (3 * i + 1)) (cell_at cells (3 * i + 2)) id) ≡ child_of r.name (field_by r.form (cell_at cells (3 * i)) (cell_at cells (3 * i + 1)) 0 [])
    here id = child_same r.form r.name (cell_at cells (3 * i)) (cell_at cells (3 * i + 1)) (cell_at cells (3 * i + 2)) id

-- the cell of the row i
abbrev pub cell_in : List ℕ → ℕ → Cell
cell_in cells i = record { there = cell_at cells (3 * i); a = cell_at cells (3 * i + 1); b = cell_at cells (3 * i + 2) }

module _ (l : List Coded) (i : ℕ) (cells : List ℕ) (d : Coded) {x : Cell} (h : i < length l) (ex : x ≡ cell_in cells i) where
  -- of the row and its field
  step : {X : Type 0} (F : List Row → List Field → X) (id : Bytes) → F (left l i) (fields_from (left l i) i cells id) ≡ F (row_of (get_or l i d) ∷ left l (i + 1)) (field_by (row_of (get_or l i d)).form x.there x.a x.b id ∷ fields_from (left l (i + 1)) (i + 1) cells id)
  unfolding fields_from
  step F id =
      ap (λ (l : List Row). F l (fields_from l i cells id)) (next_row l i d h)
      ∙ ap (λ (x : Cell). F (row_of (get_or l i d) ∷ left l (i + 1)) (field_by (row_of (get_or l i d)).form x.there x.a x.b id ∷ fields_from (left l (i + 1)) (i + 1) cells id)) (sym ex)

  pub refusal_step : (id texts : Bytes) {r : ℕ} → r ≡ row_refusal (get_or l i d) x.there x.a x.b id texts → refusal_from (left l i) i cells id texts ≡ first r (refusal_from (left l (i + 1)) (i + 1) cells id texts)
  unfolding refusal_from meant_of row_refusal
  refusal_step id texts er = step (λ l x. first_in (meant_of l x texts)) id ∙ ap (λ (x : ℕ). first x (refusal_from (left l (i + 1)) (i + 1) cells id texts)) (sym er)

  pub attributes_step : (id texts : Bytes) → attributes_from (left l i) i cells id texts ≡ row_bytes (get_or l i d) x.there x.a x.b id texts ++ attributes_from (left l (i + 1)) (i + 1) cells id texts
  unfolding attributes_from attributes_of row_bytes
  attributes_step id texts = step (λ l x. attributes_of l x texts) id

  pub children_step : children_from (left l i) i cells ≡ child_bytes (get_or l i d) x.there x.a ++ children_from (left l (i + 1)) (i + 1) cells
  unfolding children_from children_of child_bytes
  children_step = step (λ l x. children_of l x) [] ∙ ap (λ (y : Bytes). y ++ children_from (left l (i + 1)) (i + 1) cells) (child_same (row_of (get_or l i d)).form (row_of (get_or l i d)).name x.there x.a x.b [])

-- behind the last row
module _ (l : List Coded) (i : ℕ) (cells : List ℕ) (h : length l ≤ i) where
  pub no_refusal : (id texts : Bytes) → refusal_from (left l i) i cells id texts ≡ 0
  unfolding refusal_from fields_from meant_of
  no_refusal id texts = ap (λ (l : List Row). refusal_from l i cells id texts) (no_row l i h)

  pub no_attributes : (id texts : Bytes) → attributes_from (left l i) i cells id texts ≡ []
  unfolding attributes_from fields_from attributes_of
  no_attributes id texts = ap (λ (l : List Row). attributes_from l i cells id texts) (no_row l i h)

  pub no_children : children_from (left l i) i cells ≡ []
  unfolding children_from fields_from children_of
  no_children = ap (λ (l : List Row). children_from l i cells) (no_row l i h)

-- the first that refuses
pub not_zero : (r : Refusal) → number_of r ≡ 0 → ⊥
not_zero Incomplete e = absurd (omega arith)
not_zero Malformed e = absurd (omega arith)
not_zero MessageTooLong e = absurd (omega arith)
not_zero Missing e = absurd (omega arith)
not_zero TextTooLong e = absurd (omega arith)
not_zero BadValue e = absurd (omega arith)
not_zero NoRoom e = absurd (omega arith)
not_zero MayNotBeSent e = absurd (omega arith)
not_zero ProtocolError e = absurd (omega arith)

pub decides : (r x : ℕ) → (r ≡ 0 → ⊥) → first r x ≡ r
decides zero x n = absurd (n refl)
decides (suc r) x n = refl

pub refusal_decides : (r : Refusal) (x : ℕ) → first (number_of r) x ≡ number_of r
refusal_decides r x = decides (number_of r) x (not_zero r)

-- some of it is put down, the rest is left
pub record Going (old : Bytes) (at : ℕ) (total rest new : Bytes) (r : ℕ) : Type 0 where
  pub done : Bytes
  pub parts : total ≡ done ++ rest
  pub wrote : Wrote old at done new r

pub starts : (old : Bytes) (at : ℕ) {total rest : Bytes} → total ≡ rest → Going old at total rest old at
starts old at e = record { done = []; parts = e; wrote = wrote_none old at }

pub goes : {old mid new total rest m next : Bytes} {at a r : ℕ} → Going old at total rest mid a → rest ≡ m ++ next → Wrote mid a m new r → Going old at total next new r
goes {old} {mid} {new} {total} {rest} {m} {next} g e w = record {
  done = g.done ++ m;
  parts = g.parts ∙ ap (λ (y : Bytes). g.done ++ y) e ∙ sym (append_assoc g.done m next);
  wrote = g.wrote then w;
}

pub going_fits : {old mid total rest : Bytes} {at a : ℕ} (m next : Bytes) → Going old at total rest mid a → rest ≡ m ++ next → Countable at total → Countable a m
going_fits {old} {mid} {total} {rest} {at} {a} m next g e c =
    let p = ap length g.parts in
    let q = ap length e in
    let x = length-append g.done rest in
    let y = length-append m next in
    let z = g.wrote.next in
    omega arith

pub ends : {old new total rest : Bytes} {at r : ℕ} → Going old at total rest new r → rest ≡ [] → Wrote old at total new r
ends {old} {new} {total} {rest} {at} {r} g e = subst (λ (y : Bytes). Wrote old at y new r) (sym (g.parts ∙ ap (λ (y : Bytes). g.done ++ y) e ∙ append-nil g.done)) g.wrote
