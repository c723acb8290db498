-- What asks for a reply, and what the lane becomes.
use mathlib.Core.Path.{◌≡◌, refl, sym, ap, subst, ◌∙◌}
use mathlib.Core.List.{List}
use mathlib.Core.Bool.{Bool, true, false}
use Prim.Native.Nat.{ℕ}
use native.Mathlib.Omega.{arith}
use lib.Dec.{eqb}
use borrow.Author.Tests.{ne_eqb, eq-eqb, eqb-true}
use Rattle.exact.specs.Chain.{clash}
use Rattle.lane.specs.Record.{ended, kept, received}
use Rattle.lane.specs.declared.Event.{Event}
use Rattle.lane.specs.declared.Lane.{Lane}
use Rattle.lane.specs.declared.Moved.{Moved}
use Rattle.grammar.specs.Bytes.{Bytes}
use Rattle.table.specs.Table.{table}
use Rattle.message.specs.Cells.{cell_at, words_by, whole_by, field_by, fields_from}
use Rattle.message.specs.Messages.{message_by, fields_of}
use Rattle.promises.specs.Receiving.{asks_reply, reply_id, moved_for}
use Rattle.handover.specs.Inner.{asks_by}

-- a CheckAlive of Type 1
module _ (k t n : ℕ) where
  pub asks_none : k ≡ 10 → t ≡ 0 → false ≡ asks_by k t n
  unfolding whole_by
  asks_none e f = rw (eq-eqb k 10 e, eq-eqb t 0 f) refl

  pub asks_some : k ≡ 10 → (t ≡ 0 → ⊥) → eqb n 1 ≡ asks_by k t n
  unfolding whole_by
  asks_some e f = rw (eq-eqb k 10 e, ne_eqb t 0 f) refl

  pub asks_other : (k ≡ 10 → ⊥) → false ≡ asks_by k t n
  asks_other h = rw (ne_eqb k 10 h) refl

  pub asks_alive : asks_by k t n ≡ true → k ≡ 10
  asks_alive e = go (eqb k 10) refl
    where
      go : (b : Bool) → eqb k 10 ≡ b → k ≡ 10
      go true f = eqb-true k 10 f
      go false f = clash (sym (asks_other (λ z. clash (sym (eq-eqb k 10 z) ∙ f)) ∙ e))

module _ (cells : List ℕ) (id : Bytes) where
  alive_asks : asks_by 10 (cell_at cells 0) (cell_at cells 1) ≡ asks_reply (message_by 10 cells id)
  unfolding asks_reply fields_of fields_from field_by table
  alive_asks = refl

  none_asks : (k : ℕ) → eqb k 10 ≡ false → asks_reply (message_by k cells id) ≡ false
  unfolding asks_reply
  none_asks k f = rw f refl

  pub asks_cells : (k : ℕ) → asks_by k (cell_at cells 0) (cell_at cells 1) ≡ asks_reply (message_by k cells id)
  asks_cells k = go (eqb k 10) refl
    where
      go : (b : Bool) → eqb k 10 ≡ b → asks_by k (cell_at cells 0) (cell_at cells 1) ≡ asks_reply (message_by k cells id)
      go true f = subst (λ (k : ℕ). asks_by k (cell_at cells 0) (cell_at cells 1) ≡ asks_reply (message_by k cells id)) (sym (eqb-true k 10 f)) alive_asks
      go false f = rw f (sym (none_asks k f))

  pub alive_cells : (k : ℕ) → k ≡ 10 → words_by (cell_at cells 3) (cell_at cells 4) (cell_at cells 5) ≡ reply_id (message_by k cells id)
  unfolding reply_id fields_of fields_from field_by table
  alive_cells k e = ap (λ (k : ℕ). reply_id (message_by k cells id)) (sym e)

-- what the lane becomes
module _ (l : Lane) (n : ℕ) (e : Event) where
  pub moved_on : n ≡ 0 → {r : Moved} → r ≡ received l e → r ≡ moved_for l n e
  moved_on z f = f ∙ rw (eq-eqb n 0 z) refl

  pub moved_kept : n ≡ 1 → kept l 1 ≡ moved_for l n e
  moved_kept z = rw (ne_eqb n 0 (λ y. omega arith), eq-eqb n 1 z) refl

  pub moved_ended : (n ≡ 0 → ⊥) → (n ≡ 1 → ⊥) → {r : Moved} → r ≡ ended l n → r ≡ moved_for l n e
  moved_ended y z f = f ∙ rw (ne_eqb n 0 y, ne_eqb n 1 z) refl
