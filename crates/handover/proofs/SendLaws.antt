-- Each answer of sending.
use mathlib.Core.Path.{◌≡◌, refl, sym, ap, ◌∙◌}
use mathlib.Core.List.{List, ◌++◌}
use mathlib.Core.Bool.{Bool, true, false, cond}
use Prim.Native.Nat.{ℕ}
use native.Mathlib.Omega.{arith}
use lib.ListN.{length, drop}
use lib.Dec.{eqb, leb}
use borrow.Author.Tests.{ne_eqb, eq-eqb}
use Rattle.lane.specs.Record.{sent}
use Rattle.lane.specs.declared.Event.{Event}
use Rattle.lane.specs.declared.Lane.{Lane}
use Rattle.lane.specs.declared.Moved.{Moved}
use Rattle.grammar.specs.Bytes.{Bytes}
use Rattle.message.specs.Messages.{message_by, id_cell, id_by}
use Rattle.message.specs.declared.cells.Message.{Message}
use Rattle.message.proofs.GuidLaws.{id_of_cells}
use Rattle.table.specs.Table.{is_kind}
use Rattle.meant.specs.Meant.{refusal_of}
use Rattle.meant.specs.Written.{written_of}
use Rattle.meant.specs.Writes as emits
use Rattle.meant.specs.declared.Written.{Written}
use Rattle.meant.specs.Events.{forecast_id, carried_in, carried_by, event_with}
use Rattle.events.specs.Says.{Given}
use Rattle.promises.specs.Sending.{kept, moved_by, may_not, answer_of, buffer_of, Sends}
use Rattle.promises.specs.declared.Sent.{Sent}
use Rattle.promises.proofs.KindLaws.{accepted_kind}

-- the refusal of a message without a transition
module _ (m : Message) (texts : Bytes) {r : ℕ} (e : r ≡ refusal_of m texts) where
  pub refused_first : (r ≡ 0 → ⊥) → r ≡ may_not m texts
  unfolding may_not
  refused_first n = rw (ne_eqb (refusal_of m texts) 0 (λ z. n (e ∙ z))) e

  pub refused_then : r ≡ 0 → 8 ≡ may_not m texts
  unfolding may_not
  refused_then z = rw (eq-eqb (refusal_of m texts) 0 (sym e ∙ z)) refl

module _ (l : Lane) (m : Message) (texts : Bytes) {v : Moved} (ev : v ≡ moved_by l m texts) where
  pub is_not_sent : {old : Bytes} {n : ℕ} {r : Sent} → (v.refusal ≡ 0 → ⊥) → n ≡ may_not m texts → r ≡ kept l n → Sends l m texts old old r
  unfolding answer_of buffer_of may_not
  is_not_sent {old} {n} {r} h en er = go (eqb (refusal_of m texts) 0) refl
    where
      moved-not : eqb (moved_by l m texts).refusal 0 ≡ false
      moved-not = ne_eqb (moved_by l m texts).refusal 0 (λ z. h (ap (λ (v : Moved). v.refusal) ev ∙ z))

      go : (b : Bool) → eqb (refusal_of m texts) 0 ≡ b → Sends l m texts old old r
      go true f = let q : n ≡ 8 = en ∙ rw f refl in record { answer = er ∙ ap (kept l) q ∙ rw (f, moved-not) refl; buffer = rw (f, moved-not) refl }
      go false f = let q : n ≡ refusal_of m texts = en ∙ rw f refl in record { answer = er ∙ ap (kept l) q ∙ rw f refl; buffer = rw f refl }

  module _ {old new : Bytes} {w : Written} (z : v.refusal ≡ 0) (x : emits.Writes m texts old new w) where
    moved : (moved_by l m texts).refusal ≡ 0
    moved = sym (ap (λ (v : Moved). v.refusal) ev) ∙ z

    kind_good : is_kind m.kind ≡ true
    kind_good = accepted_kind l m texts moved

    -- what writing answered, by its two tests
    wrote : (a b : Bool) → eqb (refusal_of m texts) 0 ≡ a → leb (length (written_of m texts)) (length old) ≡ b
        → (w ≡ cond a (cond b (record { refusal = 0; count = length (written_of m texts) }) (emits.refused_by 7)) (emits.refused_by (refusal_of m texts)))
        × (new ≡ cond a (cond b (written_of m texts ++ drop (length (written_of m texts)) old) old) old)
    unfolding emits.answer_of emits.buffer_of
    wrote a b ea eb = (x.answer ∙ rw (kind_good, ea, eb) refl, x.buffer ∙ rw (kind_good, ea, eb) refl)

    pub is_refused : {r : Sent} → (w.refusal ≡ 0 → ⊥) → r ≡ kept l w.refusal → Sends l m texts old new r
    unfolding answer_of buffer_of
    is_refused {r} h er = go (eqb (refusal_of m texts) 0) refl (leb (length (written_of m texts)) (length old)) refl
      where
        go : (a : Bool) → eqb (refusal_of m texts) 0 ≡ a → (b : Bool) → leb (length (written_of m texts)) (length old) ≡ b → Sends l m texts old new r
        go true ea true eb = absurd (h (ap (λ (w : Written). w.refusal) (wrote true true ea eb).0))
        go true ea false eb = record { answer = er ∙ ap (λ (w : Written). kept l w.refusal) (wrote true false ea eb).0 ∙ rw (ea, eq-eqb (moved_by l m texts).refusal 0 moved, eb) refl; buffer = (wrote true false ea eb).1 ∙ rw (ea, eq-eqb (moved_by l m texts).refusal 0 moved, eb) refl }
        go false ea b eb = record { answer = er ∙ ap (λ (w : Written). kept l w.refusal) (wrote false b ea eb).0 ∙ rw ea refl; buffer = (wrote false b ea eb).1 ∙ rw ea refl }

    pub is_sent : w.refusal ≡ 0 → Sends l m texts old new (record { refusal = 0; lane = v.lane; order = v.order; written = w.count })
    unfolding answer_of buffer_of
    is_sent y = go (eqb (refusal_of m texts) 0) refl (leb (length (written_of m texts)) (length old)) refl
      where
        go : (a : Bool) → eqb (refusal_of m texts) 0 ≡ a → (b : Bool) → leb (length (written_of m texts)) (length old) ≡ b → Sends l m texts old new (record { refusal = 0; lane = v.lane; order = v.order; written = w.count })
        go true ea true eb =
            record {
              answer = rw (ea, eq-eqb (moved_by l m texts).refusal 0 moved, eb) (rw (← ev, ap (λ (w : Written). w.count) (wrote true true ea eb).0) refl);
              buffer = (wrote true true ea eb).1 ∙ rw (ea, eq-eqb (moved_by l m texts).refusal 0 moved, eb) refl;
            }
        go true ea false eb = absurd (let q : 7 ≡ 0 = sym (ap (λ (w : Written). w.refusal) (wrote true false ea eb).0) ∙ y in omega arith)
        go false ea b eb = absurd (not-zero (refusal_of m texts) ea (sym (ap (λ (w : Written). w.refusal) (wrote false b ea eb).0) ∙ y))
          where
            not-zero : (n : ℕ) → eqb n 0 ≡ false → n ≡ 0 → ⊥
            not-zero n f e = let q : true ≡ false = sym (eq-eqb n 0 e) ∙ f in let p : ◌≡◌ {A = ℕ} 0 1 = cc in omega arith

-- a message of cells moves the lane as its event
pub moved_by_lem : (l : Lane) (k : ℕ) (cells : List ℕ) (id texts : Bytes) {n : Bytes} {e : Event} {v : Moved} → n ≡ id_by (id_cell k) cells id → Given texts k cells n e → v ≡ sent l e → v ≡ moved_by l (message_by k cells id) texts
unfolding carried_by
moved_by_lem l k cells id texts h g f = f ∙ ap (sent l) (g.is id ∙ ap (λ (n : Bytes). event_with k n (carried_in texts (forecast_id (message_by k cells id)))) (h ∙ sym (id_of_cells cells id k)))
