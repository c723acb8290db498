-- A text 80 that `check` hands out reads as at most 80 bytes.
use Rattle.std.specs.Prelude.{Option, Some, None}
use mathlib.Core.Path.{◌≡◌, refl, sym, ap, subst, ◌∙◌}
use mathlib.Core.List.{List}
use mathlib.Core.Bool.{Bool, true, false, cond}
use Prim.Native.Nat.{ℕ, ◌-◌}
use Prim.Native.String.{String}
use native.Mathlib.Omega.{arith}
use lib.ListN.{take, drop}
use lib.Dec.{eqb}
use borrow.Author.Tests.{eqb-true}
use Rattle.grammar.specs.Bytes.{Bytes, text}
use Rattle.grammar.specs.Tree.{Tree}
use Rattle.grammar.specs.Message.{Message as IsMessage, read_layout}
use Rattle.value.specs.declared.text.Span.{Span}
use Rattle.table.specs.Table.{Row, table, rows_of}
use Rattle.table.specs.Theorems.{rows_table, each_rows}
use Rattle.table.specs.Says.{refusal_of, child_of, said_of}
use Rattle.message.specs.Fields.{the_words, fields_in}
use Rattle.message.specs.Checked.{Checks, ends, more, malformed, too_long, places_in, message_of, checked_as}
use Rattle.message.specs.Handed.{HandedOut}
use Rattle.message.specs.Messages.{message_from, blank, called_in, called}
use Rattle.message.specs.declared.checking.Checked.{Checked}
use Rattle.message.specs.declared.cells.Message.{Message}
use Rattle.message.proofs.BackLaws.{handed_back}
use Rattle.message.proofs.CalledLaws.{called_place, short_named, short_kept, none_called}
use Rattle.message.proofs.Theorems.{handed_out}
use Rattle.meant.specs.Events.{forecast_id, Sound}
use Rattle.promises.specs.Receiving.{reply_id}

not_there : {X : Type 0} {p : Span} → None ≡ Some p → X
not_there e = absurd (let z : ◌≡◌ {A = ℕ} 0 1 = cc in omega arith)

no_place : (s : Bytes) {w : Option Span} → w ≡ None → Sound s w
no_place s e p f = absurd (let z : ◌≡◌ {A = ℕ} 0 1 = cc in omega arith)

-- every row of the name is a text 80
pub record Short (n : String) : Type 0 where
  pub each : (k : ℕ) → short_named (text n) (rows_of k) ≡ true

module _ (n : String) where
  -- the field of a message that is handed out
  pub called_handed : (k : ℕ) (place : Bytes → Option Span) (t : Tree) → called n (message_of k place t) ≡ called_in (text n) (rows_of k) (fields_in (rows_of k) place t)
  unfolding message_from
  called_handed k place t = ap (called_in (text n) (rows_of k)) (handed_back k place t)

  -- where its raw value stands
  pub place_called : {s : Bytes} {c : Checked} (h : HandedOut s c) (p : Span) → the_words (called n c.message) ≡ Some p → h.place (text n) ≡ Some p
  place_called {c = c} h p e =
      called_place (text n) h.place (child_of h.reading) (rows_of (said_of h.reading).kind) p
      (ap the_words (sym (called_handed (said_of h.reading).kind h.place (child_of h.reading))) ∙ ap (λ (m : Message). the_words (called n m)) (sym h.fields) ∙ e)

  handed_sound : Short n → {s : Bytes} {r : Checked} (h : HandedOut s r) → (said_of h.reading).refusal ≡ 0 → Sound s (the_words (called n r.message))
  handed_sound short {s} {r} h z p e =
      let k = (said_of h.reading).kind in
      let t = child_of h.reading in
      let x = h.there (text n) p (place_called h p e) in
      let q : refusal_of (rows_of k) t ≡ 0 = sym (ap (λ (l : List Row). refusal_of l t) (rows_table k t)) ∙ z in
      let f : the_words (called_in (text n) (rows_of k) (fields_in (rows_of k) h.place t)) ≡ Some p = ap the_words (sym (called_handed k h.place t)) ∙ ap (λ (m : Message). the_words (called n m)) (sym h.fields) ∙ e in
      (x.value, x.text, x.inside, short_kept (text n) x.value h.place t x.has k p (short.each k) q f)

  pub check_sound : Short n → {s : Bytes} {r : Checked} → Checks s r → Sound s (the_words (called n r.message))
  check_sound short {s} {r} (ends start end p l w e) = go (eqb (said_of (read_layout l)).refusal 0) refl
    where
      refusal_is : r.refusal ≡ (said_of (read_layout l)).refusal
      refusal_is = ap (λ (c : Checked). c.refusal) e

      accepted : (said_of (read_layout l)).refusal ≡ 0 → Sound s (the_words (called n r.message))
      accepted z =
          let h = handed_out {by = table} (ends start end p l w e) (refusal_is ∙ z) in
          let m : IsMessage (take (r.end - r.start) (drop r.start s)) (read_layout l) = subst (λ (c : Checked). IsMessage (take (c.end - c.start) (drop c.start s)) (read_layout l)) (sym e) (record { layout = l; laid = w; reads = refl }) in
          handed_sound short h (ap (λ (t : Tree). (said_of t).refusal) (sym (h.one (read_layout l) m)) ∙ z)

      go : (b : Bool) → eqb (said_of (read_layout l)).refusal 0 ≡ b → Sound s (the_words (called n r.message))
      go true f = accepted (eqb-true (said_of (read_layout l)).refusal 0 f)
      go false f = no_place s (ap (λ (c : Checked). the_words (called n c.message)) e ∙ ap (λ (b : Bool). the_words (called n (cond b (message_of (said_of (read_layout l)).kind (places_in start l) (child_of (read_layout l))) (blank (said_of (read_layout l)).kind)))) f ∙ none_called (text n) (said_of (read_layout l)).kind)
  check_sound short {s} (more start p e) = no_place s (ap (λ (c : Checked). the_words (called n c.message)) e ∙ none_called (text n) 0)
  check_sound short {s} (malformed start place p e) = no_place s (ap (λ (c : Checked). the_words (called n c.message)) e ∙ none_called (text n) 0)
  check_sound short {s} (too_long start p e) = no_place s (ap (λ (c : Checked). the_words (called n c.message)) e ∙ none_called (text n) 0)

  -- a message that has the text is not refused
  pub called_accepted : {s : Bytes} {r : Checked} → Checks s r → (p : Span) → the_words (called n r.message) ≡ Some p → r.refusal ≡ 0
  called_accepted {s} {r} (ends start end p l w e) q f = go (eqb (said_of (read_layout l)).refusal 0) refl
    where
      go : (b : Bool) → eqb (said_of (read_layout l)).refusal 0 ≡ b → r.refusal ≡ 0
      go true g = ap (λ (c : Checked). c.refusal) e ∙ eqb-true (said_of (read_layout l)).refusal 0 g
      go false g = not_there (sym (refused_none e g) ∙ f)
        where
          refused_none : {x : Checked} → x ≡ checked_as start end l → eqb (said_of (read_layout l)).refusal 0 ≡ false → the_words (called n x.message) ≡ None
          refused_none e g = ap (λ (c : Checked). the_words (called n c.message)) e ∙ ap (λ (b : Bool). the_words (called n (cond b (message_of (said_of (read_layout l)).kind (places_in start l) (child_of (read_layout l))) (blank (said_of (read_layout l)).kind)))) g ∙ none_called (text n) (said_of (read_layout l)).kind
  called_accepted (more start p e) q f = not_there (sym (ap (λ (c : Checked). the_words (called n c.message)) e ∙ none_called (text n) 0) ∙ f)
  called_accepted (malformed start place p e) q f = not_there (sym (ap (λ (c : Checked). the_words (called n c.message)) e ∙ none_called (text n) 0) ∙ f)
  called_accepted (too_long start p e) q f = not_there (sym (ap (λ (c : Checked). the_words (called n c.message)) e ∙ none_called (text n) 0) ∙ f)

-- the Id of a CheckAlive
pub id_sound : {s : Bytes} {c : Checked} → Checks s c → Sound s (reply_id c.message)
unfolding reply_id table
id_sound x = check_sound "Id" (record { each = λ k. each_rows (short_named (text "Id")) table k refl }) x

-- the ForecastId of a MachineReady or a BoardForecast
pub forecast_sound : {s : Bytes} {c : Checked} → Checks s c → Sound s (forecast_id c.message)
unfolding forecast_id table
forecast_sound x = check_sound "ForecastId" (record { each = λ k. each_rows (short_named (text "ForecastId")) table k refl }) x
