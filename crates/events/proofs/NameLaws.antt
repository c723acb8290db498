-- The value ForecastId of a message of cells, by its kind; and its bytes as a lane keeps them.
use Rattle.std.specs.Prelude.{Option, Some, None}
use Rattle.lane.specs.Ids.{zeros}
use mathlib.Core.Path.{◌≡◌, refl, sym, ap, subst, ◌∙◌}
use mathlib.Core.List.{List, ◌++◌}
use mathlib.Core.Bool.{Bool, true, false, ◌&&◌, cond}
use Prim.Native.Nat.{ℕ, suc, ◌+◌, ◌-◌, ◌≤◌, ◌<◌}
use native.Mathlib.Omega.{arith}
use lib.ListN.{length, length-drop, take, drop}
use lib.Seq.{length-take-le}
use lib.Dec.{leb}
use borrow.Author.Tests.{ne_eqb, leb-true, leb-false, le-leb, lt-leb}
use Rattle.grammar.specs.Bytes.{Bytes, text}
use Rattle.lane.specs.Record.{no_forecast}
use Rattle.lane.specs.declared.ids.Forecast.{Forecast}
use denote.Ref.{Bor}
use Rattle.value.specs.Asking.{paper, TextSays}
use Rattle.value.specs.Parts.{part_at, Lies}
use Rattle.value.proofs.AskedLaws.{part_is_text}
use Rattle.value.specs.declared.text.TextAt.{TextAt}
use Rattle.value.specs.declared.text.Span.{Span}
use Rattle.table.specs.Table.{Row, table}
use Rattle.message.specs.Fields.{the_words}
use Rattle.message.specs.Cells.{NUMBERS, cell_at, words_by, field_by, fields_from}
use Rattle.message.specs.Messages.{message_by, fields_of, called_in}
use Rattle.meant.specs.Meant.{text_at}
use Rattle.events.proofs.KindLaws.{KINDS, listed, listed_same, above}
use Rattle.meant.specs.Events.{Carried, no_forecast_case, a_forecast, forecast_of, forecast_told, forecast_id, carries_none, carries_one, carried_in, Sound}
use Rattle.events.specs.Says.{forecast_cell, Got, Forecasts, Given, Kept, Reads, Names}

-- where the cell stands
pub cell_else : (k : ℕ) → (k ≡ 5 → ⊥) → (k ≡ 11 → ⊥) → NUMBERS ≡ forecast_cell k
cell_else k a b = rw (ne_eqb k 5 a, ne_eqb k 11 b) refl

abbrev words_at : ℕ → List ℕ → Option Span
words_at at cells = cond (leb NUMBERS at) None (words_by (cell_at cells at) (cell_at cells (at + 1)) (cell_at cells (at + 2)))

module _ (cells : List ℕ) (id : Bytes) where
  abbrev named : ℕ → Option Span
  named k = forecast_id (message_by k cells id)

  abbrev placed : ℕ → Option Span
  placed k = words_at (forecast_cell k) cells

  all_placed : listed named (suc KINDS) ≡ listed placed (suc KINDS)
  unfolding table forecast_id fields_of fields_from field_by
  all_placed = refl

  none_placed : (k : ℕ) → KINDS < k → named k ≡ placed k
  unfolding table forecast_id fields_of
  none_placed k h = ap (λ (rows : List Row). the_words (called_in (text "ForecastId") rows (fields_from rows 0 cells id))) (above k h) ∙ ap (λ (n : ℕ). words_at n cells) (cell_else k (λ e. omega arith) (λ e. omega arith))

  named_placed : (k : ℕ) → named k ≡ placed k
  named_placed k = go (leb k KINDS) refl
    where
      go : (b : Bool) → leb k KINDS ≡ b → named k ≡ placed k
      go true e = listed_same named placed (suc KINDS) k all_placed (let z = leb-true k KINDS e in omega arith)
      go false e = none_placed k (leb-false k KINDS e)

pub names_none : (k : ℕ) (cells : List ℕ) {at : ℕ} → at ≡ forecast_cell k → NUMBERS ≤ at → Names k cells None
names_none k cells {at} e h = record { says = λ id. sym (named_placed cells id k ∙ ap (λ (n : ℕ). words_at n cells) (sym e) ∙ rw (le-leb NUMBERS at h) refl) }

pub names_one : (k : ℕ) (cells : List ℕ) {at t a b : ℕ} {w : Option Span} → at ≡ forecast_cell k → at < NUMBERS → t ≡ cell_at cells at → a ≡ cell_at cells (at + 1) → b ≡ cell_at cells (at + 2) → w ≡ words_by t a b → Names k cells w
names_one k cells {at} {t} {a} {b} e h p q r f =
    record { says = λ id. f ∙ rw (p, q, r) (sym (named_placed cells id k ∙ ap (λ (n : ℕ). words_at n cells) (sym e) ∙ rw (lt-leb NUMBERS at h) refl)) }

-- bytes put down over zeros
pub kept_all : (v : Bytes) {b : Bytes} → b ≡ v → length v ≤ 80 → Kept v (record { length = length v; bytes = b ++ drop (length v) zeros })
kept_all v e h = record { says = λ k. ap (λ (b : List ℕ). record { length = length v; bytes = b ++ drop (length v) zeros }) e; too_long = λ k. absurd (omega arith) }

-- the bytes that stand at a place
pub reads_at : {s : Bytes} (p : Span) {room scratch : Bytes} (at : TextAt) (a b : ℕ × ℕ) {part : Bor (List ℕ)} {r : Forecast} → length room ≡ 80 → TextSays s (Some p) room scratch (paper at) → Lies (part_at a s b scratch at) part → Kept part.now r → Reads s p r
reads_at {s} p {scratch = scratch} at a b {part} {r} e x y z = record { says = λ v t l h. let q = part_is_text s scratch at a b y p x l v t (omega arith) in subst (λ (b : Bytes). length b ≤ 80 → r ≡ forecast_of (a_forecast b)) q z.says h }

pub kept_none : (v : Bytes) {r : Forecast} → 80 < length v → r ≡ no_forecast → Kept v r
kept_none v h e = record { says = λ k. absurd (omega arith); too_long = λ k. e }

-- the event of a message
module _ {k : ℕ} {cells : List ℕ} {id : Bytes} {w : Option Span} (n : Names k cells w) where
  pub got_none : {s : Bytes} → w ≡ None → Got s k cells id (record { kind = k; id = id; forecast = None })
  got_none e = record { forecast = no_forecast_case; carries = λ i. carries_none (sym (n.says i) ∙ e) refl; is = refl }

  pub got_one : {s : Bytes} (p : Span) {f : Forecast} → w ≡ Some p → Reads s p f → ((i : Bytes) → Sound s (forecast_id (message_by k cells i))) → Got s k cells id (record { kind = k; id = id; forecast = Some f })
  got_one {s} p {f} e r h =
      let (v, t, l, z) = h id p (sym (n.says id) ∙ e) in
      record { forecast = a_forecast v; carries = λ i. carries_one p (sym (n.says i) ∙ e) v t refl; is = ap (λ (f : Forecast). record { kind = k; id = id; forecast = Some f }) (r.says v t l z) }

-- the forecast of one to be sent
module _ {k : ℕ} {cells : List ℕ} {w : Option Span} (n : Names k cells w) where
  pub sends_none : {texts : Bytes} → w ≡ None → Forecasts texts k cells None
  sends_none {texts} e = record { says = λ i. ap (λ (w : Option Span). forecast_told (carried_in texts w)) (sym e ∙ n.says i) }

  module _ {texts : Bytes} (p : Span) (e : w ≡ Some p) where
    told : {r : Option Forecast} (f : Carried) → r ≡ forecast_told f → f ≡ carried_in texts (Some p) → Forecasts texts k cells r
    told f q h = record { says = λ i. q ∙ ap forecast_told h ∙ ap (λ (w : Option Span). forecast_told (carried_in texts w)) (sym e ∙ n.says i) }

    pub sends_long : 80 < p.len → Forecasts texts k cells None
    sends_long h = told no_forecast_case refl (rw (lt-leb p.len 80 h) refl)

    pub sends_outside : length texts < p.start + p.len → Forecasts texts k cells None
    sends_outside h = told no_forecast_case refl (go (leb p.len 80))
      where
        go : (b : Bool) → no_forecast_case ≡ cond (b && leb (p.start + p.len) (length texts)) (a_forecast (text_at texts p)) no_forecast_case
        go true = rw (lt-leb (p.start + p.len) (length texts) h) refl
        go false = refl

    pub sends_one : {f : Forecast} → p.len ≤ 80 → p.start + p.len ≤ length texts → Kept (take (p.start + p.len - p.start) (drop p.start texts)) f → Forecasts texts k cells (Some f)
    sends_one {f} a b x =
        let n : p.start + p.len - p.start ≡ p.len = omega arith in
        let m = length-drop p.start texts in
        let z = length-take-le p.len (drop p.start texts) (omega arith) in
        let y : f ≡ forecast_of (a_forecast (text_at texts p)) = (subst (λ (n : ℕ). Kept (take n (drop p.start texts)) f) n x).says (omega arith) in
        told (a_forecast (text_at texts p)) (ap Some y) (rw (le-leb p.len 80 a, le-leb (p.start + p.len) (length texts) b) refl)

pub given : {texts : Bytes} {k : ℕ} {cells : List ℕ} {id : Bytes} {f : Option Forecast} → Forecasts texts k cells f → Given texts k cells id (record { kind = k; id = id; forecast = f })
given {k = k} {id = id} f = record { is = λ i. ap (λ (f : Option Forecast). record { kind = k; id = id; forecast = f }) (f.says i) }
