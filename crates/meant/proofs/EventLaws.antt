-- What a message carries is one, and its value is the same whatever its BoardId.
use Rattle.std.specs.Prelude.{Option, Some, None}
use mathlib.Core.List.{List, [], ◌∷◌}
use mathlib.Core.Bool.{Bool, true, false, cond}
use mathlib.Core.Path.{◌≡◌, refl, sym, ap, subst, ◌∙◌}
use Prim.Native.Nat.{ℕ, ◌+◌, ◌*◌}
use native.Mathlib.Omega.{arith}
use lib.ListN.{take, drop}
use Rattle.grammar.specs.Bytes.{Bytes, text, same}
use Rattle.value.specs.Text.{Text}
use Rattle.value.proofs.Quotes.{text_one}
use Rattle.value.specs.declared.text.Span.{Span}
use Rattle.table.specs.Table.{Row, Form, words, some_words, whole, guid, version, positive, features, rows_of}
use Rattle.message.specs.Fields.{Field, the_words}
use Rattle.message.specs.Cells.{cell_at, field_by, fields_from}
use Rattle.message.specs.Messages.{message_by, fields_of, called_in}
use Rattle.meant.specs.Events.{Carried, a_forecast, forecast_id, Carries, carries_none, carries_one}

one_span : {w : Option Span} {p p' : Span} → w ≡ Some p → w ≡ Some p' → p ≡ p'
one_span a b = cc

not_both : {X : Type 0} {w : Option Span} {p : Span} → w ≡ None → w ≡ Some p → X
not_both a b = absurd (let z : ◌≡◌ {A = ℕ} 0 1 = cc in omega arith)

-- of two inputs in which the value reads alike
pub carries_alike : {a b : Bytes} {w : Option Span} {f f' : Carried} → ((p : Span) → w ≡ Some p → (v v' : Bytes) → Text (take p.len (drop p.start a)) v → Text (take p.len (drop p.start b)) v' → v ≡ v') → Carries a w f → Carries b w f' → f ≡ f'
carries_alike h (carries_none e q) (carries_none e' q') = q ∙ sym q'
carries_alike h (carries_none e q) (carries_one p' e' v' t' q') = not_both e e'
carries_alike h (carries_one p e v t q) (carries_none e' q') = not_both e' e
carries_alike {b = b} h (carries_one p e v t q) (carries_one p' e' v' t' q') = q ∙ ap a_forecast (h p e v v' t (subst (λ (p : Span). Text (take p.len (drop p.start b)) v') (one_span e' e) t')) ∙ sym q'

pub carries_only : {s : Bytes} {w : Option Span} {f f' : Carried} → Carries s w f → Carries s w f' → f ≡ f'
carries_only x y = carries_alike (λ p e v v' t t'. text_one t t') x y

-- a text does not look at the BoardId
words_any : (F : Form) (t a b : ℕ) (i j : Bytes) → the_words (field_by F t a b i) ≡ the_words (field_by F t a b j)
unfolding field_by
words_any (words n) t a b i j = refl
words_any (some_words n) t a b i j = refl
words_any (whole lo hi) t a b i j = refl
words_any guid t a b i j = refl
words_any version t a b i j = refl
words_any positive t a b i j = refl
words_any features t a b i j = refl

module _ (n : Bytes) (cells : List ℕ) (i j : Bytes) where
  abbrev here : Row → ℕ → Bytes → Field
  here r k id = field_by r.form (cell_at cells (3 * k)) (cell_at cells (3 * k + 1)) (cell_at cells (3 * k + 2)) id

  abbrev called : List Row → ℕ → Bytes → Field
  called rows k id = called_in n rows (fields_from rows k cells id)

  or_behind : (r : Row) (rows : List Row) (k : ℕ) (b : Bool) → the_words (called rows (k + 1) i) ≡ the_words (called rows (k + 1) j) → the_words (cond b (here r k i) (called rows (k + 1) i)) ≡ the_words (cond b (here r k j) (called rows (k + 1) j))
  or_behind r rows k true e = words_any r.form (cell_at cells (3 * k)) (cell_at cells (3 * k + 1)) (cell_at cells (3 * k + 2)) i j
  or_behind r rows k false e = e

  called_any : (rows : List Row) (k : ℕ) → the_words (called rows k i) ≡ the_words (called rows k j)
  unfolding fields_from
  called_any [] k = refl
  called_any (r ∷ rows) k = or_behind r rows k (same n r.name) (called_any rows (k + 1))

pub forecast_any : (k : ℕ) (cells : List ℕ) (i j : Bytes) → forecast_id (message_by k cells i) ≡ forecast_id (message_by k cells j)
unfolding forecast_id fields_of
forecast_any k cells i j = called_any (text "ForecastId") cells i j (rows_of k) 0
