-- The refusal of one row, by its form.
use mathlib.Core.Path.{◌≡◌, refl, sym, ap, ◌∙◌}
use mathlib.Core.Bool.{Bool, true, false, ◌&&◌, not, cond}
use Prim.Native.Nat.{ℕ, ◌≤◌, ◌<◌, max}
use lib.Dec.{eqb, leb}
use borrow.Author.Tests.{ne_eqb, le-leb, lt-leb}
use Rattle.grammar.specs.Bytes.{Bytes, within}
use Rattle.number.specs.Positive.{BEHIND}
use Rattle.number.specs.Guid.{guid_of}
use Rattle.spelling.specs.Written.{matter}
use Rattle.table.specs.Table.{Form, words, some_words, whole, guid, version, positive, features}
use Rattle.table.specs.Says.{Result, Value, by_need, an_int, millionths, an_id, when, without, refusal_in}
use Rattle.message.specs.Fields.{Field}
use Rattle.message.specs.Cells.{is_there, words_by, whole_by, measure_by, guid_by, features_by, field_by}
use Rattle.meant.specs.Meant.{MOST, text_meant, meant_as, meant_by}
use Rattle.rows.specs.Coding.{need_of, may_miss, row_of}
use Rattle.rows.specs.declared.data.Need.{Need as CodedNeed}
use Rattle.rows.specs.declared.data.Need.TheVariants.{Required, Optional}
use Rattle.rows.specs.declared.data.Row.{Row as Coded}
use Rattle.writes.specs.Rows.{span_of, row_refusal}

pub is_there_lem : (t : ℕ) → (t ≡ 0 → ⊥) → is_there t ≡ true
is_there_lem t n = ap not (ne_eqb t 0 n)

-- a row of the code must be there, or may be missing
by_coded : (n : CodedNeed) (f : Bool → Result) → by_need (need_of n) f ≡ f (may_miss n)
by_coded Required f = refl
by_coded Optional f = refl

flagged : (c : Coded) (x : Field) (texts : Bytes) → refusal_in (meant_by (row_of c) x texts) ≡ refusal_in (meant_as (row_of c).form x texts (may_miss c.need))
unfolding meant_by
flagged c x texts = ap refusal_in (by_coded c.need (meant_as (row_of c).form x texts))

-- not there
none_worth : (F : Form) (o : Bool) (a b : ℕ) (id texts : Bytes) → refusal_in (meant_as F (field_by F 0 a b id) texts o) ≡ refusal_in (without o)
unfolding field_by words_by whole_by measure_by guid_by features_by
none_worth (words k) o a b id texts = refl
none_worth (some_words k) o a b id texts = refl
none_worth (whole lo hi) o a b id texts = refl
none_worth guid o a b id texts = refl
none_worth version o a b id texts = refl
none_worth positive o a b id texts = refl
none_worth features o a b id texts = refl

pub worth_absent : (c : Coded) (t a b : ℕ) (id texts : Bytes) {r : ℕ} → t ≡ 0 → r ≡ refusal_in (without (may_miss c.need)) → r ≡ row_refusal c t a b id texts
unfolding row_refusal
worth_absent c t a b id texts e h = h ∙ sym (ap (λ (t : ℕ). refusal_in (meant_by (row_of c) (field_by (row_of c).form t a b id) texts)) e ∙ flagged c (field_by (row_of c).form 0 a b id) texts ∙ none_worth (row_of c).form (may_miss c.need) a b id texts)

-- there
abbrev pub worth_of : Form → ℕ → ℕ → Bytes → Bytes → ℕ
worth_of (words n) a b id texts = refusal_in (text_meant (words n) texts (span_of a b))
worth_of (some_words n) a b id texts = refusal_in (text_meant (some_words n) texts (span_of a b))
worth_of (whole lo hi) a b id texts = cond (within lo hi a) 0 6
worth_of guid a b id texts = cond (guid_of id) 0 6
worth_of version a b id texts = refusal_in (text_meant version texts (span_of a b))
worth_of positive a b id texts = cond (within 1 MOST a && leb b BEHIND) 0 6
worth_of features a b id texts = 0

by_when : (g : Bool) (v : Value) → refusal_in (when g v) ≡ cond g 0 6
by_when true v = refl
by_when false v = refl

there_worth : (F : Form) (o : Bool) (t a b : ℕ) (id texts : Bytes) → is_there t ≡ true → refusal_in (meant_as F (field_by F t a b id) texts o) ≡ worth_of F a b id texts
unfolding field_by words_by whole_by measure_by guid_by features_by
there_worth (words k) o t a b id texts h = rw h refl
there_worth (some_words k) o t a b id texts h = rw h refl
there_worth (whole lo hi) o t a b id texts h = rw h (by_when (within lo hi a) (an_int a))
there_worth guid o t a b id texts h = rw h (by_when (guid_of id) (an_id id))
there_worth version o t a b id texts h = rw h refl
there_worth positive o t a b id texts h = rw h (by_when (within 1 MOST a && leb b BEHIND) (millionths a (max b (matter a))))
there_worth features o t a b id texts h = rw h refl

pub said : (c : Coded) (t a b : ℕ) (id texts : Bytes) {r : ℕ} (F : Form) → (t ≡ 0 → ⊥) → (row_of c).form ≡ F → r ≡ worth_of F a b id texts → r ≡ row_refusal c t a b id texts
unfolding row_refusal
said c t a b id texts F n e h = h ∙ ap (λ (F : Form). worth_of F a b id texts) (sym e) ∙ sym (flagged c (field_by (row_of c).form t a b id) texts ∙ there_worth (row_of c).form (may_miss c.need) t a b id texts (is_there_lem t n))

-- between two numbers
pub low : (lo hi k : ℕ) → k < lo → within lo hi k ≡ false
unfolding within
low lo hi k h = rw (lt-leb lo k h)

pub high : (lo hi k : ℕ) → lo ≤ k → hi < k → within lo hi k ≡ false
unfolding within
high lo hi k g h = rw (le-leb lo k g, lt-leb k hi h)

pub right : (lo hi k : ℕ) → lo ≤ k → k ≤ hi → within lo hi k ≡ true
unfolding within
right lo hi k g h = rw (le-leb lo k g, le-leb k hi h)

-- a measure: its count, then its millionths
pub count_high : (lo hi a b : ℕ) → BEHIND < b → ◌≡◌ {A = ℕ} (cond (within lo hi a && leb b BEHIND) 0 6) 6
count_high lo hi a b h = rw (lt-leb b BEHIND h) (go (within lo hi a))
  where
    go : (t : Bool) → ◌≡◌ {A = ℕ} (cond (t && false) 0 6) 6
    go true = refl
    go false = refl

pub count_right : (lo hi a b : ℕ) → b ≤ BEHIND → ◌≡◌ {A = ℕ} (cond (within lo hi a && leb b BEHIND) 0 6) (cond (within lo hi a) 0 6)
count_right lo hi a b h = rw (le-leb b BEHIND h) (go (within lo hi a))
  where
    go : (t : Bool) → ◌≡◌ {A = ℕ} (cond (t && true) 0 6) (cond t 0 6)
    go true = refl
    go false = refl
