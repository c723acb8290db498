-- A text of a message by its name: where it stands, and that it keeps its limit.
use Rattle.std.specs.Prelude.{Option, Some, None}
use mathlib.Core.Path.{◌≡◌, refl, sym, ap, ◌∙◌}
use mathlib.Core.List.{List, [], ◌∷◌}
use mathlib.Core.Bool.{Bool, true, false, ◌&&◌, ◌||◌, not, cond}
use Prim.Native.Nat.{ℕ, zero, suc, ◌+◌, ◌*◌, ◌≤◌}
use native.Mathlib.Omega.{arith}
use lib.ListN.{length, replicate}
use lib.Dec.{eqb, leb}
use borrow.Author.Tests.{eqb-true, leb-true}
use Rattle.exact.specs.Chain.{clash}
use Rattle.grammar.specs.Bytes.{Bytes, same}
use Rattle.grammar.specs.Tree.{Pair, Tree, tree}
use Rattle.model.specs.Tests.{same_true}
use Rattle.value.specs.declared.text.Span.{Span}
use Rattle.table.specs.Table.{Row, Form, words, some_words, whole, guid, version, positive, features, Need, required, optional, required_with, ignored, rows_of}
use Rattle.table.specs.Says.{Result, judged, given, sought, by_need, tried, refusal_in, first, refusal_of}
use Rattle.table.specs.Theorems.{plain_need, plain_rows, plain_table, plain_flag, by_flag}
use Rattle.message.specs.Fields.{the_words, placed_by, field_for, field_of, fields_in}
use Rattle.message.specs.Cells.{NUMBERS, words_by, field_by, cell_at, fields_from}
use Rattle.message.specs.Messages.{blank, fields_of, called_in}
use Rattle.message.specs.Handed.{Has, has_here, has_later, attributes_of}
use Rattle.message.proofs.GuidLaws.{both}

not_there : {X : Type 0} {p : Span} → None ≡ Some p → X
not_there e = absurd (let z : ◌≡◌ {A = ℕ} 0 1 = cc in omega arith)

-- a field that is a text stands where its raw value does
words_of : (F : Form) (w : Option Span) (x : Result) (p : Span) → the_words (field_for F w x) ≡ Some p → w ≡ Some p
unfolding field_for
words_of (words n) w x p e = e
words_of (some_words n) w x p e = e
words_of (whole lo hi) w x p e = not_there e
words_of guid w x p e = not_there e
words_of version w x p e = e
words_of positive w x p e = not_there e
words_of features w x p e = not_there e

placed_there : (n : Need) (w : Option Span) (p : Span) → placed_by n w ≡ Some p → w ≡ Some p
placed_there required w p e = e
placed_there optional w p e = e
placed_there (required_with m) w p e = not_there e
placed_there ignored w p e = not_there e

module _ (n : Bytes) (place : Bytes → Option Span) (t : Tree) where
  abbrev text : List Row → Option Span
  text rows = the_words (called_in n rows (fields_in rows place t))

  pub called_place : (rows : List Row) (p : Span) → text rows ≡ Some p → place n ≡ Some p
  unfolding fields_in
  called_place [] p e = not_there e
  called_place (r ∷ rows) p e = go (same n r.name) refl e (λ f. called_place rows p f)
    where
      go : (b : Bool) → same n r.name ≡ b → the_words (cond b (field_of r (place r.name) (tried r t)) (called_in n rows (fields_in rows place t))) ≡ Some p → (text rows ≡ Some p → place n ≡ Some p) → place n ≡ Some p
      go true f e k = ap place (sym (same_true n r.name f)) ∙ placed_there r.need (place r.name) p (words_of r.form (placed_by r.need (place r.name)) (tried r t) p e)
      go false f e k = k e

-- "text 80"
abbrev pub is_short : Form → Bool
is_short (words n) = eqb n 80
is_short (some_words n) = false
is_short (whole lo hi) = false
is_short guid = false
is_short version = false
is_short positive = false
is_short features = false

-- every row of the name is one
abbrev pub short_named : Bytes → List Row → Bool
short_named n [] = true
short_named n (r ∷ rows) = (not (same n r.name) || is_short r.form) && short_named n rows

pub is_short_lem : (F : Form) → is_short F ≡ true → F ≡ words 80
is_short_lem (words n) e = ap words (eqb-true n 80 e)
is_short_lem (some_words n) e = clash (sym e)
is_short_lem (whole lo hi) e = clash (sym e)
is_short_lem guid e = clash (sym e)
is_short_lem version e = clash (sym e)
is_short_lem positive e = clash (sym e)
is_short_lem features e = clash (sym e)

-- an attribute that is there is judged by its value
pub given_has : (F : Form) (opt : Bool) {n v : Bytes} {l : List Pair} → Has n v l → given F opt n l ≡ judged F v
given_has F o (has_here f e) = rw (f, e) refl
given_has F o (has_later f h) = rw f (given_has F o h)

-- a text that is not refused keeps its limit
pub kept_limit : (v : Bytes) → refusal_in (judged (words 80) v) ≡ 0 → length v ≤ 80
unfolding judged
kept_limit v e = go (leb (length v) 80) refl
  where
    go : (z : Bool) → leb (length v) 80 ≡ z → length v ≤ 80
    go true f = leb-true (length v) 80 f
    go false f = absurd (let x : ◌≡◌ {A = ℕ} 5 0 = rw f at e in omega arith)

first_zero : (a b : ℕ) → first a b ≡ 0 → (a ≡ 0) × (b ≡ 0)
first_zero zero b e = (refl, e)
first_zero (suc a) b e = absurd (omega arith)

sought_words : (n : Bytes) (t : Tree) (opt : Bool) → sought (words 80) n t opt ≡ given (words 80) opt n (attributes_of t)
sought_words n (tree m a f) opt = refl

module _ (n v : Bytes) (place : Bytes → Option Span) (t : Tree) (h : Has n v (attributes_of t)) where
  at_row : (r : Row) → plain_need r.need ≡ true → r.form ≡ words 80 → r.name ≡ n → refusal_in (tried r t) ≡ 0 → length v ≤ 80
  unfolding tried
  at_row r p f e z =
      let (o, u) = plain_flag r.need p in
      let q : tried r t ≡ judged (words 80) v =
      ap (λ (F : Form). by_need r.need (sought F r.name t)) f ∙ ap (λ (m : Bytes). by_need r.need (sought (words 80) m t)) e ∙ ap (λ (d : Need). by_need d (sought (words 80) n t)) u
      ∙ by_flag o (sought (words 80) n t) ∙ sought_words n t o ∙ given_has (words 80) o h in
      kept_limit v (ap refusal_in (sym q) ∙ z)

  in_limit : (rows : List Row) (p : Span) → plain_rows rows ≡ true → short_named n rows ≡ true → refusal_of rows t ≡ 0 → the_words (called_in n rows (fields_in rows place t)) ≡ Some p → length v ≤ 80
  unfolding fields_in refusal_of
  in_limit [] p a b z e = not_there e
  in_limit (r ∷ rows) p a b z e =
      let (c, d) = both (plain_need r.need) (plain_rows rows) a in
      let (x, y) = both (not (same n r.name) || is_short r.form) (short_named n rows) b in
      let (u, w) = first_zero (refusal_in (tried r t)) (refusal_of rows t) z in
      go (same n r.name) refl c x u e (λ f. in_limit rows p d y w f)
    where
      go : (k : Bool) → same n r.name ≡ k → plain_need r.need ≡ true → not k || is_short r.form ≡ true → refusal_in (tried r t) ≡ 0
          → the_words (cond k (field_of r (place r.name) (tried r t)) (called_in n rows (fields_in rows place t))) ≡ Some p
          → (the_words (called_in n rows (fields_in rows place t)) ≡ Some p → length v ≤ 80) → length v ≤ 80
      go true f c x u e k = at_row r c (is_short_lem r.form x) (same_true n r.name f) u
      go false f c x u e k = k e

  -- of a kind, no row of which refuses
  pub short_kept : (k : ℕ) (p : Span) → short_named n (rows_of k) ≡ true → refusal_of (rows_of k) t ≡ 0 → the_words (called_in n (rows_of k) (fields_in (rows_of k) place t)) ≡ Some p → length v ≤ 80
  short_kept k p s z e = in_limit (rows_of k) p (plain_table k) s z e

-- in a message in which nothing is there, no text is
zero_at : (m i : ℕ) → cell_at (replicate m 0) i ≡ 0
zero_at zero i = refl
zero_at (suc m) zero = refl
zero_at (suc m) (suc i) = zero_at m i

no_text : (F : Form) (a b : ℕ) (id : Bytes) → the_words (field_by F 0 a b id) ≡ None
unfolding field_by words_by
no_text (words n) a b id = refl
no_text (some_words n) a b id = refl
no_text (whole lo hi) a b id = refl
no_text guid a b id = refl
no_text version a b id = refl
no_text positive a b id = refl
no_text features a b id = refl

none_in : (n : Bytes) (rows : List Row) (i m : ℕ) (id : Bytes) → the_words (called_in n rows (fields_from rows i (replicate m 0) id)) ≡ None
unfolding fields_from
none_in n [] i m id = refl
none_in n (r ∷ rows) i m id = go (same n r.name) (none_in n rows (i + 1) m id)
  where
    go : (b : Bool) → the_words (called_in n rows (fields_from rows (i + 1) (replicate m 0) id)) ≡ None
        → the_words (cond b (field_by r.form (cell_at (replicate m 0) (3 * i)) (cell_at (replicate m 0) (3 * i + 1)) (cell_at (replicate m 0) (3 * i + 2)) id) (called_in n rows (fields_from rows (i + 1) (replicate m 0) id))) ≡ None
    go true e = rw (zero_at m (3 * i)) (no_text r.form (cell_at (replicate m 0) (3 * i + 1)) (cell_at (replicate m 0) (3 * i + 2)) id)
    go false e = e

pub none_called : (n : Bytes) (k : ℕ) → the_words (called_in n (rows_of k) (fields_of (blank k))) ≡ None
unfolding fields_of
none_called n k = none_in n (rows_of k) 0 NUMBERS (blank k).id
