-- The fields that the cells of an accepted message are, are those of its reading.
use Rattle.std.specs.Prelude.{Option, Some, None}
use Rattle.value.specs.declared.text.Span.{Span}
use Rattle.message.specs.declared.values.Decimal.{Decimal}
use mathlib.Core.Path.{◌≡◌, refl, sym, ap, subst, ◌∙◌}
use mathlib.Core.List.{List, [], ◌∷◌, ◌++◌}
use mathlib.Core.Bool.{Bool, true, false, ◌&&◌, not, cond}
use Prim.Native.Nat.{ℕ, zero, suc, ◌+◌, ◌-◌, ◌*◌, ◌≤◌}
use native.Mathlib.Omega.{arith}
use lib.ListN.{length, take, drop, get_or}
use Rattle.exact.specs.Chain.{clash}
use Rattle.grammar.specs.Bytes.{Bytes}
use Rattle.grammar.specs.Tree.{Tree}
use Rattle.grammar.specs.Message.{Layout, Laid, read_layout}
use Rattle.number.specs.Guid.{guid_of}
use Rattle.table.specs.Table.{Row, Form, words, some_words, whole, guid, version, positive, features, rows_of, is_guid, guid_cell_in}
use Rattle.table.specs.Theorems.{plain_need, plain_rows, plain_table, plain_flag}
use Rattle.message.proofs.MessageLaws.{plain_placed}
use Rattle.table.specs.Says.{a_text, an_int, millionths, an_id, noted, Result, absent, present, refused, refusal_in, when, without, judged, given, tried, first, refusal_of, child_of}
use Rattle.message.specs.Fields.{Field, a_words, a_whole, a_measure, a_guid, a_features, whole_in, measure_in, id_in, features_in, field_for, field_of, fields_in}
use Rattle.message.specs.Cells.{NUMBERS, words_by, whole_by, measure_by, guid_by, features_by, field_by, cell_at, fields_from, words_cell, guid_cell, whole_cell, measure_cell, features_cell, cell_of, cells_of}
use Rattle.message.specs.Checked.{places_in}
use Rattle.message.specs.Handed.{attributes_of}
use Rattle.message.specs.Messages.{id_cell}
use Rattle.reads.specs.Kept.{kept_of, tried_by, kept_in}
use Rattle.reads.specs.Ids.{IdOf, IdAt, bared, taken}
use Rattle.reads.proofs.FindLaws.{first_of}
use Rattle.message.proofs.PlaceLaws.{has_worth}
use Rattle.reads.proofs.RowLaws.{plain, tried_given}
use Rattle.message.proofs.GuidLaws.{both, no_guid, one_guid, one_guid_lem, no_guid_cell, guid_cell_lem}
use Rattle.reads.proofs.LoopLaws.{three, next_cell}
use Rattle.message.proofs.HandedLaws.{there_reads, absent_worth}

-- the field of a cell
of_words : (w : Option Span) → words_by (get_or (words_cell w) 0 0) (get_or (words_cell w) 1 0) (get_or (words_cell w) 2 0) ≡ w
unfolding words_by
of_words None = refl
of_words (Some p) = refl

of_whole : (v : Option ℕ) → whole_by (get_or (whole_cell v) 0 0) (get_or (whole_cell v) 1 0) ≡ v
unfolding whole_by
of_whole None = refl
of_whole (Some n) = refl

of_measure : (v : Option Decimal) → measure_by (get_or (measure_cell v) 0 0) (get_or (measure_cell v) 1 0) (get_or (measure_cell v) 2 0) ≡ v
unfolding measure_by
of_measure None = refl
of_measure (Some d) = refl

of_features : (x : Result) → features_by (get_or (features_cell (features_in x)) 0 0) (get_or (features_cell (features_in x)) 1 0) ≡ features_in x
unfolding features_by
of_features absent = refl
of_features (refused n) = refl
of_features (present (a_text v)) = refl
of_features (present (an_int n)) = refl
of_features (present (millionths n d)) = refl
of_features (present (an_id v)) = refl
of_features (present (noted true true true)) = refl
of_features (present (noted true true false)) = refl
of_features (present (noted true false true)) = refl
of_features (present (noted true false false)) = refl
of_features (present (noted false true true)) = refl
of_features (present (noted false true false)) = refl
of_features (present (noted false false true)) = refl
of_features (present (noted false false false)) = refl

-- the id is that of a row, whose raw value stands at w, if the row is a GUID
abbrev IdIs : Form → Option Span → Result → Bytes → Type 0
IdIs t w x id = is_guid t ≡ true → guid_by (get_or (words_cell w) 0 0) id ≡ id_in x

abbrev by : Form → List ℕ → Bytes → Field
by t c id = field_by t (get_or c 0 0) (get_or c 1 0) (get_or c 2 0) id

there_flag : (w : Option Span) (id : Bytes) → get_or (guid_cell (guid_by (get_or (words_cell w) 0 0) id)) 0 0 ≡ get_or (words_cell w) 0 0
unfolding guid_by
there_flag None id = refl
there_flag (Some p) id = refl

guid_three : (g : Option Bytes) (l rest : List ℕ) → get_or (guid_cell g) 0 0 ∷ 0 ∷ 0 ∷ (l ++ rest) ≡ (guid_cell g ++ l) ++ rest
guid_three None l rest = refl
guid_three (Some v) l rest = refl

id_flag : (w : Option Span) (x : Result) (id : Bytes) → guid_by (get_or (words_cell w) 0 0) id ≡ id_in x → get_or (guid_cell (id_in x)) 0 0 ≡ get_or (words_cell w) 0 0
id_flag w x id h = ap (λ (g : Option Bytes). get_or (guid_cell g) 0 0) (sym h) ∙ there_flag w id

field_is : (t : Form) (w : Option Span) (x : Result) (id : Bytes) → IdIs t w x id → by t (cell_of (field_for t w x)) id ≡ field_for t w x
unfolding field_by field_for
field_is (words k) w x id h = ap a_words (of_words w)
field_is (some_words k) w x id h = ap a_words (of_words w)
field_is (whole lo hi) w x id h = ap a_whole (of_whole (whole_in x))
field_is guid w x id h = ap a_guid (ap (λ (n : ℕ). guid_by n id) (id_flag w x id (h refl)) ∙ h refl)
field_is version w x id h = ap a_words (of_words w)
field_is positive w x id h = ap a_measure (of_measure (measure_in x))
field_is features w x id h = ap a_features (of_features x)

-- the cell of a row that is no GUID is kept as it is told
kept_told : (t : Form) (w : Option Span) (x : Result) → is_guid t ≡ false → kept_of t w x ≡ field_for t w x
unfolding kept_of field_for
kept_told (words k) w x e = refl
kept_told (some_words k) w x e = refl
kept_told (whole lo hi) w x e = refl
kept_told guid w x e = clash e
kept_told version w x e = refl
kept_told positive w x e = refl
kept_told features w x e = refl

-- cells without the place of an id
bared_next : (at x y z : ℕ) (l : List ℕ) → bared (at + 3) (x ∷ y ∷ z ∷ l) ≡ x ∷ y ∷ z ∷ bared at l
bared_next at x y z l =
    let e : at + 3 ≡ suc (suc (suc at)) = omega arith in
    let f : suc (suc (suc at)) + 3 ≡ suc (suc (suc (at + 3))) = omega arith in
    ap (λ (n : ℕ). bared n (x ∷ y ∷ z ∷ l)) e ∙ ap (λ (n : ℕ). x ∷ y ∷ z ∷ (take at l ++ (cell_at l at ∷ 0 ∷ 0 ∷ drop n (x ∷ y ∷ z ∷ l)))) f

-- where the GUID stands, one row later
guid_later : (rows : List Row) (i : ℕ) → no_guid rows ≡ false → guid_cell_in NUMBERS rows (i + 1) ≡ guid_cell_in NUMBERS rows i + 3
guid_later [] i e = clash e
guid_later (r ∷ rows) i e = go (is_guid r.form) e (λ f. guid_later rows (i + 1) f)
  where
    go : (b : Bool) → not b && no_guid rows ≡ false → (no_guid rows ≡ false → guid_cell_in NUMBERS rows (i + 1 + 1) ≡ guid_cell_in NUMBERS rows (i + 1) + 3)
        → cond b (3 * (i + 1)) (guid_cell_in NUMBERS rows (i + 1 + 1)) ≡ cond b (3 * i) (guid_cell_in NUMBERS rows (i + 1)) + 3
    go true e f = omega arith
    go false e f = f e

-- three numbers that stand one after the other
record Three (cells : List ℕ) (i x y z : ℕ) (l : List ℕ) : Type 0 where
  pub long : 3 * i + 3 ≤ length cells
  pub one : cell_at cells (3 * i) ≡ x
  pub two : cell_at cells (3 * i + 1) ≡ y
  pub three : cell_at cells (3 * i + 2) ≡ z
  pub rest : drop (3 * (i + 1)) cells ≡ l

three_of : (cells : List ℕ) (i x y z : ℕ) (l : List ℕ) → drop (3 * i) cells ≡ x ∷ y ∷ z ∷ l → Three cells i x y z l
three_of cells i x y z l e =
    let (a₁, b₁, c₁) = first_of cells (3 * i) x (y ∷ z ∷ l) e in
    let (a₂, b₂, c₂) = first_of cells (3 * i + 1) y (z ∷ l) c₁ in
    let p : 3 * i + 1 + 1 ≡ 3 * i + 2 = omega arith in
    let (a₃, b₃, c₃) = first_of cells (3 * i + 2) z l (subst (λ (n : ℕ). drop n cells ≡ z ∷ l) p c₂) in
    let q : 3 * i + 2 + 1 ≡ 3 * (i + 1) = omega arith in
    record { long = omega arith; one = b₁; two = b₂; three = b₃; rest = subst (λ (n : ℕ). drop n cells ≡ l) q c₃ }

not_so : (b : Bool) → not b ≡ true → b ≡ false
not_so true e = clash (sym e)
not_so false e = refl

none_refused : (a b : ℕ) → first a b ≡ 0 → (a ≡ 0) × (b ≡ 0)
none_refused zero b e = (refl, e)
none_refused (suc a) b e = absurd (omega arith)

is_guid_lem : (t : Form) → is_guid t ≡ true → t ≡ guid
is_guid_lem (words k) e = clash (sym e)
is_guid_lem (some_words k) e = clash (sym e)
is_guid_lem (whole lo hi) e = clash (sym e)
is_guid_lem guid e = refl
is_guid_lem version e = clash (sym e)
is_guid_lem positive e = clash (sym e)
is_guid_lem features e = clash (sym e)

-- an id that is not refused
id_read_lem : (v id : Bytes) → (guid_of v ≡ true → id ≡ v) → refusal_in (judged guid v) ≡ 0 → Some id ≡ id_in (judged guid v)
unfolding judged
id_read_lem v id e z = go (guid_of v) refl
  where
    go : (b : Bool) → guid_of v ≡ b → Some id ≡ id_in (when (guid_of v) (an_id v))
    go true f = ap (λ (b : Bytes). Some b) (e f) ∙ sym (ap (λ (b : Bool). id_in (when b (an_id v))) f)
    go false f = absurd (let y = sym (ap (λ (b : Bool). refusal_in (when b (an_id v))) f) ∙ z in omega arith)

no_id_case : (o : Bool) → None ≡ id_in (without o)
no_id_case true = refl
no_id_case false = refl

kept_guid : (t : Form) {w : Option Span} (x : Result) → t ≡ guid → kept_of t w x ≡ a_words w
unfolding kept_of
kept_guid t {w} x e = ap (λ (t : Form). kept_of t w x) e

module _ (s : Bytes) (start end : ℕ) (l : Layout) (laid : Laid (take (end - start) (drop start s)) l) (cells : List ℕ) (id : Bytes) where
  abbrev at : Bytes → Option Span
  at = places_in start l

  abbrev element : Tree
  element = child_of (read_layout l)

  -- from the i-th on, the cells are those of the rows
  abbrev Cells : List Row → ℕ → Type 0
  Cells rows i = (rest : List ℕ) × (drop (3 * i) cells ≡ cells_of (kept_in rows at element) ++ rest)

  here : (r : Row) (rows : List Row) (i : ℕ) → (c : Cells (r ∷ rows) i) → Three cells i (tried_by r at element).there (tried_by r at element).a (tried_by r at element).b (cells_of (kept_in rows at element) ++ c.0)
  here r rows i (rest, e) = three_of cells i _ _ _ _ (e ∙ ap (λ (l : List ℕ). l ++ rest) (next_cell r rows at element))

  -- the fields of rows without a need for another one
  abbrev told_in : List Row → List Field
  told_in [] = []
  told_in (r ∷ rows) = field_for r.form (at r.name) (tried r element) ∷ told_in rows

  told_in_lem : (rows : List Row) → plain_rows rows ≡ true → told_in rows ≡ fields_in rows at element
  unfolding fields_in
  told_in_lem [] p = refl
  told_in_lem (r ∷ rows) p =
      let (d, q) = both (plain_need r.need) (plain_rows rows) p in
      ap (λ (w : Option Span). field_for r.form w (tried r element) ∷ told_in rows) (sym (plain_placed r.need (at r.name) d)) ∙ ap (λ (l : List Field). field_of r (at r.name) (tried r element) ∷ l) (told_in_lem rows q)

  abbrev IdThere : ℕ → Type 0
  IdThere n = (cell_at cells n ≡ 0 → ⊥) → IdAt s (cell_at cells (n + 1)) (cell_at cells (n + 2)) id

  abbrev IdsOf : List Row → Type 0
  IdsOf [] = Unit {0}
  IdsOf (r ∷ rows) = IdIs r.form (at r.name) (tried r element) id × IdsOf rows

  no_ids : (rows : List Row) → no_guid rows ≡ true → IdsOf rows
  no_ids [] e = tt
  no_ids (r ∷ rows) e = let (a, b) = both (not (is_guid r.form)) (no_guid rows) e in (λ g. clash (sym (sym (ap not g) ∙ a)), no_ids rows b)

  -- the id that is read at the place in the cell of a GUID
  id_of_lem : (n : Bytes) (o : Bool) (i : ℕ) (w : Option Span) → at n ≡ w → refusal_in (given guid o n (attributes_of element)) ≡ 0 → cell_at cells (3 * i) ≡ get_or (words_cell w) 0 0 → cell_at cells (3 * i + 1) ≡ get_or (words_cell w) 1 0 → cell_at cells (3 * i + 2) ≡ get_or (words_cell w) 2 0 → IdThere (3 * i) → guid_by (get_or (words_cell w) 0 0) id ≡ id_in (given guid o n (attributes_of element))
  unfolding guid_by
  id_of_lem n o i None e z one two three r = no_id_case o ∙ ap id_in (sym (absent_worth s start end l laid n e guid o))
  id_of_lem n o i (Some p) e z one two three r =
      let x = there_reads s start end l laid n p e in
      let y = x.inside in
      let q = (r (λ f. let g = sym one ∙ f in omega arith)).says (omega arith) in
      let m : IdOf (take p.len (drop p.start s)) id = subst (λ (b : ℕ). IdOf (take b (drop p.start s)) id) three (subst (λ (a : ℕ). IdOf (take (cell_at cells (3 * i + 2)) (drop a s)) id) two q) in
      let w : given guid o n (attributes_of element) ≡ judged guid x.value = has_worth x.has guid o in
      id_read_lem x.value id (λ g. m.says x.value x.text g) (ap refusal_in (sym w) ∙ z) ∙ ap id_in (sym w)

  ids_are : (rows : List Row) (i : ℕ) → plain_rows rows ≡ true → Cells rows i → refusal_of rows element ≡ 0 → one_guid rows ≡ true → IdThere (guid_cell_in NUMBERS rows i) → IdsOf rows
  unfolding refusal_of
  ids_are [] i p c z e r = tt
  ids_are (row ∷ rows) i p c z e r =
      let (d, q) = both (plain_need row.need) (plain_rows rows) p in
      let (y, v) = none_refused (refusal_in (tried row element)) (refusal_of rows element) z in
      let t = here row rows i c in
      go (is_guid row.form) refl d y t e r (λ f g. ids_are rows (i + 1) q (c.0, t.rest) v f g)
    where
      id_here : is_guid row.form ≡ true → plain_need row.need ≡ true → refusal_in (tried row element) ≡ 0 → Three cells i (tried_by row at element).there (tried_by row at element).a (tried_by row at element).b (cells_of (kept_in rows at element) ++ c.0) → IdThere (3 * i) → guid_by (get_or (words_cell (at row.name)) 0 0) id ≡ id_in (tried row element)
      id_here f d y t r =
          let g = is_guid_lem row.form f in
          let (o, u) = plain_flag row.need d in
          let q : tried row element ≡ given guid o row.name (attributes_of element) = tried_given row.form row.name row.need o element u (ap plain g) ∙ ap (λ (t : Form). given t o row.name (attributes_of element)) g in
          let k : cell_of (kept_of row.form (at row.name) (tried row element)) ≡ words_cell (at row.name) = ap cell_of (kept_guid row.form (tried row element) g) in
          id_of_lem row.name o i (at row.name) refl (ap refusal_in (sym q) ∙ y) (t.one ∙ ap (λ (l : List ℕ). get_or l 0 0) k) (t.two ∙ ap (λ (l : List ℕ). get_or l 1 0) k) (t.three ∙ ap (λ (l : List ℕ). get_or l 2 0) k) r ∙ ap id_in (sym q)

      go : (b : Bool) → is_guid row.form ≡ b → plain_need row.need ≡ true → refusal_in (tried row element) ≡ 0 → Three cells i (tried_by row at element).there (tried_by row at element).a (tried_by row at element).b (cells_of (kept_in rows at element) ++ c.0) → cond b (no_guid rows) (one_guid rows) ≡ true → IdThere (cond b (3 * i) (guid_cell_in NUMBERS rows (i + 1)))
          → (one_guid rows ≡ true → IdThere (guid_cell_in NUMBERS rows (i + 1)) → IdsOf rows) → IdIs row.form (at row.name) (tried row element) id × IdsOf rows
      go true f d y t e r k = (λ g. id_here f d y t r, no_ids rows e)
      go false f d y t e r k = (λ g. clash (sym g ∙ f), k e r)

  -- the cells without the place of the id are those of the fields
  plain_cells : (rows : List Row) → no_guid rows ≡ true → cells_of (kept_in rows at element) ≡ cells_of (told_in rows)
  unfolding cells_of kept_in
  plain_cells [] e = refl
  plain_cells (r ∷ rows) e =
      let (a, b) = both (not (is_guid r.form)) (no_guid rows) e in
      ap (λ (x : Field). cell_of x ++ cells_of (kept_in rows at element)) (kept_told r.form (at r.name) (tried r element) (not_so (is_guid r.form) a)) ∙ ap (λ (l : List ℕ). cell_of (field_for r.form (at r.name) (tried r element)) ++ l) (plain_cells rows b)

  bared_cells : (rows : List Row) → one_guid rows ≡ true → no_guid rows ≡ false → IdsOf rows → (rest : List ℕ) → bared (guid_cell_in NUMBERS rows 0) (cells_of (kept_in rows at element) ++ rest) ≡ cells_of (told_in rows) ++ rest
  unfolding cells_of field_for
  bared_cells [] o e ids rest = clash e
  bared_cells (r ∷ rows) o e (h, ids) rest = ap (λ (l : List ℕ). bared (guid_cell_in NUMBERS (r ∷ rows) 0) (l ++ rest)) (next_cell r rows at element) ∙ go (is_guid r.form) refl o e (λ a b. bared_cells rows a b ids rest)
    where
      told : List ℕ
      told = cells_of (told_in rows)

      go : (b : Bool) → is_guid r.form ≡ b → cond b (no_guid rows) (one_guid rows) ≡ true → not b && no_guid rows ≡ false → (one_guid rows ≡ true → no_guid rows ≡ false → bared (guid_cell_in NUMBERS rows 0) (cells_of (kept_in rows at element) ++ rest) ≡ told ++ rest)
          → bared (cond b (3 * 0) (guid_cell_in NUMBERS rows (0 + 1))) ((tried_by r at element).there ∷ (tried_by r at element).a ∷ (tried_by r at element).b ∷ (cells_of (kept_in rows at element) ++ rest)) ≡ cells_of (field_for r.form (at r.name) (tried r element) ∷ told_in rows) ++ rest
      go true f o e k =
          let g = is_guid_lem r.form f in
          let t : (tried_by r at element).there ≡ get_or (guid_cell (id_in (tried r element))) 0 0 = ap (λ (x : Field). get_or (cell_of x) 0 0) (kept_guid r.form (tried r element) g) ∙ sym (id_flag (at r.name) (tried r element) id (h f)) in
          ap (λ (n : ℕ). n ∷ 0 ∷ 0 ∷ (cells_of (kept_in rows at element) ++ rest)) t ∙ ap (λ (l : List ℕ). get_or (guid_cell (id_in (tried r element))) 0 0 ∷ 0 ∷ 0 ∷ (l ++ rest)) (plain_cells rows o) ∙ guid_three (id_in (tried r element)) told rest
          ∙ ap (λ (F : Form). (cell_of (field_for F (at r.name) (tried r element)) ++ told) ++ rest) (sym g)
      go false f o e k =
          ap (λ (n : ℕ). bared n ((tried_by r at element).there ∷ (tried_by r at element).a ∷ (tried_by r at element).b ∷ (cells_of (kept_in rows at element) ++ rest))) (guid_later rows 0 e)
          ∙ bared_next (guid_cell_in NUMBERS rows 0) (tried_by r at element).there (tried_by r at element).a (tried_by r at element).b (cells_of (kept_in rows at element) ++ rest)
          ∙ ap (λ (l : List ℕ). (tried_by r at element).there ∷ (tried_by r at element).a ∷ (tried_by r at element).b ∷ l) (k o e)
          ∙ sym (ap (λ (l : List ℕ). l ++ rest) (three (kept_of r.form (at r.name) (tried r element)) told))
          ∙ ap (λ (x : Field). (cell_of x ++ told) ++ rest) (kept_told r.form (at r.name) (tried r element) f)

  -- the fields that the cells of fields are
  fields_are : (rows : List Row) (i : ℕ) (c rest : List ℕ) → drop (3 * i) c ≡ cells_of (told_in rows) ++ rest → IdsOf rows → fields_from rows i c id ≡ told_in rows
  unfolding fields_from cells_of
  fields_are [] i c rest e h = refl
  fields_are (r ∷ rows) i c rest e (h, k) =
      let x = cell_of (field_for r.form (at r.name) (tried r element)) in
      let t = three_of c i (get_or x 0 0) (get_or x 1 0) (get_or x 2 0) (cells_of (told_in rows) ++ rest) (e ∙ ap (λ (l : List ℕ). l ++ rest) (three (field_for r.form (at r.name) (tried r element)) (cells_of (told_in rows)))) in
      let f : field_by r.form (cell_at c (3 * i)) (cell_at c (3 * i + 1)) (cell_at c (3 * i + 2)) id ≡ field_for r.form (at r.name) (tried r element) = rw (t.one, t.two, t.three) (field_is r.form (at r.name) (tried r element) id h) in
      rw (f, fields_are rows (i + 1) c rest t.rest k)

  cells_long : (rows : List Row) → length (cells_of (told_in rows)) ≡ 3 * length rows
  unfolding cells_of
  cells_long [] = refl
  cells_long (r ∷ rows) = ap length (three (field_for r.form (at r.name) (tried r element)) (cells_of (told_in rows))) ∙ let n = cells_long rows in omega arith

  -- of a kind's rows, where none is refused
  pub record AsFields (k : ℕ) (rest after : List ℕ) : Type 0 where
    pub told : after ≡ cells_of (fields_in (rows_of k) at element) ++ rest
    pub fields : fields_from (rows_of k) 0 after id ≡ fields_in (rows_of k) at element
    pub long : length (cells_of (fields_in (rows_of k) at element)) ≡ 3 * length (rows_of k)

  pub as_fields : (k : ℕ) (rest after : List ℕ) → cells ≡ cells_of (kept_in (rows_of k) at element) ++ rest → refusal_of (rows_of k) element ≡ 0 → IdThere (id_cell k) → after ≡ taken (id_cell k) cells → AsFields k rest after
  unfolding id_cell
  as_fields k rest after e z r t = record { told = laid_so ∙ ap (λ (l : List Field). cells_of l ++ rest) are; fields = fields_are (rows_of k) 0 after rest laid_so ids ∙ are; long = ap (λ (l : List Field). length (cells_of l)) (sym are) ∙ cells_long (rows_of k) }
    where
      are : told_in (rows_of k) ≡ fields_in (rows_of k) at element
      are = told_in_lem (rows_of k) (plain_table k)

      ids : IdsOf (rows_of k)
      ids = ids_are (rows_of k) 0 (plain_table k) (rest, e) z (one_guid_lem k) r

      go : (b : Bool) → no_guid (rows_of k) ≡ b → taken (guid_cell_in NUMBERS (rows_of k) 0) (cells_of (kept_in (rows_of k) at element) ++ rest) ≡ cells_of (told_in (rows_of k)) ++ rest
      go true f = rw (no_guid_cell k f) (ap (λ (l : List ℕ). l ++ rest) (plain_cells (rows_of k) f))
      go false f = rw (guid_cell_lem k f) (bared_cells (rows_of k) (one_guid_lem k) f ids rest)

      laid_so : after ≡ cells_of (told_in (rows_of k)) ++ rest
      laid_so = t ∙ ap (taken (guid_cell_in NUMBERS (rows_of k) 0)) e ∙ go (no_guid (rows_of k)) refl
