-- A row tried: what its form keeps.
use Rattle.std.specs.Prelude.{Option, Some, None}
use mathlib.Core.Path.{◌≡◌, refl, sym, ap, subst, ◌∙◌}
use mathlib.Core.List.{List}
use mathlib.Core.Bool.{Bool, true, false, not, cond}
use Prim.Native.Nat.{ℕ, ◌+◌, ◌-◌, ◌≤◌}
use native.Mathlib.Omega.{arith}
use lib.ListN.{length, take, drop, length-drop}
use lib.Seq.{length-take-le}
use Rattle.exact.specs.Chain.{clash}
use Rattle.grammar.specs.Bytes.{Bytes}
use Rattle.grammar.specs.Value.{Item, read_value}
use Rattle.grammar.specs.Tree.{Pair, Tree, tree, Forest}
use Rattle.value.specs.Loose.{Loose}
use Rattle.value.specs.declared.text.Span.{Span}
use Rattle.table.specs.Table.{Form, words, some_words, whole, guid, version, positive, features, Need, required, optional}
use Rattle.table.specs.Says.{Result, refused, refusal_in, judged, without, given, featured, sought, by_need, tried}
use Rattle.table.specs.Theorems.{by_flag}
use Rattle.rows.specs.Coding.{form_of, is_child, need_of, may_miss}
use Rattle.rows.specs.declared.data.Form.{Form as CodedForm}
use Rattle.rows.specs.declared.data.Form.TheVariants.{Features, Text, SomeText, Int, Guid, Version, Positive}
use Rattle.rows.specs.declared.data.Need.{Need as CodedNeed}
use Rattle.rows.specs.declared.data.Need.TheVariants.{Required, Optional}
use Rattle.rows.proofs.RowLaws.{by_coded}
use Rattle.rows.specs.declared.data.Row.{Row as Coded}
use Rattle.message.specs.Fields.{Field, a_words}
use Rattle.message.specs.Cells.{words_cell, cell_of}
use Rattle.message.specs.Handed.{attributes_of}
use Rattle.reads.specs.Held.{pairs, place, Found, Tries}
use Rattle.reads.specs.Kept.{Verdict, as_cell, cell_as, lacking, int_of, size_of, features_of, kept_of, tried_as, Judges, RowJudges, Rowed, carried_by}
use Rattle.reads.specs.declared.tried.Cell.{Cell}
use Rattle.reads.proofs.FieldLaws.{tries_absent, tries_present}

-- the arms of `judged`
abbrev at : ℕ → Bytes → Option Span
at start raw = Some (record { start = start; len = length raw })

-- a form whose value is told by its place
by_place : {raw : Bytes} {start n : ℕ} {p : Cell} (t : Form) → ((x : Result) → kept_of t (at start raw) x ≡ a_words (at start raw)) → Judges refusal_in t raw n → p ≡ cell_as (words_cell (at start raw)) → (l : List Item) → Loose raw l → record { refusal = n; there = p.there; a = p.a; b = p.b } ≡ tried_as t (at start raw) (judged t (read_value l))
by_place {raw} {start} {n} t k j q l x = ap (λ (p : Cell). record { refusal = n; there = p.there; a = p.a; b = p.b }) q ∙ ap (λ (n : ℕ). as_cell n (words_cell (at start raw))) (j.says l x) ∙ ap (λ (f : Field). as_cell (refusal_in (judged t (read_value l))) (cell_of f)) (sym (k (judged t (read_value l))))

module _ {raw : Bytes} {start : ℕ} {F : CodedForm} where
  so : {r : Verdict} (G : CodedForm) → F ≡ G → ((l : List Item) → Loose raw l → r ≡ tried_as (form_of G) (at start raw) (judged (form_of G) (read_value l))) → RowJudges (form_of F) raw start r
  so {r} G e f = subst (λ (F : CodedForm). RowJudges (form_of F) raw start r) (sym e) (record { says = f })

  -- those that are told by their place
  pub text_arm : {p : Cell} {m n : ℕ} → F ≡ Text m → p ≡ cell_as (words_cell (at start raw)) → Judges refusal_in (words m) raw n → RowJudges (form_of F) raw start (record { refusal = n; there = p.there; a = p.a; b = p.b })
  unfolding kept_of
  text_arm {m = m} e q j = so (Text m) e (by_place (words m) (λ x. refl) j q)

  pub some_arm : {p : Cell} {m n : ℕ} → F ≡ SomeText m → p ≡ cell_as (words_cell (at start raw)) → Judges refusal_in (some_words m) raw n → RowJudges (form_of F) raw start (record { refusal = n; there = p.there; a = p.a; b = p.b })
  unfolding kept_of
  some_arm {m = m} e q j = so (SomeText m) e (by_place (some_words m) (λ x. refl) j q)

  pub id_arm : {p : Cell} {n : ℕ} → F ≡ Guid → p ≡ cell_as (words_cell (at start raw)) → Judges refusal_in guid raw n → RowJudges (form_of F) raw start (record { refusal = n; there = p.there; a = p.a; b = p.b })
  unfolding kept_of
  id_arm e q j = so Guid e (by_place guid (λ x. refl) j q)

  pub version_arm : {p : Cell} {n : ℕ} → F ≡ Version → p ≡ cell_as (words_cell (at start raw)) → Judges refusal_in version raw n → RowJudges (form_of F) raw start (record { refusal = n; there = p.there; a = p.a; b = p.b })
  unfolding kept_of
  version_arm e q j = so Version e (by_place version (λ x. refl) j q)

  -- those that are told by their worth
  pub int_arm : {r v : Verdict} {lo hi : ℕ} → r ≡ v → F ≡ Int lo hi → Judges int_of (whole lo hi) raw v → RowJudges (form_of F) raw start r
  unfolding kept_of
  int_arm {lo = lo} {hi = hi} q e j = so (Int lo hi) e (λ l x. q ∙ j.says l x)

  pub size_arm : {r v : Verdict} → r ≡ v → F ≡ Positive → Judges size_of positive raw v → RowJudges (form_of F) raw start r
  unfolding kept_of
  size_arm q e j = so Positive e (λ l x. q ∙ j.says l x)

  -- a child has no value
  pub child_arm : {r : Verdict} → F ≡ Features → r ≡ int_of (refused 6) → RowJudges (form_of F) raw start r
  unfolding kept_of judged
  child_arm e q = so Features e (λ l x. q)

-- rows that are attributes
abbrev pub plain : Form → Bool
plain (words n) = true
plain (some_words n) = true
plain (whole lo hi) = true
plain guid = true
plain version = true
plain positive = true
plain features = false

-- the features are a child, no other form is
pub plain_form : (F : CodedForm) → plain (form_of F) ≡ not (is_child F)
plain_form Features = refl
plain_form (Text most) = refl
plain_form (SomeText most) = refl
plain_form (Int low high) = refl
plain_form Guid = refl
plain_form Version = refl
plain_form Positive = refl

sought_given : (t : Form) (n : Bytes) (o : Bool) (x : Tree) → plain t ≡ true → sought t n x o ≡ given t o n (attributes_of x)
sought_given (words k) n o (tree m a f) p = refl
sought_given (some_words k) n o (tree m a f) p = refl
sought_given (whole lo hi) n o (tree m a f) p = refl
sought_given guid n o (tree m a f) p = refl
sought_given version n o (tree m a f) p = refl
sought_given positive n o (tree m a f) p = refl
sought_given features n o (tree m a f) p = clash (sym p)

pub tried_given : (t : Form) (n : Bytes) (d : Need) (o : Bool) (x : Tree) → d ≡ cond o optional required → plain t ≡ true → tried (record { name = n; form = t; need = d }) x ≡ given t o n (attributes_of x)
unfolding tried
tried_given t n d o x e p = ap (λ (d : Need). by_need d (sought t n x)) e ∙ by_flag o (sought t n x) ∙ sought_given t n o x p

by_flag_of : (d : CodedNeed) → need_of d ≡ cond (may_miss d) optional required
by_flag_of Required = refl
by_flag_of Optional = refl

absent_row : (t : Form) (o : Bool) → plain t ≡ true → tried_as t None (without o) ≡ lacking o
unfolding kept_of
absent_row (words k) o p = refl
absent_row (some_words k) o p = refl
absent_row (whole lo hi) true p = refl
absent_row (whole lo hi) false p = refl
absent_row guid o p = refl
absent_row version o p = refl
absent_row positive true p = refl
absent_row positive false p = refl
absent_row features o p = clash (sym p)

is_plain : (c : Coded) {b : Bool} → b ≡ is_child c.form → b ≡ false → plain (form_of c.form) ≡ true
is_plain c other n = plain_form c.form ∙ ap not (sym other ∙ n)

module _ {s : Bytes} {base : ℕ} {table : List ℕ} {count : ℕ} (carried : Option ℕ) (c : Coded) {b : Bool} (other : b ≡ is_child c.form) (no : b ≡ false) where
  rowed : {r : Verdict} → Tries (tried_as (form_of c.form)) (form_of c.form) (may_miss c.need) s base table count c.name.now r → Rowed s base table count carried c r
  rowed x = record { says = λ h m f z. x.says h ∙ sym (ap (tried_as (form_of c.form) (place h c.name.now)) (tried_given (form_of c.form) c.name.now (need_of c.need) (may_miss c.need) (tree m (pairs h) f) (by_flag_of c.need) (is_plain c other no))) }

  pub absent_rowed : {r : Verdict} {w : Option Span} → Found s base table count c.name.now w → w ≡ None → r ≡ lacking (may_miss c.need) → Rowed s base table count carried c r
  absent_rowed found e q = rowed (tries_absent found (tried_as (form_of c.form)) (form_of c.form) (may_miss c.need) e (q ∙ sym (absent_row (form_of c.form) (may_miss c.need) (is_plain c other no)) ∙ ap (λ (w : Option Span). tried_as (form_of c.form) w (without (may_miss c.need))) (sym e)))

  pub present_rowed : {r : Verdict} {w : Option Span} → Found s base table count c.name.now w → (p : Span) → p.start + p.len ≤ length s → w ≡ Some p → RowJudges (form_of c.form) (take (p.start + p.len - p.start) (drop p.start s)) p.start r → Rowed s base table count carried c r
  present_rowed found p z e j = rowed (tries_present found (tried_as (form_of c.form)) (form_of c.form) (may_miss c.need) p e (λ l x. j.says l x ∙ ap (λ (n : ℕ). tried_as (form_of c.form) (Some (record { start = p.start; len = n })) (judged (form_of c.form) (read_value l))) long))
    where
      long : length (take (p.start + p.len - p.start) (drop p.start s)) ≡ p.len
      long =
          let d = length-drop p.start s in
          length-take-le (p.start + p.len - p.start) (drop p.start s) (omega arith) ∙ (let y : p.start + p.len - p.start ≡ p.len = omega arith in y)

-- the row that is a child
child_tried : (F : CodedForm) (n : Bytes) (d : CodedNeed) (w : Option Span) (m : Bytes) (a : List Pair) (f : Forest) → is_child F ≡ true → tried_as (form_of F) w (tried (record { name = n; form = form_of F; need = need_of d }) (tree m a f)) ≡ features_of (featured n (may_miss d) f)
unfolding kept_of tried
child_tried Features n d w m a f e = ap features_of (by_coded d (λ o. featured n o f))
child_tried (Text most) n d w m a f e = clash (sym e)
child_tried (SomeText most) n d w m a f e = clash (sym e)
child_tried (Int low high) n d w m a f e = clash (sym e)
child_tried Guid n d w m a f e = clash (sym e)
child_tried Version n d w m a f e = clash (sym e)
child_tried Positive n d w m a f e = clash (sym e)

pub child_rowed : {s : Bytes} {base : ℕ} {table : List ℕ} {count : ℕ} (found : Option ℕ) (c : Coded) {b : Bool} {r : Verdict} → b ≡ is_child c.form → b ≡ true → r ≡ carried_by found (may_miss c.need) → Rowed s base table count found c r
child_rowed found c e y q = record { says = λ h m f z. q ∙ z (sym e ∙ y) (may_miss c.need) ∙ sym (child_tried c.form c.name.now c.need (place h c.name.now) m (pairs h) f (sym e ∙ y)) }
