-- The attribute of one row, by its form.
use mathlib.Core.Path.{◌≡◌, refl, sym, ap, ◌∙◌}
use mathlib.Core.List.{List, [], ◌∷◌}
use mathlib.Core.Bool.{Bool, true, false, cond}
use Prim.Native.Nat.{ℕ, zero, suc, ◌≤◌, ◌<◌}
use native.Mathlib.Omega.{arith}
use lib.Dec.{eqb}
use borrow.Author.Tests.{ne_eqb}
use Rattle.exact.specs.Chain.{clash}
use Rattle.grammar.specs.Bytes.{Bytes, text}
use Rattle.number.specs.Digits.{print_int}
use Rattle.printing.proofs.PieceLaws.{join, Made}
use Rattle.spelling.specs.Written.{escape, print_decimal}
use Rattle.spelling.proofs.Theorems.{int_as_is, decimal_as_is}
use Rattle.table.specs.Table.{Form, words, some_words, whole, guid, version, positive, features}
use Rattle.message.specs.Cells.{is_there, words_by, whole_by, measure_by, guid_by, field_by}
use Rattle.meant.specs.Meant.{text_at}
use Rattle.meant.specs.Written.{attribute, attribute_of}
use Rattle.meant.proofs.ValueLaws.{is_child}
use Rattle.rows.specs.Coding.{form_of, is_child as coded_child, row_of}
use Rattle.rows.specs.declared.data.Form.{Form as CodedForm}
use Rattle.rows.specs.declared.data.Form.TheVariants.{Features, Text, SomeText, Int, Guid, Version, Positive}
use Rattle.rows.specs.declared.data.Row.{Row as Coded}
use Rattle.writes.specs.Rows.{span_of, form_value, row_bytes}
use Rattle.writes.proofs.WorthLaws.{is_there_lem}

-- the features are a child, no other form is
pub child_form : (f : CodedForm) → is_child (form_of f) ≡ coded_child f
child_form Features = refl
child_form (Text most) = refl
child_form (SomeText most) = refl
child_form (Int low high) = refl
child_form Guid = refl
child_form Version = refl
child_form Positive = refl

-- not there
none_put_by : (F : Form) (n : Bytes) (a b : ℕ) (id texts : Bytes) → attribute_of n (field_by F 0 a b id) texts ≡ []
unfolding attribute_of field_by words_by whole_by measure_by guid_by
none_put_by (words k) n a b id texts = refl
none_put_by (some_words k) n a b id texts = refl
none_put_by (whole lo hi) n a b id texts = refl
none_put_by guid n a b id texts = refl
none_put_by version n a b id texts = refl
none_put_by positive n a b id texts = refl
none_put_by features n a b id texts = refl

pub row_absent : (c : Coded) (t a b : ℕ) (id texts : Bytes) → t ≡ 0 → row_bytes c t a b id texts ≡ []
unfolding row_bytes
row_absent c t a b id texts e = ap (λ (t : ℕ). attribute_of (row_of c).name (field_by (row_of c).form t a b id) texts) e ∙ none_put_by (row_of c).form (row_of c).name a b id texts

-- a child is no attribute
child_put_by : (F : CodedForm) (n : Bytes) (t a b : ℕ) (id texts : Bytes) → coded_child F ≡ true → attribute_of n (field_by (form_of F) t a b id) texts ≡ []
unfolding field_by attribute_of
child_put_by Features n t a b id texts e = refl
child_put_by (Text most) n t a b id texts e = clash (sym e)
child_put_by (SomeText most) n t a b id texts e = clash (sym e)
child_put_by (Int low high) n t a b id texts e = clash (sym e)
child_put_by Guid n t a b id texts e = clash (sym e)
child_put_by Version n t a b id texts e = clash (sym e)
child_put_by Positive n t a b id texts e = clash (sym e)

pub row_child : (c : Coded) (t a b : ℕ) (id texts : Bytes) → coded_child c.form ≡ true → row_bytes c t a b id texts ≡ []
unfolding row_bytes
row_child c t a b id texts e = child_put_by c.form c.name.now t a b id texts e

-- there
abbrev pieces : Bytes → Bytes → List Bytes
pieces n v = text " " ∷ n ∷ text "=\"" ∷ v ∷ text "\"" ∷ []

number_put : (n v : Bytes) → escape v ≡ v → attribute n v ≡ join (pieces n v)
number_put n v e = ap (λ (y : Bytes). join (pieces n y)) e

there_put : (F : Form) (n : Bytes) (t a b : ℕ) (id texts : Bytes) → is_there t ≡ true → is_child F ≡ false → attribute_of n (field_by F t a b id) texts ≡ join (pieces n (form_value F a b id texts))
unfolding attribute_of field_by words_by whole_by measure_by guid_by
there_put (words k) n t a b id texts h x = rw h refl
there_put (some_words k) n t a b id texts h x = rw h refl
there_put (whole lo hi) n t a b id texts h x = rw h (number_put n (print_int a) (int_as_is a).same)
there_put guid n t a b id texts h x = rw h refl
there_put version n t a b id texts h x = rw h refl
there_put positive n t a b id texts h x = rw h (number_put n (print_decimal a b) (decimal_as_is a b).same)
there_put features n t a b id texts h x = clash x

pub row_is : (c : Coded) (t a b : ℕ) (id texts : Bytes) → (t ≡ 0 → ⊥) → coded_child c.form ≡ false → Made (row_bytes c t a b id texts) (text " " ∷ c.name.now ∷ text "=\"" ∷ form_value (row_of c).form a b id texts ∷ text "\"" ∷ [])
unfolding row_bytes
row_is c t a b id texts h x = record { is = there_put (row_of c).form (row_of c).name t a b id texts (is_there_lem t h) (child_form c.form ∙ x) }
