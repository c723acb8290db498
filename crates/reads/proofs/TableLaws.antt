-- The rows of a kind: only those of ServiceDescription have a child, SupportedFeatures.
use Rattle.std.proofs.Common.{◌≡◌, ℕ, zero, suc, ◌<◌, Bool, true, false, ◌&&◌, ◌||◌, not, cond, List, [], ◌∷◌, length, get_or, eqb, refl, sym, ap, ◌∙◌, subst, arith}
use borrow.Author.Tests.{eqb-true}
use Rattle.std.specs.Prelude.{Option}
use Rattle.exact.specs.Chain.{clash}
use Rattle.grammar.specs.Bytes.{Bytes, same}
use Rattle.grammar.specs.Tree.{Forest}
use Rattle.model.specs.Tests.{and_left, and_right, same_true}
use Rattle.lane.specs.Names.{ServiceDescription}
use Rattle.table.specs.Table.{table, Row, Entry, rows_in, rows_of}
use Rattle.table.specs.Theorems.{each_rows}
use Rattle.rows.specs.Coding.{RowsAt, is_child, row_of, as_rows}
use Rattle.rows.specs.declared.data.Row.{Row as Coded}
use Rattle.reads.specs.Kept.{SUPPORTED, Carried, Sorted}
use Rattle.reads.specs.declared.features.Sort.{Sort}
use Rattle.reads.proofs.RowLaws.{plain, plain_form}

-- a test of each row
abbrev each : (Row → Bool) → List Row → Bool
each p [] = true
each p (r ∷ l) = p r && each p l

at : (p : Row → Bool) (l : List Coded) (i : ℕ) (d : Coded) → each p (as_rows l) ≡ true → i < length l → p (row_of (get_or l i d)) ≡ true
unfolding as_rows
at p [] i d e h = absurd (omega arith)
at p (c ∷ l) zero d e h = and_left (p (row_of c)) (each p (as_rows l)) e
at p (c ∷ l) (suc i) d e h = at p l i d (and_right (p (row_of c)) (each p (as_rows l)) e) (omega arith)

-- only one kind has a row with a child
abbrev no_child : Row → Bool
no_child r = plain r.form

plain_entries : List Entry → Bool
plain_entries [] = true
plain_entries (e ∷ l) = (eqb e.kind ServiceDescription || each no_child e.rows) && plain_entries l

all_plain : plain_entries table ≡ true
unfolding table plain_entries
all_plain = refl

others_plain : (l : List Entry) (k : ℕ) → plain_entries l ≡ true → eqb k ServiceDescription ≡ false → each no_child (rows_in l k) ≡ true
unfolding plain_entries
others_plain [] k h e = refl
others_plain (x ∷ l) k h e = go (eqb x.kind k) refl (others_plain l k (and_right (eqb x.kind ServiceDescription || each no_child x.rows) (plain_entries l) h) e)
  where
    here : eqb x.kind ServiceDescription || each no_child x.rows ≡ true
    here = and_left (eqb x.kind ServiceDescription || each no_child x.rows) (plain_entries l) h

    go : (b : Bool) → eqb x.kind k ≡ b → each no_child (rows_in l k) ≡ true → each no_child (cond b x.rows (rows_in l k)) ≡ true
    go true q r =
        let z : eqb x.kind ServiceDescription ≡ false = subst (λ (n : ℕ). eqb n ServiceDescription ≡ false) (sym (eqb-true x.kind k q)) e in
        sym (ap (λ (b : Bool). b || each no_child x.rows) z) ∙ here
    go false q r = r

-- its name is that of the features
abbrev named_so : Row → Bool
named_so r = plain r.form || same SUPPORTED r.name

all_named : (k : ℕ) → each named_so (rows_of k) ≡ true
unfolding table
all_named k = each_rows (each named_so) table k refl

-- each row that is a child was looked for in f
abbrev pub Fed : Option ℕ → List Coded → Forest → Type 0
Fed t l f = (i : ℕ) (d : Coded) → i < length l → is_child (get_or l i d).form ≡ true → Carried (row_of (get_or l i d)).name t f

pub only_features : (k : Sort) {l : List Coded} → RowsAt k.kind l → (f : Forest) → Sorted k f → Fed k.features l f
only_features k {l} h f s i d lt e = subst (λ (n : Bytes). Carried n k.features f) (sym named) (s (go (eqb k.kind ServiceDescription) refl))
  where
    child : plain (row_of (get_or l i d)).form ≡ false
    child = plain_form (get_or l i d).form ∙ ap not e

    named : (row_of (get_or l i d)).name ≡ SUPPORTED
    named = same_true SUPPORTED (row_of (get_or l i d)).name (sym (ap (λ (b : Bool). b || same SUPPORTED (row_of (get_or l i d)).name) child) ∙ at named_so l i d (sym (ap (each named_so) h.all) ∙ all_named k.kind) lt)

    go : (z : Bool) → eqb k.kind ServiceDescription ≡ z → k.kind ≡ ServiceDescription
    go true q = eqb-true k.kind ServiceDescription q
    go false q = clash (sym (at no_child l i d (sym (ap (each no_child) h.all) ∙ others_plain table k.kind all_plain q) lt) ∙ child)
