-- Rows settled by what is there: they have the same names and forms, and what is written of their fields settles them in the same way.
use mathlib.Core.Path.{◌≡◌, refl, sym, ap, ap₂}
use mathlib.Core.List.{List, [], ◌∷◌}
use mathlib.Core.Bool.{Bool, true, false, ◌&&◌, ◌||◌, not, cond}
use Prim.Native.Nat.{ℕ, suc}
use lib.ListN.{length}
use lib.Dec.{leb}
use Rattle.exact.specs.Chain.{clash}
use Rattle.grammar.specs.Bytes.{Bytes, same}
use Rattle.grammar.specs.Limits.{ATTRIBUTES}
use Rattle.model.specs.Tests.{and_left, and_right}
use Rattle.table.specs.Table.{Need, required, optional, required_with, ignored, Row, rows_of, settled_need, settled}
use Rattle.table.specs.Theorems.{plain_need, plain_rows, plain_table, settled_table}
use Rattle.message.specs.Fields.{Field}
use Rattle.meant.specs.Meant.{is_given, given_in, rows_with}
use Rattle.meant.specs.Written.{written_need, written}
use Rattle.meant.proofs.RowLaws.{is_name, strange, distinct, good_rows}

-- the names are the same
strange_settled : (has : Bytes → Bool) (l : List Row) (n : Bytes) → strange (settled has l) n ≡ strange l n
strange_settled has [] n = refl
strange_settled has (r ∷ l) n = ap (λ (b : Bool). not (same n r.name) && b) (strange_settled has l n)

distinct_settled : (has : Bytes → Bool) (l : List Row) → distinct (settled has l) ≡ distinct l
distinct_settled has [] = refl
distinct_settled has (r ∷ l) = ap₂ (λ (a b : Bool). is_name r.name && (a && b)) (strange_settled has l r.name) (distinct_settled has l)

length_settled : (has : Bytes → Bool) (l : List Row) → length (settled has l) ≡ length l
length_settled has [] = refl
length_settled has (r ∷ l) = ap suc (length_settled has l)

pub good_settled : (has : Bytes → Bool) (l : List Row) → good_rows (settled has l) ≡ good_rows l
good_settled has l = ap₂ (λ (n : ℕ) (b : Bool). leb n ATTRIBUTES && b) (length_settled has l) (distinct_settled has l)

-- n is no name of a row that may be not looked at
abbrev pub standing : List Row → Bytes → Bool
standing [] n = true
standing (r ∷ l) n = (not (same n r.name) || plain_need r.need) && standing l n

-- each attribute that a row is required with is such a name: of the rows l, among the rows all
abbrev pub leans_on : List Row → Need → Bool
leans_on all required = true
leans_on all optional = true
leans_on all (required_with n) = standing all n
leans_on all ignored = true

abbrev pub leaning : List Row → List Row → Bool
leaning all [] = true
leaning all (r ∷ l) = leans_on all r.need && leaning all l

-- what settles them alike by these names settles them alike
need_alike : (all : List Row) (has has' : Bytes → Bool) → ((n : Bytes) → standing all n ≡ true → has n ≡ has' n) → (d : Need) → leans_on all d ≡ true → settled_need has d ≡ settled_need has' d
need_alike all has has' f required h = refl
need_alike all has has' f optional h = refl
need_alike all has has' f (required_with n) h = ap (λ (b : Bool). cond b required ignored) (f n h)
need_alike all has has' f ignored h = refl

pub settled_alike : (all : List Row) (has has' : Bytes → Bool) → ((n : Bytes) → standing all n ≡ true → has n ≡ has' n) → (l : List Row) → leaning all l ≡ true → settled has l ≡ settled has' l
settled_alike all has has' f [] h = refl
settled_alike all has has' f (r ∷ l) h =
    ap₂ (λ (d : Need) (k : List Row). record { name = r.name; form = r.form; need = d } ∷ k)
    (need_alike all has has' f r.need (and_left (leans_on all r.need) (leaning all l) h))
    (settled_alike all has has' f l (and_right (leans_on all r.need) (leaning all l) h))

-- a field of such a name is written if it is there
plain_written : (has : Bytes → Bool) (d : Need) (x : Field) → plain_need d ≡ true → written_need (settled_need has d) x ≡ x
plain_written has required x h = refl
plain_written has optional x h = refl
plain_written has (required_with n) x h = clash (sym h)
plain_written has ignored x h = clash (sym h)

pub given_written : (has : Bytes → Bool) (l : List Row) (fields : List Field) (n : Bytes) → standing l n ≡ true → given_in (settled has l) (written (settled has l) fields) n ≡ given_in l fields n
given_written has [] fields n h = refl
given_written has (r ∷ l) [] n h = refl
given_written has (r ∷ l) (x ∷ fields) n h =
    ap₂ (λ (a b : Bool). a || b) (own (same n r.name) (and_left (not (same n r.name) || plain_need r.need) (standing l n) h))
    (given_written has l fields n (and_right (not (same n r.name) || plain_need r.need) (standing l n) h))
  where
    own : (z : Bool) → not z || plain_need r.need ≡ true → z && is_given (written_need (settled_need has r.need) x) ≡ z && is_given x
    own true e = ap is_given (plain_written has r.need x e)
    own false e = refl

-- plain rows are written whole
written_plain : (l : List Row) (fields : List Field) → plain_rows l ≡ true → written l fields ≡ fields
written_plain [] fields h = refl
written_plain (r ∷ l) [] h = refl
written_plain (r ∷ l) (x ∷ fields) h =
    ap₂ (λ (y : Field) (k : List Field). y ∷ k) (whole r.need (and_left (plain_need r.need) (plain_rows l) h)) (written_plain l fields (and_right (plain_need r.need) (plain_rows l) h))
  where
    whole : (d : Need) → plain_need d ≡ true → written_need d x ≡ x
    whole required e = refl
    whole optional e = refl
    whole (required_with n) e = clash (sym e)
    whole ignored e = clash (sym e)

pub written_table : (k : ℕ) (fields : List Field) → written (rows_of k) fields ≡ fields
written_table k fields = written_plain (rows_of k) fields (plain_table k)

pub rows_table : (k : ℕ) (fields : List Field) → rows_with (rows_of k) fields ≡ rows_of k
rows_table k fields = settled_table (given_in (rows_of k) fields) k
