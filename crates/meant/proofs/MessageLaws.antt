-- The kinds, and that what is written for one is a message.
use mathlib.Core.Path.{◌≡◌, refl, ap, subst, ◌∙◌}
use mathlib.Core.List.{List, [], ◌∷◌}
use mathlib.Core.Bool.{Bool, true, ◌&&◌}
use Prim.Native.Nat.{ℕ}
use lib.Dec.{eqb}
use borrow.Author.Tests.{eqb-true}
use Rattle.grammar.specs.Bytes.{Bytes, within, digit}
use Rattle.grammar.specs.Name.{letter, name_start, name_byte, Name}
use Rattle.grammar.specs.Tree.{Tree, tree, no_trees, tree_then}
use Rattle.grammar.specs.Filler.{bits_end}
use Rattle.grammar.specs.Element.{Element, spell_element, GoodElement, read_element}
use Rattle.grammar.specs.Message.{Root, plain, good_plain, hermes, Message as IsMessage}
use Rattle.model.specs.Tests.{and_left, and_right}
use Rattle.table.specs.Table.{Row, Entry, table, kind_in, is_kind_in, is_kind, rows_in, rows_of, name_in}
use Rattle.table.specs.Theorems.{on_kinds, kinds_in}
use Rattle.table.specs.Says.{Result, values_of, has_attribute, rows_for, said_in, name_of as named, refusal_of as refused_by}
use Rattle.message.specs.Fields.{Field}
use Rattle.meant.specs.Meant.{meant_of, first_in, given_in, rows_with, meant_in, refused_in, refusal_by}
use Rattle.meant.specs.Written.{element_of, element_by, rooted, name_of, written_in, written_by}
use Rattle.meant.proofs.RowLaws.{is_name, good_rows, named as named_is}
use Rattle.meant.proofs.NeedLaws.{leaning, good_settled, settled_alike, given_written, rows_table, written_table}
use Rattle.meant.proofs.ElementLaws.{no_filler, no_attributes}
use Rattle.meant.proofs.BuildLaws.{ReadsBack, element_back}

-- a kind has a name of its own, and rows that an element may have
abbrev good_kind : List Entry → ℕ → Bool
good_kind by k = is_name (name_in by k) && (eqb (kind_in by (name_in by k)) k && (good_rows (rows_in by k) && leaning (rows_in by k) (rows_in by k)))

-- a table that messages can be written by, as a test
abbrev pub sound_table : List Entry → Bool
sound_table by = on_kinds (good_kind by) by

pub sound_table_lem : sound_table table ≡ true
unfolding table name_start name_byte letter digit within
sound_table_lem = refl

pub record Kind (by : List Entry) (k : ℕ) : Type 0 where
  pub name : Name (name_in by k)
  pub known : kind_in by (name_in by k) ≡ k
  pub rows : good_rows (rows_in by k) ≡ true
  pub leans : leaning (rows_in by k) (rows_in by k) ≡ true

pub kind_good : (by : List Entry) → sound_table by ≡ true → (k : ℕ) → is_kind_in by k ≡ true → Kind by k
kind_good by s k i =
    let n = is_name (name_in by k) in
    let e = eqb (kind_in by (name_in by k)) k in
    let r = good_rows (rows_in by k) in
    let l = leaning (rows_in by k) (rows_in by k) in
    let h = kinds_in (good_kind by) by k s i in
    let j = and_right n (e && (r && l)) h in
    let z = and_right e (r && l) j in
    record { name = named_is (name_in by k) (and_left n (e && (r && l)) h); known = eqb-true (kind_in by (name_in by k)) k (and_left e (r && l) j); rows = and_left r l z; leans = and_right r l z }

-- the root around an element
abbrev root_of : Element → Root
root_of e = record { attributes = []; trail = []; before = no_filler; inner = e; after = no_filler; shut = [] }

rooted_message : (w : Bytes) (e : Element) → GoodElement 4 e → w ≡ spell_element e → IsMessage (rooted w) (tree hermes [] (tree_then (read_element e) no_trees))
rooted_message w e g s = record {
  layout = plain (root_of e);
  laid = record {
    good = good_plain (record { attributes = no_attributes; trail = refl; before = bits_end; inner = g; after = bits_end; shut = refl });
    spelt = ap rooted s;
  };
  reads = refl;
}

-- the refusal is that of the values
refusal_values : (rows : List Row) (t : Tree) → refused_by rows t ≡ first_in (values_of rows t)
unfolding refused_by values_of
refusal_values [] t = refl
refusal_values (r ∷ l) t = rw (refusal_values l t)

-- the bytes w are a message, which says this kind and these values, by a given table and by the one of document 01
pub record TellsIn (by : List Entry) (w : Bytes) (k : ℕ) (meant : List Result) : Type 0 where
  pub reading : Tree
  pub is_message : IsMessage w reading
  pub kind : (said_in by reading).kind ≡ k
  pub refusal : (said_in by reading).refusal ≡ 0
  pub values : (said_in by reading).values ≡ meant

abbrev pub Tells : Bytes → ℕ → List Result → Type 0
Tells w k meant = TellsIn table w k meant

pub message_back_in : (by : List Entry) → sound_table by ≡ true → (k : ℕ) (fields : List Field) (texts : Bytes) → is_kind_in by k ≡ true → refused_in by k fields texts ≡ 0
    → TellsIn by (written_in by k fields texts) k (meant_in by k fields texts)
message_back_in by s k fields texts i h =
    record {
      reading = tree hermes [] (tree_then element no_trees);
      is_message = rooted_message (element_by (name_in by k) rows fields texts) x.element x.good x.spelt;
      kind = e;
      refusal = ap (λ (j : ℕ). refused_by (rows_for by j element) element) e ∙ ap (λ (l : List Row). refused_by l element) same_rows ∙ refusal_values rows element ∙ ap first_in x.values ∙ h;
      values = ap (λ (j : ℕ). values_of (rows_for by j element) element) e ∙ ap (λ (l : List Row). values_of l element) same_rows ∙ x.values;
    }
  where
    g : Kind by k
    g = kind_good by s k i

    rows : List Row
    rows = rows_with (rows_in by k) fields

    x : ReadsBack 2 (name_in by k) rows fields texts
    x = element_back (name_in by k) rows fields texts g.name (good_settled (given_in (rows_in by k) fields) (rows_in by k) ∙ g.rows) h

    element : Tree
    element = read_element x.element

    e : kind_in by (named element) ≡ k
    e = ap (kind_in by) x.name ∙ g.known

    -- the element that is written settles the rows as its fields do
    same_rows : rows_for by k element ≡ rows
    same_rows = settled_alike (rows_in by k) (has_attribute element) (given_in (rows_in by k) fields) (λ n l. x.has n ∙ given_written (given_in (rows_in by k) fields) (rows_in by k) fields n l) (rows_in by k) g.leans

-- the table of document 01 has plain rows
pub meant_table : (k : ℕ) (fields : List Field) (texts : Bytes) → meant_in table k fields texts ≡ meant_of (rows_of k) fields texts
meant_table k fields texts = ap (λ (l : List Row). meant_of l fields texts) (rows_table k fields)

pub refusal_table : (k : ℕ) (fields : List Field) (texts : Bytes) → refusal_by k fields texts ≡ first_in (meant_of (rows_of k) fields texts)
refusal_table k fields texts = ap first_in (meant_table k fields texts)

pub written_by_table : (k : ℕ) (fields : List Field) (texts : Bytes) → written_by k fields texts ≡ rooted (element_of (name_of k) (rows_of k) fields texts)
written_by_table k fields texts =
    ap (λ (l : List Row). rooted (element_by (name_of k) l fields texts)) (rows_table k fields)
    ∙ ap (λ (l : List Field). rooted (element_of (name_of k) (rows_of k) l texts)) (written_table k fields)

pub message_back : (k : ℕ) (fields : List Field) (texts : Bytes) → is_kind k ≡ true → refusal_by k fields texts ≡ 0 → Tells (written_by k fields texts) k (meant_of (rows_of k) fields texts)
message_back k fields texts i h = subst (λ (l : List Result). Tells (written_by k fields texts) k l) (meant_table k fields texts) (message_back_in table sound_table_lem k fields texts i h)
