-- Rows that a message may have, as a test; and a row tried on an element with one attribute or one child more.
use mathlib.Core.Path.{◌≡◌, refl, sym, ap₂, ◌∙◌}
use mathlib.Core.List.{List, [], ◌∷◌}
use mathlib.Core.Bool.{Bool, true, false, ◌&&◌, not, cond}
use lib.ListN.{length}
use lib.Dec.{leb}
use borrow.Author.Tests.{leb-true, eq-eqb, not-true}
use Rattle.grammar.specs.Bytes.{Bytes, non_empty, same, among}
use Rattle.grammar.specs.Limits.{NAME, ATTRIBUTES}
use Rattle.grammar.specs.Name.{shaped, Name}
use Rattle.grammar.specs.Tree.{Pair, Tree, tree, Forest, tree_then}
use Rattle.model.specs.Tests.{and_left, and_right, same_test, same_true}
use Rattle.table.specs.Table.{Row, Form, words, some_words, whole, guid, version, positive, features}
use Rattle.table.specs.Says.{Result, given, featured, name_of, sought, by_need, tried, values_of}
use Rattle.table.specs.Theorems.{by_same}
use Rattle.meant.proofs.ValueLaws.{is_child}

-- a name, as a test
abbrev pub is_name : Bytes → Bool
is_name n = shaped n && (non_empty n && leb (length n) NAME)

pub named : (n : Bytes) → is_name n ≡ true → Name n
named n h =
    let k = and_right (shaped n) (non_empty n && leb (length n) NAME) h in
    record { shape = and_left (shaped n) (non_empty n && leb (length n) NAME) h; one = and_left (non_empty n) (leb (length n) NAME) k; short = leb-true (length n) NAME (and_right (non_empty n) (leb (length n) NAME) k) }

-- n is no row's name
abbrev pub strange : List Row → Bytes → Bool
strange [] n = true
strange (r ∷ l) n = not (same n r.name) && strange l n

-- no name twice, and each a name
abbrev pub distinct : List Row → Bool
distinct [] = true
distinct (r ∷ l) = is_name r.name && (strange l r.name && distinct l)

-- "At most 32 attributes per element, no name twice"
abbrev pub good_rows : List Row → Bool
good_rows l = leb (length l) ATTRIBUTES && distinct l

pub record Distinct (r : Row) (l : List Row) : Type 0 where
  pub name : Name r.name
  pub alone : strange l r.name ≡ true
  pub others : distinct l ≡ true

pub distinct_first : (r : Row) (l : List Row) → distinct (r ∷ l) ≡ true → Distinct r l
distinct_first r l h =
    let k = and_right (is_name r.name) (strange l r.name && distinct l) h in
    record { name = named r.name (and_left (is_name r.name) (strange l r.name && distinct l) h); alone = and_left (strange l r.name) (distinct l) k; others = and_right (strange l r.name) (distinct l) k }

-- none of these is a row's name
abbrev pub clear : List Bytes → List Row → Bool
clear [] l = true
clear (n ∷ earlier) l = strange l n && clear earlier l

-- a row's name is not among them, and the other rows' are not
pub clear_first : (earlier : List Bytes) (r : Row) (l : List Row) → clear earlier (r ∷ l) ≡ true → (among earlier r.name ≡ false) × (clear earlier l ≡ true)
clear_first [] r l h = (refl, refl)
clear_first (n ∷ earlier) r l h =
    let a = and_left (not (same n r.name) && strange l n) (clear earlier (r ∷ l)) h in
    let e = not-true (same n r.name) (and_left (not (same n r.name)) (strange l n) a) in
    let b = and_right (not (same n r.name)) (strange l n) a in
    let (x, y) = clear_first earlier r l (and_right (not (same n r.name) && strange l n) (clear earlier (r ∷ l)) h) in
    (rw e x, rw b y)

-- the order of two names does not matter
same_self : (n : Bytes) → same n n ≡ true
same_self [] = refl
same_self (b ∷ n) = rw (eq-eqb b b refl) (same_self n)

pub same_itself : (n m : Bytes) → n ≡ m → same n m ≡ true
same_itself n m e = rw e (same_self m)

pub same_swap : (n m : Bytes) → same n m ≡ same m n
same_swap n m = same_test (same n m) (same m n) (λ h. same_itself m n (same_true n m h)) (λ h. same_itself n m (same_true m n h))

-- what is tried of a row: a child, or an attribute
abbrev pub sought_in : Row → List Pair → Forest → Bool → Result
sought_in r a f opt = cond (is_child r.form) (featured r.name opt f) (given r.form opt r.name a)

sought_is : (t : Form) (m n : Bytes) (a : List Pair) (f : Forest) (opt : Bool) → sought t m (tree n a f) opt ≡ cond (is_child t) (featured m opt f) (given t opt m a)
sought_is (words k) m n a f opt = refl
sought_is (some_words k) m n a f opt = refl
sought_is (whole lo hi) m n a f opt = refl
sought_is guid m n a f opt = refl
sought_is version m n a f opt = refl
sought_is positive m n a f opt = refl
sought_is features m n a f opt = refl

pub tried_is : (r : Row) (n : Bytes) (a : List Pair) (f : Forest) → tried r (tree n a f) ≡ by_need r.need (sought_in r a f)
unfolding tried
tried_is r n a f = by_same r.need (sought r.form r.name (tree n a f)) (sought_in r a f) (sought_is r.form r.name n a f)

-- what has another name changes nothing
pub skip_attribute : (rows : List Row) (n : Bytes) (p : Pair) (a : List Pair) (f : Forest) → strange rows p.name ≡ true → values_of rows (tree n (p ∷ a) f) ≡ values_of rows (tree n a f)
unfolding values_of
skip_attribute [] n p a f h = refl
skip_attribute (r ∷ l) n p a f h =
    let e : same r.name p.name ≡ false = same_swap r.name p.name ∙ not-true (same p.name r.name) (and_left (not (same p.name r.name)) (strange l p.name) h) in
    let i = skip_attribute l n p a f (and_right (not (same p.name r.name)) (strange l p.name) h) in
    let t = tried_is r n (p ∷ a) f ∙ by_same r.need (sought_in r (p ∷ a) f) (sought_in r a f) (λ opt. rw e) ∙ sym (tried_is r n a f) in
    ap₂ (λ (x : Result) (z : List Result). x ∷ z) t i

pub skip_child : (rows : List Row) (n : Bytes) (a : List Pair) (t : Tree) (f : Forest) → strange rows (name_of t) ≡ true → values_of rows (tree n a (tree_then t f)) ≡ values_of rows (tree n a f)
unfolding values_of
skip_child [] n a t f h = refl
skip_child (r ∷ l) n a t f h =
    let e : same r.name (name_of t) ≡ false = same_swap r.name (name_of t) ∙ not-true (same (name_of t) r.name) (and_left (not (same (name_of t) r.name)) (strange l (name_of t)) h) in
    let i = skip_child l n a t f (and_right (not (same (name_of t) r.name)) (strange l (name_of t)) h) in
    let t = tried_is r n a (tree_then t f) ∙ by_same r.need (sought_in r a (tree_then t f)) (sought_in r a f) (λ opt. rw e) ∙ sym (tried_is r n a f) in
    ap₂ (λ (x : Result) (z : List Result). x ∷ z) t i
