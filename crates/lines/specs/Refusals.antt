-- "refusal (0, 4, 5 or 6)": no reading is refused by another number.
use Rattle.std.specs.Prelude.{◌≡◌, refl, List, [], ◌∷◌, Bool, true, false, cond, ◌&&◌, not, ℕ, zero, suc, ◌≤◌, length, leb}
use Rattle.std.proofs.Common.{arith}
use Rattle.number.specs.Whole.{Whole, no_int, int, int_of}
use Rattle.number.specs.Positive.{number, Number, no_number, number_of, decimals_of}
use Rattle.number.specs.Guid.{guid_of}
use Rattle.number.specs.Version.{version_of}
use Rattle.grammar.specs.Bytes.{Bytes, within, non_empty, same}
use Rattle.grammar.specs.Tree.{Pair, Tree, tree, Forest, no_trees, tree_then}
use Rattle.table.specs.Table.{Row, Form, words, some_words, whole, guid, version, positive, features, Need, required, optional, required_with, ignored}
use Rattle.table.specs.Says.{Value, a_text, an_int, an_id, present, refused, TOO_LONG, when, ranged, measured, judged, without, given, name_of, children_of, notes, featured, sought, by_need, tried, refusal_in, first, refusal_of}

pub data Refusal (n : ℕ) : Type 0 where
  none_of_it : n ≡ 0 → Refusal n
  refuses : 4 ≤ n → n ≤ 6 → Refusal n

without_is : (z : Bool) → Refusal (refusal_in (without z))
without_is true = none_of_it refl
without_is false = refuses (omega arith) (omega arith)

when_is : (z : Bool) (v : Value) → Refusal (refusal_in (when z v))
when_is true v = none_of_it refl
when_is false v = refuses (omega arith) (omega arith)

ranged_is : (lo hi : ℕ) (x : Whole) → Refusal (refusal_in (ranged lo hi x))
ranged_is lo hi no_int = refuses (omega arith) (omega arith)
ranged_is lo hi (int minus n) = when_is (not minus && within lo hi n) (an_int n)

measured_is : (x : Number) (d : ℕ) → Refusal (refusal_in (measured x d))
measured_is no_number d = refuses (omega arith) (omega arith)
measured_is (number n) d = none_of_it refl

judged_is : (f : Form) (v : Bytes) → Refusal (refusal_in (judged f v))
unfolding judged
judged_is (words n) v = go (leb (length v) n)
  where
    go : (z : Bool) → Refusal (refusal_in (cond z (present (a_text v)) (refused TOO_LONG)))
    go true = none_of_it refl
    go false = refuses (omega arith) (omega arith)
judged_is (some_words n) v = go (leb (length v) n)
  where
    go : (z : Bool) → Refusal (refusal_in (cond z (when (non_empty v) (a_text v)) (refused TOO_LONG)))
    go true = when_is (non_empty v) (a_text v)
    go false = refuses (omega arith) (omega arith)
judged_is (whole lo hi) v = ranged_is lo hi (int_of v)
judged_is guid v = when_is (guid_of v) (an_id v)
judged_is version v = when_is (version_of v) (a_text v)
judged_is positive v = measured_is (number_of v) (decimals_of v)
judged_is features v = refuses (omega arith) (omega arith)

given_is : (f : Form) (o : Bool) (n : Bytes) (l : List Pair) → Refusal (refusal_in (given f o n l))
given_is f o n [] = without_is o
given_is f o n (p ∷ l) = go (same n p.name) (given_is f o n l)
  where
    go : (z : Bool) → Refusal (refusal_in (given f o n l)) → Refusal (refusal_in (cond z (judged f p.value) (given f o n l)))
    go true h = judged_is f p.value
    go false h = h

featured_is : (n : Bytes) (o : Bool) (f : Forest) → Refusal (refusal_in (featured n o f))
featured_is n o no_trees = without_is o
featured_is n o (tree_then t f) = go (same n (name_of t)) (featured_is n o f)
  where
    go : (z : Bool) → Refusal (refusal_in (featured n o f)) → Refusal (refusal_in (cond z (present (notes (children_of t))) (featured n o f)))
    go true h = none_of_it refl
    go false h = h

sought_is : (x : Form) (n : Bytes) (t : Tree) (o : Bool) → Refusal (refusal_in (sought x n t o))
sought_is (words k) n (tree m a f) o = given_is (words k) o n a
sought_is (some_words k) n (tree m a f) o = given_is (some_words k) o n a
sought_is (whole lo hi) n (tree m a f) o = given_is (whole lo hi) o n a
sought_is guid n (tree m a f) o = given_is guid o n a
sought_is version n (tree m a f) o = given_is version o n a
sought_is positive n (tree m a f) o = given_is positive o n a
sought_is features n (tree m a f) o = featured_is n o f

tried_is : (r : Row) (t : Tree) → Refusal (refusal_in (tried r t))
unfolding tried
tried_is r t = go r.need
  where
    go : (d : Need) → Refusal (refusal_in (by_need d (sought r.form r.name t)))
    go required = sought_is r.form r.name t false
    go optional = sought_is r.form r.name t true
    go (required_with n) = none_of_it refl
    go ignored = none_of_it refl

pub refusal_is : (l : List Row) (t : Tree) → Refusal (refusal_of l t)
unfolding refusal_of
refusal_is [] t = none_of_it refl
refusal_is (r ∷ l) t = go (refusal_in (tried r t)) (tried_is r t) (refusal_is l t)
  where
    go : (n : ℕ) → Refusal n → Refusal (refusal_of l t) → Refusal (first n (refusal_of l t))
    go zero h k = k
    go (suc n) h k = h
