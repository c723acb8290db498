-- Which refusals the attribute table gives: 0, 4, 5 or 6, in reading and in sending.
use Rattle.std.specs.Prelude.{Option, Some, None}
use Rattle.spelling.specs.Written.{matter}
use mathlib.Core.Path.{◌≡◌, refl}
use mathlib.Core.List.{List, [], ◌∷◌}
use mathlib.Core.Bool.{Bool, true, false, ◌&&◌, not, cond}
use Prim.Native.Nat.{ℕ, zero, suc, max}
use lib.ListN.{length}
use lib.Dec.{leb}
use Rattle.grammar.specs.Bytes.{Bytes, non_empty, same, within}
use Rattle.grammar.specs.Tree.{Pair, Tree, tree, Forest, no_trees, tree_then}
use Rattle.number.specs.Whole.{Whole as Int, no_int, int, int_of}
use Rattle.number.specs.Positive.{Number, no_number, number, number_of, decimals_of, BEHIND}
use Rattle.number.specs.Guid.{guid_of}
use Rattle.number.specs.Version.{version_of}
use Rattle.lane.specs.Chart.{among}
use Rattle.value.specs.declared.text.Span.{Span}
use Rattle.table.specs.Table.{Row, Form, words, some_words, whole, guid, version, positive, features, Need, required, optional, required_with, ignored}
use Rattle.table.specs.Says.{Value, Result, present, refused, a_text, an_int, an_id, millionths, noted, notes, when, without, ranged, measured, judged, given, name_of, children_of, featured, sought, by_need, tried, refusal_in, first, refusal_of}
use Rattle.message.specs.Fields.{Field, none, a_words, a_whole, a_measure, a_guid, a_features}
use Rattle.message.specs.declared.values.Features.{Features}
use Rattle.meant.specs.Meant.{sendable, text_at, text_meant, whole_meant, measure_meant, id_meant, features_meant, meant_as, meant_by, meant_of, first_in, MOST}

-- "4, 5, 6", and 0
abbrev pub Listed : ℕ → Type 0
Listed n = among n (0 ∷ 4 ∷ 5 ∷ 6 ∷ []) ≡ true

record Fine (x : Result) : Type 0 where
  listed : Listed (refusal_in x)

when_fine : (b : Bool) (v : Value) → Fine (when b v)
when_fine true v = record { listed = refl }
when_fine false v = record { listed = refl }

either_fine : (b : Bool) {x y : Result} → Fine x → Fine y → Fine (cond b x y)
either_fine true p q = p
either_fine false p q = q

without_fine : (b : Bool) → Fine (without b)
without_fine true = record { listed = refl }
without_fine false = record { listed = refl }

long_fine : Fine (refused 5)
long_fine = record { listed = refl }

bad_fine : Fine (refused 6)
bad_fine = record { listed = refl }

present_fine : (v : Value) → Fine (present v)
present_fine v = record { listed = refl }

ranged_fine : (lo hi : ℕ) (i : Int) → Fine (ranged lo hi i)
ranged_fine lo hi no_int = bad_fine
ranged_fine lo hi (int minus n) = when_fine (not minus && within lo hi n) (an_int n)

measured_fine : (n : Number) (d : ℕ) → Fine (measured n d)
measured_fine no_number d = bad_fine
measured_fine (number n) d = present_fine (millionths n d)

judged_fine : (t : Form) (v : Bytes) → Fine (judged t v)
unfolding judged
judged_fine (words n) v = either_fine (leb (length v) n) (present_fine (a_text v)) long_fine
judged_fine (some_words n) v = either_fine (leb (length v) n) (when_fine (non_empty v) (a_text v)) long_fine
judged_fine (whole lo hi) v = ranged_fine lo hi (int_of v)
judged_fine guid v = when_fine (guid_of v) (an_id v)
judged_fine version v = when_fine (version_of v) (a_text v)
judged_fine positive v = measured_fine (number_of v) (decimals_of v)
judged_fine features v = bad_fine

given_fine : (t : Form) (o : Bool) (n : Bytes) (l : List Pair) → Fine (given t o n l)
given_fine t o n [] = without_fine o
given_fine t o n (p ∷ l) = either_fine (same n p.name) (judged_fine t p.value) (given_fine t o n l)

featured_fine : (n : Bytes) (o : Bool) (f : Forest) → Fine (featured n o f)
featured_fine n o no_trees = without_fine o
featured_fine n o (tree_then t f) = either_fine (same n (name_of t)) (present_fine (notes (children_of t))) (featured_fine n o f)

sought_fine : (x : Form) (n : Bytes) (t : Tree) (o : Bool) → Fine (sought x n t o)
sought_fine (words k) n (tree m a f) o = given_fine (words k) o n a
sought_fine (some_words k) n (tree m a f) o = given_fine (some_words k) o n a
sought_fine (whole lo hi) n (tree m a f) o = given_fine (whole lo hi) o n a
sought_fine guid n (tree m a f) o = given_fine guid o n a
sought_fine version n (tree m a f) o = given_fine version o n a
sought_fine positive n (tree m a f) o = given_fine positive o n a
sought_fine features n (tree m a f) o = featured_fine n o f

need_fine : (d : Need) {f : Bool → Result} → ((o : Bool) → Fine (f o)) → Fine (by_need d f)
need_fine required h = h false
need_fine optional h = h true
need_fine (required_with n) h = record { listed = refl }
need_fine ignored h = record { listed = refl }

tried_fine : (r : Row) (t : Tree) → Fine (tried r t)
unfolding tried
tried_fine r t = need_fine r.need (sought_fine r.form r.name t)

first_listed : (a b : ℕ) → Listed a → Listed b → Listed (first a b)
first_listed zero b p q = q
first_listed (suc a) b p q = p

pub table_listed : (rows : List Row) (t : Tree) → Listed (refusal_of rows t)
unfolding refusal_of
table_listed [] t = refl
table_listed (r ∷ l) t = first_listed (refusal_in (tried r t)) (refusal_of l t) (tried_fine r t).listed (table_listed l t)

-- in sending
text_fine : (t : Form) (texts : Bytes) (p : Span) → Fine (text_meant t texts p)
text_fine (words n) texts p = either_fine (leb p.len n) (when_fine (sendable texts p) (a_text (text_at texts p))) long_fine
text_fine (some_words n) texts p = either_fine (leb p.len n) (when_fine (sendable texts p && non_empty (text_at texts p)) (a_text (text_at texts p))) long_fine
text_fine (whole lo hi) texts p = bad_fine
text_fine guid texts p = bad_fine
text_fine version texts p = when_fine (sendable texts p && version_of (text_at texts p)) (a_text (text_at texts p))
text_fine positive texts p = bad_fine
text_fine features texts p = bad_fine

whole_fine : (t : Form) (k : ℕ) → Fine (whole_meant t k)
whole_fine (words n) k = bad_fine
whole_fine (some_words n) k = bad_fine
whole_fine (whole lo hi) k = when_fine (within lo hi k) (an_int k)
whole_fine guid k = bad_fine
whole_fine version k = bad_fine
whole_fine positive k = bad_fine
whole_fine features k = bad_fine

measure_fine : (t : Form) (x d : ℕ) → Fine (measure_meant t x d)
measure_fine (words n) x d = bad_fine
measure_fine (some_words n) x d = bad_fine
measure_fine (whole lo hi) x d = bad_fine
measure_fine guid x d = bad_fine
measure_fine version x d = bad_fine
measure_fine positive x d = when_fine (within 1 MOST x && leb d BEHIND) (millionths x (max d (matter x)))
measure_fine features x d = bad_fine

id_fine : (t : Form) (v : Bytes) → Fine (id_meant t v)
id_fine (words n) v = bad_fine
id_fine (some_words n) v = bad_fine
id_fine (whole lo hi) v = bad_fine
id_fine guid v = when_fine (guid_of v) (an_id v)
id_fine version v = bad_fine
id_fine positive v = bad_fine
id_fine features v = bad_fine

features_fine : (t : Form) (f : Features) → Fine (features_meant t f)
features_fine (words n) f = bad_fine
features_fine (some_words n) f = bad_fine
features_fine (whole lo hi) f = bad_fine
features_fine guid f = bad_fine
features_fine version f = bad_fine
features_fine positive f = bad_fine
features_fine features f = present_fine (noted f.forecast f.query f.send)

as_fine : (t : Form) (x : Field) (texts : Bytes) (o : Bool) → Fine (meant_as t x texts o)
as_fine t none texts o = bad_fine
as_fine t (a_words None) texts o = without_fine o
as_fine t (a_words (Some p)) texts o = text_fine t texts p
as_fine t (a_whole None) texts o = without_fine o
as_fine t (a_whole (Some k)) texts o = whole_fine t k
as_fine t (a_measure None) texts o = without_fine o
as_fine t (a_measure (Some d)) texts o = measure_fine t d.millionths d.decimals
as_fine t (a_guid None) texts o = without_fine o
as_fine t (a_guid (Some v)) texts o = id_fine t v
as_fine t (a_features None) texts o = without_fine o
as_fine t (a_features (Some f)) texts o = features_fine t f

meant_fine : (r : Row) (x : Field) (texts : Bytes) → Fine (meant_by r x texts)
unfolding meant_by
meant_fine r x texts = need_fine r.need (as_fine r.form x texts)

pub meant_listed : (rows : List Row) (l : List Field) (texts : Bytes) → Listed (first_in (meant_of rows l texts))
unfolding meant_of
meant_listed [] l texts = refl
meant_listed (r ∷ k) [] texts = refl
meant_listed (r ∷ k) (x ∷ l) texts = first_listed (refusal_in (meant_by r x texts)) (first_in (meant_of k l texts)) (meant_fine r x texts).listed (meant_listed k l texts)
