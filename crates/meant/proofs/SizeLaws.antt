-- How long what is written gets at most, computed from the rows.
use mathlib.Core.Path.{◌≡◌, refl, sym, ap, ap₂, ◌∙◌}
use mathlib.Core.List.{List, [], ◌∷◌, ◌++◌}
use mathlib.Core.Bool.{Bool, true, false, cond}
use Prim.Native.Nat.{ℕ, ◌+◌, ◌≤◌}
use native.Mathlib.Omega.{arith}
use lib.ListN.{length, length-append}
use lib.Dec.{eqb, leb}
use borrow.Author.Tests.{ne_eqb, leb-true}
use Rattle.grammar.specs.Bytes.{Bytes, text}
use Rattle.number.proofs.Tests.{cases}
use Rattle.spelling.specs.Written.{escape}
use Rattle.table.specs.Table.{Row, Entry, table, is_kind, rows_in, name_in, settled}
use Rattle.table.specs.Theorems.{on_kinds, each_kind}
use Rattle.table.specs.Says.{refusal_in}
use Rattle.message.specs.Fields.{Field}
use Rattle.message.specs.declared.values.Features.{Features}
use Rattle.meant.specs.Meant.{meant_as, meant_by, meant_of, first_in, given_in, rows_with, refused_in}
use Rattle.meant.specs.Written.{attribute, attribute_of, attributes_of, closed, empty_tag, features_inside, child_of, children_of, written_need, written, element_by, rooted, written_in}
use Rattle.meant.proofs.WidthLaws.{width}
use Rattle.meant.proofs.ValueLaws.{is_child, features_child, Puts, puts_none, puts_value, puts_child, puts, Looks, looks, skips, look}
use Rattle.meant.proofs.BuildLaws.{both_zero}

-- the end of a start tag of an n-byte name, what is inside, at most c bytes, and the end tag
abbrev pub closed_most : ℕ → ℕ → ℕ
closed_most n c = cond (eqb c 0) 2 (c + n + 4)

-- the three features that can be inside
abbrev pub FEATURES : ℕ
FEATURES = 70

-- an attribute: its name, a space, `=`, two quotes, and its value
abbrev pub attribute_most : Row → ℕ
attribute_most r = cond (is_child r.form) 0 (4 + length r.name + width r.form)

abbrev pub child_most : Row → ℕ
child_most r = cond (is_child r.form) (1 + length r.name + closed_most (length r.name) FEATURES) 0

abbrev pub sum_of : (Row → ℕ) → List Row → ℕ
sum_of f [] = 0
sum_of f (r ∷ l) = f r + sum_of f l

abbrev pub element_most : Bytes → List Row → ℕ
element_most n rows = 1 + length n + sum_of attribute_most rows + closed_most (length n) (sum_of child_most rows)

attribute_long : (n v : Bytes) → length (attribute n v) ≡ 4 + length n + length (escape v)
attribute_long n v =
    let a = length-append n (text "=\"" ++ (escape v ++ text "\"")) in
    let b = length-append (escape v) (text "\"") in
    omega arith

closed_long : (n w : Bytes) (c : ℕ) → length w ≤ c → length (closed n w) ≤ closed_most (length n) c
closed_long n [] c h = cases (eqb c 0) (λ e. rw e (omega arith)) (λ e. rw e (omega arith))
closed_long n (b ∷ w) c h =
    let e = ne_eqb c 0 (λ z. omega arith) in
    let x = length-append w (text "</" ++ (n ++ text ">")) in
    let y = length-append n (text ">") in
    rw e (omega arith)

maybe_long : (b : Bool) (w : Bytes) → length (cond b w []) ≤ length w
maybe_long true w = omega arith
maybe_long false w = omega arith

inside_long : (f : Features) → length (features_inside f) ≤ FEATURES
inside_long f =
    let a = cond f.forecast (empty_tag (text "FeatureBoardForecast")) [] in
    let b = cond f.query (empty_tag (text "FeatureQueryBoardInfo")) [] in
    let c = cond f.send (empty_tag (text "FeatureSendBoardInfo")) [] in
    let x = length-append a (b ++ c) in
    let y = length-append b c in
    let i = maybe_long f.forecast (empty_tag (text "FeatureBoardForecast")) in
    let j = maybe_long f.query (empty_tag (text "FeatureQueryBoardInfo")) in
    let k = maybe_long f.send (empty_tag (text "FeatureSendBoardInfo")) in
    omega arith

child_long : (n : Bytes) (f : Features) → length (features_child n f) ≤ 1 + length n + closed_most (length n) FEATURES
child_long n f =
    let x = length-append n (closed n (features_inside f)) in
    let y = closed_long n (features_inside f) FEATURES (inside_long f) in
    omega arith

-- what a field puts down
puts_long : (r : Row) {x : Field} {texts : Bytes} → Puts r.form r.name x texts → (length (attribute_of r.name x texts) ≤ attribute_most r) × (length (child_of r.name x) ≤ child_most r)
puts_long r (puts_none a c g m) = (rw a (omega arith), rw c (omega arith))
puts_long r (puts_value v m a c g e w) =
    let z = attribute_long r.name v in
    let s = w.small in
    (rw (a, w.plain) (omega arith), rw c (omega arith))
puts_long r (puts_child f a c g k m) = (rw a (omega arith), rw (c, k) (child_long r.name f))

row_long : (r : Row) (x : Field) (texts : Bytes) → refusal_in (meant_by r x texts) ≡ 0
    → (length (attribute_of r.name (written_need r.need x) texts) ≤ attribute_most r) × (length (child_of r.name (written_need r.need x)) ≤ child_most r)
unfolding meant_by attribute_of child_of
row_long r x texts h = go (look r.need)
  where
    go : Looks r.need → (length (attribute_of r.name (written_need r.need x) texts) ≤ attribute_most r) × (length (child_of r.name (written_need r.need x)) ≤ child_most r)
    go (looks opt by w) = let (a, c) = puts_long r (puts r.form r.name x texts opt (sym (ap refusal_in (by (meant_as r.form x texts))) ∙ h)) in (rw (w x) a, rw (w x) c)
    go (skips by w) = (rw (w x) (omega arith), rw (w x) (omega arith))

pub rows_long : (rows : List Row) (fields : List Field) (texts : Bytes) → first_in (meant_of rows fields texts) ≡ 0
    → (length (attributes_of rows (written rows fields) texts) ≤ sum_of attribute_most rows) × (length (children_of rows (written rows fields)) ≤ sum_of child_most rows)
unfolding meant_of attributes_of children_of
rows_long [] fields texts h = (omega arith, omega arith)
rows_long (r ∷ rows) [] texts h = absurd (omega arith)
rows_long (r ∷ rows) (x ∷ fields) texts h =
    let (e, z) = both_zero (refusal_in (meant_by r x texts)) (first_in (meant_of rows fields texts)) h in
    let (a, c) = row_long r x texts e in
    let (b, d) = rows_long rows fields texts z in
    let i = length-append (attribute_of r.name (written_need r.need x) texts) (attributes_of rows (written rows fields) texts) in
    let j = length-append (child_of r.name (written_need r.need x)) (children_of rows (written rows fields)) in
    (omega arith, omega arith)

pub element_long : (n : Bytes) (rows : List Row) (fields : List Field) (texts : Bytes) → first_in (meant_of rows fields texts) ≡ 0 → length (element_by n rows fields texts) ≤ element_most n rows
element_long n rows fields texts h =
    let (a, c) = rows_long rows fields texts h in
    let l = written rows fields in
    let d = closed_long n (children_of rows l) (sum_of child_most rows) c in
    let i = length-append n (attributes_of rows l texts ++ closed n (children_of rows l)) in
    let j = length-append (attributes_of rows l texts) (closed n (children_of rows l)) in
    omega arith

-- settled rows have the same sums
attributes_settled : (has : Bytes → Bool) (rows : List Row) → sum_of attribute_most (settled has rows) ≡ sum_of attribute_most rows
attributes_settled has [] = refl
attributes_settled has (r ∷ l) = ap (λ (n : ℕ). attribute_most r + n) (attributes_settled has l)

children_settled : (has : Bytes → Bool) (rows : List Row) → sum_of child_most (settled has rows) ≡ sum_of child_most rows
children_settled has [] = refl
children_settled has (r ∷ l) = ap (λ (n : ℕ). child_most r + n) (children_settled has l)

element_settled : (n : Bytes) (has : Bytes → Bool) (rows : List Row) → element_most n (settled has rows) ≡ element_most n rows
element_settled n has rows = ap₂ (λ (a c : ℕ). 1 + length n + a + closed_most (length n) c) (attributes_settled has rows) (children_settled has rows)

-- the root takes 17 bytes
rooted_long : (w : Bytes) → length (rooted w) ≡ 17 + length w
rooted_long w = let a = length-append w (text "</Hermes>") in omega arith

-- the bytes of a message of the kind k, at most, by a given table and by the one of document 01
abbrev pub most_in : List Entry → ℕ → ℕ
most_in by k = 17 + element_most (name_in by k) (rows_in by k)

abbrev pub most_of : ℕ → ℕ
most_of k = most_in table k

pub message_long : (by : List Entry) (k : ℕ) (fields : List Field) (texts : Bytes) → refused_in by k fields texts ≡ 0 → length (written_in by k fields texts) ≤ most_in by k
message_long by k fields texts h =
    let e = element_long (name_in by k) (rows_with (rows_in by k) fields) fields texts h in
    let r = rooted_long (element_by (name_in by k) (rows_with (rows_in by k) fields) fields texts) in
    let s = element_settled (name_in by k) (given_in (rows_in by k) fields) (rows_in by k) in
    omega arith

-- a BoardForecast is the largest
abbrev pub LARGEST : ℕ
LARGEST = 6462

small_kinds : on_kinds (λ k. leb (most_of k) LARGEST) table ≡ true
unfolding table
small_kinds = refl

pub most_largest : (k : ℕ) → is_kind k ≡ true → most_of k ≤ LARGEST
most_largest k i = leb-true (most_of k) LARGEST (each_kind (λ j. leb (most_of j) LARGEST) k small_kinds i)
