-- What is written for a field is worth what the field means.
use Rattle.std.specs.Prelude.{Some, None}
use mathlib.Core.Path.{◌≡◌, refl}
use mathlib.Core.List.{[], ◌++◌}
use mathlib.Core.Bool.{Bool, true, false, ◌&&◌, cond}
use Prim.Native.Nat.{ℕ, ◌+◌, ◌*◌, ◌≤◌, max}
use native.Mathlib.Omega.{arith}
use lib.ListN.{length, drop, length-drop}
use lib.Seq.{length-take-le}
use lib.Dec.{leb}
use borrow.Author.Tests.{leb-true}
use Rattle.grammar.specs.Bytes.{Bytes, text, non_empty, within}
use Rattle.model.specs.Tests.{and_left, and_right, in_range}
use Rattle.number.specs.Positive.{BEHIND}
use Rattle.number.specs.Guid.{guid_of}
use Rattle.number.specs.Version.{version_of}
use Rattle.number.specs.Digits.{print_int}
use Rattle.spelling.specs.Written.{escape, matter, print_decimal}
use Rattle.spelling.specs.Characters.{IsText}
use Rattle.spelling.specs.Decided.{is_text}
use Rattle.spelling.proofs.Theorems.{text_decided, int_as_is, decimal_as_is, guid_as_is, int_inverse, decimal_inverse, decimals_inverse, escape_long}
use Rattle.value.specs.declared.text.Span.{Span}
use Rattle.table.specs.Table.{Form, words, some_words, whole, guid, version, positive, features, Need, required, optional, required_with, ignored}
use Rattle.table.specs.Says.{Value, a_text, an_int, millionths, an_id, noted, Result, absent, present, refused, TOO_LONG, when, without, by_need, judged, refusal_in}
use Rattle.message.specs.Fields.{Field, none, a_words, a_whole, a_measure, a_guid, a_features}
use Rattle.message.specs.declared.values.Features.{Features}
use Rattle.meant.specs.Meant.{text_at, sendable, text_meant, whole_meant, MOST, measure_meant, id_meant, features_meant, meant_as, is_given}
use Rattle.meant.specs.Written.{attribute, attribute_of, closed, features_inside, child_of, written_need}
use Rattle.meant.proofs.WidthLaws.{width, int_width, decimal_width, guid_width, version_width}

-- "child SupportedFeatures": the one form that is no attribute
abbrev pub is_child : Form → Bool
is_child (words n) = false
is_child (some_words n) = false
is_child (whole lo hi) = false
is_child guid = false
is_child version = false
is_child positive = false
is_child features = true

-- the text v in an attribute of the form t is worth m, and no longer than the form allows
pub record Worth (t : Form) (v : Bytes) (m : Result) : Type 0 where
  pub is_text_holds : IsText v
  pub plain : is_child t ≡ false
  pub worth : judged t v ≡ m
  pub small : length (escape v) ≤ width t

-- what is not refused passed its tests
when_good : (b : Bool) (v : Value) → refusal_in (when b v) ≡ 0 → b ≡ true
when_good true v h = refl
when_good false v h = absurd (omega arith)

limit_good : (b : Bool) (r : Result) → refusal_in (cond b r (refused TOO_LONG)) ≡ 0 → (b ≡ true) × (refusal_in r ≡ 0)
limit_good true r h = (refl, h)
limit_good false r h = absurd (omega arith)

-- a text that can be sent
pub record Sent (texts : Bytes) (p : Span) : Type 0 where
  pub inside : p.start + p.len ≤ length texts
  pub is_text_holds : IsText (text_at texts p)
  pub long : length (text_at texts p) ≡ p.len

pub sent : (texts : Bytes) (p : Span) → sendable texts p ≡ true → Sent texts p
sent texts p h =
    let i = leb-true (p.start + p.len) (length texts) (and_left (leb (p.start + p.len) (length texts)) (is_text (text_at texts p)) h) in
    let n = length-drop p.start texts in
    record {
      inside = i;
      is_text_holds = (text_decided (text_at texts p)).sound (and_right (leb (p.start + p.len) (length texts)) (is_text (text_at texts p)) h);
      long = length-take-le p.len (drop p.start texts) (omega arith);
    }

text_width : {texts : Bytes} {p : Span} (n : ℕ) → p.len ≤ n → Sent texts p → length (escape (text_at texts p)) ≤ 6 * n
text_width {texts} {p} n h s = let e = s.long in let z = escape_long (text_at texts p) in omega arith

pub text_worth : (t : Form) (texts : Bytes) (p : Span) → refusal_in (text_meant t texts p) ≡ 0 → Worth t (text_at texts p) (text_meant t texts p)
unfolding judged
text_worth (words n) texts p h =
    let v = text_at texts p in
    let (l, k) = limit_good (leb p.len n) (when (sendable texts p) (a_text v)) h in
    let g = when_good (sendable texts p) (a_text v) k in
    let s = sent texts p g in
    record { is_text_holds = s.is_text_holds; plain = refl; worth = rw (s.long, l, g); small = text_width n (leb-true p.len n l) s }
text_worth (some_words n) texts p h =
    let v = text_at texts p in
    let (l, k) = limit_good (leb p.len n) (when (sendable texts p && non_empty v) (a_text v)) h in
    let g = when_good (sendable texts p && non_empty v) (a_text v) k in
    let a = and_left (sendable texts p) (non_empty v) g in
    let b = and_right (sendable texts p) (non_empty v) g in
    let s = sent texts p a in
    record { is_text_holds = s.is_text_holds; plain = refl; worth = rw (s.long, l, a, b); small = text_width n (leb-true p.len n l) s }
text_worth (whole lo hi) texts p h = absurd (omega arith)
text_worth guid texts p h = absurd (omega arith)
text_worth version texts p h =
    let v = text_at texts p in
    let g = when_good (sendable texts p && version_of v) (a_text v) h in
    let a = and_left (sendable texts p) (version_of v) g in
    let b = and_right (sendable texts p) (version_of v) g in
    record { is_text_holds = (sent texts p a).is_text_holds; plain = refl; worth = rw (a, b); small = version_width v b }
text_worth positive texts p h = absurd (omega arith)
text_worth features texts p h = absurd (omega arith)

pub whole_worth : (t : Form) (k : ℕ) → refusal_in (whole_meant t k) ≡ 0 → Worth t (print_int k) (whole_meant t k)
unfolding judged
whole_worth (words n) k h = absurd (omega arith)
whole_worth (some_words n) k h = absurd (omega arith)
whole_worth (whole lo hi) k h = record { is_text_holds = (int_as_is k).is_text_holds; plain = refl; worth = rw (int_inverse k); small = int_width k hi (in_range lo hi k (when_good (within lo hi k) (an_int k) h)).1 }
whole_worth guid k h = absurd (omega arith)
whole_worth version k h = absurd (omega arith)
whole_worth positive k h = absurd (omega arith)
whole_worth features k h = absurd (omega arith)

pub measure_worth : (t : Form) (x d : ℕ) → refusal_in (measure_meant t x d) ≡ 0 → Worth t (print_decimal x d) (measure_meant t x d)
unfolding judged
measure_worth (words n) x d h = absurd (omega arith)
measure_worth (some_words n) x d h = absurd (omega arith)
measure_worth (whole lo hi) x d h = absurd (omega arith)
measure_worth guid x d h = absurd (omega arith)
measure_worth version x d h = absurd (omega arith)
measure_worth positive x d h =
    let g = when_good (within 1 MOST x && leb d BEHIND) (millionths x (max d (matter x))) h in
    let (a, b) = in_range 1 MOST x (and_left (within 1 MOST x) (leb d BEHIND) g) in
    let l = leb-true d BEHIND (and_right (within 1 MOST x) (leb d BEHIND) g) in
    record { is_text_holds = (decimal_as_is x d).is_text_holds; plain = refl; worth = rw (decimal_inverse x d a b, decimals_inverse x d l, g); small = decimal_width x d b }
measure_worth features x d h = absurd (omega arith)

pub id_worth : (t : Form) (v : Bytes) → refusal_in (id_meant t v) ≡ 0 → Worth t v (id_meant t v)
unfolding judged
id_worth (words n) v h = absurd (omega arith)
id_worth (some_words n) v h = absurd (omega arith)
id_worth (whole lo hi) v h = absurd (omega arith)
id_worth guid v h = let g = when_good (guid_of v) (an_id v) h in record { is_text_holds = (guid_as_is v g).is_text_holds; plain = refl; worth = refl; small = guid_width v g }
id_worth version v h = absurd (omega arith)
id_worth positive v h = absurd (omega arith)
id_worth features v h = absurd (omega arith)

features_worth : (t : Form) (f : Features) → refusal_in (features_meant t f) ≡ 0 → (is_child t ≡ true) × (features_meant t f ≡ present (noted f.forecast f.query f.send))
features_worth (words n) f h = absurd (omega arith)
features_worth (some_words n) f h = absurd (omega arith)
features_worth (whole lo hi) f h = absurd (omega arith)
features_worth guid f h = absurd (omega arith)
features_worth version f h = absurd (omega arith)
features_worth positive f h = absurd (omega arith)
features_worth features f h = (refl, refl)

-- the child that holds the features
abbrev pub features_child : Bytes → Features → Bytes
features_child n f = text "<" ++ (n ++ closed n (features_inside f))

-- what a field puts down for a row of the form t and the name n: nothing, an attribute, or the child
pub data Puts (t : Form) (n : Bytes) (x : Field) (texts : Bytes) : Type 0 where
  puts_none : attribute_of n x texts ≡ [] → child_of n x ≡ [] → is_given x ≡ false → ((opt : Bool) → meant_as t x texts opt ≡ without opt) → Puts t n x texts
  puts_value : (v : Bytes) (m : Result) → attribute_of n x texts ≡ attribute n v → child_of n x ≡ [] → is_given x ≡ true → ((opt : Bool) → meant_as t x texts opt ≡ m) → Worth t v m → Puts t n x texts
  puts_child : (f : Features) → attribute_of n x texts ≡ [] → child_of n x ≡ features_child n f → is_given x ≡ false → is_child t ≡ true
      → ((opt : Bool) → meant_as t x texts opt ≡ present (noted f.forecast f.query f.send)) → Puts t n x texts

pub puts : (t : Form) (n : Bytes) (x : Field) (texts : Bytes) (opt : Bool) → refusal_in (meant_as t x texts opt) ≡ 0 → Puts t n x texts
unfolding attribute_of child_of
puts t n none texts opt h = absurd (omega arith)
puts t n (a_words None) texts opt h = puts_none refl refl refl (λ o. refl)
puts t n (a_words (Some p)) texts opt h = puts_value (text_at texts p) (text_meant t texts p) refl refl refl (λ o. refl) (text_worth t texts p h)
puts t n (a_whole None) texts opt h = puts_none refl refl refl (λ o. refl)
puts t n (a_whole (Some k)) texts opt h = puts_value (print_int k) (whole_meant t k) refl refl refl (λ o. refl) (whole_worth t k h)
puts t n (a_measure None) texts opt h = puts_none refl refl refl (λ o. refl)
puts t n (a_measure (Some d)) texts opt h = puts_value (print_decimal d.millionths d.decimals) (measure_meant t d.millionths d.decimals) refl refl refl (λ o. refl) (measure_worth t d.millionths d.decimals h)
puts t n (a_guid None) texts opt h = puts_none refl refl refl (λ o. refl)
puts t n (a_guid (Some v)) texts opt h = puts_value v (id_meant t v) refl refl refl (λ o. refl) (id_worth t v h)
puts t n (a_features None) texts opt h = puts_none refl refl refl (λ o. refl)
puts t n (a_features (Some f)) texts opt h = let (k, e) = features_worth t f h in puts_child f refl refl refl k (λ o. e)

-- a need that is looked at, with or without leave to be missing, or not
pub data Looks (n : Need) : Type 0 where
  looks : (opt : Bool) → ((f : Bool → Result) → by_need n f ≡ f opt) → ((x : Field) → written_need n x ≡ x) → Looks n
  skips : ((f : Bool → Result) → by_need n f ≡ absent) → ((x : Field) → written_need n x ≡ none) → Looks n

pub look : (n : Need) → Looks n
look required = looks false (λ f. refl) (λ x. refl)
look optional = looks true (λ f. refl) (λ x. refl)
look (required_with m) = skips (λ f. refl) (λ x. refl)
look ignored = skips (λ f. refl) (λ x. refl)
