-- Attributes of a tag, one by one, and the one of a name.
use Rattle.std.specs.Prelude.{Option, Some, None}
use Rattle.value.specs.declared.text.Span.{Span}
use mathlib.Core.Path.{◌≡◌, refl, sym, ap, subst, ◌∙◌}
use mathlib.Core.List.{List, [], ◌∷◌, ◌++◌}
use mathlib.Core.Bool.{Bool, true, false, ◌||◌, not, cond}
use Prim.Native.Nat.{ℕ, zero, suc, ◌+◌, ◌-◌, ◌*◌, ◌≤◌, ◌<◌}
use native.Mathlib.Omega.{arith}
use native.Mathlib.Nat.{add-zero}
use lib.ListN.{length, take, drop, get_or}
use Rattle.exact.specs.Chain.{clash}
use Rattle.std.proofs.Math.Logic.{∥∥₁_elim}
use Rattle.std.proofs.Math.Bridge.{le_prop}
use Rattle.grammar.specs.Bytes.{Bytes, same, among}
use Rattle.grammar.specs.Value.{spell_value}
use Rattle.grammar.specs.Attribute.{Attribute, spell_attributes, GoodEach, good_each, fresh}
use borrow.Author.Tests.{not-true}
use Rattle.model.specs.Tests.{and_left, and_right, same_true}
use Rattle.grammar.specs.Places.{name_at, name_end, value_at, value_end}
use Rattle.tags.specs.Places.{places}
use Rattle.model.specs.Standing.{AttributeAt, attribute_stands}
use Rattle.message.specs.Checked.{place_of}
use Rattle.message.proofs.PlaceLaws.{attribute_in}
use Rattle.reads.specs.Held.{Held, Called, Lies, place}

-- from row i on the table holds the attributes that are left, which stand from `at` on, counted from `base`
pub record Left (s : Bytes) (base : ℕ) (table : List ℕ) (count i : ℕ) (name : Bytes) (whole : Option Span) : Type 0 where
  pub at : ℕ
  pub attributes : List Attribute
  pub after : Bytes
  pub rest : List ℕ
  pub good : GoodEach attributes
  pub stand : drop (base + at) s ≡ spell_attributes attributes ++ after
  pub rows : drop (4 * i) table ≡ places at attributes ++ rest
  pub counts : count ≡ i + length attributes
  pub same_place : whole ≡ place_of (base + at) attributes name

pub left_all : {s : Bytes} {base : ℕ} {table : List ℕ} {count : ℕ} (h : Held s base table count) (name : Bytes) → Left s base table count 0 name (place h name)
left_all {s} {base} h name = record {
  at = 0;
  attributes = h.attributes;
  after = h.after;
  rest = h.rest;
  good = h.good;
  stand = ap (λ (n : ℕ). drop n s) (add-zero base) ∙ h.stand;
  rows = h.rows;
  counts = let z = h.counts in omega arith;
  same_place = ap (λ (n : ℕ). place_of n h.attributes name) (sym (add-zero base));
}

-- the row i, with its four places: what stands there, and what is left
pub record RowAt (s : Bytes) (base : ℕ) (table : List ℕ) (count i : ℕ) (name : Bytes) (whole : Option Span) (from to start end : ℕ) : Type 0 where
  pub long : 4 * i + 3 < length table
  pub name_order : from ≤ to
  pub name_in_lem : to ≤ length s
  pub value_order : start ≤ end
  pub value_in_holds : end ≤ length s
  pub hit : same name (take (to - from) (drop from s)) ≡ true → whole ≡ Some (record { start = start; len = end - start })
  pub miss : same name (take (to - from) (drop from s)) ≡ false → Left s base table count (i + 1) name whole

pub first_of : (t : List ℕ) (n x : ℕ) (l : List ℕ) → drop n t ≡ x ∷ l → (n < length t) × (get_or t n 0 ≡ x) × (drop (n + 1) t ≡ l)
first_of [] zero x l e = absurd (let z : ◌≡◌ {A = ℕ} 0 1 = cc in omega arith)
first_of [] (suc n) x l e = absurd (let z : ◌≡◌ {A = ℕ} 0 1 = cc in omega arith)
first_of (y ∷ t) zero x l e = (omega arith, cc, cc)
first_of (y ∷ t) (suc n) x l e = let (a, b, c) = first_of t n x l e in let q : suc (n + 1) ≡ suc n + 1 = omega arith in (omega arith, b, subst (λ (m : ℕ). drop m (y ∷ t) ≡ l) q c)

-- four numbers that stand one after the other
record Four (t : List ℕ) (n a b c d : ℕ) (l : List ℕ) : Type 0 where
  pub long : n + 3 < length t
  pub one : get_or t n 0 ≡ a
  pub two : get_or t (n + 1) 0 ≡ b
  pub three : get_or t (n + 2) 0 ≡ c
  pub four : get_or t (n + 3) 0 ≡ d
  pub rest : drop (n + 4) t ≡ l

four_of : (t : List ℕ) (n a b c d : ℕ) (l : List ℕ) → drop n t ≡ a ∷ b ∷ c ∷ d ∷ l → Four t n a b c d l
four_of t n a b c d l e =
    let (x₁, y₁, z₁) = first_of t n a (b ∷ c ∷ d ∷ l) e in
    let (x₂, y₂, z₂) = first_of t (n + 1) b (c ∷ d ∷ l) z₁ in
    let (x₃, y₃, z₃) = first_of t (n + 2) c (d ∷ l) (at_next 1 z₂) in
    let (x₄, y₄, z₄) = first_of t (n + 3) d l (at_next 2 z₃) in
    record { long = x₄; one = y₁; two = y₂; three = y₃; four = y₄; rest = at_next 3 z₄ }
  where
    at_next : (k : ℕ) {l : List ℕ} → drop (n + k + 1) t ≡ l → drop (n + (k + 1)) t ≡ l
    at_next k {l} e = let q : n + k + 1 ≡ n + (k + 1) = omega arith in subst (λ (m : ℕ). drop m t ≡ l) q e

module _ (s : Bytes) (base : ℕ) (table : List ℕ) (count i : ℕ) (name : Bytes) (whole : Option Span) (rel at : ℕ) (a : Attribute) (l : List Attribute) (after : Bytes) (rest : List ℕ)
    (good : GoodEach l)
    (stand : drop at s ≡ spell_attributes (a ∷ l) ++ after)
    (rows : drop (4 * i) table ≡ places rel (a ∷ l) ++ rest)
    (counts : count ≡ i + suc (length l))
    (same_place : whole ≡ place_of at (a ∷ l) name)
    (there : at ≡ base + rel) where
  stands : AttributeAt s at a (spell_attributes l ++ after)
  stands = attribute_stands s at a l after stand

  table_row : Four table (4 * i) (name_at rel a) (name_end rel a) (value_at rel a) (value_end rel a) (places (value_end rel a + 1) l ++ rest)
  unfolding places
  table_row = four_of table (4 * i) (name_at rel a) (name_end rel a) (value_at rel a) (value_end rel a) (places (value_end rel a + 1) l ++ rest) rows

  placed : (z : Bool) → same name (take (name_end at a - name_at at a) (drop (name_at at a) s)) ≡ z → whole ≡ cond z (Some (record { start = value_at at a; len = length (spell_value a.value) })) (place_of (value_end at a + 1) l name)
  unfolding place_of
  placed z e =
      let f : same name a.name ≡ z = ap (λ (n : Bytes). same name n) (sym stands.name) ∙ e in
      same_place ∙ ap (λ (z : Bool). cond z (Some (record { start = value_at at a; len = length (spell_value a.value) })) (place_of (value_end at a + 1) l name)) f

  next : base + (value_end rel a + 1) ≡ value_end at a + 1
  next = omega arith

  -- what is left behind it
  stands_next : drop (base + (value_end rel a + 1)) s ≡ spell_attributes l ++ after
  stands_next = ap (λ (n : ℕ). drop n s) next ∙ stands.next

  rows_next : drop (4 * (i + 1)) table ≡ places (value_end rel a + 1) l ++ rest
  rows_next = let q : 4 * i + 4 ≡ 4 * (i + 1) = omega arith in subst (λ (n : ℕ). drop n table ≡ places (value_end rel a + 1) l ++ rest) q table_row.rest

  this_row : RowAt s base table count i name whole (name_at at a) (name_end at a) (value_at at a) (value_end at a)
  this_row = record {
    long = table_row.long;
    name_order = omega arith;
    name_in_lem = let z = attribute_in s at a l after stand in omega arith;
    value_order = omega arith;
    value_in_holds = let z = attribute_in s at a l after stand in omega arith;
    hit = λ e. let q : length (spell_value a.value) ≡ value_end at a - value_at at a = omega arith in placed true e ∙ ap (λ (n : ℕ). Some (record { start = value_at at a; len = n })) q;
    miss = λ e. record {
      at = value_end rel a + 1;
      attributes = l;
      after = after;
      rest = rest;
      good = good;
      stand = stands_next;
      rows = rows_next;
      counts = omega arith;
      same_place = placed false e ∙ ap (λ (n : ℕ). place_of n l name) (sym next);
    };
  }

  by_table : RowAt s base table count i name whole (base + get_or table (4 * i) 0) (base + get_or table (4 * i + 1) 0) (base + get_or table (4 * i + 2) 0) (base + get_or table (4 * i + 3) 0)
  by_table =
      let p₁ : name_at at a ≡ base + get_or table (4 * i) 0 = omega (arith, table_row.one) in
      let p₂ : name_end at a ≡ base + get_or table (4 * i + 1) 0 = omega (arith, table_row.two) in
      let p₃ : value_at at a ≡ base + get_or table (4 * i + 2) 0 = omega (arith, table_row.three) in
      let p₄ : value_end at a ≡ base + get_or table (4 * i + 3) 0 = omega (arith, table_row.four) in
      subst (λ (x : ℕ). RowAt s base table count i name whole x (base + get_or table (4 * i + 1) 0) (base + get_or table (4 * i + 2) 0) (base + get_or table (4 * i + 3) 0)) p₁
      (subst (λ (x : ℕ). RowAt s base table count i name whole (name_at at a) x (base + get_or table (4 * i + 2) 0) (base + get_or table (4 * i + 3) 0)) p₂
      (subst (λ (x : ℕ). RowAt s base table count i name whole (name_at at a) (name_end at a) x (base + get_or table (4 * i + 3) 0)) p₃
      (subst (λ (x : ℕ). RowAt s base table count i name whole (name_at at a) (name_end at a) (value_at at a) x) p₄ this_row)))

  -- its name, by the table
  called : take (base + get_or table (4 * i + 1) 0 - (base + get_or table (4 * i) 0)) (drop (base + get_or table (4 * i) 0) s) ≡ a.name
  called =
      let p₁ : name_at at a ≡ base + get_or table (4 * i) 0 = omega (arith, table_row.one) in
      let p₂ : name_end at a ≡ base + get_or table (4 * i + 1) 0 = omega (arith, table_row.two) in
      ap (λ (n : ℕ). take (n - (base + get_or table (4 * i) 0)) (drop (base + get_or table (4 * i) 0) s)) (sym p₂) ∙ ap (λ (n : ℕ). take (name_end at a - n) (drop n s)) (sym p₁) ∙ stands.name

each_but : {a : Attribute} {l : List Attribute} → GoodEach (a ∷ l) → GoodEach l
each_but (good_each g r) = r

pub row_at : {s : Bytes} {base : ℕ} {table : List ℕ} {count i : ℕ} {name : Bytes} {whole : Option Span} → Left s base table count i name whole → i < count
    → RowAt s base table count i name whole (base + get_or table (4 * i) 0) (base + get_or table (4 * i + 1) 0) (base + get_or table (4 * i + 2) 0) (base + get_or table (4 * i + 3) 0)
row_at {s} {base} {table} {count} {i} {name} {whole} f k = go f.attributes f.good f.stand f.rows f.counts f.same_place
  where
    go : (l : List Attribute) → GoodEach l → drop (base + f.at) s ≡ spell_attributes l ++ f.after → drop (4 * i) table ≡ places f.at l ++ f.rest → count ≡ i + length l → whole ≡ place_of (base + f.at) l name
        → RowAt s base table count i name whole (base + get_or table (4 * i) 0) (base + get_or table (4 * i + 1) 0) (base + get_or table (4 * i + 2) 0) (base + get_or table (4 * i + 3) 0)
    go [] g a b c d = absurd (omega arith)
    go (x ∷ l) g a b c d = by_table s base table count i name whole f.at (base + f.at) x l f.after f.rest (each_but g) a b c d refl

-- behind the last row there is none of the name
pub none_left : {s : Bytes} {base : ℕ} {table : List ℕ} {count i : ℕ} {name : Bytes} {whole : Option Span} → Left s base table count i name whole → count ≤ i → None ≡ whole
unfolding place_of
none_left {base = base} {count = count} {i = i} {name = name} {whole = whole} f k = go f.attributes f.counts f.same_place
  where
    go : (l : List Attribute) → count ≡ i + length l → whole ≡ place_of (base + f.at) l name → None ≡ whole
    go [] c d = sym d
    go (x ∷ l) c d = absurd (omega arith)

-- a step of the search
module _ {s : Bytes} {base : ℕ} {table : List ℕ} {count i : ℕ} {name : Bytes} {whole : Option Span} {r : Bool} (f : Left s base table count i name whole) (h : i < count) (e : Called s base table i name r) where
  pub search_hit : {w : Option Span} → r ≡ true → Lies base table i w → w ≡ whole
  search_hit t q = q ∙ sym ((row_at f h).hit (sym e ∙ t))

  pub search_miss : r ≡ false → Left s base table count (i + 1) name whole
  search_miss t = (row_at f h).miss (sym e ∙ t)

-- what the table says of the attribute k stands in the bytes
pub record PlacedAt (s : Bytes) (base : ℕ) (table : List ℕ) (k : ℕ) : Type 0 where
  pub long : 4 * k + 3 < length table
  pub name_order : base + get_or table (4 * k) 0 ≤ base + get_or table (4 * k + 1) 0
  pub name_in_lem : base + get_or table (4 * k + 1) 0 ≤ length s
  pub value_order : base + get_or table (4 * k + 2) 0 ≤ base + get_or table (4 * k + 3) 0
  pub value_in_holds : base + get_or table (4 * k + 3) 0 ≤ length s

module _ (s : Bytes) (base : ℕ) (table : List ℕ) where
  placed_from : (i j rel : ℕ) (l : List Attribute) (after : Bytes) (rest : List ℕ) → GoodEach l → drop (base + rel) s ≡ spell_attributes l ++ after → drop (4 * j) table ≡ places rel l ++ rest → i < length l → PlacedAt s base table (j + i)
  placed_from i j rel [] after rest g a b h = absurd (omega arith)
  placed_from zero j rel (x ∷ l) after rest g a b h =
      let r = by_table s base table (j + suc (length l)) j [] (place_of (base + rel) (x ∷ l) []) rel (base + rel) x l after rest (each_but g) a b refl refl refl in
      subst (PlacedAt s base table) (sym (add-zero j)) (record { long = r.long; name_order = r.name_order; name_in_lem = r.name_in_lem; value_order = r.value_order; value_in_holds = r.value_in_holds })
  placed_from (suc i) j rel (x ∷ l) after rest g a b h =
      let n : j + 1 + i ≡ j + suc i = omega arith in
      subst (PlacedAt s base table) n (placed_from i (j + 1) (value_end rel x + 1) l after rest (each_but g) (stands_next s base table (j + suc (length l)) j [] (place_of (base + rel) (x ∷ l) []) rel (base + rel) x l after rest (each_but g) a b refl refl refl) (rows_next s base table (j + suc (length l)) j [] (place_of (base + rel) (x ∷ l) []) rel (base + rel) x l after rest (each_but g) a b refl refl refl) (omega arith))

pub placed_at : {s : Bytes} {base : ℕ} {table : List ℕ} {count i : ℕ} → Held s base table count → i < count → PlacedAt s base table i
placed_at {s} {base} {table} {count} {i} h lt = let z : 0 + i ≡ i = omega arith in subst (PlacedAt s base table) z (placed_from s base table i 0 0 h.attributes h.after h.rest h.good (ap (λ (n : ℕ). drop n s) (add-zero base) ∙ h.stand) h.rows (let c = h.counts in omega arith))

-- so where the attributes are only known to stand there
module _ {s : Bytes} {base : ℕ} {table : List ℕ} {count i : ℕ} (t : ∥ Held s base table count ∥₁) (lt : i < count) where
  pub long_enough : 4 * i + 3 < length table
  long_enough = ∥∥₁_elim t le_prop (λ h. (placed_at h lt).long)

  pub named_in : base + get_or table (4 * i) 0 ≤ base + get_or table (4 * i + 1) 0
  named_in = ∥∥₁_elim t le_prop (λ h. (placed_at h lt).name_order)

  pub ends_in : base + get_or table (4 * i + 1) 0 ≤ length s
  ends_in = ∥∥₁_elim t le_prop (λ h. (placed_at h lt).name_in_lem)

  pub value_order : base + get_or table (4 * i + 2) 0 ≤ base + get_or table (4 * i + 3) 0
  value_order = ∥∥₁_elim t le_prop (λ h. (placed_at h lt).value_order)

  pub value_in : base + get_or table (4 * i + 3) 0 ≤ length s
  value_in = ∥∥₁_elim t le_prop (λ h. (placed_at h lt).value_in_holds)

none_of : (a b : Bool) → a || b ≡ false → (a ≡ false) × (b ≡ false)
none_of true b e = clash e
none_of false b e = (refl, e)

-- names that are not the same one way are not the same the other way
other_way : (x y : Bytes) → same x y ≡ false → same y x ≡ false
other_way x y e = go (same y x) refl
  where
    go : (z : Bool) → same y x ≡ z → same y x ≡ false
    go true f = let q : x ≡ y = same_true y x f in clash (sym f ∙ ap (λ (n : Bytes). same n x) (sym q) ∙ ap (λ (n : Bytes). same x n) q ∙ e)
    go false f = f

-- no name stands twice: where the attribute i of those that are left has the name, its value is that of the name, and none of the earlier has the name
module _ (s : Bytes) (base : ℕ) (table : List ℕ) (name : Bytes) where
  abbrev Told : ℕ → Option Span → Type 0
  Told k w = w ≡ Some (record { start = base + get_or table (4 * k + 2) 0; len = base + get_or table (4 * k + 3) 0 - (base + get_or table (4 * k + 2) 0) })

  abbrev Hits : ℕ → Type 0
  Hits k = same name (take (base + get_or table (4 * k + 1) 0 - (base + get_or table (4 * k) 0)) (drop (base + get_or table (4 * k) 0) s)) ≡ true

  guess_at : (i j rel : ℕ) (l : List Attribute) (after : Bytes) (rest : List ℕ) (earlier : List Bytes) → GoodEach l → fresh earlier l ≡ true → drop (base + rel) s ≡ spell_attributes l ++ after → drop (4 * j) table ≡ places rel l ++ rest → i < length l → Hits (j + i)
      → Told (j + i) (place_of (base + rel) l name) × (among earlier name ≡ false)
  unfolding place_of
  guess_at i j rel [] after rest earlier g f a b h k = absurd (omega arith)
  guess_at zero j rel (x ∷ l) after rest earlier g f a b h k = (subst (λ (n : ℕ). Told n (place_of (base + rel) (x ∷ l) name)) (sym (add-zero j)) (row.hit hit), ap (among earlier) is ∙ not-true (among earlier x.name) (and_left (not (among earlier x.name)) (fresh (x.name ∷ earlier) l) f))
    where
      hit : Hits j
      hit = subst Hits (add-zero j) k

      row : RowAt s base table (j + suc (length l)) j name (place_of (base + rel) (x ∷ l) name) (base + get_or table (4 * j) 0) (base + get_or table (4 * j + 1) 0) (base + get_or table (4 * j + 2) 0) (base + get_or table (4 * j + 3) 0)
      row = by_table s base table (j + suc (length l)) j name (place_of (base + rel) (x ∷ l) name) rel (base + rel) x l after rest (each_but g) a b refl refl refl

      is : name ≡ x.name
      is = sym (same_true name x.name (ap (same name) (sym (called s base table (j + suc (length l)) j name (place_of (base + rel) (x ∷ l) name) rel (base + rel) x l after rest (each_but g) a b refl refl refl)) ∙ hit))
  guess_at (suc i) j rel (x ∷ l) after rest earlier g f a b h k =
      let n : j + suc i ≡ j + 1 + i = omega arith in
      let (p, q) = guess_at i (j + 1) (value_end rel x + 1) l after rest (x.name ∷ earlier) (each_but g) (and_right (not (among earlier x.name)) (fresh (x.name ∷ earlier) l) f) (stands_next s base table (j + suc (length l)) j name (place_of (base + rel) (x ∷ l) name) rel (base + rel) x l after rest (each_but g) a b refl refl refl) (rows_next s base table (j + suc (length l)) j name (place_of (base + rel) (x ∷ l) name) rel (base + rel) x l after rest (each_but g) a b refl refl refl) (omega arith) (subst Hits n k) in
      let (y, z) = none_of (same x.name name) (among earlier name) q in
      let e : base + (value_end rel x + 1) ≡ value_end (base + rel) x + 1 = omega arith in
      (ap (λ (b : Bool). cond b (Some (record { start = value_at (base + rel) x; len = length (spell_value x.value) })) (place_of (value_end (base + rel) x + 1) l name)) (other_way x.name name y) ∙ ap (λ (n : ℕ). place_of n l name) (sym e) ∙ subst (λ (m : ℕ). Told m (place_of (base + (value_end rel x + 1)) l name)) (sym n) p, z)

  pub guessed : {count i : ℕ} {r : Bool} {w : Option Span} (h : Held s base table count) → i < count → Called s base table i name r → r ≡ true → Lies base table i w → w ≡ place h name
  guessed {count} {i} h lt e t q =
      let z : i ≡ 0 + i = omega arith in
      let z' : 0 + i ≡ i = omega arith in
      q ∙ sym (subst (λ (k : ℕ). Told k (place_of (base + 0) h.attributes name)) z' (guess_at i 0 0 h.attributes h.after h.rest [] h.good h.fresh_names (ap (λ (n : ℕ). drop n s) (add-zero base) ∙ h.stand) h.rows (let c = h.counts in omega arith) (subst Hits z (sym e ∙ t))).0) ∙ ap (λ (n : ℕ). place_of n h.attributes name) (add-zero base)
