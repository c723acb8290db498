-- A value walked from its front, a character as read at a time.
use Rattle.std.specs.Prelude.{◌≡◌, refl, List, [], ◌∷◌, ◌++◌, ℕ, ◌+◌, ◌≤◌, ◌<◌, length, drop}
use Rattle.std.proofs.Common.{sym, ap, ◌∙◌, append_assoc, append-nil, arith, length-append, drop_of_length-le}
use Rattle.grammar.specs.Bytes.{Bytes}
use Rattle.grammar.specs.Character.{utf8}
use Rattle.grammar.specs.Value.{Item, spell_item, spell_value, GoodValue, good_last, good_item, read_value}
use Rattle.value.specs.Loose.{BRACKET, Loose}

-- from `at` to e stand items that read as the character c, whatever items follow; and every way to read what stands at `at` starts so
pub record Taken (src : Bytes) (at c e : ℕ) : Type 0 where
  pub items : List Item
  pub good : GoodValue BRACKET items
  pub from : at < e
  pub upto : e ≤ length src
  pub code_point_holds : c ≤ 0x10FFFF
  pub no_longer : at + length (utf8 c) ≤ e
  pub spelt : drop at src ≡ spell_value items ++ drop e src
  pub reads : (l : List Item) → Loose (drop e src) l → read_value (items ++ l) ≡ utf8 c ++ read_value l
  pub only : (l : List Item) → Loose (drop at src) l → (k : List Item) × (l ≡ items ++ k) × Loose (drop e src) k

-- the bytes up to i are items that read as v, whatever items follow; and every way to read the whole starts so
pub record Walked (src : Bytes) (i : ℕ) (v : Bytes) : Type 0 where
  pub items : List Item
  pub good : GoodValue BRACKET items
  pub upto : i ≤ length src
  pub no_longer : length v ≤ i
  pub spelt : src ≡ spell_value items ++ drop i src
  pub reads : (l : List Item) → Loose (drop i src) l → read_value (items ++ l) ≡ v ++ read_value l
  pub only : (l : List Item) → Loose src l → (k : List Item) × (l ≡ items ++ k) × Loose (drop i src) k

pub spell_append : (k l : List Item) → spell_value (k ++ l) ≡ spell_value k ++ spell_value l
spell_append [] l = refl
spell_append (i ∷ k) l = ap (λ (y : Bytes). spell_item i ++ y) (spell_append k l) ∙ sym (append_assoc (spell_item i) (spell_value k) (spell_value l))

good_append : {q : ℕ} {k l : List Item} → GoodValue q k → GoodValue q l → GoodValue q (k ++ l)
good_append good_last h = h
good_append (good_item g r) h = good_item g (good_append r h)

pub walked_start : (src : Bytes) → Walked src 0 []
walked_start src = record { items = []; good = good_last; upto = omega arith; no_longer = omega arith; spelt = refl; reads = λ l x. refl; only = λ l x. (l, refl, x) }

pub walked_step : {src : Bytes} {i c e : ℕ} {v : Bytes} → Walked src i v → Taken src i c e → Walked src e (v ++ utf8 c)
walked_step {src} {i} {c} {e} {v} w t = record {
  items = w.items ++ t.items;
  good = good_append w.good t.good;
  upto = t.upto;
  no_longer = let x = w.no_longer in let y = t.no_longer in omega (arith, length-append v (utf8 c));
  spelt = w.spelt ∙ ap (λ (y : Bytes). spell_value w.items ++ y) t.spelt ∙ sym (append_assoc (spell_value w.items) (spell_value t.items) (drop e src)) ∙ ap (λ (y : Bytes). y ++ drop e src) (sym (spell_append w.items t.items));
  reads = λ l x. ap read_value (append_assoc w.items t.items l) ∙ w.reads (t.items ++ l) (after l x) ∙ ap (λ (y : Bytes). v ++ y) (t.reads l x) ∙ sym (append_assoc v (utf8 c) (read_value l));
  only = λ l x. two (w.only l x);
}
  where
    after : (l : List Item) → Loose (drop e src) l → Loose (drop i src) (t.items ++ l)
    after l x = record { good = good_append t.good x.good; spelt = t.spelt ∙ ap (λ (y : Bytes). spell_value t.items ++ y) x.spelt ∙ sym (spell_append t.items l) }

    two : {l : List Item} → (k : List Item) × (l ≡ w.items ++ k) × Loose (drop i src) k → (k : List Item) × (l ≡ (w.items ++ t.items) ++ k) × Loose (drop e src) k
    two (k, a, y) =
        let (m, b, z) = t.only k y in
        (m, a ∙ ap (λ (x : List Item). w.items ++ x) b ∙ sym (append_assoc w.items t.items m), z)

-- at the end the whole is read
pub walked_end : {src : Bytes} {i : ℕ} {v : Bytes} → Walked src i v → length src ≤ i → (l : List Item) × Loose src l × (read_value l ≡ v)
unfolding read_value
walked_end {src} {i} {v} w h =
    let e : drop i src ≡ [] = drop_of_length-le src h in
    let n : Loose (drop i src) [] = record { good = good_last; spelt = e } in
    (w.items, record { good = w.good; spelt = w.spelt ∙ ap (λ (y : Bytes). spell_value w.items ++ y) e ∙ append-nil (spell_value w.items) }, ap read_value (sym (append-nil w.items)) ∙ w.reads [] n ∙ append-nil v)

-- where what is left can't be read, the whole can't
pub walked_fail : {src : Bytes} {i : ℕ} {v : Bytes} → Walked src i v → ((l : List Item) → Loose (drop i src) l → ⊥) → (l : List Item) → Loose src l → ⊥
walked_fail w f l x = let (k, e, y) = w.only l x in f k y
