-- Values whose quotes are not known: items up to a `<`, in which both quotes may stand.
use Rattle.std.specs.Prelude.{◌≡◌, refl, List, [], ◌∷◌, ◌⊎◌, Bool, true, false, ◌||◌, ℕ, ◌<◌, eqb}
use Rattle.std.proofs.Common.{sym, ap, subst, ◌∙◌, inl, inr, arith, ne_eqb}
use Prim.Native.Char.{code}
use Rattle.model.specs.Characters.{IsRaw, plain_byte}
use Rattle.model.proofs.Characters.{char_exact, raw_starts}
use Rattle.model.specs.References.{IsRef}
use Rattle.model.proofs.References.{ref_exact}
use Rattle.model.specs.Values.{item_p, IsItem}
use Rattle.model.proofs.Values.{quote_is, amp_first}
use Rattle.exact.specs.Exact.{done, Exact, exact_like}
use Rattle.exact.specs.Chain.{Map, mapped, map_exact, clash}
use Rattle.exact.specs.Byte.{On, on, on_exact, eqb-true, Alt, left, right, on_starts, map_starts, choice_exact}
use Rattle.grammar.specs.Bytes.{Bytes, within}
use Rattle.grammar.specs.Character.{is_char}
use Rattle.grammar.specs.Value.{Item, raw, ref, spell_item, spell_value, is_quote, banned, GoodItem, good_raw, good_ref, GoodValue, good_last, good_item, read_value}
use Rattle.value.specs.Text.{Text}
use Rattle.value.specs.Quotes.{lacks}
use Rattle.value.proofs.Quotes.{lacks_value, requote}
use Rattle.value.specs.Loose.{BRACKET, Loose}

bracket_ascii : (c : ℕ) → 127 < c → banned BRACKET c ≡ false
unfolding banned
bracket_ascii c h = rw (ne_eqb (code "<") c (λ z. omega arith), ne_eqb (code "&") c (λ z. omega arith))

pub item_exact : Exact (IsItem BRACKET) (item_p BRACKET)
unfolding item_p plain_byte banned is_char within
item_exact =
    exact_like to from
    (choice_exact (on_starts (λ b h. h)) (map_starts (raw_starts (banned BRACKET) bracket_ascii (code "&") (omega arith) refl))
    (on_exact (code "&") refl (λ b h. map_exact ref ref_exact)) (map_exact raw (char_exact (banned BRACKET) bracket_ascii (code "A") refl)))
  where
    to : (w : Bytes) (i : Item) → Alt (On (eqb (code "&")) (λ b. Map ref IsRef)) (Map raw (IsRaw (banned BRACKET))) w i → IsItem BRACKET w i
    to w i (left (on b w' e h (mapped r l k))) = rw k (record { good = good_ref l.good; spelt = e ∙ rw (eqb-true (code "&") b h) l.spelt })
    to w i (right (mapped c l k)) = rw k (record { good = good_raw l.char l.free; spelt = l.spelt })

    go : {i : Item} → GoodItem BRACKET i → (w : Bytes) → w ≡ spell_item i → Alt (On (eqb (code "&")) (λ b. Map ref IsRef)) (Map raw (IsRaw (banned BRACKET))) w i
    go (good_raw {c} a b) w e = right (mapped c (record { char = a; free = b; spelt = e }) refl)
    go (good_ref {r} g) w e = let z = amp_first r in left (on (code "&") z.0 (e ∙ z.1) refl (mapped r (record { good = g; spelt = sym z.1 }) refl))

    from : (w : Bytes) (i : Item) → IsItem BRACKET w i → Alt (On (eqb (code "&")) (λ b. Map ref IsRef)) (Map raw (IsRaw (banned BRACKET))) w i
    from w i l = go l.good w l.spelt

-- what is good in quotes is good without
loosen_item : {q : ℕ} {i : Item} → GoodItem q i → GoodItem BRACKET i
unfolding banned
loosen_item {q} (good_raw {c} h k) = good_raw h (go (eqb (code "<") c) (eqb (code "&") c) (eqb q c) k)
  where
    go : (x y z : Bool) → x || (y || z) ≡ false → x || (y || x) ≡ false
    go true y z e = clash e
    go false true z e = clash e
    go false false z e = refl
loosen_item (good_ref g) = good_ref g

pub loosen : {q : ℕ} {l : List Item} → GoodValue q l → GoodValue BRACKET l
loosen good_last = good_last
loosen (good_item g r) = good_item (loosen_item g) (loosen r)

-- a text is items in which one of the quotes does not stand
pub text_loose : {w v : Bytes} → Text w v → (l : List Item) × Loose w l × (v ≡ read_value l) × ((lacks (code "\"") w ≡ true) ⊎ (lacks (code "'") w ≡ true))
text_loose {w} {v} x = (x.items, record { good = loosen x.good; spelt = x.spelt }, x.reads, go (quote_is x.quote x.quoted))
  where
    here : lacks x.quote w ≡ true
    here = subst (λ (y : Bytes). lacks x.quote y ≡ true) (sym x.spelt) (lacks_value x.quote (quote_is x.quote x.quoted) x.good)

    go : (x.quote ≡ 34) ⊎ (x.quote ≡ 39) → (lacks (code "\"") w ≡ true) ⊎ (lacks (code "'") w ≡ true)
    go (inl e) = inl (subst (λ (q : ℕ). lacks q w ≡ true) e here)
    go (inr e) = inr (subst (λ (q : ℕ). lacks q w ≡ true) e here)

pub loose_text : {w : Bytes} {l : List Item} → Loose w l → (lacks (code "\"") w ≡ true) ⊎ (lacks (code "'") w ≡ true) → Text w (read_value l)
unfolding is_quote
loose_text {w} {l} x (inl h) = record { quote = code "\""; quoted = refl; items = l; good = requote (omega arith) x.good (subst (λ (y : Bytes). lacks (code "\"") y ≡ true) x.spelt h); spelt = x.spelt; reads = refl }
loose_text {w} {l} x (inr h) = record { quote = code "'"; quoted = refl; items = l; good = requote (omega arith) x.good (subst (λ (y : Bytes). lacks (code "'") y ≡ true) x.spelt h); spelt = x.spelt; reads = refl }

-- items are read one by one
pub loose_first : {w : Bytes} {l : List Item} (b : ℕ) (r : Bytes) → Loose w l → w ≡ b ∷ r → (i : Item) × (k : List Item) × (l ≡ i ∷ k) × GoodItem BRACKET i × Loose (spell_value k) k × (item_p BRACKET w ≡ done i (spell_value k))
loose_first {w} {l} b r x e = go x.good x.spelt
  where
    go : {l : List Item} → GoodValue BRACKET l → w ≡ spell_value l → (i : Item) × (k : List Item) × (l ≡ i ∷ k) × GoodItem BRACKET i × Loose (spell_value k) k × (item_p BRACKET w ≡ done i (spell_value k))
    go good_last s = absurd (let z : ◌≡◌ {A = Bytes} (b ∷ r) [] = sym e ∙ s in let y : ◌≡◌ {A = ℕ} 0 1 = cc in omega arith)
    go (good_item {i} {l = k} g t) s = (i, k, refl, g, record { good = t; spelt = refl }, ap (item_p BRACKET) s ∙ item_exact.comp (spell_item i) i (spell_value k) (record { good = g; spelt = refl }))
