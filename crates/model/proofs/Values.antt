-- The reader of values, and that it is exact.
use Rattle.std.specs.Prelude.{◌≡◌, ◌⊎◌, Bool, true, false, ◌&&◌, ◌||◌, not, ℕ, ◌<◌, length, eqb, leb}
use Rattle.std.proofs.Math.Path.{refl}
use Rattle.std.proofs.Common.{sym, ap, subst, ◌∙◌, inl, inr, arith, ne_eqb}
use mathlib.Core.List.{List, [], ◌∷◌, ◌++◌, append_assoc}
use Prim.Native.Char.{code}
use Rattle.exact.specs.Exact.{Lang, Exact, exact_like}
use Rattle.exact.specs.Chain.{Ret, ret, ret_exact, bind_p, Map, mapped, map_exact}
use Rattle.exact.specs.Byte.{On, on, on_exact, eqb-true, eqb_same, Alt, left, right, Starts, starts, on_starts, map_starts, choice_exact}
use Rattle.exact.specs.Loop.{Turn, again, stop, Loop, last, next, onward, loop_p, loop_eq, loop_exact}
use Rattle.grammar.specs.Bytes.{Bytes, within}
use Rattle.grammar.specs.Character.{is_char, utf8}
use Rattle.grammar.specs.Reference.{Reference, named, decimal, hexadecimal, spell_reference}
use Rattle.grammar.specs.Value.{Item, raw, ref, spell_item, spell_value, is_quote, banned, GoodItem, good_raw, good_ref, GoodValue, good_last, good_item}
use Rattle.model.specs.Tests.{or_cases}
use Rattle.model.specs.Characters.{IsRaw, plain_byte}
use Rattle.model.proofs.Characters.{char_exact, raw_starts}
use Rattle.model.specs.References.{IsRef}
use Rattle.model.proofs.References.{ref_exact}
use Rattle.model.specs.Values.{item_p, IsItem, Stops, IsValue, Acc, turn_p, value_p}

abbrev ItemL : ℕ → Lang Item
ItemL q = Alt (On (eqb 38) (λ b. Map ref IsRef)) (Map raw (IsRaw (banned q)))

pub quote_is : (q : ℕ) → is_quote q ≡ true → (q ≡ 34) ⊎ (q ≡ 39)
unfolding is_quote
quote_is q h = go (or_cases _ _ h)
  where
    go : (eqb 34 q ≡ true) ⊎ (eqb 39 q ≡ true) → (q ≡ 34) ⊎ (q ≡ 39)
    go (inl k) = inl (eqb-true 34 q k)
    go (inr k) = inr (eqb-true 39 q k)

pub quote_stops : {q : ℕ} → (q ≡ 34) ⊎ (q ≡ 39) → Stops q
quote_stops (inl e) = record { small = omega arith; apart = λ k. omega arith }
quote_stops (inr e) = record { small = omega arith; apart = λ k. omega arith }

pub ban_ascii : (q : ℕ) → Stops q → (c : ℕ) → 127 < c → banned q c ≡ false
unfolding banned
ban_ascii q x c h = let y = x.small in rw (ne_eqb 60 c (λ z. omega arith), ne_eqb 38 c (λ z. omega arith)) (ne_eqb q c (λ z. omega arith))

pub plain_letter : (q : ℕ) → Stops q → plain_byte (banned q) 65 ≡ true
unfolding plain_byte banned is_char within
plain_letter q x = let y = x.small in rw (ne_eqb q 65 (λ z. omega arith))

plain_amp : (q : ℕ) → plain_byte (banned q) 38 ≡ false
unfolding plain_byte banned is_char within
plain_amp q = refl

pub plain_q : (q : ℕ) → plain_byte (banned q) q ≡ false
unfolding plain_byte banned
plain_q q = rw (eqb_same q) (none (leb q 127) (is_char q) (eqb 60 q) (eqb 38 q))
  where
    none : (a b c d : Bool) → a && (b && not (c || (d || true))) ≡ false
    none false b c d = refl
    none true false c d = refl
    none true true true d = refl
    none true true false true = refl
    none true true false false = refl

-- a reference starts with `&`
pub amp_first : (r : Reference) → (w : Bytes) × (spell_reference r ≡ code "&" ∷ w)
amp_first (named n) = (_, refl)
amp_first (decimal n) = (_, refl)
amp_first (hexadecimal n) = (_, refl)

module _ (q : ℕ) (stops : Stops q) where
  item_chain : Exact (ItemL q) (item_p q)
  unfolding item_p
  item_chain =
      choice_exact (on_starts (λ b h. h)) (map_starts (raw_starts (banned q) (ban_ascii q stops) 38 (omega arith) (plain_amp q)))
      (on_exact 38 refl (λ b h. map_exact ref ref_exact)) (map_exact raw (char_exact (banned q) (ban_ascii q stops) 65 (plain_letter q stops)))

  pub item_exact : Exact (IsItem q) (item_p q)
  item_exact = exact_like to from item_chain
    where
      to : (w : Bytes) (i : Item) → ItemL q w i → IsItem q w i
      to w i (left (on b w' e h (mapped r l k))) = rw k (record { good = good_ref l.good; spelt = e ∙ (rw (eqb-true 38 b h) l.spelt) })
      to w i (right (mapped c l k)) = rw k (record { good = good_raw l.char l.free; spelt = l.spelt })

      go : {i : Item} → GoodItem q i → (w : Bytes) → w ≡ spell_item i → ItemL q w i
      go (good_raw {c} a b) w e = right (mapped c (record { char = a; free = b; spelt = e }) refl)
      go (good_ref {r} g) w e = let z = amp_first r in left (on 38 z.0 (e ∙ z.1) refl (mapped r (record { good = g; spelt = sym z.1 }) refl))

      from : (w : Bytes) (i : Item) → IsItem q w i → ItemL q w i
      from w i l = go l.good w l.spelt

  pub item_starts : (w : Bytes) (i : Item) → IsItem q w i → Starts (eqb q) false w
  item_starts w i l = subst (λ (y : Bytes). Starts (eqb q) false y) (sym l.spelt) (go l.good)
    where
      go : {i : Item} → GoodItem q i → Starts (eqb q) false (spell_item i)
      go (good_raw {c} a b) = raw_starts (banned q) (ban_ascii q stops) q (let y = stops.small in omega arith) (plain_q q) (utf8 c) c (record { char = a; free = b; spelt = refl })
      go (good_ref {r} g) = let z = amp_first r in starts 38 z.0 z.1 (ne_eqb q 38 stops.apart)

abbrev TurnL : ℕ → Acc → Lang (Turn Acc (List Item))
TurnL q k = Alt (On (eqb q) (λ b. Ret (stop (k [])))) (Map (λ i. again (λ l. k (i ∷ l))) (IsItem q))

ending : (q : ℕ) (k : Acc) → Loop (TurnL q) k (q ∷ []) (k [])
ending q k = last (left (on q [] refl (eqb_same q) (ret refl refl)))

loop_good : (q : ℕ) (k : Acc) (w : Bytes) (v : List Item) → Loop (TurnL q) k w v → (l : List Item) × (v ≡ k l) × IsValue q w l
loop_good q k w v (last (left (on b w' e h (ret i s)))) = ([], (cc), record { good = good_last; spelt = e ∙ rw (eqb-true q b h, i) })
loop_good q k w v (last (right (mapped i l s))) = absurd (let z : ◌≡◌ {A = ℕ} 0 1 = cc in omega arith)
loop_good q k w v (next w₁ k' w₂ e (left (on b w' i h (ret j s))) t) = absurd (let z : ◌≡◌ {A = ℕ} 0 1 = cc in omega arith)
loop_good q k w v (next w₁ k' w₂ e (right (mapped i m s)) t) = step (loop_good q k' w₂ v t)
  where
    step : (l : List Item) × (v ≡ k' l) × IsValue q w₂ l → (l : List Item) × (v ≡ k l) × IsValue q w l
    step (l, y, z) =
        let g : k' ≡ (λ l. k (i ∷ l)) = cc in
        (i ∷ l, y ∙ ap (λ (f : Acc). f l) g, record { good = good_item m.good z.good; spelt = e ∙ rw (m.spelt, z.spelt, append_assoc) })

good_loop : {q : ℕ} (k : Acc) {l : List Item} → GoodValue q l → Loop (TurnL q) k (spell_value l ++ q ∷ []) (k l)
good_loop {q} k good_last = ending q k
good_loop {q} k (good_item {i} {l} g r) =
    next (spell_item i) (λ l. k (i ∷ l)) _ (append_assoc (spell_item i) (spell_value l) (q ∷ [])) (right (mapped i (record { good = g; spelt = refl }) refl)) (good_loop (λ l. k (i ∷ l)) r)

module _ (q : ℕ) (is_quote_holds : (q ≡ 34) ⊎ (q ≡ 39)) where
  turn_exact : (k : Acc) → Exact (TurnL q k) (turn_p q k)
  unfolding turn_p
  turn_exact k =
      choice_exact (on_starts (λ b h. h)) (map_starts (item_starts q (quote_stops is_quote_holds)))
      (on_exact q (eqb_same q) (λ b h. ret_exact (stop (k [])))) (map_exact (λ i. again (λ l. k (i ∷ l))) (item_exact q (quote_stops is_quote_holds)))

  reads : (k : Acc) (w : Bytes) (k' : Acc) → Unit {0} → TurnL q k w (again k') → 0 < length w
  reads k w k' u (left (on b w' e h l)) = rw e (omega arith)
  reads k w k' u (right (mapped i l s)) = go (item_starts q (quote_stops is_quote_holds) w i l)
    where
      go : Starts (eqb q) false w → 0 < length w
      go (starts b w' e h) = rw e (omega arith)

  pub value_exact : Exact (IsValue q) (value_p q)
  unfolding value_p
  value_exact = exact_like to from (loop_exact (λ k. Unit {0}) (λ k u. turn_exact k) (λ k w k' u l. tt) reads (λ k u. (q ∷ [], k [], ending q k)) (λ l. l) tt)
    where
      to : (w : Bytes) (v : List Item) → Loop (TurnL q) (λ l. l) w v → IsValue q w v
      to w v l = let z = loop_good q (λ l. l) w v l in rw z.1 z.2

      from : (w : Bytes) (v : List Item) → IsValue q w v → Loop (TurnL q) (λ l. l) w v
      from w v l = rw l.spelt (good_loop (λ l. l) l.good)

  -- the unfolding equation, for code
  pub value_eq : (k : Acc) (s : Bytes) → loop_p (turn_p q) k s ≡ bind_p (turn_p q k) (onward (loop_p (turn_p q))) s
  value_eq k s = loop_eq (λ k. Unit {0}) (λ k u. turn_exact k) (λ k w k' u l. tt) reads (λ k u. (q ∷ [], k [], ending q k)) k tt s
