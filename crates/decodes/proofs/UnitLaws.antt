-- One step of a walk, by the byte that stands there.
use mathlib.Core.Path.{◌≡◌, refl, sym, ap, ◌∙◌}
use mathlib.Core.List.{List, [], ◌∷◌, ◌++◌, append-nil}
use mathlib.Core.Bool.{Bool, true, false}
use Prim.Native.Nat.{ℕ, suc, ◌+◌, ◌-◌, ◌≤◌, ◌<◌}
use native.Mathlib.Omega.{arith}
use native.Mathlib.Numerals.{add-one}
use native.Mathlib.Decide.{ℕ_discrete}
use lib.ListN.{length, drop, get_or, length-drop, length-append, drop_of_length-le}
use lib.Dec.{eqb}
use lib.Seq.{drop-cons}
use borrow.Author.Tests.{ne_eqb}
use Rattle.model.specs.Characters.{char_p, plain_byte}
use Rattle.model.proofs.Characters.{char_max}
use Rattle.model.specs.Values.{item_p}
use Rattle.exact.specs.Exact.{Out, done, more, bad, sound, done≢more, done≢bad}
use Rattle.exact.specs.Byte.{eqb-true}
use Rattle.exact.specs.Chain.{clash}
use Rattle.grammar.specs.Bytes.{Bytes, within}
use Rattle.grammar.specs.Character.{is_char, utf8}
use Rattle.grammar.specs.Reference.{Named, amp, lt, gt, quot, apos, good_named, good_decimal, good_hexadecimal, read_named}
use Rattle.grammar.specs.Value.{Item, raw, ref, spell_item, spell_value, banned, GoodItem, good_raw, good_ref, good_last, good_item, feeds, read_item, read_value}
use Rattle.value.proofs.AsRead.{reference_longer, reads_itself}
use Rattle.value.proofs.Quotes.{Bytes8, ascii, beyond, bytes8}
use Rattle.value.specs.Loose.{BRACKET, Loose}
use Rattle.value.proofs.Loose.{item_exact, loose_first}
use Rattle.decodes.specs.Walk.{Taken}
use Rattle.decodes.specs.Units.{UnitSays}
use Rattle.pieces.specs.Parts.{code_point}
use Rattle.std.specs.Prelude.{Option, Ok, Err}
use Rattle.std.specs.Result.{result_ok}
use Rattle.scan.specs.declared.Stop.TheVariants.{Open, Bad}
use Rattle.pieces.specs.Says.{Piece, Says}
use Rattle.pieces.specs.declared.Character.{Character}

item_char : {q : ℕ} {i : Item} → GoodItem q i → code_point i ≤ 0x10FFFF
item_char (good_raw {c} h k) = char_max c h
item_char (good_ref (good_named {n})) = go n
  where
    go : (n : Named) → read_named n ≤ 0x10FFFF
    go amp = omega arith
    go lt = omega arith
    go gt = omega arith
    go quot = omega arith
    go apos = omega arith
item_char (good_ref (good_decimal d)) = char_max _ d.names
item_char (good_ref (good_hexadecimal d)) = char_max _ d.names

item_longer : {q : ℕ} {i : Item} → GoodItem q i → length (utf8 (code_point i)) ≤ length (spell_item i)
item_longer (good_raw h k) = omega arith
item_longer (good_ref g) = let z = reference_longer g in omega arith

-- what is spelt reaches from one place to the other
reach : (s w : Bytes) (at e : ℕ) → at ≤ length s → e ≤ length s → drop at s ≡ w ++ drop e s → at + length w ≡ e
reach s w at e h k q = let z : length s - at ≡ length w + (length s - e) = sym (length-drop at s) ∙ ap length q ∙ rw (length-append, length-drop) in omega arith

-- one item
module _ (s : Bytes) (at : ℕ) (h : at < length s) where
  first : drop at s ≡ get_or s at 0 ∷ drop (suc at) s
  first = drop-cons s at 0 h

  pub one_item : (i : Item) (c e : ℕ) → item_p BRACKET (drop at s) ≡ done i (drop e s) → at < e → e ≤ length s → c ≤ 0x10FFFF → length (utf8 c) ≤ length (spell_item i)
      → ((l : List Item) → Loose (drop e s) l → read_item i (feeds l) ≡ utf8 c) → Taken s at c e
  unfolding read_value
  one_item i c e q f u m n r =
      let (w, a, x) = sound item_exact (drop at s) i (drop e s) q in
      let z : drop at s ≡ spell_item i ++ drop e s = a ∙ ap (λ (y : Bytes). y ++ drop e s) x.spelt in
      record {
        items = i ∷ [];
        good = good_item x.good good_last;
        from = f;
        upto = u;
        code_point_holds = m;
        no_longer = let y = reach s (spell_item i) at e (omega arith) u z in omega arith;
        spelt = z ∙ ap (λ (y : Bytes). y ++ drop e s) (sym (append-nil (spell_item i)));
        reads = λ l y. ap (λ (z : Bytes). z ++ read_value l) (r l y);
        only = λ l y. alone (loose_first (get_or s at 0) (drop (suc at) s) y first);
      }
    where
      alone : {l : List Item} → (j : Item) × (k : List Item) × (l ≡ j ∷ k) × GoodItem BRACKET j × Loose (spell_value k) k × (item_p BRACKET (drop at s) ≡ done j (spell_value k)) → (k : List Item) × (l ≡ i ∷ k) × Loose (drop e s) k
      alone (j, k, a, g, y, z) =
          let b : j ≡ i = cc in
          let d : spell_value k ≡ drop e s = cc in
          (k, a ∙ ap (λ (x : Item). x ∷ k) b, rw (← d) y)

  -- no item: no value
  pub no_item : (o : Out Item) → item_p BRACKET (drop at s) ≡ o → ((i : Item) (r : Bytes) → o ≡ done i r → ⊥) → (l : List Item) → Loose (drop at s) l → ⊥
  no_item o q n l y =
      let (j, k, a, g, x, z) = loose_first (get_or s at 0) (drop (suc at) s) y first in
      n j (spell_value k) (sym q ∙ z)

-- a raw tab, LF or CR is an item
tab_item : (r : Bytes) → item_p BRACKET (9 ∷ r) ≡ done (raw 9) r
unfolding item_p char_p plain_byte banned is_char within
tab_item r = refl

lf_item : (r : Bytes) → item_p BRACKET (10 ∷ r) ≡ done (raw 10) r
unfolding item_p char_p plain_byte banned is_char within
lf_item r = refl

cr_item : (r : Bytes) → item_p BRACKET (13 ∷ r) ≡ done (raw 13) r
unfolding item_p char_p plain_byte banned is_char within
cr_item r = refl

-- a raw LF comes next only where one stands
feeds_lf : {x : Bytes} (l : List Item) → Loose x l → feeds l ≡ true → x ≡ 10 ∷ drop 1 x
unfolding utf8
feeds_lf {x} [] y h = clash (sym h)
feeds_lf {x} (raw c ∷ l) y h =
    let e = eqb-true 10 c h in
    let z : x ≡ 10 ∷ spell_value l = y.spelt ∙ ap (λ (c : ℕ). utf8 c ++ spell_value l) e in
    z ∙ ap (λ (w : Bytes). 10 ∷ drop 1 w) (sym z)
feeds_lf {x} (ref r ∷ l) y h = clash (sym h)

module _ (s : Bytes) (at : ℕ) (h : at < length s) where
  stands : (b : ℕ) → get_or s at 0 ≡ b → drop at s ≡ b ∷ drop (at + 1) s
  stands b e = rw add-one (drop-cons s at 0 h ∙ ap (λ (b : ℕ). b ∷ drop (suc at) s) e)

  unit_tab : get_or s at 0 ≡ 9 → Taken s at 32 (at + 1)
  unfolding read_item utf8
  unit_tab e = one_item s at h (raw 9) 32 (at + 1) (ap (item_p BRACKET) (stands 9 e) ∙ tab_item (drop (at + 1) s)) (omega arith) (omega arith) (omega arith) (omega arith) (λ l y. refl)

  unit_lf : get_or s at 0 ≡ 10 → Taken s at 32 (at + 1)
  unfolding read_item utf8
  unit_lf e = one_item s at h (raw 10) 32 (at + 1) (ap (item_p BRACKET) (stands 10 e) ∙ lf_item (drop (at + 1) s)) (omega arith) (omega arith) (omega arith) (omega arith) (λ l y. refl)

  pub unit_blank : 9 ≤ get_or s at 0 → get_or s at 0 < 11 → Taken s at 32 (at + 1)
  unit_blank a b = go (ℕ_discrete (get_or s at 0) 9)
    where
      go : Dec (get_or s at 0 ≡ 9) → Taken s at 32 (at + 1)
      go (yes e) = unit_tab e
      go (no n) = unit_lf (omega arith)

  -- CR, and no LF behind it
  cr_alone : get_or s at 0 ≡ 13 → (drop (at + 1) s ≡ 10 ∷ drop 1 (drop (at + 1) s) → ⊥) → Taken s at 32 (at + 1)
  unfolding read_item utf8
  cr_alone e n = one_item s at h (raw 13) 32 (at + 1) (ap (item_p BRACKET) (stands 13 e) ∙ cr_item (drop (at + 1) s)) (omega arith) (omega arith) (omega arith) (omega arith) (λ l y. go (feeds l) (λ k. n (feeds_lf l y k)))
    where
      go : (z : Bool) → (z ≡ true → ⊥) → read_item (raw 13) z ≡ utf8 32
      go true n = absurd (n refl)
      go false n = refl

  pub unit_cr_end : get_or s at 0 ≡ 13 → length s ≤ at + 1 → Taken s at 32 (at + 1)
  unit_cr_end e k = cr_alone e (λ q. let z : ◌≡◌ {A = Bytes} [] (10 ∷ drop 1 (drop (at + 1) s)) = sym (drop_of_length-le s k) ∙ q in let y : ◌≡◌ {A = ℕ} 0 1 = cc in omega arith)

  pub unit_cr : get_or s at 0 ≡ 13 → at + 1 < length s → (get_or s (at + 1) 0 ≡ 10 → ⊥) → Taken s at 32 (at + 1)
  unit_cr e k n = cr_alone e (λ q. n (let z = drop-cons s (at + 1) 0 k in let y : get_or s (at + 1) 0 ≡ 10 = cc in y))

  -- CR LF
  pub unit_cr_lf : get_or s at 0 ≡ 13 → at + 1 < length s → get_or s (at + 1) 0 ≡ 10 → Taken s at 32 (at + 1 + 1)
  unfolding read_value read_item utf8 is_char within banned
  unit_cr_lf e k f = record {
    items = raw 13 ∷ raw 10 ∷ [];
    good = good_item (good_raw refl refl) (good_item (good_raw refl refl) good_last);
    from = omega arith;
    upto = omega arith;
    code_point_holds = omega arith;
    no_longer = omega arith;
    spelt = both;
    reads = λ l y. refl;
    only = λ l y. two (loose_first (get_or s at 0) (drop (suc at) s) y (drop-cons s at 0 h));
  }
    where
      behind : drop (at + 1) s ≡ 10 ∷ drop (at + 1 + 1) s
      behind = let z : at + 1 + 1 ≡ suc (at + 1) = omega arith in rw z (drop-cons s (at + 1) 0 k ∙ ap (λ (b : ℕ). b ∷ drop (suc (at + 1)) s) f)

      both : drop at s ≡ 13 ∷ 10 ∷ drop (at + 1 + 1) s
      both = stands 13 e ∙ ap (λ (x : Bytes). 13 ∷ x) behind

      last : {l : List Item} → (j : Item) × (k : List Item) × (l ≡ j ∷ k) × GoodItem BRACKET j × Loose (spell_value k) k × (item_p BRACKET (drop (at + 1) s) ≡ done j (spell_value k)) → (k : List Item) × (l ≡ raw 10 ∷ k) × Loose (drop (at + 1 + 1) s) k
      last (j, k, a, g, y, z) =
          let i : item_p BRACKET (drop (at + 1) s) ≡ done (raw 10) (drop (at + 1 + 1) s) = ap (item_p BRACKET) behind ∙ lf_item (drop (at + 1 + 1) s) in
          let b : j ≡ raw 10 = cc in
          let d : spell_value k ≡ drop (at + 1 + 1) s = cc in
          (k, a ∙ ap (λ (x : Item). x ∷ k) b, rw (← d) y)

      two : {l : List Item} → (j : Item) × (k : List Item) × (l ≡ j ∷ k) × GoodItem BRACKET j × Loose (spell_value k) k × (item_p BRACKET (drop at s) ≡ done j (spell_value k)) → (k : List Item) × (l ≡ raw 13 ∷ raw 10 ∷ k) × Loose (drop (at + 1 + 1) s) k
      two (j, k, a, g, y, z) =
          let i : item_p BRACKET (drop at s) ≡ done (raw 13) (drop (at + 1) s) = ap (item_p BRACKET) (stands 13 e) ∙ cr_item (drop (at + 1) s) in
          let b : j ≡ raw 13 = cc in
          let d : spell_value k ≡ drop (at + 1) s = cc in
          let u : Loose (drop (at + 1) s) k = rw (← d) y in
          let (m, c, x) = last (loose_first 10 (drop (at + 1 + 1) s) u behind) in
          (m, a ∙ ap (λ (x : Item). x ∷ k) b ∙ ap (λ (x : List Item). raw 13 ∷ x) c, x)

  -- a character whose bytes stand here is no byte that does not
  plain : (c b e : ℕ) → b ≤ 127 → (get_or s at 0 ≡ b → ⊥) → drop at s ≡ utf8 c ++ drop e s → eqb b c ≡ false
  plain c b e m n q = ne_eqb b c (λ z. go z (bytes8 c))
    where
      go : b ≡ c → Bytes8 c → ⊥
      go z (ascii a k) =
          let y : drop at s ≡ c ∷ drop e s = q ∙ ap (λ (w : Bytes). w ++ drop e s) k in
          let x = drop-cons s at 0 h in
          let w : get_or s at 0 ≡ c = cc in
          n (w ∙ sym z)
      go z (beyond a k) = omega arith

  -- any other byte
  pub unit_item : (get_or s at 0 ≡ 9 → ⊥) → (get_or s at 0 ≡ 10 → ⊥) → (get_or s at 0 ≡ 13 → ⊥) → {r : Piece} → Says code_point 1 s at r (item_p BRACKET (drop at s)) → {o : Option Character} → o ≡ result_ok r → UnitSays s at o
  unfolding read_item
  unit_item t f n {r} g e = rw e (go r g)
    where
      reads : (i : Item) (e : ℕ) → drop at s ≡ spell_item i ++ drop e s → (lf : Bool) → read_item i lf ≡ utf8 (code_point i)
      reads (raw c) e q lf = reads_itself c lf (plain c 9 e (omega arith) t q, plain c 10 e (omega arith) f q, plain c 13 e (omega arith) n q)
      reads (ref r) e q lf = refl

      go : (r : Piece) → Says code_point 1 s at r (item_p BRACKET (drop at s)) → UnitSays s at (result_ok r)
      go (Ok d) g =
          let c = d.code_point in
          let e = d.next in
          let y = g.says in
          let (w, a, x) = sound item_exact (drop at s) y.value (drop e s) y.reads in
          let z : drop at s ≡ spell_item y.value ++ drop e s = a ∙ ap (λ (y : Bytes). y ++ drop e s) x.spelt in
          let u = y.is in
          let v = item_char x.good in
          let far = y.far in
          let k : length (utf8 c) ≤ length (spell_item y.value) = rw (← u) (item_longer x.good) in
          record { says = one_item s at h y.value c e y.reads (omega arith) y.upto (omega arith) k (λ l p. rw (← u) (reads y.value e z (feeds l))) }
      go (Err Open) g = record { says = no_item s at h more g.says (λ i r q. done≢more q refl) }
      go (Err (Bad p)) g = record { says = no_item s at h (bad (drop p s)) g.says.2 (λ i r q. done≢bad q refl) }
