-- The reader of attributes and the end of a tag, and that it is exact.
use Rattle.std.specs.Prelude.{◌≡◌, Bool, ◌&&◌, not, ℕ, ◌+◌, ◌-◌, ◌≤◌, ◌<◌, eqb}
use Rattle.std.proofs.Math.Path.{refl}
use Rattle.std.proofs.Common.{sym, ap, subst, ◌∙◌, length-append}
use mathlib.Core.List.{List, [], ◌∷◌, ◌++◌, append_assoc}
use Rattle.std.proofs.Math.Bool.{true, false}
use native.Mathlib.Omega.{arith}
use Rattle.std.proofs.Math.ListN.{length}
use Rattle.std.proofs.Math.Dec.{leb}
use borrow.Author.Tests.{leb-true, le-leb, not-true}
use Rattle.exact.specs.Exact.{Lang, Exact, exact_like}
use Rattle.exact.specs.Chain.{bind_p, Map, mapped, map_exact, clash, If, yes_if, no_if, if_exact}
use Rattle.exact.specs.Byte.{On, on, on_exact, Lit, lit, eqb-true, lit_exact, Alt, left, right, Starts, starts, lit_starts, on_starts, choice_exact, more_starts, is_byte}
use Rattle.exact.specs.Token.{TokenFrom, token}
use Rattle.exact.specs.Loop.{again, stop, Loop, last, next, onward, loop_p, loop_eq, loop_exact}
use Rattle.grammar.specs.Bytes.{Bytes, within, digit, every, non_empty, among}
use Rattle.grammar.specs.Limits.{ATTRIBUTES}
use Rattle.grammar.specs.Glue.{is_glue, Glue}
use Rattle.grammar.specs.Name.{letter, name_start, name_byte}
use Rattle.grammar.specs.Value.{spell_value, is_quote}
use Rattle.grammar.specs.Attribute.{Attribute, spell_attribute, spell_attributes, GoodAttribute, GoodEach, good_none, good_each, fresh}
use Rattle.model.specs.Tests.{and_left, and_right, and_both}
use Rattle.model.specs.Values.{IsValue}
use Rattle.model.proofs.Values.{quote_is, value_exact}
use Rattle.model.specs.Glue.{GlueThen}
use Rattle.model.proofs.Glue.{glue_exact, glue_starts, quote_not_glue}
use Rattle.model.specs.Names.{live, new}
use Rattle.model.proofs.Names.{name_exact}
use Rattle.model.proofs.Names.{glue_not_name, start_not_glue, name_of_lem, of_name, name_starts}
use Rattle.model.specs.Attributes.{Head, end_of, spell_head, IsHead, State, T, mk, fin, end_p, quoted_p, equals_p, attr_p, turn_p, head_p}

-- an attribute that joins others of these names
record Joins (seen : List Bytes) (a : Attribute) : Type 0 where
  good : GoodAttribute a
  room : leb (length seen) (ATTRIBUTES - 1) ≡ true
  new : among seen a.name ≡ false

data Follows : List Bytes → List Attribute → Type 0 where
  follows_none : {seen : List Bytes} → Follows seen []
  follows_one : {seen : List Bytes} {a : Attribute} {l : List Attribute} → Joins seen a → Follows (a.name ∷ seen) l → Follows seen (a ∷ l)

follows_each : {seen : List Bytes} {l : List Attribute} → Follows seen l → GoodEach l
follows_each follows_none = good_none
follows_each (follows_one x r) = good_each x.good (follows_each r)

follows_few : {seen : List Bytes} {l : List Attribute} → Follows seen l → length seen ≤ ATTRIBUTES → length seen + length l ≤ ATTRIBUTES
follows_few follows_none h = omega arith
follows_few (follows_one {seen} {a} {l} x r) h = let k = leb-true (length seen) (ATTRIBUTES - 1) x.room in let i = follows_few r (omega arith) in omega arith

follows_fresh : {seen : List Bytes} {l : List Attribute} → Follows seen l → fresh seen l ≡ true
follows_fresh follows_none = refl
follows_fresh (follows_one x r) = rw x.new (follows_fresh r)

follows : (seen : List Bytes) {l : List Attribute} → GoodEach l → fresh seen l ≡ true → length seen + length l ≤ ATTRIBUTES → Follows seen l
follows seen good_none f h = follows_none
follows seen (good_each {a} {l} x r) f h =
    follows_one (record { good = x; room = le-leb (length seen) (ATTRIBUTES - 1) (omega arith); new = not-true _ (and_left (not (among seen a.name)) (fresh (a.name ∷ seen) l) f) })
    (follows (a.name ∷ seen) r (and_right (not (among seen a.name)) (fresh (a.name ∷ seen) l) f) (omega arith))

-- may: whether an empty tag is allowed
module _ (may : Bool) where
  -- the languages of the chain
  abbrev EndL : State → Bytes → Lang T
  EndL st g = If may (Alt (Lit (62 ∷ []) (fin st g false)) (Lit (47 ∷ 62 ∷ []) (fin st g true))) (Lit (62 ∷ []) (fin st g false))

  abbrev QuotedL : State → (g n g₂ g₃ : Bytes) → Lang T
  QuotedL st g n g₂ g₃ = On is_quote (λ q. Map (mk st g n g₂ g₃ q) (IsValue q))

  abbrev EqualsL : State → (g n : Bytes) → Lang T
  EqualsL st g n = GlueThen (λ g₂. On (eqb 61) (λ b. GlueThen (QuotedL st g n g₂)))

  abbrev AttrL : State → Bytes → Lang T
  AttrL st g = TokenFrom (live st.seen) (new st.seen) (EqualsL st g) []

  abbrev ChainL : State → Lang T
  ChainL st = GlueThen (λ g. If (non_empty g && leb (length st.seen) (ATTRIBUTES - 1)) (Alt (AttrL st g) (EndL st g)) (EndL st g))

  end_starts : (t : ℕ → Bool) → t 62 ≡ false → t 47 ≡ false → (st : State) (g w : Bytes) (v : T) → EndL st g w v → Starts t false w
  end_starts t h k st g w v (yes_if y (left (lit e q))) = starts 62 _ e h
  end_starts t h k st g w v (yes_if y (right (lit e q))) = starts 47 _ e k
  end_starts t h k st g w v (no_if y (lit e q)) = starts 62 _ e h

  attr_starts : (st : State) (g w : Bytes) (v : T) → AttrL st g w v → Starts name_start true w
  attr_starts st g w v (token n k e h o l) = subst (λ (y : Bytes). Starts name_start true y) (sym e) (name_starts n k (name_of_lem st.seen n h o).0)

  chain_starts : (st : State) (g w : Bytes) (v : T) → If (non_empty g && leb (length st.seen) (ATTRIBUTES - 1)) (Alt (AttrL st g) (EndL st g)) (EndL st g) w v → Starts is_glue false w
  unfolding is_glue
  chain_starts st g w v (yes_if z (left l)) = go (attr_starts st g w v l)
    where
      go : Starts name_start true w → Starts is_glue false w
      go (starts b w' e h) = starts b w' e (start_not_glue b h)
  chain_starts st g w v (yes_if z (right l)) = end_starts is_glue refl refl st g w v l
  chain_starts st g w v (no_if z l) = end_starts is_glue refl refl st g w v l

  end_exact : (st : State) (g : Bytes) → Exact (EndL st g) (end_p may st g)
  unfolding end_p
  end_exact st g = if_exact may (λ y. choice_exact (lit_starts 62 _ refl) (lit_starts 47 _ refl) (lit_exact _ _) (lit_exact _ _)) (λ y. lit_exact _ _)

  quoted_exact : (st : State) (g n g₂ g₃ : Bytes) → Exact (QuotedL st g n g₂ g₃) (quoted_p may st g n g₂ g₃)
  unfolding quoted_p is_quote
  quoted_exact st g n g₂ g₃ = on_exact 34 refl (λ q h. map_exact (mk st g n g₂ g₃ q) (value_exact q (quote_is q h)))

  equals_exact : (st : State) (g n : Bytes) → Exact (EqualsL st g n) (equals_p may st g n)
  unfolding equals_p is_glue
  equals_exact st g n =
      glue_exact (λ g₂ k v. on_starts (is_byte is_glue 61 refl) k v)
      (λ g₂ h. on_exact 61 refl (λ b k. glue_exact (λ g₃ w v. on_starts quote_not_glue w v) (λ g₃ i. quoted_exact st g n g₂ g₃)))

  equals_starts : (st : State) (g n w : Bytes) (v : T) → EqualsL st g n w v → Starts name_byte false w
  unfolding name_byte name_start letter within digit
  equals_starts st g n w v l = glue_starts glue_not_name (λ g₂ k v. on_starts (is_byte name_byte 61 refl) k v) w v l

  chain_exact : (st : State) → Exact (ChainL st) (turn_p may st)
  unfolding turn_p attr_p name_start letter within digit
  chain_exact st = glue_exact (λ g w v l. chain_starts st g w v l) (λ g h. if_exact (non_empty g && leb (length st.seen) (ATTRIBUTES - 1))
      (λ z. choice_exact (attr_starts st g) (end_starts name_start refl refl st g) (name_exact st.seen (few g z) (λ n w v l. equals_starts st g n w v l) (λ n h o. equals_exact st g n)) (end_exact st g))
      (λ z. end_exact st g))
    where
      few : (g : Bytes) → non_empty g && leb (length st.seen) (ATTRIBUTES - 1) ≡ true → length st.seen ≤ 51
      few g z = let k = leb-true (length st.seen) (ATTRIBUTES - 1) (and_right (non_empty g) _ z) in omega arith

  -- a turn, as declared: the end of the tag, or an attribute
  data TurnL (st : State) (w : Bytes) (t : T) : Type 0 where
    ends : (g : Bytes) (z : Bool) → (z ≡ true → may ≡ true) → every is_glue g ≡ true → w ≡ g ++ end_of z → t ≡ stop (record { attributes = st.build []; trail = g; empty = z }) → TurnL st w t
    attr : (a : Attribute) → Joins st.seen a → w ≡ spell_attribute a → t ≡ again (record { seen = a.name ∷ st.seen; build = λ r. st.build (a ∷ r) }) → TurnL st w t

  turn_exact : (st : State) → Exact (TurnL st) (turn_p may st)
  turn_exact st = exact_like to from (chain_exact st)
    where
      end-to : (w g k : Bytes) (t : T) → w ≡ g ++ k → every is_glue g ≡ true → EndL st g k t → TurnL st w t
      end-to w g k t e h (yes_if y (left (lit i q))) = ends g false (λ x. y) h (e ∙ rw i) q
      end-to w g k t e h (yes_if y (right (lit i q))) = ends g true (λ x. y) h (e ∙ rw i) q
      end-to w g k t e h (no_if y (lit i q)) = ends g false (λ x. clash (sym x)) h (e ∙ rw i) q

      to : (w : Bytes) (t : T) → ChainL st w t → TurnL st w t
      to w t (token g k e h o (yes_if z (right l))) = end-to w g k t e h l
      to w t (token g k e h o (no_if z l)) = end-to w g k t e h l
      to w t (token g k e h o (yes_if z (left (token n k₁ e₁ h₁ o₁ (token g₂ k₂ e₂ h₂ o₂ (on b k₃ e₃ h₃ (token g₃ k₄ e₄ h₄ o₄ (on q k₅ e₅ h₅ (mapped l v s))))))))) =
          let r = name_of_lem st.seen n h₁ o₁ in
          attr (record { before = g; name = n; mid = g₂; after = g₃; quote = q; value = l })
          (record { good = record { before = h; apart = and_left (non_empty g) _ z; name = r.0; mid = h₂; after = h₄; quote = h₅; value = v.good }; room = and_right (non_empty g) _ z; new = r.1 })
          (e ∙ rw (e₁, e₂, e₃, eqb-true 61 b h₃, e₄, e₅, v.spelt)) s

      end-from : (w g : Bytes) (t : T) (z : Bool) → (z ≡ true → may ≡ true) → w ≡ end_of z → t ≡ fin st g z → (y : Bool) → may ≡ y → EndL st g w t
      end-from w g t true m e q y i = yes_if (m refl) (right (lit e q))
      end-from w g t false m e q true i = yes_if i (left (lit e q))
      end-from w g t false m e q false i = no_if i (lit e q)

      from_end : (g w : Bytes) (t : T) → EndL st g w t → (z : Bool) → non_empty g && leb (length st.seen) (ATTRIBUTES - 1) ≡ z
          → If (non_empty g && leb (length st.seen) (ATTRIBUTES - 1)) (Alt (AttrL st g) (EndL st g)) (EndL st g) w t
      from_end g w t l true e = yes_if e (right l)
      from_end g w t l false e = no_if e l

      from : (w : Bytes) (t : T) → TurnL st w t → ChainL st w t
      from w t (ends g z m h e q) = token g (end_of z) e h refl (from_end g (end_of z) t (end-from (end_of z) g t z m refl q _ refl) _ refl)
      from w t (attr a g e q) =
          let n = of_name st.seen a.name g.good.name g.new in
          token a.before _ e g.good.before refl (yes_if (and_both _ _ g.good.apart g.room)
          (left (token a.name _ refl n.0 n.1 (token a.mid _ refl g.good.mid refl (on 61 _ refl refl (token a.after _ refl g.good.after refl
          (on a.quote _ refl g.good.quote (mapped a.value (record { good = g.good.value; spelt = refl }) q))))))))

  -- all turns
  ending : (st : State) (g : Bytes) (z : Bool) → (z ≡ true → may ≡ true) → every is_glue g ≡ true → Loop TurnL st (g ++ end_of z) (record { attributes = st.build []; trail = g; empty = z })
  ending st g z m h = last (ends g z m h refl refl)

  reads : (st : State) (w : Bytes) (st' : State) → Unit {0} → TurnL st w (again st') → 0 < length w
  reads st w st' u (ends g z m h e q) = absurd (let y : ◌≡◌ {A = ℕ} 0 1 = cc in omega arith)
  reads st w st' u (attr a g e q) = rw (e, length-append) (go a.before g.good.apart)
    where
      go : (x : Bytes) → non_empty x ≡ true → 0 < length x + length (a.name ++ (a.mid ++ 61 ∷ (a.after ++ a.quote ∷ (spell_value a.value ++ a.quote ∷ []))))
      go [] h = clash (sym h)
      go (b ∷ x) h = omega arith

  record HeadFrom (st : State) (w : Bytes) (h : Head) : Type 0 where
    inside : List Attribute
    allowed : h.empty ≡ true → may ≡ true
    built : h.attributes ≡ st.build inside
    good : Follows st.seen inside
    trail : every is_glue h.trail ≡ true
    spelt : w ≡ spell_attributes inside ++ (h.trail ++ end_of h.empty)

  loop_good : (st : State) (w : Bytes) (h : Head) → Loop TurnL st w h → HeadFrom st w h
  loop_good st w h (last (ends g z m k e q)) =
      let y : h ≡ record { attributes = st.build []; trail = g; empty = z } = cc in
      rw y (record { inside = []; allowed = m; built = refl; good = follows_none; trail = k; spelt = e })
  loop_good st w h (last (attr a g e q)) = absurd (let z : ◌≡◌ {A = ℕ} 0 1 = cc in omega arith)
  loop_good st w h (next w₁ st' w₂ e (ends g z m k i q) t) = absurd (let z : ◌≡◌ {A = ℕ} 0 1 = cc in omega arith)
  loop_good st w h (next w₁ st' w₂ e (attr a g i q) t) = step (cc) (loop_good st' w₂ h t)
    where
      step : st' ≡ record { seen = a.name ∷ st.seen; build = λ r. st.build (a ∷ r) } → HeadFrom st' w₂ h → HeadFrom st w h
      step y r = record {
        inside = a ∷ r.inside;
        allowed = r.allowed;
        built = r.built ∙ ap (λ (s : State). s.build r.inside) y;
        good = follows_one g (subst (λ (s : State). Follows s.seen r.inside) y r.good);
        trail = r.trail;
        spelt = e ∙ rw (i, r.spelt) (sym (append_assoc (spell_attribute a) (spell_attributes r.inside) (h.trail ++ end_of h.empty)));
      }

  good_loop : {seen : List Bytes} {l : List Attribute} → Follows seen l → (build : List Attribute → List Attribute) (g : Bytes) (z : Bool) → (z ≡ true → may ≡ true) → every is_glue g ≡ true
      → Loop TurnL (record { seen = seen; build = build }) (spell_attributes l ++ (g ++ end_of z)) (record { attributes = build l; trail = g; empty = z })
  good_loop {seen} follows_none build g z m h = ending (record { seen = seen; build = build }) g z m h
  good_loop (follows_one {a} {l} x r) build g z m h =
      next (spell_attribute a) _ _ (append_assoc (spell_attribute a) (spell_attributes l) (g ++ end_of z)) (attr a x refl refl) (good_loop r (λ l. build (a ∷ l)) g z m h)

  pub head_exact : Exact (IsHead may) (head_p may)
  unfolding head_p
  head_exact = exact_like to from (loop_exact (λ st. Unit {0}) (λ st u. turn_exact st) (λ st w st' u l. tt) reads (λ st u. (62 ∷ [], _, ending st [] false (λ x. clash (sym x)) refl)) (record { seen = []; build = λ l. l }) tt)
    where
      to : (w : Bytes) (h : Head) → Loop TurnL (record { seen = []; build = λ l. l }) w h → IsHead may w h
      to w h l =
          let r = loop_good (record { seen = []; build = λ l. l }) w h l in
          let g : Follows [] h.attributes = rw r.built r.good in
          record { allowed = r.allowed; attributes = record { few = omega (arith, follows_few g (omega arith)); fresh_names = follows_fresh g; each = follows_each g }; trail = r.trail; spelt = rw r.built r.spelt }

      from : (w : Bytes) (h : Head) → IsHead may w h → Loop TurnL (record { seen = []; build = λ l. l }) w h
      from w h l =
          let g = follows [] l.attributes.each l.attributes.fresh_names (omega (arith, l.attributes.few)) in
          rw l.spelt (good_loop g (λ l. l) h.trail h.empty l.allowed l.trail)

  -- the unfolding equation, for code
  pub head_eq : (st : State) (s : Bytes) → loop_p (turn_p may) st s ≡ bind_p (turn_p may st) (onward (loop_p (turn_p may))) s
  head_eq st s = loop_eq (λ st. Unit {0}) (λ st u. turn_exact st) (λ st w st' u l. tt) reads (λ st u. (62 ∷ [], _, ending st [] false (λ x. clash (sym x)) refl)) st tt s

-- what stands behind a name starts with a byte that no name has
head_first : (h : Head) → GoodEach h.attributes → Glue h.trail → Starts name_byte false (spell_head h)
unfolding name_byte name_start letter within digit
head_first h a t = go h.attributes a
  where
    begin : (g : Bytes) → every is_glue g ≡ true → (z : Bool) → Starts name_byte false (g ++ end_of z)
    begin [] k true = starts 47 _ refl refl
    begin [] k false = starts 62 _ refl refl
    begin (b ∷ g) k z = starts b _ refl (glue_not_name b (and_left (is_glue b) (every is_glue g) k))

    some_first : (g r : Bytes) → every is_glue g ≡ true → non_empty g ≡ true → Starts name_byte false (g ++ r)
    some_first [] r k s = clash (sym s)
    some_first (b ∷ g) r k s = starts b _ refl (glue_not_name b (and_left (is_glue b) (every is_glue g) k))

    go : (l : List Attribute) → GoodEach l → Starts name_byte false (spell_attributes l ++ (h.trail ++ end_of h.empty))
    go [] good_none = begin h.trail t h.empty
    go (a ∷ l) (good_each x r) = more_starts (more_starts (some_first a.before _ x.before x.apart) (spell_attributes l)) (h.trail ++ end_of h.empty)

pub head_starts : (may : Bool) (w : Bytes) (h : Head) → IsHead may w h → Starts name_byte false w
head_starts may w h l = subst (λ (y : Bytes). Starts name_byte false y) (sym l.spelt) (head_first h l.attributes.each l.trail)
