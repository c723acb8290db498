-- The steps of an attribute behind its name, of the whole attribute, and of a tag's end.
use mathlib.Core.Path.{◌≡◌, refl, sym, ap, subst, ◌∙◌}
use mathlib.Core.List.{List, [], ◌∷◌, ◌++◌, append_assoc}
use mathlib.Core.Bool.{Bool, true, false}
use Prim.Native.Nat.{ℕ, suc, ◌+◌, ◌-◌, ◌≤◌, ◌<◌}
use native.Mathlib.Omega.{arith}
use native.Mathlib.Numerals.{add-one}
use lib.ListN.{length, length-append, take, drop, get_or, length-take, length-drop}
use lib.Seq.{drop-cons, get_or-drop, get_or-append_seam}
use lib.Dec.{eqb}
use borrow.Author.Tests.{ne_eqb, eqb-true}
use Rattle.scan.specs.Pieces.{Got, GotTok, byte_p, word_p, glue_tok, chained, Step}
use Rattle.scan.specs.Unfold.{then_and, and_ext, and_and, glue_bind, on_bind}
use Rattle.scan.proofs.Chain.{then_done, tok, pass}
use Rattle.model.specs.Values.{IsValue, value_p}
use Rattle.model.proofs.Values.{quote_is, value_exact}
use Rattle.model.specs.Glue.{always, glue_p}
use Rattle.model.proofs.Names.{start_not_glue}
use Rattle.model.specs.Attributes.{T, State, mk, fin, end_p, quoted_p, equals_p, attr_p}
use Rattle.exact.specs.Exact.{Out, done, bad, Seen, is_done, is_more, is_bad, done≢more, done≢bad}
use Rattle.exact.specs.Chain.{ret_p, and_then, clash}
use Rattle.exact.specs.Token.{token_p}
use Rattle.exact.specs.Byte.{pick, on_p, lit_p, choice_p}
use Rattle.grammar.specs.Bytes.{Bytes, text, within, digit, every}
use Rattle.grammar.specs.Glue.{is_glue}
use Rattle.grammar.specs.Name.{letter, name_start, name_byte}
use Rattle.grammar.specs.Value.{Item, spell_value, is_quote, GoodValue}
use Rattle.pieces.specs.Parts.{IsQuote}
use Rattle.tags.specs.Names.{Lacks, One, Marked, Ready, FreshTo, FreshSays}
use Rattle.tags.specs.Inner.{Opening, open_p, OpenedTo, Opened, AttributeTo, AttributeSays, EndSays}
use Rattle.tags.proofs.CompareLaws.{part_long, part_at, every_at, lacks_join}
use Rattle.tags.proofs.QuoteLaws.{value_unquoted, lacks_byte_at}
use Rattle.std.specs.Prelude.{Result, Ok, Err}
use Rattle.scan.specs.declared.Stop.{Stop}
use Rattle.scan.specs.declared.Stop.TheVariants.{Bad}
use Rattle.tags.specs.declared.attributes.Given.{Given}

-- a byte is one byte long
byte_next : (b : ℕ) (s : Bytes) (i j : ℕ) → Got 1 s i (Ok j) (byte_p b (drop i s)) → j ≡ i + 1
unfolding byte_p
byte_next b s i j g =
    let h : i < length s = omega (arith, g.says.1, g.says.2) in
    go (eqb b (get_or s i 0)) refl h
  where
    same_place : drop (suc i) s ≡ drop j s → i < length s → j ≤ length s → i + 1 ≤ j → j ≡ i + 1
    same_place e h k m = let z : length s - suc i ≡ length s - j = sym (length-drop (suc i) s) ∙ ap length e ∙ length-drop j s in omega arith

    at_byte : (h : i < length s) → byte_p b (drop i s) ≡ pick (eqb b (get_or s i 0)) (done 0 (drop (suc i) s)) (bad (get_or s i 0 ∷ drop (suc i) s))
    at_byte h = rw (drop-cons s i 0 h)

    go : (z : Bool) → eqb b (get_or s i 0) ≡ z → i < length s → j ≡ i + 1
    go true e h =
        let q : byte_p b (drop i s) ≡ done 0 (drop (suc i) s) = at_byte h ∙ rw e in
        let r : drop (suc i) s ≡ drop j s = cc (q, g.says.3) in
        same_place r h g.says.2 g.says.1
    go false e h =
        let q : byte_p b (drop i s) ≡ bad (get_or s i 0 ∷ drop (suc i) s) = at_byte h ∙ rw e in
        absurd (let z : ◌≡◌ {A = ℕ} 0 1 = cc (q, g.says.3) in omega arith)

-- the byte that was read
byte_is : (b : ℕ) (s : Bytes) (i j : ℕ) → Got 1 s i (Ok j) (byte_p b (drop i s)) → get_or s i 0 ≡ b
unfolding byte_p
byte_is b s i j g = let h : i < length s = omega (arith, g.says.1, g.says.2) in go (eqb b (get_or s i 0)) refl h
  where
    go : (z : Bool) → eqb b (get_or s i 0) ≡ z → i < length s → get_or s i 0 ≡ b
    go true e h = sym (eqb-true b (get_or s i 0) e)
    go false e h =
        let q : byte_p b (drop i s) ≡ bad (get_or s i 0 ∷ drop (suc i) s) = rw (drop-cons s i 0 h, e) in
        absurd (let z : ◌≡◌ {A = ℕ} 0 1 = cc (q, g.says.3) in omega arith)

-- a token of glue is glue
glue_token : (n t g u : Bytes) → every is_glue n ≡ true → token_p (every is_glue) always ret_p n t ≡ done g u → every is_glue g ≡ true
glue_token n [] g u h e = absurd (let z : ◌≡◌ {A = ℕ} 0 1 = cc in omega arith)
glue_token n (b ∷ t) g u h e = go (every is_glue (n ++ b ∷ [])) refl (λ k q. glue_token (n ++ b ∷ []) t g u k q) e
  where
    go : (z : Bool) → every is_glue (n ++ b ∷ []) ≡ z → (every is_glue (n ++ b ∷ []) ≡ true → token_p (every is_glue) always ret_p (n ++ b ∷ []) t ≡ done g u → every is_glue g ≡ true)
        → pick z (token_p (every is_glue) always ret_p (n ++ b ∷ []) t) (done n (b ∷ t)) ≡ done g u → every is_glue g ≡ true
    go true k f q = f k q
    go false k f q = let z : n ≡ g = cc in subst (λ (y : Bytes). every is_glue y ≡ true) z h

pub glue_read : {s : Bytes} {i j : ℕ} → GotTok 0 s i (Ok j) (glue_tok (drop i s)) → every is_glue (take (j - i) (drop i s)) ≡ true
unfolding glue_tok
glue_read {s} {i} {j} g = glue_token [] (drop i s) (take (j - i) (drop i s)) (drop j s) refl g.says.2

-- no `=` among glue
glue_lacks : (b : ℕ) → is_glue b ≡ true → b ≡ 61 → ⊥
unfolding is_glue
glue_lacks b h e = clash (sym h ∙ ap is_glue e)

lacks_glue : (s : Bytes) (i j : ℕ) → i ≤ j → j ≤ length s → every is_glue (take (j - i) (drop i s)) ≡ true → Lacks 61 s i (j - i)
lacks_glue s i j h l g k m =
    glue_lacks (get_or s (i + k) 0) (sym (ap is_glue (part_at s i (j - i) k m)) ∙ every_at is_glue (take (j - i) (drop i s)) k g (omega (arith, part_long s i (j - i) (omega arith))))

part_size : (s : Bytes) (i j : ℕ) → i ≤ j → j ≤ length s → length (take (j - i) (drop i s)) ≡ j - i
part_size s i j h k = rw (length-take, length-drop) (omega arith)

-- behind an attribute's name
module _ (s : Bytes) (at : ℕ) where
  pub opened_glue_fails : {x : Stop} → GotTok 0 s at (Err x) (glue_tok (drop at s)) → Opened s at (Err x)
  unfolding open_p
  opened_glue_fails g = record { says = pass (tok g) 2 at (omega arith) _ refl; at_done = λ v e. cc }

  module _ (i : ℕ) (g₁ : GotTok 0 s at (Ok i) (glue_tok (drop at s))) where
    pub opened_equals_fails : {x : Stop} → Got 1 s i (Err x) (byte_p 61 (drop i s)) → Opened s at (Err x)
    unfolding open_p
    opened_equals_fails g = record { says = pass g 2 at (omega (arith, g₁.says.0)) _ (then_done _ g₁.says.2); at_done = λ v e. cc }

    module _ (j : ℕ) (g₂ : Got 1 s i (Ok j) (byte_p 61 (drop i s))) where
      pub opened-second-fails : {x : Stop} → GotTok 0 s j (Err x) (glue_tok (drop j s)) → Opened s at (Err x)
      unfolding open_p
      opened-second-fails g =
          record { says = pass (tok g) 2 at (omega (arith, g₁.says.0, g₂.says.1)) _ (then_done _ g₁.says.2 ∙ then_done _ g₂.says.3); at_done = λ v e. cc }

      module _ (k : ℕ) (g₃ : GotTok 0 s j (Ok k) (glue_tok (drop j s))) where
        opening : Opening
        opening = record { mid = take (i - at) (drop at s); after = take (k - j) (drop j s); quote = get_or s k 0 }

        in_s : k < length s
        in_s = g₃.says.1

        at-quote : open_p (drop at s) ≡ on_p is_quote (λ q. ret_p (record { mid = take (i - at) (drop at s); after = take (k - j) (drop j s); quote = q })) (drop k s)
        unfolding open_p
        at-quote = then_done _ g₁.says.2 ∙ then_done _ g₂.says.3 ∙ then_done _ g₃.says.2

        ends : at + length opening.mid + 1 + length opening.after + 1 ≡ k + 1
        unfolding opening
        ends =
            let a = g₁.says.0 in
            let b = g₁.says.1 in
            let c = byte_next 61 s i j g₂ in
            let d = g₃.says.0 in
            let x = part_size s at i (omega arith) (omega arith) in
            let y = part_size s j k (omega arith) (omega (arith, in_s)) in
            omega arith

        before_equals : at ≤ i
        before_equals = let a = g₁.says.0 in omega arith

        behind-equals : i + 1 ≤ k
        behind-equals = let c = byte_next 61 s i j g₂ in let d = g₃.says.0 in omega arith

        no-equals : Lacks 61 s at (i - at)
        no-equals = let a = g₁.says.0 in let b = g₁.says.1 in lacks_glue s at i (omega arith) (omega arith) (glue_read g₁)

        is-spaced : every is_glue (take (k - (i + 1)) (drop (i + 1) s)) ≡ true
        is-spaced = subst (λ (n : ℕ). every is_glue (take (k - n) (drop n s)) ≡ true) (byte_next 61 s i j g₂) (glue_read g₃)

        pub opened-quote : is_quote (get_or s k 0) ≡ true → Opened s at (Ok (k + 1))
        unfolding opening
        opened-quote q =
            let a = g₁.says.0 in
            let b = g₂.says.1 in
            let c = g₃.says.0 in
            let h = in_s in
            let r : open_p (drop at s) ≡ done opening (drop (k + 1) s) = at-quote ∙ rw (add-one, drop-cons s k 0 h, q) in
            record { says = record { says = (opening, omega arith, omega arith, r) }; at_done = λ v e. to v (cc) r h }
          where
            to : (v : ℕ) → v ≡ k + 1 → open_p (drop at s) ≡ done opening (drop (k + 1) s) → k < length s → OpenedTo s at v
            to v e r h =
                let z : k + 1 - 1 ≡ k = omega arith in
                rw e (record { opening = opening; far = ends; upto = omega arith; is_quote_holds = q; quote = rw z; equals = i; from = before_equals; before = rw z behind-equals; unequal = no-equals; equal = byte_is 61 s i j g₂; spaced = rw z is-spaced; reads = r })

        pub opened-bare : is_quote (get_or s k 0) ≡ false → Opened s at (Err (Bad k))
        opened-bare q =
            let a = g₁.says.0 in
            let b = g₂.says.1 in
            let c = g₃.says.0 in
            record { says = record { says = (omega arith, in_s, at-quote ∙ rw (drop-cons s k 0 in_s, q)) }; at_done = λ v e. cc }

-- the model of what is given to an attribute, as a chain
quoted_open : (may : Bool) (st : State) (g n g₂ g₃ t : Bytes)
    → quoted_p may st g n g₂ g₃ t
    ≡ chained {A = Opening} (on_p is_quote (λ q. ret_p (record { mid = g₂; after = g₃; quote = q })) t) (λ o u. chained (value_p o.quote u) (λ l v. done (mk st g n o.mid o.after o.quote l) v))
unfolding quoted_p chained
quoted_open may st g n g₂ g₃ [] = refl
quoted_open may st g n g₂ g₃ (b ∷ t) = at (is_quote b) (then_and (value_p b t) (λ l. ret_p (mk st g n g₂ g₃ b l)))
  where
    at : (z : Bool) → and_then (value_p b t) (λ l. ret_p (mk st g n g₂ g₃ b l)) ≡ chained (value_p b t) (λ l v. done (mk st g n g₂ g₃ b l) v)
        → pick z (and_then (value_p b t) (λ l. ret_p (mk st g n g₂ g₃ b l))) (bad (b ∷ t))
        ≡ chained {A = Opening} (pick z (done (record { mid = g₂; after = g₃; quote = b }) t) (bad (b ∷ t))) (λ o u. chained (value_p o.quote u) (λ l v. done (mk st g n o.mid o.after o.quote l) v))
    at true h = h
    at false h = refl

pub equals_open : (may : Bool) (st : State) (g n t : Bytes)
    → equals_p may st g n t ≡ chained (open_p t) (λ o u. chained (value_p o.quote u) (λ l v. done (mk st g n o.mid o.after o.quote l) v))
unfolding equals_p open_p
equals_open may st g n t =
    glue_bind (λ g₂. on_p (eqb 61) (λ b. glue_p (quoted_p may st g n g₂))) t
    ∙ and_ext (glue_tok t) (λ g₂ u. on_bind 61 (glue_p (quoted_p may st g n g₂)) u
    ∙ and_ext (byte_p 61 u) (λ _ v. glue_bind (quoted_p may st g n g₂) v
    ∙ and_ext (glue_tok v) (λ g₃ w. quoted_open may st g n g₂ g₃ w)
    ∙ sym (and_and (glue_tok v) _ _))
    ∙ sym (and_and (byte_p 61 u) _ _))
    ∙ sym (and_and (glue_tok t) _ _)

-- a value ends behind its spelling and the closing quote
pub value_size : (q : ℕ) → is_quote q ≡ true → (s : Bytes) (v f : ℕ) (l : List Item) → v ≤ length s → f ≤ length s → value_p q (drop v s) ≡ done l (drop f s) → v + length (spell_value l) + 1 ≡ f
value_size q is-q s v f l h k e = go ((value_exact q (quote_is q is-q)).see (drop v s))
  where
    sizes : (w r : Bytes) → drop v s ≡ w ++ r → w ≡ spell_value l ++ q ∷ [] → r ≡ drop f s → v + length (spell_value l) + 1 ≡ f
    sizes w r a b c =
        let x : length s - v ≡ length w + length r = sym (length-drop v s) ∙ ap length a ∙ length-append w r in
        let y : length w ≡ length (spell_value l) + 1 = ap length b ∙ length-append (spell_value l) (q ∷ []) in
        let z : length r ≡ length s - f = ap length c ∙ length-drop f s in
        omega arith

    go : Seen (IsValue q) (value_p q) (drop v s) → v + length (spell_value l) + 1 ≡ f
    go (is_done w x r a b d) =
        let y : x ≡ l = cc in
        let z : r ≡ drop f s = cc in
        sizes w r a (b.spelt ∙ rw y) z
    go (is_more x y a d) = absurd (done≢more e d)
    go (is_bad u b r a o d) = let z : value_p q (drop v s) ≡ bad (b ∷ r) = rw a (d r) in absurd (done≢bad e z)

-- in a value its quote does not stand, and behind it it does
module _ (q : ℕ) (is-q : is_quote q ≡ true) (s : Bytes) (v f : ℕ) (l : List Item) (h : v ≤ length s) (k : f ≤ length s) (e : value_p q (drop v s) ≡ done l (drop f s)) where
  value_word : (r : Bytes) × GoodValue q l × (drop v s ≡ (spell_value l ++ q ∷ []) ++ r)
  value_word = go ((value_exact q (quote_is q is-q)).see (drop v s))
    where
      go : Seen (IsValue q) (value_p q) (drop v s) → (r : Bytes) × GoodValue q l × (drop v s ≡ (spell_value l ++ q ∷ []) ++ r)
      go (is_done w x r a b d) =
          let y : x ≡ l = cc in
          (r, subst (λ (m : List Item). GoodValue q m) y b.good, a ∙ ap (λ (m : Bytes). m ++ r) (b.spelt ∙ ap (λ (m : List Item). spell_value m ++ q ∷ []) y))
      go (is_more x y a d) = absurd (done≢more e d)
      go (is_bad u b r a o d) = let z : value_p q (drop v s) ≡ bad (b ∷ r) = rw a (d r) in absurd (done≢bad e z)

  size : v + length (spell_value l) + 1 ≡ f
  size = value_size q is-q s v f l h k e

  byte_of : (n : ℕ) → get_or s (v + n) 0 ≡ get_or (spell_value l ++ q ∷ value_word.0) n 0
  byte_of n = sym (get_or-drop v s n 0) ∙ ap (λ (m : Bytes). get_or m n 0) (value_word.2 ∙ append_assoc (spell_value l) (q ∷ []) value_word.0)

  pub value_unshut : Lacks q s v (f - 1 - v)
  value_unshut n m =
      let z = size in
      let b : n < length (spell_value l) = omega arith in
      λ w. lacks_byte_at q (spell_value l) (q ∷ value_word.0) n b (value_unquoted q l is-q value_word.1) (sym (byte_of n) ∙ w)

  pub value_shut : get_or s (f - 1) 0 ≡ q
  value_shut =
      let z = size in
      let b : f - 1 ≡ v + length (spell_value l) = omega arith in
      ap (λ (m : ℕ). get_or s m 0) b ∙ byte_of (length (spell_value l)) ∙ get_or-append_seam (spell_value l) q value_word.0 0

-- a name has no `=`
name_lacks : (b : ℕ) → name_byte b ≡ true → b ≡ 61 → ⊥
unfolding name_byte name_start letter within digit
name_lacks b h e = clash (sym h ∙ ap name_byte e)

-- a whole attribute
pub known_fresh : {s : Bytes} {first at e : ℕ} {marks marks' : List ℕ} {r : Step} → r ≡ Ok e → FreshSays s first at marks marks' r → FreshSays s first at marks marks' (Ok e)
known_fresh {s} {first} {at} {e} {marks} {marks'} q y = subst (λ (r : Step). FreshSays s first at marks marks' r) q y

pub open_quote : {s : Bytes} {e v : ℕ} → OpenedTo s e v → IsQuote (get_or s (v - 1) 0)
open_quote o = record { is = subst (λ (x : ℕ). is_quote x ≡ true) o.quote o.is_quote_holds }

-- an attribute as it stands
module _ (s : Bytes) (earlier : List Bytes) (at e v f : ℕ) (starts : name_start (get_or s at 0) ≡ true) (y : FreshTo s earlier at e) (o : OpenedTo s e v) (l : List Item) (k : f ≤ length s)
    (value : value_p (get_or s (v - 1) 0) (drop v s) ≡ done l (drop f s)) where
  quote : ℕ
  quote = get_or s (v - 1) 0

  name_long : length (take (e - at) (drop at s)) ≡ e - at
  name_long = let a = y.far in let b = y.upto in part_size s at e (omega arith) (omega arith)

  pub stands_one : (i : ℕ) → i ≤ at → every is_glue (take (at - i) (drop i s)) ≡ true → One s i f (take (e - at) (drop at s))
  unfolding quote
  stands_one i h g =
      let a = y.far in
      let b = o.far in
      let c = value_size (get_or s (v - 1) 0) (open_quote o).is s v f l o.upto k value in
      let n = name_long in
      let d : at + (e - at) ≡ e = omega arith in
      let w : v - 1 + 1 ≡ v = omega arith in
      record {
        start = at;
        equals = o.equals;
        opens = v - 1;
        shuts = f - 1;
        begins = h;
        glued = g;
        bare = start_not_glue (get_or s at 0) starts;
        name_is = ap (λ (m : ℕ). take m (drop at s)) (sym n);
        named = λ m p. y.named m (omega (arith, n, p));
        name_ends = ap (λ (m : ℕ). name_byte (get_or s m 0)) (ap (λ (m : ℕ). at + m) n ∙ d) ∙ y.ends;
        inside = let p = o.from in omega arith;
        unequal = lacks_join s at e o.equals (omega arith) (λ m p. name_lacks (get_or s (at + m) 0) (y.named m p)) o.unequal;
        equal = o.equal;
        apart = let p = o.before in omega arith;
        spaced = o.spaced;
        quote = (open_quote o).is;
        order = omega arith;
        unshut = subst (λ (m : ℕ). Lacks (get_or s (v - 1) 0) s m (f - 1 - m)) (sym w) (value_unshut (get_or s (v - 1) 0) (open_quote o).is s v f l o.upto k value);
        shut = value_shut (get_or s (v - 1) 0) (open_quote o).is s v f l o.upto k value;
        far = omega arith;
        upto = k;
      }

module _ (s : Bytes) (first at : ℕ) (marks marks' : List ℕ) where
  pub attribute_name_fails : {x : Stop} → FreshSays s first at marks marks' (Err x) → AttributeSays s first at marks marks' (Err x)
  attribute_name_fails y = record { says = λ h. record { says = (y.says h).says }; marked = λ h d z. cc; long = y.long }

  module _ (e : ℕ) (y : FreshSays s first at marks marks' (Ok e)) where
    fresh_to : (h : Ready s first marks at) → FreshTo s h.stood.names at e
    fresh_to h = (y.says h).says

    abbrev GivenBy : State → Bytes → Opening → Bytes → Out T
    GivenBy st g o u = chained (value_p o.quote u) (λ l v. done (mk st g (take (e - at) (drop at s)) o.mid o.after o.quote l) v)

    begun_at : (h : Ready s first marks at) (may : Bool) (st : State) (g : Bytes) → st.seen ≡ h.stood.names → attr_p may st g (drop at s) ≡ chained (open_p (drop e s)) (GivenBy st g)
    begun_at h may st g q = (fresh_to h).reads may st g q ∙ equals_open may st g (take (e - at) (drop at s)) (drop e s)

    pub attribute_opening_fails : {x : Stop} → Opened s e (Err x) → AttributeSays s first at marks marks' (Err x)
    attribute_opening_fails o = record {
      says = λ h. record { says = λ may st g z. (pass o.says 1 at (let m = (fresh_to h).far in omega arith) (GivenBy st g) (begun_at h may st g z)).says };
      marked = λ h d z. cc;
      long = y.long;
    }

    module _ (v : ℕ) (o : OpenedTo s e v) where
      value-at : (h : Ready s first marks at) (may : Bool) (st : State) (g : Bytes) → st.seen ≡ h.stood.names
          → attr_p may st g (drop at s) ≡ chained (value_p (get_or s (v - 1) 0) (drop v s)) (λ l u. done (mk st g (take (e - at) (drop at s)) o.opening.mid o.opening.after o.opening.quote l) u)
      value-at h may st g q = begun_at h may st g q ∙ then_done (GivenBy st g) o.reads ∙ ap (λ (x : ℕ). chained (value_p x (drop v s)) (λ l u. done (mk st g (take (e - at) (drop at s)) o.opening.mid o.opening.after o.opening.quote l) u)) o.quote

      pub attribute-value-fails : {x : Stop} → Got 1 s v (Err x) (value_p (get_or s (v - 1) 0) (drop v s)) → AttributeSays s first at marks marks' (Err x)
      attribute-value-fails g = record {
        says = λ h. record { says = λ may st b q. (pass g 1 at (let a = (fresh_to h).far in let c = o.far in omega arith) _ (value-at h may st b q)).says };
        marked = λ h d z. cc;
        long = y.long;
      }

      pub attribute-read : {f : ℕ} → Got 1 s v (Ok f) (value_p (get_or s (v - 1) 0) (drop v s)) → AttributeSays s first at marks marks' (Ok (record { past = e; value = v; end = f }))
      attribute-read {f} g = record { says = λ h. record { says = to h }; marked = λ h d q. same_name h d (same_end d q); long = y.long }
        where
          same_end : (d : Given) → ◌≡◌ {A = Result Given Stop} (Ok (record { past = e; value = v; end = f })) (Ok d) → e ≡ d.past
          same_end d q = let z : ◌≡◌ {A = Given} (record { past = e; value = v; end = f }) d = cc in ap (λ (d : Given). d.past) z

          same_name : (h : Ready s first marks at) (d : Given) → e ≡ d.past → Marked marks' (take (d.past - at) (drop at s) ∷ h.stood.names)
          same_name h d q = subst (λ (n : ℕ). Marked marks' (take (n - at) (drop at s) ∷ h.stood.names)) q (y.marked h e refl)

          to : (h : Ready s first marks at) → AttributeTo s h.stood.names at e v f
          to h =
              let b = value_size (get_or s (v - 1) 0) (open_quote o).is s v f g.says.0 o.upto g.says.2 g.says.3 in
              record {
                mid = o.opening.mid;
                after = o.opening.after;
                quote = o.opening.quote;
                value = g.says.0;
                name_some = (fresh_to h).far;
                value_from_holds = o.far;
                value_to = b;
                upto = g.says.2;
                one = stands_one s h.stood.names at e v f h.stood.starts (fresh_to h) o g.says.0 g.says.2 g.says.3;
                reads = λ may st x q. value-at h may st x q ∙ then_done _ g.says.3;
              }

pub known_attribute : {s : Bytes} {first at : ℕ} {marks marks' : List ℕ} {r : Result Given Stop} {d : Given} → r ≡ Ok d → AttributeSays s first at marks marks' r → AttributeSays s first at marks marks' (Ok d)
known_attribute {s} {first} {at} {marks} {marks'} q y = subst (λ (r : Result Given Stop). AttributeSays s first at marks marks' r) q y

-- the end of a tag
lit_as : {A : Type 0} (a : A) (cs x : Bytes) → lit_p cs a x ≡ chained (word_p cs x) (λ _ u. done a u)
unfolding word_p chained
lit_as a [] x = refl
lit_as a (c ∷ cs) [] = refl
lit_as {A} a (c ∷ cs) (b ∷ r) = go (eqb c b) (lit_as a cs r)
  where
    go : (z : Bool) → lit_p cs a r ≡ chained (lit_p {A = ℕ} cs 0 r) (λ _ u. done a u) → pick z (lit_p cs a r) (bad (b ∷ r)) ≡ chained {A = ℕ} (pick z (lit_p cs 0 r) (bad (b ∷ r))) (λ _ u. done a u)
    go true h = h
    go false h = refl

module _ (may : Bool) (s : Bytes) (at n : ℕ) (in_s : at < length s) where
  pub end_bare : get_or s at 0 ≡ 62 → EndSays may s at n (Ok (record { empty = false; count = n; end = at + 1 }))
  unfolding end_p
  end_bare e = record { says = (refl, record { far = omega arith; upto = omega arith; reads = λ st g. go may st g }) }
    where
      go : (z : Bool) (st : State) (g : Bytes) → end_p z st g (drop at s) ≡ done (fin st g false) (drop (at + 1) s)
      go true st g = rw (add-one, drop-cons s at 0 in_s, e)
      go false st g = rw (add-one, drop-cons s at 0 in_s, e)

  module _ (ne : get_or s at 0 ≡ 62 → ⊥) where
    pub end_refused : may ≡ false → EndSays may s at n (Err (Bad at))
    unfolding end_p
    end_refused z = record { says = λ st g. (omega arith, in_s, rw (z, drop-cons s at 0 in_s, ne_eqb 62 (get_or s at 0) (λ y. ne (sym y)))) }

    module _ (z : may ≡ true) where
      slash-at : (st : State) (g : Bytes) → end_p may st g (drop at s) ≡ chained (word_p (text "/>") (drop at s)) (λ _ u. done (fin st g true) u)
      unfolding end_p
      slash-at st g = rw z (step ∙ lit_as (fin st g true) (text "/>") (drop at s))
        where
          step : choice_p (eqb 62) (lit_p (62 ∷ []) (fin st g false)) (lit_p (47 ∷ 62 ∷ []) (fin st g true)) (drop at s) ≡ lit_p (47 ∷ 62 ∷ []) (fin st g true) (drop at s)
          step = rw (drop-cons s at 0 in_s, ne_eqb 62 (get_or s at 0) (λ y. ne (sym y)))

      pub end-fails : {k : ℕ} {x : Stop} → Got k s at (Err x) (word_p (text "/>") (drop at s)) → EndSays may s at n (Err x)
      end-fails g = record { says = λ st y. (pass g 1 at (omega arith) _ (slash-at st y)).says }

      pub end_empty : {e : ℕ} → Got 2 s at (Ok e) (word_p (text "/>") (drop at s)) → EndSays may s at n (Ok (record { empty = true; count = n; end = e }))
      end_empty {e} g = let h = g.says.1 in
          record { says = (refl, record { far = omega arith; upto = g.says.2; reads = λ st y. slash-at st y ∙ then_done _ g.says.3 }) }
