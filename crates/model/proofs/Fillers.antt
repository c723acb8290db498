-- The reader of what stands between elements, and of the `<` behind it; and that it is exact. A `<` with `!` behind it begins a
-- comment, so the byte behind `<` is looked at before filler has ended.
use Rattle.std.specs.Prelude.{◌≡◌, Bool, true, false, cond, ℕ, ◌<◌, length, eqb, leb}
use Rattle.std.proofs.Math.Path.{refl, sym, ap, subst}
use Rattle.std.proofs.Common.{◌∙◌, arith}
use mathlib.Core.List.{[], ◌∷◌, ◌++◌, append_assoc}
use Prim.Native.Char.{code}
use Rattle.std.proofs.lemmas.Bool.{not-true}
use Rattle.exact.specs.Exact.{Lang, Reader, Exact, exact_like}
use Rattle.exact.specs.Chain.{Ret, ret, ret_exact, Seq, seq, bind_p, Map, mapped, map_exact}
use Rattle.exact.specs.Byte.{On, on, on_exact, eqb-true, other, Alt, left, right, Starts, starts, on_starts, map_starts, choice_exact}
use Rattle.exact.specs.Ahead.{Ahead, Peek, ahead_exact}
use Rattle.exact.specs.Loop.{again, stop, Loop, last, next, onward, loop_p, loop_eq, loop_exact}
use Rattle.grammar.specs.Bytes.{Bytes, within}
use Rattle.grammar.specs.Glue.{is_glue}
use Rattle.grammar.specs.Character.{is_char, utf8}
use Rattle.grammar.specs.Value.{Item, raw, spell_item, banned, GoodItem, good_raw, good_ref}
use Rattle.grammar.specs.Comment.{spell_comment}
use Rattle.grammar.specs.Filler.{Site, in_root, below_root, Bit, in_text, comment, Filler, spell_bit, spell_filler, brackets, stopper, GoodBit, good_glue, good_text, good_comment, GoodBits, bits_end, bits_then, GoodFiller}
use Rattle.model.specs.Characters.{plain_byte}
use Rattle.model.proofs.Characters.{utf8_1, raw_starts}
use Rattle.model.specs.Values.{IsItem, Stops}
use Rattle.model.proofs.Values.{ban_ascii, amp_first, item_exact}
use Rattle.model.proofs.Glue.{glue_low}
use Rattle.model.specs.Comments.{IsComment}
use Rattle.model.proofs.Comments.{comment_exact}
use Rattle.model.specs.Fillers.{text_p, IsText, no_bang, FillAcc, FillTurn, added, ended, text_turn, comment_turn, markup_p, bit_p, start_acc, peek_p, FillLt, FillThen, filled, fill_p}

pub stopper_stops : (n : ℕ) → Stops (stopper n)
stopper_stops n = go (leb 2 n)
  where
    go : (z : Bool) → Stops (cond z (code ">") (code "<"))
    go true = record { small = omega arith; apart = λ e. omega arith }
    go false = record { small = omega arith; apart = λ e. omega arith }

text_exact : (s : Site) (n : ℕ) → Exact (IsText s n) (text_p s n)
unfolding text_p is_glue
text_exact in_root n = exact_like to from (map_exact raw (on_exact (code " ") refl (λ b h. ret_exact b)))
  where
    to : (w : Bytes) (i : Item) → Map raw (On is_glue (λ b. Ret b)) w i → IsText in_root n w i
    to w i (mapped c (on b w' e h (ret j q)) k) =
        let g : is_glue c ≡ true = rw q h in
        let l = glue_low c g in
        let u : w ≡ utf8 c = e ∙ rw (j, sym q) (sym (utf8_1 c (omega arith))) in
        rw k (record { good = good_glue g; spelt = u })

    go : {i : Item} → GoodBit in_root n (in_text i) → (w : Bytes) → w ≡ spell_item i → Map raw (On is_glue (λ b. Ret b)) w i
    go (good_glue {c = c} h) w e = let l = glue_low c h in mapped c (on c [] (e ∙ utf8_1 c (omega arith)) h (ret refl refl)) refl

    from : (w : Bytes) (i : Item) → IsText in_root n w i → Map raw (On is_glue (λ b. Ret b)) w i
    from w i l = go l.good w l.spelt
text_exact below_root n = exact_like to from (item_exact (stopper n) (stopper_stops n))
  where
    to : (w : Bytes) (i : Item) → IsItem (stopper n) w i → IsText below_root n w i
    to w i l = record { good = good_text l.good; spelt = l.spelt }

    go : {i : Item} → GoodBit below_root n (in_text i) → GoodItem (stopper n) i
    go (good_text g) = g

    from : (w : Bytes) (i : Item) → IsText below_root n w i → IsItem (stopper n) w i
    from w i l = record { good = go l.good; spelt = l.spelt }

-- text starts with no `<`
glue_first : (c : ℕ) → is_glue c ≡ true → Starts (eqb (code "<")) false (utf8 c)
unfolding is_glue
glue_first c h = let k = glue_low c h in starts c [] (utf8_1 c (omega arith)) (other is_glue (code "<") refl c h)

plain_lt : (q : ℕ) → plain_byte (banned q) (code "<") ≡ false
unfolding plain_byte banned is_char within
plain_lt q = refl

item_first : (q : ℕ) → Stops q → {i : Item} → GoodItem q i → Starts (eqb (code "<")) false (spell_item i)
item_first q x (good_raw {c} a b) = raw_starts (banned q) (ban_ascii q x) (code "<") (omega arith) (plain_lt q) (utf8 c) c (record { char = a; free = b; spelt = refl })
item_first q x (good_ref {r} g) = let z = amp_first r in starts 38 z.0 z.1 refl

text_starts : (s : Site) (n : ℕ) (w : Bytes) (i : Item) → IsText s n w i → Starts (eqb (code "<")) false w
text_starts s n w i l = subst (λ (y : Bytes). Starts (eqb (code "<")) false y) (sym l.spelt) (go l.good)
  where
    go : {s : Site} {n : ℕ} {i : Item} → GoodBit s n (in_text i) → Starts (eqb (code "<")) false (spell_item i)
    go (good_glue {c = c} h) = glue_first c h
    go (good_text {n = n} g) = item_first (stopper n) (stopper_stops n) g

abbrev MarkupL : FillAcc → Lang FillTurn
MarkupL a = Alt (On (eqb (code "!")) (λ b. Map (comment_turn a) IsComment)) (On no_bang (λ b. Ret (stop (ended a b))))

abbrev BitL : Site → FillAcc → Lang FillTurn
BitL s a = Alt (On (eqb (code "<")) (λ b. MarkupL a)) (Map (text_turn a) (IsText s a.row))

markup_exact : (a : FillAcc) → Exact (MarkupL a) (markup_p a)
unfolding markup_p
markup_exact a =
    choice_exact (on_starts (λ b h. h)) (on_starts (λ b h. not-true (eqb (code "!") b) h))
    (on_exact (code "!") refl (λ b h. map_exact (comment_turn a) comment_exact)) (on_exact (code "/") refl (λ b h. ret_exact (stop (ended a b))))

bit_exact : (s : Site) (a : FillAcc) → Exact (BitL s a) (bit_p s a)
unfolding bit_p
bit_exact s a =
    choice_exact (on_starts (λ b h. h)) (map_starts (text_starts s a.row)) (on_exact (code "<") refl (λ b h. markup_exact a)) (map_exact (text_turn a) (text_exact s a.row))

-- what is left behind bits that are built in a
record FillFrom (s : Site) (a : FillAcc) (w : Bytes) (v : Ahead Filler) : Type 0 where
  inside : Filler
  built : v.value ≡ a.build inside
  good : GoodBits s a.row inside
  apart : no_bang v.first ≡ true
  spelt : w ≡ spell_filler inside ++ code "<" ∷ v.first ∷ []

reads : (s : Site) (a : FillAcc) (w : Bytes) (a' : FillAcc) → Unit {0} → BitL s a w (again a') → 0 < length w
reads s a w a' u (left (on b w' e h l)) = rw e (omega arith)
reads s a w a' u (right (mapped i l q)) = go (text_starts s a.row w i l)
  where
    go : Starts (eqb (code "<")) false w → 0 < length w
    go (starts b w' e h) = rw e (omega arith)

ending : (s : Site) (a : FillAcc) (b : ℕ) → no_bang b ≡ true → Loop (BitL s) a (code "<" ∷ b ∷ []) (ended a b)
ending s a b h = last (left (on (code "<") _ refl refl (right (on b [] refl h (ret refl refl)))))

-- one bit in front
in_front : (s : Site) (a a' : FillAcc) (b : Bit) (w w₁ w₂ : Bytes) (v : Ahead Filler) → a' ≡ added a b → GoodBit s a.row b → w₁ ≡ spell_bit b → w ≡ w₁ ++ w₂ → FillFrom s a' w₂ v → FillFrom s a w v
in_front s a a' b w w₁ w₂ v q g e i z = record {
  inside = b ∷ z.inside;
  built = z.built ∙ ap (λ (x : FillAcc). x.build z.inside) q;
  good = bits_then g (subst (λ (x : FillAcc). GoodBits s x.row z.inside) q z.good);
  apart = z.apart;
  spelt = i ∙ rw (e, z.spelt) (sym (append_assoc (spell_bit b) (spell_filler z.inside) (code "<" ∷ v.first ∷ [])));
}

loop_good : (s : Site) (a : FillAcc) (w : Bytes) (v : Ahead Filler) → Loop (BitL s) a w v → FillFrom s a w v
loop_good s a w v (last (left (on b w₁ e h (left (on c w₂ i j (mapped l m q)))))) = absurd (let z : ◌≡◌ {A = ℕ} 0 1 = cc in omega arith)
loop_good s a w v (last (left (on b w₁ e h (right (on c w₂ i j (ret k q)))))) =
    let x : v ≡ ended a c = cc in
    subst (λ (y : Ahead Filler). FillFrom s a w y) (sym x) (record { inside = []; built = refl; good = bits_end; apart = j; spelt = e ∙ rw (eqb-true (code "<") b h, i, k) })
loop_good s a w v (last (right (mapped i l q))) = absurd (let z : ◌≡◌ {A = ℕ} 0 1 = cc in omega arith)
loop_good s a w v (next w₁ a' w₂ e (left (on b w₃ i h (left (on c w₄ j y (mapped l m q))))) t) =
    let x : a' ≡ added a (comment l) = cc in
    let z : w₁ ≡ spell_comment l = i ∙ rw (eqb-true (code "<") b h, j, eqb-true (code "!") c y) (ap (λ (y : Bytes). code "<" ∷ code "!" ∷ y) m.spelt) in
    in_front s a a' (comment l) w w₁ w₂ v x (good_comment m.good) z e (loop_good s a' w₂ v t)
loop_good s a w v (next w₁ a' w₂ e (left (on b w₃ i h (right (on c w₄ j y (ret k q))))) t) = absurd (let z : ◌≡◌ {A = ℕ} 0 1 = cc in omega arith)
loop_good s a w v (next w₁ a' w₂ e (right (mapped i m q)) t) =
    let x : a' ≡ added a (in_text i) = cc in
    in_front s a a' (in_text i) w w₁ w₂ v x m.good m.spelt e (loop_good s a' w₂ v t)

good_loop : {s : Site} {n : ℕ} {f : Filler} → GoodBits s n f → (a : FillAcc) → a.row ≡ n → (b : ℕ) → no_bang b ≡ true → Loop (BitL s) a (spell_filler f ++ code "<" ∷ b ∷ []) (record { value = a.build f; first = b })
good_loop {s} bits_end a r b h = ending s a b h
good_loop {s} (bits_then {b = x} {f = f} g z) a r b h =
    next (spell_bit x) (added a x) _ (append_assoc (spell_bit x) (spell_filler f) (code "<" ∷ b ∷ [])) (turn g a r) (good_loop z (added a x) (ap (λ (m : ℕ). brackets m x) r) b h)
  where
    turn : {s : Site} {n : ℕ} {x : Bit} → GoodBit s n x → (a : FillAcc) → a.row ≡ n → BitL s a (spell_bit x) (again (added a x))
    turn (good_glue {c = c} g) a r = right (mapped (raw c) (record { good = good_glue g; spelt = refl }) refl)
    turn (good_text {i = i} g) a r = right (mapped i (record { good = good_text {i = i} (subst (λ (m : ℕ). GoodItem (stopper m) i) (sym r) g); spelt = refl }) refl)
    turn (good_comment {l = l} g) a r = left (on (code "<") _ refl refl (left (on (code "!") _ refl refl (mapped l (record { good = g; spelt = refl }) refl))))

module _ (s : Site) where
  some_end : (a : FillAcc) → Unit {0} → (w : Bytes) × (v : Ahead Filler) × Loop (BitL s) a w v
  some_end a u = (_, _, ending s a (code "/") refl)

  pub peek_exact : Exact (Peek no_bang (FillLt s)) (peek_p s)
  unfolding peek_p
  peek_exact = exact_like to from (loop_exact (λ a. Unit {0}) (λ a u. bit_exact s a) (λ a w a' u l. tt) (reads s) some_end start_acc tt)
    where
      to : (w : Bytes) (v : Ahead Filler) → Loop (BitL s) start_acc w v → Peek no_bang (FillLt s) w v
      to w v l =
          let z = loop_good s start_acc w v l in
          let g : GoodFiller s v.value = subst (λ (f : Filler). GoodFiller s f) (sym z.built) z.good in
          let e : w ≡ (spell_filler v.value ++ code "<" ∷ []) ++ v.first ∷ [] = z.spelt ∙ ap (λ (f : Filler). spell_filler f ++ code "<" ∷ v.first ∷ []) (sym z.built) ∙ sym (append_assoc (spell_filler v.value) (code "<" ∷ []) (v.first ∷ [])) in
          record { word = spell_filler v.value ++ code "<" ∷ []; spelt = e; reads = record { good = g; spelt = refl }; passes = z.apart }

      from : (w : Bytes) (v : Ahead Filler) → Peek no_bang (FillLt s) w v → Loop (BitL s) start_acc w v
      from w v l =
          let e : w ≡ spell_filler v.value ++ code "<" ∷ v.first ∷ [] = l.spelt ∙ ap (λ (y : Bytes). y ++ v.first ∷ []) l.reads.spelt ∙ append_assoc (spell_filler v.value) (code "<" ∷ []) (v.first ∷ []) in
          rw e (good_loop l.reads.good start_acc refl v.first l.passes)

  -- the unfolding equation, for code
  pub bits_eq : (a : FillAcc) (t : Bytes) → loop_p (bit_p s) a t ≡ bind_p (bit_p s a) (onward (loop_p (bit_p s))) t
  bits_eq a t = loop_eq (λ a. Unit {0}) (λ a u. bit_exact s a) (λ a w a' u l. tt) (reads s) some_end a tt t

pub fill_exact : {A : Type 0} (s : Site) {K : Filler → Lang A} {q : Filler → Reader A} → ((f : Filler) (k : Bytes) (v : A) → K f k v → Starts no_bang true k)
    → ((f : Filler) → GoodFiller s f → Exact (K f) (q f)) → Exact (FillThen s K) (fill_p s q)
unfolding fill_p
fill_exact {A} s {K} {q} st x = exact_like to from (ahead_exact (peek_exact s) (λ w f l k v m. st f k v m) (λ w f l. x f l.good))
  where
    to : (w : Bytes) (v : A) → Seq (FillLt s) K w v → FillThen s K w v
    to w v (seq w₁ f k e l m) = filled f k (e ∙ ap (λ (y : Bytes). y ++ k) l.spelt ∙ append_assoc (spell_filler f) (code "<" ∷ []) k) l.good m

    from : (w : Bytes) (v : A) → FillThen s K w v → Seq (FillLt s) K w v
    from w v (filled f k e g m) = seq (spell_filler f ++ code "<" ∷ []) f k (e ∙ sym (append_assoc (spell_filler f) (code "<" ∷ []) k)) (record { good = g; spelt = refl }) m
