-- Bits of filler at places of a list: text, glue, and what `<` begins.
use mathlib.Core.Path.{◌≡◌, refl, sym, ap, subst, ◌∙◌}
use mathlib.Core.List.{List, [], ◌∷◌, ◌++◌}
use mathlib.Core.Bool.{Bool, true, false, cond}
use Prim.Native.Nat.{ℕ, zero, suc, ◌+◌, ◌-◌, ◌≤◌, ◌<◌}
use native.Mathlib.Omega.{arith}
use lib.ListN.{length, take, drop, get_or, length-drop}
use lib.Seq.{drop-cons, get_or-take, get_or-drop, length-take-le}
use lib.Dec.{eqb, leb}
use borrow.Author.Tests.{eq-eqb, ne_eqb, leb-true, leb-false}
use Rattle.exact.specs.Exact.{Out, done, more, bad, sound}
use Rattle.exact.specs.Chain.{ret_p, and_then, clash}
use Rattle.exact.specs.Byte.{eqb-true}
use Rattle.exact.specs.Loop.{again, onward, loop_p}
use Rattle.grammar.specs.Bytes.{Bytes, every, within}
use Rattle.grammar.specs.Glue.{is_glue}
use Rattle.grammar.specs.Character.{is_char, utf8}
use Rattle.grammar.specs.Value.{Item, raw, ref, spell_item, banned}
use Rattle.grammar.specs.Comment.{Mark}
use Rattle.grammar.specs.Filler.{Site, in_root, below_root, in_text, comment, Filler, brackets, stopper}
use Rattle.model.specs.Tests.{and_left, and_right}
use Rattle.model.specs.Characters.{plain_byte, char_p}
use Rattle.model.specs.Values.{item_p}
use Rattle.model.proofs.Values.{item_exact}
use Rattle.model.proofs.Glue.{glue_low}
use Rattle.model.specs.Comments.{comment_p}
use Rattle.model.specs.Fillers.{text_p, FillAcc, added, ended, text_turn, markup_p, bit_p}
use Rattle.model.proofs.Fillers.{stopper_stops, bits_eq}
use Rattle.scan.specs.Pieces.{Skipped}
use Rattle.pieces.proofs.CharacterLaws.{plain_other, text_low}
use Rattle.pieces.specs.Parts.{PlainRun}
use Rattle.fillers.specs.Fills.{bits_p, calmly}
use Rattle.fillers.proofs.CommentLaws.{plain_no_lt, plain_no_amp, plain_no_stop, plain_low}

-- one turn
module _ (s : Site) (a : FillAcc) where
  pub bits_end : bits_p s a [] ≡ more
  unfolding bits_p bit_p
  bits_end = bits_eq s a []

  pub bits_text : (b : ℕ) (t : Bytes) → (b ≡ 60 → ⊥) → bits_p s a (b ∷ t) ≡ and_then (text_p s a.row (b ∷ t)) (λ i u. bits_p s (added a (in_text i)) u)
  unfolding bits_p bit_p
  bits_text b t e = bits_eq s a (b ∷ t) ∙ rw (ne_eqb 60 b (λ z. e (sym z))) (go (text_p s a.row (b ∷ t)))
    where
      go : (o : Out Item) → and_then (and_then o (λ i. ret_p (text_turn a i))) (onward (loop_p (bit_p s))) ≡ and_then o (λ i u. loop_p (bit_p s) (added a (in_text i)) u)
      go (done i u) = refl
      go more = refl
      go (bad u) = refl

  pub bits_short : bits_p s a (60 ∷ []) ≡ more
  unfolding bits_p bit_p markup_p
  bits_short = bits_eq s a (60 ∷ [])

  pub bits_stop : (c : ℕ) (t : Bytes) → (c ≡ 33 → ⊥) → bits_p s a (60 ∷ c ∷ t) ≡ done (ended a c) t
  unfolding bits_p bit_p markup_p
  bits_stop c t e = bits_eq s a (60 ∷ c ∷ t) ∙ rw (ne_eqb 33 c (λ z. e (sym z)))

  pub bits_comment : (t : Bytes) → bits_p s a (60 ∷ 33 ∷ t) ≡ and_then (comment_p t) (λ l u. bits_p s (added a (comment l)) u)
  unfolding bits_p bit_p markup_p
  bits_comment t = bits_eq s a (60 ∷ 33 ∷ t) ∙ go (comment_p t)
    where
      go : (o : Out (List Mark)) → and_then (and_then o (λ l. ret_p (again (added a (comment l))))) (onward (loop_p (bit_p s))) ≡ and_then o (λ l u. loop_p (bit_p s) (added a (comment l)) u)
      go (done l u) = refl
      go more = refl
      go (bad u) = refl

-- a byte that stands for itself, and is neither `<` nor `]`
pub record Quiet (s : Site) (b : ℕ) : Type 0 where
  pub reads : (t : Bytes) → text_p s 0 (b ∷ t) ≡ done (raw b) t
  pub no_lt : b ≡ 60 → ⊥
  pub no_row : eqb 93 b ≡ false

plain_item : (q b : ℕ) (t : Bytes) → plain_byte (banned q) b ≡ true → item_p q (b ∷ t) ≡ done (raw b) t
unfolding item_p char_p
plain_item q b t h = rw (ne_eqb 38 b (λ z. plain_no_amp q b h (sym z)), plain_low q b h, h)

quiet_below : (b : ℕ) → plain_byte (banned 60) b ≡ true → eqb 93 b ≡ false → Quiet below_root b
unfolding text_p
quiet_below b h k = record { reads = λ t. plain_item 60 b t h; no_lt = plain_no_lt 60 b h; no_row = k }

plain_quiet : (b : ℕ) → plain_byte (banned 93) b ≡ true → Quiet below_root b
plain_quiet b h = quiet_below b (plain_other 93 b (λ z. plain_no_stop 93 b h (sym z)) ∙ h) (ne_eqb 93 b (λ z. plain_no_stop 93 b h (sym z)))

space_plain : plain_byte (banned 60) 32 ≡ true
unfolding plain_byte banned is_char within
space_plain = refl

glue_plain : (b : ℕ) → is_glue b ≡ true → plain_byte (banned 60) b ≡ true
glue_plain b h = go (leb 32 b) refl
  where
    go : (z : Bool) → leb 32 b ≡ z → plain_byte (banned 60) b ≡ true
    go true e = let l = glue_low b h in let k = leb-true 32 b e in let q : 32 ≡ b = omega arith in subst (λ (x : ℕ). plain_byte (banned 60) x ≡ true) q space_plain
    go false e = sym (text_low b (leb-false 32 b e)) ∙ h

glue_quiet : (s : Site) (b : ℕ) → is_glue b ≡ true → Quiet s b
unfolding text_p
glue_quiet in_root b h = let l = glue_low b h in record { reads = λ t. rw h; no_lt = λ e. omega arith; no_row = ne_eqb 93 b (λ e. omega arith) }
glue_quiet below_root b h = let l = glue_low b h in quiet_below b (glue_plain b h) (ne_eqb 93 b (λ e. omega arith))

quiet_byte : {s : Site} {b : ℕ} → Quiet s b → (k : Filler → Filler) (t : Bytes) → bits_p s (calmly k) (b ∷ t) ≡ bits_p s (calmly (λ f. k (in_text (raw b) ∷ f))) t
quiet_byte {s} {b} x k t =
    bits_text s (calmly k) b t x.no_lt
    ∙ ap (λ (o : Out Item). and_then o (λ i u. bits_p s (added (calmly k) (in_text i)) u)) (x.reads t)
    ∙ ap (λ (z : Bool). bits_p s (record { row = cond z 1 0; build = λ f. k (in_text (raw b) ∷ f) }) t) x.no_row

pub quiet_run : (site : Site) (s : Bytes) (n i : ℕ) (k : Filler → Filler) → i + n ≤ length s → ((m : ℕ) → m < n → Quiet site (get_or s (i + m) 0))
    → (k' : Filler → Filler) × (bits_p site (calmly k) (drop i s) ≡ bits_p site (calmly k') (drop (i + n) s))
quiet_run site s zero i k h p = let z : i ≡ i + 0 = omega arith in (k, ap (λ (x : ℕ). bits_p site (calmly k) (drop x s)) z)
quiet_run site s (suc n) i k h p =
    let z : i + 0 ≡ i = omega arith in
    let f : Quiet site (get_or s i 0) = subst (λ (x : ℕ). Quiet site (get_or s x 0)) z (p 0 (omega arith)) in
    let b = get_or s i 0 in
    let y : suc i + n ≡ i + suc n = omega arith in
    let (k', e) = quiet_run site s n (suc i) (λ f. k (in_text (raw b) ∷ f)) (omega arith) (λ m l. let x : i + suc m ≡ suc i + m = omega arith in subst (λ (x : ℕ). Quiet site (get_or s x 0)) x (p (suc m) (omega arith))) in
    let a : bits_p site (calmly k) (drop i s) ≡ bits_p site (calmly (λ f. k (in_text (raw b) ∷ f))) (drop (suc i) s) = ap (bits_p site (calmly k)) (drop-cons s i 0 (omega arith)) ∙ quiet_byte f k (drop (suc i) s) in
    (k', a ∙ e ∙ ap (λ (x : ℕ). bits_p site (calmly k') (drop x s)) y)

-- plain bytes that are no `]`
pub plain_run : (s : Bytes) (i j : ℕ) → PlainRun 93 s i j → (k : Filler → Filler) → (k' : Filler → Filler) × (bits_p below_root (calmly k) (drop i s) ≡ bits_p below_root (calmly k') (drop j s))
plain_run s i j x k =
    let a = x.from in
    let u = x.upto in
    let n : i + (j - i) ≡ j = omega arith in
    let (k', e) = quiet_run below_root s (j - i) i k (omega arith) (λ m l. plain_quiet (get_or s (i + m) 0) (x.plain m (omega arith))) in
    (k', e ∙ ap (λ (y : ℕ). bits_p below_root (calmly k') (drop y s)) n)

every_at : (t : ℕ → Bool) (l : Bytes) (m : ℕ) → every t l ≡ true → m < length l → t (get_or l m 0) ≡ true
every_at t [] m h k = absurd (omega arith)
every_at t (b ∷ l) zero h k = and_left (t b) (every t l) h
every_at t (b ∷ l) (suc m) h k = every_at t l m (and_right (t b) (every t l) h) (omega arith)

-- glue
pub glue_run : (site : Site) (s : Bytes) (at j : ℕ) → Skipped s at j → (k : Filler → Filler) → (k' : Filler → Filler) × (bits_p site (calmly k) (drop at s) ≡ bits_p site (calmly k') (drop j s))
glue_run site s at j x k =
    let a = x.walked.from in
    let u = x.walked.upto in
    let n : at + (j - at) ≡ j = omega arith in
    let (k', e) = quiet_run site s (j - at) at k (omega arith) (λ m l. glue_quiet site (get_or s (at + m) 0) (there m l)) in
    (k', e ∙ ap (λ (y : ℕ). bits_p site (calmly k') (drop y s)) n)
  where
    there : (m : ℕ) → m < j - at → is_glue (get_or s (at + m) 0) ≡ true
    there m l =
        let a = x.walked.from in
        let u = x.walked.upto in
        let h : length (take (j - at) (drop at s)) ≡ j - at = length-take-le (j - at) (drop at s) (rw length-drop (omega arith)) in
        let g = every_at is_glue (take (j - at) (drop at s)) m x.walked.begun (rw h l) in
        sym (ap is_glue (get_or-take (j - at) (drop at s) m 0 l ∙ get_or-drop at s m 0)) ∙ g

bracket_spelt : utf8 93 ≡ 93 ∷ []
unfolding utf8
bracket_spelt = refl

-- the `]` in a row behind an item: its first byte tells
module _ (n : ℕ) where
  bracket_item : (t : Bytes) → item_p (stopper n) (93 ∷ t) ≡ done (raw 93) t
  unfolding item_p char_p plain_byte banned is_char within
  bracket_item t = go (leb 2 n)
    where
      go : (z : Bool) → item_p (cond z 62 60) (93 ∷ t) ≡ done (raw 93) t
      go true = refl
      go false = refl

  pub item_row : (b : ℕ) (t : Bytes) (i : Item) (u : Bytes) → item_p (stopper n) (b ∷ t) ≡ done i u → brackets n (in_text i) ≡ cond (eqb 93 b) (suc n) 0
  item_row b t i u h = at (eqb 93 b) refl
    where
      is-bracket : i ≡ raw 93 → brackets n (in_text i) ≡ suc n
      is-bracket e = ap (λ (x : Item). brackets n (in_text x)) e

      -- it is no raw `]`
      other : (i : Item) (w : Bytes) → b ∷ t ≡ w ++ u → w ≡ spell_item i → (b ≡ 93 → ⊥) → brackets n (in_text i) ≡ 0
      other (ref r) w e q f = refl
      other (raw c) w e q f = ap (λ (z : Bool). cond z (suc n) 0) (ne_eqb 93 c (λ y. f (first c (sym y) q)))
        where
          first : (c : ℕ) → c ≡ 93 → w ≡ utf8 c → b ≡ 93
          first c y z =
              let v : w ≡ 93 ∷ [] = z ∙ ap utf8 y ∙ bracket_spelt in
              let x : b ∷ t ≡ 93 ∷ u = e ∙ ap (λ (m : Bytes). m ++ u) v in
              cc

      at : (z : Bool) → eqb 93 b ≡ z → brackets n (in_text i) ≡ cond (eqb 93 b) (suc n) 0
      at true e =
          let q : b ≡ 93 = eqb-true 93 b e in
          let g : item_p (stopper n) (b ∷ t) ≡ done (raw 93) t = ap (λ (x : ℕ). item_p (stopper n) (x ∷ t)) q ∙ bracket_item t in
          let j : i ≡ raw 93 = cc in
          is-bracket j ∙ ap (λ (z : Bool). cond z (suc n) 0) (sym e)
      at false e =
          let (w, v, l) = sound (item_exact (stopper n) (stopper_stops n)) (b ∷ t) i u h in
          let f : b ≡ 93 → ⊥ = λ q. clash (sym (eq-eqb 93 b (sym q)) ∙ e) in
          other i w v l.spelt f ∙ ap (λ (z : Bool). cond z (suc n) 0) (sym e)
