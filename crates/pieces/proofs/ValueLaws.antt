-- The steps of the readers of items and values.
use mathlib.Core.Path.{◌≡◌, refl, sym, subst, ◌∙◌}
use mathlib.Core.List.{[], ◌∷◌}
use mathlib.Core.Logic.{◌⊎◌}
use mathlib.Core.Bool.{Bool, true, false, ◌&&◌, not}
use Prim.Native.Nat.{ℕ, zero, suc, ◌+◌, ◌-◌, ◌≤◌, ◌<◌}
use native.Mathlib.Omega.{arith}
use native.Mathlib.Numerals.{add-one}
use lib.ListN.{length, drop, get_or, drop_of_length-le}
use lib.Seq.{drop-cons}
use lib.Dec.{eqb, leb, ltb}
use borrow.Author.Tests.{leb-true, le-leb, eq-eqb, ne_eqb, not-true, eqb-false}
use Rattle.model.specs.Tests.{and_left, and_right}
use Rattle.model.specs.Characters.{plain_byte, char_p}
use Rattle.model.proofs.Characters.{char_low}
use Rattle.model.specs.References.{ref_p}
use Rattle.model.specs.Values.{Acc, item_p, turn_p, value_p}
use Rattle.model.proofs.Values.{quote_is, value_eq}
use Rattle.exact.specs.Exact.{Out, done, more, bad}
use Rattle.exact.specs.Chain.{ret_p, and_then, clash}
use Rattle.exact.specs.Byte.{eqb-true}
use Rattle.exact.specs.Loop.{again, onward, loop_p}
use Rattle.grammar.specs.Bytes.{Bytes, within}
use Rattle.grammar.specs.Character.{is_char}
use Rattle.grammar.specs.Reference.{read_reference}
use Rattle.grammar.specs.Value.{Item, raw, ref, banned}
use Rattle.std.specs.Prelude.{Ok, Err}
use Rattle.pieces.specs.Says.{Piece, Says}
use Rattle.pieces.specs.Parts.{code_point, IsQuote, InValue, Plain, PlainRun, Ran}
use Rattle.scan.specs.Unfold.{then_and}
use Rattle.scan.proofs.Chain.{pass as step_pass, last as step_last}
use Rattle.pieces.proofs.Answers.{last}
use Rattle.pieces.proofs.CharacterLaws.{plain_quote}
use Rattle.scan.specs.Pieces.{Step, Got as StepSays}
use Rattle.scan.specs.declared.Stop.{Stop}
use Rattle.scan.specs.declared.Stop.TheVariants.{Open}
use mir.Val.{bool_byte}

module _ (q : ℕ) (s : Bytes) (at : ℕ) where
  pub item_open : length s ≤ at → Says code_point 1 s at (Err Open) (item_p q (drop at s))
  unfolding item_p
  item_open h = record { says = rw (drop_of_length-le s h) }

  module _ (h : at < length s) where
    pub item_ref : {r : Piece} → get_or s at 0 ≡ 38 → Says read_reference 1 s (at + 1) r (ref_p (drop (at + 1) s)) → Says code_point 1 s at r (item_p q (drop at s))
    unfolding item_p
    item_ref e g = last g (omega arith) (omega arith) ref (λ x. refl) (rw (add-one, drop-cons s at 0 h, e))

    pub item_raw : {r : Piece} → (get_or s at 0 ≡ 38 → ⊥) → Says (λ (c : ℕ). c) 1 s at r (char_p (banned q) (drop at s)) → Says code_point 1 s at r (item_p q (drop at s))
    unfolding item_p
    item_raw e g = last g (omega arith) (omega arith) raw (λ x. refl) (rw (drop-cons s at 0 h, ne_eqb 38 (get_or s at 0) (λ z. e (sym z))))

    pub step_raw : {r : Step} → (get_or s at 0 ≡ 38 → ⊥) → StepSays 1 s at r (char_p (banned q) (drop at s)) → StepSays 1 s at r (item_p q (drop at s))
    unfolding item_p
    step_raw e g = step_last g 1 at (omega arith) (omega arith) raw (rw (drop-cons s at 0 h, ne_eqb 38 (get_or s at 0) (λ z. e (sym z))) (then_and _ _))

-- one turn
module _ (q : ℕ) (is-q : IsQuote q) where
  both : (q ≡ 34) ⊎ (q ≡ 39)
  both = quote_is q is-q.is

  go_end : (k : Acc) → loop_p (turn_p q) k [] ≡ more
  unfolding turn_p
  go_end k = value_eq q both k []

  go_stop : (k : Acc) (b : ℕ) (r : Bytes) → b ≡ q → loop_p (turn_p q) k (b ∷ r) ≡ done (k []) r
  unfolding turn_p
  go_stop k b r e = value_eq q both k (b ∷ r) ∙ rw (eq-eqb q b (sym e))

  -- an item, whatever it reads as
  go_item : (k : Acc) (b : ℕ) (r : Bytes) → (b ≡ q → ⊥) → loop_p (turn_p q) k (b ∷ r) ≡ and_then (item_p q (b ∷ r)) (λ i t. loop_p (turn_p q) (λ l. k (i ∷ l)) t)
  unfolding turn_p
  go_item k b r e = value_eq q both k (b ∷ r) ∙ rw (ne_eqb q b (λ z. e (sym z))) (go (item_p q (b ∷ r)))
    where
      go : (o : Out Item) → and_then (and_then o (λ i. ret_p (again (λ l. k (i ∷ l))))) (onward (loop_p (turn_p q))) ≡ and_then o (λ i t. loop_p (turn_p q) (λ l. k (i ∷ l)) t)
      go (done i t) = refl
      go more = refl
      go (bad t) = refl

  plain_low : (b : ℕ) → plain_byte (banned q) b ≡ true → leb b 127 ≡ true
  unfolding plain_byte
  plain_low b h = and_left (leb b 127) _ h

  plain_amp : plain_byte (banned q) 38 ≡ false
  unfolding plain_byte banned is_char within
  plain_amp = refl

  not_amp : (b : ℕ) → plain_byte (banned q) b ≡ true → eqb 38 b ≡ false
  not_amp b h = ne_eqb 38 b (λ y. clash (sym h ∙ (rw y at plain_amp)))

  -- a plain byte
  plain_item : (b : ℕ) (r : Bytes) → plain_byte (banned q) b ≡ true → item_p q (b ∷ r) ≡ done (raw b) r
  unfolding item_p char_p
  plain_item b r h = rw (not_amp b h, plain_low b h, h)

  plain_not_q : (b : ℕ) → plain_byte (banned q) b ≡ true → b ≡ q → ⊥
  plain_not_q b h e = clash (sym h ∙ sym (plain_quote q b (sym e)))

  module _ (s : Bytes) (at : ℕ) where
    pub ran_none : Ran q s at at
    ran_none = record { from = omega arith; same = λ k. (k, refl) }

    pub ran_more : (i : ℕ) → Ran q s at i → i < length s → plain_byte (banned q) (get_or s i 0) ≡ true → Ran q s at (i + 1)
    ran_more i w h p = record { from = let z = w.from in omega arith; same = λ k. go k (w.same k) }
      where
        go : (k : Acc) → (k' : Acc) × (loop_p (turn_p q) k (drop at s) ≡ loop_p (turn_p q) k' (drop i s)) → (k' : Acc) × (loop_p (turn_p q) k (drop at s) ≡ loop_p (turn_p q) k' (drop (i + 1) s))
        go k (k', e) = (λ l. k' (raw (get_or s i 0) ∷ l), e ∙ rw (add-one, drop-cons s i 0 h) (go_item k' (get_or s i 0) (drop (suc i) s) (plain_not_q _ p) ∙ rw (plain_item (get_or s i 0) (drop (suc i) s) p)))

    -- n bytes further
    pub ran_many : (n i : ℕ) → Ran q s at i → i + n ≤ length s → Plain q s i n → Ran q s at (i + n)
    ran_many zero i w h p = subst (λ (x : ℕ). Ran q s at x) (omega arith) w
    ran_many (suc n) i w h p =
        let z : i + 0 ≡ i = omega arith in
        let f : plain_byte (banned q) (get_or s i 0) ≡ true = rw z at (p 0 (omega arith)) in
        subst (λ (x : ℕ). Ran q s at x) (omega arith) (ran_many n (i + 1) (ran_more i w (omega arith) f) (omega arith) (λ k l. let e : i + suc k ≡ i + 1 + k = omega arith in rw e at (p (suc k) (omega arith))))

    -- a run of them
    pub ran_run : (r : ℕ) → PlainRun q s at r → Ran q s at r
    ran_run r x =
        let a = x.from in
        let u = x.upto in
        let e : at + (r - at) ≡ r = omega arith in
        subst (λ (x : ℕ). Ran q s at x) e (ran_many (r - at) at ran_none (omega arith) (λ k l. x.plain k (omega arith)))

    pub value_start : InValue q s at at
    unfolding value_p
    value_start = record { k = λ l. l; from = omega arith; same = refl }

    module _ (i : ℕ) (w : InValue q s at i) where
      abbrev ValueSays : Step → Type 0
      ValueSays r = StepSays 1 s at r (value_p q (drop at s))

      pub value-end : length s ≤ i → ValueSays (Err Open)
      value-end h = record { says = w.same ∙ rw (drop_of_length-le s h) (go_end w.k) }

      pub value-ran : (j : ℕ) → Ran q s i j → InValue q s at j
      value-ran j x = let z = x.same w.k in let a = w.from in let b = x.from in record { k = z.0; from = omega arith; same = w.same ∙ z.1 }

      module _ (h : i < length s) where
        pub value-stop : get_or s i 0 ≡ q → ValueSays (Ok (i + 1))
        value-stop e = let z = w.from in
            record { says = (w.k [], omega arith, omega arith, w.same ∙ rw (add-one, drop-cons s i 0 h) (go_stop w.k (get_or s i 0) (drop (suc i) s) e)) }

        module _ (ne : get_or s i 0 ≡ q → ⊥) where
          turned : value_p q (drop at s) ≡ and_then (item_p q (drop i s)) (λ x t. loop_p (turn_p q) (λ l. w.k (x ∷ l)) t)
          turned = w.same ∙ rw (drop-cons s i 0 h) (go_item w.k (get_or s i 0) (drop (suc i) s) ne)

          pub value-fail : {x : Stop} → StepSays 1 s i (Err x) (item_p q (drop i s)) → ValueSays (Err x)
          value-fail g = step_pass g 1 at w.from _ (turned ∙ then_and _ _)

          pub value-next : {e : ℕ} → StepSays 1 s i (Ok e) (item_p q (drop i s)) → InValue q s at e
          value-next g = let z = w.from in let y = g.says.1 in let x = g.says.3 in record { k = λ l. w.k (g.says.0 ∷ l); from = omega arith; same = turned ∙ rw x }

-- a printable character that is none of `<`, `&` and the quote stands as itself
pub clear_plain : (b q : ℕ) → (((ltb 31 b && ltb b 128) && not (eqb b 60)) && not (eqb b 38)) && not (eqb b q) ≡ true → plain_byte (banned q) b ≡ true
unfolding plain_byte banned
clear_plain b q h =
    let a = and_left (((ltb 31 b && ltb b 128) && not (eqb b 60)) && not (eqb b 38)) (not (eqb b q)) h in
    let c = and_left ((ltb 31 b && ltb b 128) && not (eqb b 60)) (not (eqb b 38)) a in
    let d = and_left (ltb 31 b && ltb b 128) (not (eqb b 60)) c in
    let low = leb-true 32 b (and_left (ltb 31 b) (ltb b 128) d) in
    let high = leb-true (suc b) 128 (and_right (ltb 31 b) (ltb b 128) d) in
    let lt = eqb-false b 60 (not-true (eqb b 60) (and_right (ltb 31 b && ltb b 128) (not (eqb b 60)) c)) in
    let amp = eqb-false b 38 (not-true (eqb b 38) (and_right ((ltb 31 b && ltb b 128) && not (eqb b 60)) (not (eqb b 38)) a)) in
    let quote = eqb-false b q (not-true (eqb b q) (and_right (((ltb 31 b && ltb b 128) && not (eqb b 60)) && not (eqb b 38)) (not (eqb b q)) h)) in
    rw (le-leb b 127 (omega arith), char_low b (omega arith) (omega arith), ne_eqb 60 b (λ e. lt (sym e)), ne_eqb 38 b (λ e. amp (sym e)), ne_eqb q b (λ e. quote (sym e)))

-- eight facts in a row
pub eight : (P : ℕ → Type 0) (i : ℕ) → P i → P (i + 1) → P (i + 2) → P (i + 3) → P (i + 4) → P (i + 5) → P (i + 6) → P (i + 7) → (k : ℕ) → k < 8 → P (i + k)
eight P i a b c d e f g h zero l = subst P (omega arith) a
eight P i a b c d e f g h (suc zero) l = b
eight P i a b c d e f g h (suc (suc zero)) l = c
eight P i a b c d e f g h (suc (suc (suc zero))) l = d
eight P i a b c d e f g h (suc (suc (suc (suc zero)))) l = e
eight P i a b c d e f g h (suc (suc (suc (suc (suc zero))))) l = f
eight P i a b c d e f g h (suc (suc (suc (suc (suc (suc zero)))))) l = g
eight P i a b c d e f g h (suc (suc (suc (suc (suc (suc (suc zero))))))) l = h
eight P i a b c d e f g h (suc (suc (suc (suc (suc (suc (suc (suc k)))))))) l = absurd (omega arith)

-- from eight numbers that are 1 each where their sum is 8
pub eight_sum : (P : ℕ → Type 0) (i : ℕ) (a b c d e f g h : ℕ) → (a ≤ 1) × (a ≡ 1 → P i) → (b ≤ 1) × (b ≡ 1 → P (i + 1)) → (c ≤ 1) × (c ≡ 1 → P (i + 2)) → (d ≤ 1) × (d ≡ 1 → P (i + 3)) → (e ≤ 1) × (e ≡ 1 → P (i + 4)) → (f ≤ 1) × (f ≡ 1 → P (i + 5)) → (g ≤ 1) × (g ≡ 1 → P (i + 6)) → (h ≤ 1) × (h ≡ 1 → P (i + 7)) → eqb (a + b + c + d + e + f + g + h) 8 ≡ true → (k : ℕ) → k < 8 → P (i + k)
eight_sum P i a b c d e f g h f0 f1 f2 f3 f4 f5 f6 f7 z =
    let s : 8 ≡ a + b + c + d + e + f + g + h = eqb-true (a + b + c + d + e + f + g + h) 8 z in
    eight P i (f0.1 (omega (arith, f0.0, f1.0, f2.0, f3.0, f4.0, f5.0, f6.0, f7.0))) (f1.1 (omega (arith, f0.0, f1.0, f2.0, f3.0, f4.0, f5.0, f6.0, f7.0))) (f2.1 (omega (arith, f0.0, f1.0, f2.0, f3.0, f4.0, f5.0, f6.0, f7.0))) (f3.1 (omega (arith, f0.0, f1.0, f2.0, f3.0, f4.0, f5.0, f6.0, f7.0))) (f4.1 (omega (arith, f0.0, f1.0, f2.0, f3.0, f4.0, f5.0, f6.0, f7.0))) (f5.1 (omega (arith, f0.0, f1.0, f2.0, f3.0, f4.0, f5.0, f6.0, f7.0))) (f6.1 (omega (arith, f0.0, f1.0, f2.0, f3.0, f4.0, f5.0, f6.0, f7.0))) (f7.1 (omega (arith, f0.0, f1.0, f2.0, f3.0, f4.0, f5.0, f6.0, f7.0)))

-- a test as a number
pub clear_number : (b q : ℕ) (z : Bool) → (z ≡ true → plain_byte (banned q) b ≡ true) → (bool_byte z ≤ 1) × (bool_byte z ≡ 1 → plain_byte (banned q) b ≡ true)
clear_number b q true f = (omega arith, λ e. f refl)
clear_number b q false f = (omega arith, λ e. absurd (omega arith))

pub test_number : (P : Type 0) (z : Bool) → (z ≡ true → P) → (bool_byte z ≤ 1) × (bool_byte z ≡ 1 → P)
test_number P true f = (omega arith, λ e. f refl)
test_number P false f = (omega arith, λ e. absurd (omega arith))
