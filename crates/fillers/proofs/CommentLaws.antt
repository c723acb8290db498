-- Characters and marks of a comment at places of a list.
use mathlib.Core.Path.{◌≡◌, refl, sym, ap, subst, ◌∙◌}
use mathlib.Core.List.{[], ◌∷◌}
use mathlib.Core.Logic.{◌⊎◌, inl, inr}
use mathlib.Core.Bool.{Bool, true, false}
use Prim.Native.Nat.{ℕ, zero, suc, ◌+◌, ◌-◌, ◌≤◌, ◌<◌}
use native.Mathlib.Omega.{arith}
use native.Mathlib.Numerals.{add-one}
use lib.ListN.{length, drop, get_or, drop_of_length-le}
use lib.Seq.{drop-cons}
use lib.Dec.{eqb, leb}
use borrow.Author.Tests.{ne_eqb}
use Rattle.exact.specs.Exact.{Out, done, more, bad}
use Rattle.exact.specs.Chain.{ret_p, and_then, clash}
use Rattle.exact.specs.Byte.{pick}
use Rattle.exact.specs.Loop.{again, stop, onward, loop_p}
use Rattle.grammar.specs.Bytes.{Bytes, text, within}
use Rattle.grammar.specs.Character.{is_char}
use Rattle.grammar.specs.Comment.{mark, dash_mark}
use Rattle.grammar.specs.Value.{banned}
use Rattle.model.specs.Tests.{and_left}
use Rattle.model.specs.Characters.{plain_byte, char_p}
use Rattle.model.specs.Comments.{is_dash, no_dash_p, MarkAcc, dash_p, mark_p, marks_p, comment_p}
use Rattle.model.proofs.Comments.{marks_eq}
use Rattle.std.specs.Prelude.{Ok, Err}
use Rattle.scan.specs.Pieces.{Step, Got as StepSays, byte_p, word_p, chained}
use Rattle.scan.specs.Unfold.{then_and}
use Rattle.scan.proofs.Chain.{then_done, pass as step-pass, last as step-last, moved as step-moved}
use Rattle.scan.specs.declared.Stop.{Stop}
use Rattle.scan.specs.declared.Stop.TheVariants.{Open}
use Rattle.pieces.specs.Says.{Piece, got, Known, Says}
use Rattle.pieces.proofs.Answers.{moved, stepped}
use Rattle.pieces.proofs.CharacterLaws.{plain_quote}
use Rattle.pieces.specs.Parts.{PlainRun}
use Rattle.fillers.specs.Fills.{PastDash}

-- a plain byte is a character that is no `-`; so are `<` and `&`
no_dash_test : (b : ℕ) → (b ≡ 60 → ⊥) → (b ≡ 38 → ⊥) → plain_byte (banned 45) b ≡ plain_byte is_dash b
unfolding plain_byte banned
no_dash_test b h k = rw (ne_eqb 60 b (λ e. h (sym e)), ne_eqb 38 b (λ e. k (sym e)))

same_char : (b : ℕ) (t : Bytes) → plain_byte (banned 45) b ≡ plain_byte is_dash b → char_p (banned 45) (b ∷ t) ≡ no_dash_p (b ∷ t)
unfolding no_dash_p char_p
same_char b t e = rw e

plain_is_no_lt : (q : ℕ) → plain_byte (banned q) 60 ≡ false
unfolding plain_byte banned is_char within
plain_is_no_lt q = refl

plain_is_no_amp : (q : ℕ) → plain_byte (banned q) 38 ≡ false
unfolding plain_byte banned is_char within
plain_is_no_amp q = refl

-- a byte that is plain is none that is not
pub plain_apart : (q c : ℕ) → plain_byte (banned q) c ≡ false → (b : ℕ) → plain_byte (banned q) b ≡ true → b ≡ c → ⊥
plain_apart q c f b h e = clash (sym h ∙ (rw (sym e) at f))

pub plain_no_lt : (q b : ℕ) → plain_byte (banned q) b ≡ true → b ≡ 60 → ⊥
plain_no_lt q b h = plain_apart q 60 (plain_is_no_lt q) b h

pub plain_no_amp : (q b : ℕ) → plain_byte (banned q) b ≡ true → b ≡ 38 → ⊥
plain_no_amp q b h = plain_apart q 38 (plain_is_no_amp q) b h

pub plain_no_stop : (q b : ℕ) → plain_byte (banned q) b ≡ true → b ≡ q → ⊥
plain_no_stop q b h e = clash (sym h ∙ sym (plain_quote q b (sym e)))

pub plain_low : (q b : ℕ) → plain_byte (banned q) b ≡ true → leb b 127 ≡ true
unfolding plain_byte
plain_low q b h = and_left (leb b 127) _ h

plain_char_lem : (b : ℕ) (t : Bytes) → plain_byte (banned 45) b ≡ true → no_dash_p (b ∷ t) ≡ done b t
unfolding no_dash_p char_p
plain_char_lem b t h = rw (plain_low 45 b h, sym (no_dash_test b (plain_no_lt 45 b h) (plain_no_amp 45 b h)) ∙ h)

lt_char : (t : Bytes) → no_dash_p (60 ∷ t) ≡ done 60 t
unfolding no_dash_p char_p plain_byte is_char within
lt_char t = refl

amp_char : (t : Bytes) → no_dash_p (38 ∷ t) ≡ done 38 t
unfolding no_dash_p char_p plain_byte is_char within
amp_char t = refl

no_dash_open : no_dash_p [] ≡ more
unfolding no_dash_p char_p
no_dash_open = refl

module _ (s : Bytes) (at : ℕ) where
  abbrev CharSays : Piece → Type 0
  CharSays r = Says (λ (c : ℕ). c) 1 s at r (no_dash_p (drop at s))

  pub char_open : length s ≤ at → CharSays (Err Open)
  char_open h = record { says = ap no_dash_p (drop_of_length-le s h) ∙ no_dash_open }

  module _ (h : at < length s) where
    char_lt : get_or s at 0 ≡ 60 → CharSays (got 60 (at + 1))
    char_lt e = record { says = record { value = 60; is = refl; far = omega arith; upto = omega arith; reads = rw (add-one, drop-cons s at 0 h, e) (lt_char (drop (suc at) s)) } }

    char_amp : get_or s at 0 ≡ 38 → CharSays (got 38 (at + 1))
    char_amp e = record { says = record { value = 38; is = refl; far = omega arith; upto = omega arith; reads = rw (add-one, drop-cons s at 0 h, e) (amp_char (drop (suc at) s)) } }

    pub char_own : (v : ℕ) → v ≡ get_or s at 0 → (get_or s at 0 ≡ 38) ⊎ (get_or s at 0 ≡ 60) → CharSays (got v (at + 1))
    char_own v e (inl k) = rw (e, k) (char_amp k)
    char_own v e (inr k) = rw (e, k) (char_lt k)

    pub char_other : (get_or s at 0 ≡ 60 → ⊥) → (get_or s at 0 ≡ 38 → ⊥) → {r : Piece} → Says (λ (c : ℕ). c) 1 s at r (char_p (banned 45) (drop at s)) → CharSays r
    char_other a b g = moved g (omega arith) (omega arith) (rw (drop-cons s at 0 h) (sym (same_char (get_or s at 0) (drop (suc at) s) (no_dash_test (get_or s at 0) a b))))

-- one turn
mark_end : (k : MarkAcc) → loop_p mark_p k [] ≡ more
unfolding mark_p
mark_end k = marks_eq k []

turned : (o : Out ℕ) (f : ℕ → MarkAcc) → and_then (and_then o (λ c. ret_p (again (f c)))) (onward (loop_p mark_p)) ≡ and_then o (λ c t. loop_p mark_p (f c) t)
turned (done c t) f = refl
turned more f = refl
turned (bad t) f = refl

mark_turn_lem : (k : MarkAcc) (b : ℕ) (t : Bytes) → (b ≡ 45 → ⊥) → loop_p mark_p k (b ∷ t) ≡ and_then (no_dash_p (b ∷ t)) (λ c u. loop_p mark_p (λ l. k (mark c ∷ l)) u)
unfolding mark_p
mark_turn_lem k b t e = marks_eq k (b ∷ t) ∙ rw (ne_eqb 45 b (λ z. e (sym z))) (turned (no_dash_p (b ∷ t)) (λ c l. k (mark c ∷ l)))

dash_open : (k : MarkAcc) → loop_p mark_p k (45 ∷ []) ≡ more
unfolding mark_p dash_p
dash_open k = marks_eq k (45 ∷ [])

dash_turn_lem : (k : MarkAcc) (b : ℕ) (t : Bytes) → (b ≡ 45 → ⊥) → loop_p mark_p k (45 ∷ b ∷ t) ≡ and_then (no_dash_p (b ∷ t)) (λ c u. loop_p mark_p (λ l. k (dash_mark c ∷ l)) u)
unfolding mark_p dash_p
dash_turn_lem k b t e = marks_eq k (45 ∷ b ∷ t) ∙ rw (ne_eqb 45 b (λ z. e (sym z))) (turned (no_dash_p (b ∷ t)) (λ c l. k (dash_mark c ∷ l)))

dash_shut : (k : MarkAcc) (t : Bytes) → loop_p mark_p k (45 ∷ 45 ∷ t) ≡ chained (byte_p 62 t) (λ _ u. done (k []) u)
unfolding mark_p dash_p byte_p chained
dash_shut k [] = marks_eq k (45 ∷ 45 ∷ [])
dash_shut k (b ∷ t) = marks_eq k (45 ∷ 45 ∷ b ∷ t) ∙ go (eqb 62 b)
  where
    go : (z : Bool) → and_then (pick z (done (stop (k [])) t) (bad (b ∷ t))) (onward (loop_p mark_p)) ≡ chained {A = ℕ} (pick z (done 0 t) (bad (b ∷ t))) (λ _ u. done (k []) u)
    go true = refl
    go false = refl

pub past_from : {s : Bytes} {i r : ℕ} → PastDash s i r → i ≤ r
past_from {s} {i} {r} d = go d.says
  where
    go : ((get_or s i 0 ≡ 45) × (r ≡ i + 1)) ⊎ ((get_or s i 0 ≡ 45 → ⊥) × (r ≡ i)) → i ≤ r
    go (inl (e, q)) = omega arith
    go (inr (e, q)) = omega arith

-- the marks at `at` go on at i
pub record InMarks (s : Bytes) (at i : ℕ) : Type 0 where
  pub k : MarkAcc
  pub from : at ≤ i
  pub same : marks_p (drop at s) ≡ loop_p mark_p k (drop i s)

mark_byte : (k : MarkAcc) (b : ℕ) (t : Bytes) → plain_byte (banned 45) b ≡ true → loop_p mark_p k (b ∷ t) ≡ loop_p mark_p (λ l. k (mark b ∷ l)) t
mark_byte k b t h = mark_turn_lem k b t (plain_no_stop 45 b h) ∙ ap (λ (o : Out ℕ). and_then o (λ c u. loop_p mark_p (λ l. k (mark c ∷ l)) u)) (plain_char_lem b t h)

mark_run : (s : Bytes) (n i : ℕ) (k : MarkAcc) → i + n ≤ length s → ((m : ℕ) → m < n → plain_byte (banned 45) (get_or s (i + m) 0) ≡ true) → (k' : MarkAcc) × (loop_p mark_p k (drop i s) ≡ loop_p mark_p k' (drop (i + n) s))
mark_run s zero i k h p = let z : i ≡ i + 0 = omega arith in (k, ap (λ (x : ℕ). loop_p mark_p k (drop x s)) z)
mark_run s (suc n) i k h p =
    let z : i + 0 ≡ i = omega arith in
    let f : plain_byte (banned 45) (get_or s i 0) ≡ true = rw z at (p 0 (omega arith)) in
    let b = get_or s i 0 in
    let y : suc i + n ≡ i + suc n = omega arith in
    let (k', e) = mark_run s n (suc i) (λ l. k (mark b ∷ l)) (omega arith) (λ m l. let x : i + suc m ≡ suc i + m = omega arith in rw x at (p (suc m) (omega arith))) in
    let a : loop_p mark_p k (drop i s) ≡ loop_p mark_p (λ l. k (mark b ∷ l)) (drop (suc i) s) = ap (loop_p mark_p k) (drop-cons s i 0 (omega arith)) ∙ mark_byte k b (drop (suc i) s) f in
    (k', a ∙ e ∙ ap (λ (x : ℕ). loop_p mark_p k' (drop x s)) y)

module _ (s : Bytes) (at : ℕ) where
  abbrev MarksSay : Step → Type 0
  MarksSay r = StepSays 1 s at r (marks_p (drop at s))

  pub marks_start : InMarks s at at
  unfolding marks_p
  marks_start = record { k = λ l. l; from = omega arith; same = refl }

  module _ (i : ℕ) (w : InMarks s at i) where
    pub marks_end : length s ≤ i → MarksSay (Err Open)
    marks_end h = record { says = w.same ∙ ap (loop_p mark_p w.k) (drop_of_length-le s h) ∙ mark_end w.k }

    pub marks_ran : (j : ℕ) → PlainRun 45 s i j → InMarks s at j
    marks_ran j x =
        let a = x.from in
        let u = x.upto in
        let n : i + (j - i) ≡ j = omega arith in
        let (k', e) = mark_run s (j - i) i w.k (omega arith) (λ m l. x.plain m (omega arith)) in
        let f = w.from in
        record { k = k'; from = omega arith; same = w.same ∙ e ∙ ap (λ (y : ℕ). loop_p mark_p k' (drop y s)) n }

    -- at a byte, and behind a `-` that stands there
    module _ (h : i < length s) (c : ℕ) (d : PastDash s i c) where
      pub marks-cut : length s ≤ c → MarksSay (Err Open)
      marks-cut l = go d.says
        where
          go : ((get_or s i 0 ≡ 45) × (c ≡ i + 1)) ⊎ ((get_or s i 0 ≡ 45 → ⊥) × (c ≡ i)) → MarksSay (Err Open)
          go (inl (e, q)) =
              let y : length s ≤ suc i = omega arith in
              let z : drop i s ≡ 45 ∷ [] = drop-cons s i 0 h ∙ rw (e, drop_of_length-le s y) in
              record { says = w.same ∙ ap (loop_p mark_p w.k) z ∙ dash_open w.k }
          go (inr (e, q)) = absurd (omega arith)

      module _ (l : c < length s) where
        pub marks-shut : get_or s c 0 ≡ 45 → {r : Step} → StepSays 1 s (c + 1) r (byte_p 62 (drop (c + 1) s)) → MarksSay r
        marks-shut f {r} g = go d.says
          where
            go : ((get_or s i 0 ≡ 45) × (c ≡ i + 1)) ⊎ ((get_or s i 0 ≡ 45 → ⊥) × (c ≡ i)) → MarksSay r
            go (inl (e, q)) =
                let x : suc i ≡ c = omega arith in
                let y : c + 1 ≡ suc c = omega arith in
                let z : drop i s ≡ 45 ∷ 45 ∷ drop (c + 1) s = drop-cons s i 0 h ∙ rw (e, x, drop-cons s c 0 l, f, y) in
                let a = w.from in
                step-last g 1 at (omega arith) (omega arith) (λ _. w.k []) (w.same ∙ ap (loop_p mark_p w.k) z ∙ dash_shut w.k (drop (c + 1) s))
            go (inr (e, q)) = absurd (e (subst (λ (n : ℕ). get_or s n 0 ≡ 45) q f))

        module _ (f : get_or s c 0 ≡ 45 → ⊥) where
          taken : (K : ℕ → MarkAcc) × (marks_p (drop at s) ≡ and_then (no_dash_p (drop c s)) (λ c u. loop_p mark_p (K c) u))
          taken = go d.says
            where
              go : ((get_or s i 0 ≡ 45) × (c ≡ i + 1)) ⊎ ((get_or s i 0 ≡ 45 → ⊥) × (c ≡ i)) → (K : ℕ → MarkAcc) × (marks_p (drop at s) ≡ and_then (no_dash_p (drop c s)) (λ c u. loop_p mark_p (K c) u))
              go (inl (e, q)) =
                  let x : suc i ≡ c = omega arith in
                  let z : drop i s ≡ 45 ∷ drop c s = drop-cons s i 0 h ∙ rw (e, x) in
                  let y : loop_p mark_p w.k (45 ∷ drop c s) ≡ and_then (no_dash_p (drop c s)) (λ c u. loop_p mark_p (λ l. w.k (dash_mark c ∷ l)) u) = rw (drop-cons s c 0 l) (dash_turn_lem w.k (get_or s c 0) (drop (suc c) s) f) in
                  ((λ c l. w.k (dash_mark c ∷ l)), w.same ∙ ap (loop_p mark_p w.k) z ∙ y)
              go (inr (e, q)) =
                  let y : loop_p mark_p w.k (drop c s) ≡ and_then (no_dash_p (drop c s)) (λ c u. loop_p mark_p (λ l. w.k (mark c ∷ l)) u) = rw (drop-cons s c 0 l) (mark_turn_lem w.k (get_or s c 0) (drop (suc c) s) f) in
                  ((λ c l. w.k (mark c ∷ l)), w.same ∙ ap (λ (n : ℕ). loop_p mark_p w.k (drop n s)) (sym q) ∙ y)

          pub marks-fail : {x : Stop} → Says (λ (c : ℕ). c) 1 s c (Err x) (no_dash_p (drop c s)) → MarksSay (Err x)
          marks-fail g =
              let a = w.from in
              let b = past_from d in
              stepped g (omega arith) (λ c u. loop_p mark_p (taken.0 c) u) taken.1

          pub marks-next : {v e : ℕ} → Known (λ (c : ℕ). c) 1 s c v e (no_dash_p (drop c s)) → InMarks s at e
          marks-next g =
              let a = w.from in
              let b = past_from d in
              let y = g.far in
              let x = g.reads in
              record { k = taken.0 g.value; from = omega arith; same = taken.1 ∙ ap (λ (o : Out ℕ). and_then o (λ c u. loop_p mark_p (taken.0 c) u)) x }

-- a comment
module _ (s : Bytes) (at : ℕ) where
  comment_bind : comment_p (drop at s) ≡ chained (word_p (text "--") (drop at s)) (λ _ u. marks_p u)
  unfolding comment_p word_p
  comment_bind = then_and _ _

  pub comment_fails : {n : ℕ} {x : Stop} → StepSays n s at (Err x) (word_p (text "--") (drop at s)) → StepSays 1 s at (Err x) (comment_p (drop at s))
  comment_fails g = step-pass g 1 at (omega arith) _ comment_bind

  pub comment_read : {n a : ℕ} → StepSays n s at (Ok a) (word_p (text "--") (drop at s)) → {r : Step} → StepSays 1 s a r (marks_p (drop a s)) → StepSays 1 s at r (comment_p (drop at s))
  comment_read g h = step-moved h 1 at (let z = g.says.1 in omega arith) (let z = g.says.1 in omega arith) (comment_bind ∙ then_done _ g.says.3)
