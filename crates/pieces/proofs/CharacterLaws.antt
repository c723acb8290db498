-- The steps of the reader of characters.
use mathlib.Core.Path.{◌≡◌, refl, sym, ◌∙◌}
use mathlib.Core.Logic.{◌⊎◌, ⊎_elim}
use mathlib.Core.Bool.{Bool, true, false, ◌&&◌, ◌||◌, not, cond}
use Prim.Native.Nat.{ℕ, ◌+◌, ◌-◌, ◌≤◌, ◌<◌}
use native.Mathlib.Omega.{arith}
use native.Mathlib.Numerals.{add-one}
use lib.ListN.{length, drop, get_or, drop_of_length-le}
use lib.Seq.{drop-cons}
use lib.Dec.{eqb, leb}
use borrow.Author.Tests.{le-leb, lt-leb, eq-eqb, ne_eqb}
use Rattle.scan.proofs.Classes.{ranged}
use Rattle.model.specs.Tests.{in_range, range_in}
use Rattle.model.specs.Characters.{next6, cont, second3, third3, second4, plain_byte, char_p}
use Rattle.model.proofs.Characters.{second3_ranges, third3_ranges, second4_ranges}
use Rattle.exact.specs.Exact.{Reader}
use Rattle.exact.specs.Chain.{ret_p, clash}
use Rattle.exact.specs.Byte.{on_p}
use Rattle.grammar.specs.Bytes.{Bytes, within}
use Rattle.grammar.specs.Glue.{is_glue}
use Rattle.grammar.specs.Character.{is_char}
use Rattle.grammar.specs.Value.{banned}
use Rattle.std.specs.Prelude.{Err}
use Rattle.scan.specs.declared.Stop.{Stop}
use Rattle.scan.specs.declared.Stop.TheVariants.{Open, Bad}
use Rattle.pieces.specs.Says.{Piece, got, Known, Says}
use Rattle.pieces.specs.Parts.{two_p, three_p, four_p}
use Rattle.pieces.proofs.Tests.{under, over}
use Rattle.pieces.proofs.Answers.{pass, moved, on_as, on_end, on_hit, on_miss, on_known, on_passed}

-- the class of plain bytes
pub plain_quote : (q b : ℕ) → q ≡ b → false ≡ plain_byte (banned q) b
unfolding plain_byte banned
plain_quote q b h = rw (eq-eqb q b h) (go (leb b 127) (is_char b) (eqb 60 b) (eqb 38 b))
  where
    go : (w x y z : Bool) → false ≡ w && (x && not (y || (z || true)))
    go true true true z = refl
    go true true false true = refl
    go true true false false = refl
    go true false y z = refl
    go false x y z = refl

pub plain_other : (q b : ℕ) → (q ≡ b → ⊥) → plain_byte (banned 60) b ≡ plain_byte (banned q) b
unfolding plain_byte banned
plain_other q b h = rw (ne_eqb q b h) (go (leb b 127) (is_char b) (eqb 60 b) (eqb 38 b))
  where
    go : (w x y z : Bool) → w && (x && not (y || (z || y))) ≡ w && (x && not (y || (z || false)))
    go w x true z = refl
    go w x false true = refl
    go w x false false = refl

-- two tests that agree
abbrev agree : Bool → Bool → Bool
agree true b = b
agree false true = false
agree false false = true

agree_eq : (a b : Bool) → true ≡ agree a b → a ≡ b
agree_eq true b h = h
agree_eq false true h = clash h
agree_eq false false h = refl

-- of the bytes below the space, the plain ones are glue
pub text_low : (b : ℕ) → b < 32 → is_glue b ≡ plain_byte (banned 60) b
unfolding is_glue plain_byte banned is_char within
text_low b h = agree_eq _ _ (ranged (λ b. agree (is_glue b) (plain_byte (banned 60) b)) true 0 32 tt b (omega arith) (omega arith))

-- one byte between two
module _ (lo hi : ℕ) (s : Bytes) (at : ℕ) where
  abbrev TailSays : Piece → Type 0
  TailSays r = Says (λ (b : ℕ). b) 1 s at r (on_p (within lo hi) (λ b. ret_p b) (drop at s))

  pub tail_open : length s ≤ at → TailSays (Err Open)
  tail_open h = record { says = on_end (within lo hi) (λ b. ret_p b) s at h }

  tail_low : at < length s → get_or s at 0 < lo → TailSays (Err (Bad at))
  tail_low h k = record { says = (omega arith, h, on_miss (within lo hi) (λ b. ret_p b) s at h (under lo hi _ k)) }

  tail_high : at < length s → hi < get_or s at 0 → TailSays (Err (Bad at))
  tail_high h k = record { says = (omega arith, h, on_miss (within lo hi) (λ b. ret_p b) s at h (over lo hi _ k)) }

  pub tail_out : at < length s → (get_or s at 0 < lo) ⊎ ((lo ≤ get_or s at 0) × (hi < get_or s at 0)) → TailSays (Err (Bad at))
  tail_out h k = ⊎_elim (tail_low h) (λ j. tail_high h j.1) k

  pub tail_in : (v : ℕ) → v ≡ get_or s at 0 → at < length s → lo ≤ get_or s at 0 → get_or s at 0 ≤ hi → TailSays (got v (at + 1))
  tail_in v e h j k = record { says = record { value = get_or s at 0; is = sym e; far = omega arith; upto = omega arith; reads = on_hit (within lo hi) (λ b. ret_p b) s at h (range_in lo hi _ j k) } }

-- a byte between two was read
pub in_tail : {lo hi : ℕ} {s : Bytes} {at c e : ℕ} → Known (λ (b : ℕ). b) 1 s at c e (on_p (within lo hi) (λ b. ret_p b) (drop at s)) → (lo ≤ c) × (c ≤ hi)
in_tail {lo} {hi} {s} {at} {c} {e} g = in_range lo hi c (on_passed (within lo hi) g)

module _ (lo hi : ℕ) (s : Bytes) (at : ℕ) where
  abbrev TailKnown : ℕ → ℕ → Type 0
  TailKnown c e = Known (λ (b : ℕ). b) 1 s at c e (on_p (within lo hi) (λ b. ret_p b) (drop at s))

-- two bytes
module _ (b : ℕ) (s : Bytes) (at : ℕ) where
  pub two_fails : {x : Stop} → TailSays 128 191 s at (Err x) → Says (λ (c : ℕ). c) 1 s at (Err x) (two_p b (drop at s))
  unfolding two_p
  two_fails g = pass g (omega arith) (λ c. ret_p (next6 (b - 192) c)) (on_as cont (within 128 191) (λ c. refl) (λ c. ret_p (next6 (b - 192) c)) (drop at s))

  pub two_read : {c e : ℕ} → TailKnown 128 191 s at c e → Says (λ (c : ℕ). c) 1 s at (got (next6 (b - 192) c) e) (two_p b (drop at s))
  unfolding two_p
  two_read {c} {e} g = record { says = record { value = next6 (b - 192) c; is = refl; far = g.far; upto = g.upto; reads = on_known (within 128 191) g cont (λ c. refl) (λ c. ret_p (next6 (b - 192) c)) } }

-- three bytes
module _ (b : ℕ) (low : 224 ≤ b) (high : b ≤ 239) (lo hi : ℕ) (is-lo : lo ≡ cond (eqb 224 b) 160 128) (is-hi : hi ≡ cond (eqb 237 b) 159 191) (s : Bytes) (at : ℕ) where
  abbrev rest3 : ℕ → Reader ℕ
  rest3 c = on_p (third3 (next6 (b - 224) c)) (λ d. ret_p (next6 (next6 (b - 224) c) d))

  test3 : (c : ℕ) → second3 b c ≡ within lo hi c
  test3 c = second3_ranges b c low high ∙ rw (is-lo, is-hi)

  pub three_second_fails : {x : Stop} → TailSays lo hi s at (Err x) → Says (λ (c : ℕ). c) 1 s at (Err x) (three_p b (drop at s))
  unfolding three_p
  three_second_fails g = pass g (omega arith) rest3 (on_as (second3 b) (within lo hi) test3 rest3 (drop at s))

  pub three_bounds : {c e : ℕ} → TailKnown lo hi s at c e → (128 ≤ c) × (c ≤ 191)
  three_bounds {c} {e} g = let z = in_tail g in go (eqb 224 b) (eqb 237 b) (rw is-lo at z.0) (rw is-hi at z.1)
    where
      go : (x y : Bool) → cond x 160 128 ≤ c → c ≤ cond y 159 191 → (128 ≤ c) × (c ≤ 191)
      go true true h k = (omega arith, omega arith)
      go true false h k = (omega arith, omega arith)
      go false true h k = (omega arith, omega arith)
      go false false h k = (omega arith, omega arith)

  module _ {c e : ℕ} (g : TailKnown lo hi s at c e) (t : ℕ) (is-t : t ≡ cond (eqb 239 b) (cond (eqb 191 c) 189 191) 191) where
    test3' : (d : ℕ) → third3 (next6 (b - 224) c) d ≡ within 128 t d
    test3' d = let z = three_bounds g in third3_ranges b c d low high z.0 z.1 ∙ rw is-t (go (eqb 239 b) (eqb 191 c))
      where
        go : (x y : Bool) → within 128 (cond (x && y) 189 191) d ≡ within 128 (cond x (cond y 189 191) 191) d
        go true y = refl
        go false y = refl

    first3 : three_p b (drop at s) ≡ rest3 c (drop e s)
    unfolding three_p
    first3 = on_known (within lo hi) g (second3 b) test3 rest3

    pub three_third_fails : {x : Stop} → TailSays 128 t s e (Err x) → Says (λ (c : ℕ). c) 1 s at (Err x) (three_p b (drop at s))
    three_third_fails h = let y = g.far in
        pass h (omega arith) (λ d. ret_p (next6 (next6 (b - 224) c) d)) (first3 ∙ on_as (third3 (next6 (b - 224) c)) (within 128 t) test3' (λ d. ret_p (next6 (next6 (b - 224) c) d)) (drop e s))

    pub three_read : {d f : ℕ} → TailKnown 128 t s e d f → Says (λ (c : ℕ). c) 1 s at (got (next6 (next6 (b - 224) c) d) f) (three_p b (drop at s))
    three_read {d} {f} h = let y = g.far in let z = h.far in
        record { says = record { value = next6 (next6 (b - 224) c) d; is = refl; far = omega arith; upto = h.upto; reads = first3 ∙ on_known (within 128 t) h (third3 (next6 (b - 224) c)) test3' (λ d. ret_p (next6 (next6 (b - 224) c) d)) } }

    pub three_third_bounds : {d f : ℕ} → TailKnown 128 t s e d f → (128 ≤ d) × (d ≤ 191)
    three_third_bounds {d} {f} h = let z = in_tail h in go (eqb 239 b) (eqb 191 c) z.0 (rw is-t at z.1)
      where
        go : (x y : Bool) → 128 ≤ d → d ≤ cond x (cond y 189 191) 191 → (128 ≤ d) × (d ≤ 191)
        go true true h k = (omega arith, omega arith)
        go true false h k = (omega arith, omega arith)
        go false y h k = (omega arith, omega arith)

-- four bytes
module _ (b : ℕ) (low : 240 ≤ b) (high : b ≤ 244) (lo hi : ℕ) (is-lo : lo ≡ cond (eqb 240 b) 144 128) (is-hi : hi ≡ cond (eqb 244 b) 143 191) (s : Bytes) (at : ℕ) where
  abbrev rest4'' : ℕ → ℕ → ℕ → Reader ℕ
  rest4'' c d e = ret_p (next6 (next6 (next6 (b - 240) c) d) e)

  abbrev rest4' : ℕ → ℕ → Reader ℕ
  rest4' c d = on_p cont (rest4'' c d)

  abbrev rest4 : ℕ → Reader ℕ
  rest4 c = on_p cont (rest4' c)

  test4 : (c : ℕ) → second4 b c ≡ within lo hi c
  test4 c = second4_ranges b c low high ∙ rw (is-lo, is-hi)

  pub four_second_fails : {x : Stop} → TailSays lo hi s at (Err x) → Says (λ (c : ℕ). c) 1 s at (Err x) (four_p b (drop at s))
  unfolding four_p
  four_second_fails g = pass g (omega arith) rest4 (on_as (second4 b) (within lo hi) test4 rest4 (drop at s))

  pub four_bounds : {c e : ℕ} → TailKnown lo hi s at c e → (128 ≤ c) × (c ≤ 191)
  four_bounds {c} {e} g = let z = in_tail g in go (eqb 240 b) (eqb 244 b) (rw is-lo at z.0) (rw is-hi at z.1)
    where
      go : (x y : Bool) → cond x 144 128 ≤ c → c ≤ cond y 143 191 → (128 ≤ c) × (c ≤ 191)
      go true true h k = (omega arith, omega arith)
      go true false h k = (omega arith, omega arith)
      go false true h k = (omega arith, omega arith)
      go false false h k = (omega arith, omega arith)

  module _ {c e : ℕ} (g : TailKnown lo hi s at c e) where
    first4 : four_p b (drop at s) ≡ rest4 c (drop e s)
    unfolding four_p
    first4 = on_known (within lo hi) g (second4 b) test4 rest4

    pub four_third_fails : {x : Stop} → TailSays 128 191 s e (Err x) → Says (λ (c : ℕ). c) 1 s at (Err x) (four_p b (drop at s))
    four_third_fails h = let y = g.far in pass h (omega arith) (rest4' c) (first4 ∙ on_as cont (within 128 191) (λ d. refl) (rest4' c) (drop e s))

    module _ {d f : ℕ} (h : TailKnown 128 191 s e d f) where
      second4-is : four_p b (drop at s) ≡ rest4' c d (drop f s)
      second4-is = first4 ∙ on_known (within 128 191) h cont (λ d. refl) (rest4' c)

      pub four-fourth-fails : {x : Stop} → TailSays 128 191 s f (Err x) → Says (λ (c : ℕ). c) 1 s at (Err x) (four_p b (drop at s))
      four-fourth-fails i = let y = g.far in let z = h.far in pass i (omega arith) (rest4'' c d) (second4-is ∙ on_as cont (within 128 191) (λ d. refl) (rest4'' c d) (drop f s))

      pub four-read : {i j : ℕ} → TailKnown 128 191 s f i j → Says (λ (c : ℕ). c) 1 s at (got (next6 (next6 (next6 (b - 240) c) d) i) j) (four_p b (drop at s))
      four-read {i} {j} m = let y = g.far in let z = h.far in let x = m.far in
          record { says = record { value = next6 (next6 (next6 (b - 240) c) d) i; is = refl; far = omega arith; upto = m.upto; reads = second4-is ∙ on_known (within 128 191) m cont (λ d. refl) (rest4'' c d) } }

-- any character
module _ (ban : ℕ → Bool) (s : Bytes) (at : ℕ) where
  abbrev CharSays : Piece → Type 0
  CharSays r = Says (λ (c : ℕ). c) 1 s at r (char_p ban (drop at s))

  pub char_open : length s ≤ at → CharSays (Err Open)
  unfolding char_p
  char_open h = record { says = rw (drop_of_length-le s h) }

  module _ (in_s : at < length s) where
    pub char_plain : (v : ℕ) → v ≡ get_or s at 0 → get_or s at 0 < 128 → plain_byte ban (get_or s at 0) ≡ true → CharSays (got v (at + 1))
    unfolding char_p
    char_plain v e h k = let h₀ : get_or s at 0 ≤ 127 = omega arith in record { says = record { value = get_or s at 0; is = sym e; far = omega arith; upto = omega arith; reads = rw (add-one, drop-cons s at 0 in_s, le-leb (get_or s at 0) 127 h₀, k) } }

    pub char_not : get_or s at 0 < 128 → plain_byte ban (get_or s at 0) ≡ false → CharSays (Err (Bad at))
    unfolding char_p
    char_not h k = let h₀ : get_or s at 0 ≤ 127 = omega arith in record { says = (omega arith, in_s, rw (drop-cons s at 0 in_s, le-leb (get_or s at 0) 127 h₀, k)) }

    pub char_two : {r : Piece} → 194 ≤ get_or s at 0 → get_or s at 0 < 224 → Says (λ (c : ℕ). c) 1 s (at + 1) r (two_p (get_or s at 0) (drop (at + 1) s)) → CharSays r
    unfolding char_p two_p
    char_two h k₀ g =
        let k : get_or s at 0 ≤ 223 = omega arith in
        let h₁ : 127 < get_or s at 0 = omega arith in
        moved g (omega arith) (omega arith) (rw (add-one, drop-cons s at 0 in_s, lt-leb (get_or s at 0) 127 h₁, le-leb (get_or s at 0) 223 k, range_in 194 223 (get_or s at 0) h k))

    pub char_three : {r : Piece} → 224 ≤ get_or s at 0 → get_or s at 0 < 240 → Says (λ (c : ℕ). c) 1 s (at + 1) r (three_p (get_or s at 0) (drop (at + 1) s)) → CharSays r
    unfolding char_p three_p
    char_three h k₀ g =
        let k : get_or s at 0 ≤ 239 = omega arith in
        let h₁ : 127 < get_or s at 0 = omega arith in
        moved g (omega arith) (omega arith) (rw (add-one, drop-cons s at 0 in_s, lt-leb (get_or s at 0) 127 h₁, lt-leb (get_or s at 0) 223 h, le-leb (get_or s at 0) 239 k, range_in 224 239 (get_or s at 0) h k))

    pub char_four : {r : Piece} → 240 ≤ get_or s at 0 → get_or s at 0 < 245 → Says (λ (c : ℕ). c) 1 s (at + 1) r (four_p (get_or s at 0) (drop (at + 1) s)) → CharSays r
    unfolding char_p four_p
    char_four h k₀ g =
        let k : get_or s at 0 ≤ 244 = omega arith in
        let h₁ : 127 < get_or s at 0 = omega arith in
        let h₂ : 223 < get_or s at 0 = omega arith in
        moved g (omega arith) (omega arith) (rw (add-one, drop-cons s at 0 in_s, lt-leb (get_or s at 0) 127 h₁, lt-leb (get_or s at 0) 223 h₂, lt-leb (get_or s at 0) 239 h, range_in 240 244 (get_or s at 0) h k))

    pub char_gap : 127 < get_or s at 0 → get_or s at 0 < 194 → CharSays (Err (Bad at))
    unfolding char_p
    char_gap h k =
        let h₁ : get_or s at 0 ≤ 223 = omega arith in
        record { says = (omega arith, in_s, rw (drop-cons s at 0 in_s, lt-leb (get_or s at 0) 127 h, le-leb (get_or s at 0) 223 h₁, under 194 223 (get_or s at 0) k)) }

    pub char_past : 244 < get_or s at 0 → CharSays (Err (Bad at))
    unfolding char_p
    char_past h =
        let h₁ : 127 < get_or s at 0 = omega arith in
        let h₂ : 223 < get_or s at 0 = omega arith in
        let h₃ : 239 < get_or s at 0 = omega arith in
        record { says = (omega arith, in_s, rw (drop-cons s at 0 in_s, lt-leb (get_or s at 0) 127 h₁, lt-leb (get_or s at 0) 223 h₂, lt-leb (get_or s at 0) 239 h₃, over 240 244 (get_or s at 0) h)) }
