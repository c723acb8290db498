-- Bytes that are a text, read character by character.
use mathlib.Core.Path.{◌≡◌, refl, sym, ap, subst, ◌∙◌}
use mathlib.Core.List.{List, [], ◌∷◌, ◌++◌}
use mathlib.Core.Bool.{true, false, ◌&&◌, not}
use Prim.Native.Nat.{ℕ, zero, suc, ◌+◌, ◌≤◌, ◌<◌}
use native.Mathlib.Numerals.{add-one}
use native.Mathlib.Omega.{arith}
use lib.ListN.{length, drop, get_or, length-drop, drop_of_length-le}
use lib.Seq.{drop-cons}
use lib.Dec.{leb}
use borrow.Author.Tests.{leb-true, le-leb, lt-leb}
use Rattle.exact.specs.Exact.{done, sound, done≢more, done≢bad}
use Rattle.exact.specs.Chain.{clash}
use Rattle.grammar.specs.Bytes.{Bytes, every}
use Rattle.grammar.specs.Character.{is_char, utf8}
use Rattle.grammar.specs.Value.{banned}
use Rattle.model.specs.Characters.{plain_byte, char_p}
use Rattle.model.specs.Tests.{and_left, and_right, and_both}
use Rattle.std.specs.Prelude.{Ok, Err}
use Rattle.scan.specs.declared.Stop.TheVariants.{Open, Bad}
use Rattle.pieces.specs.Says.{Piece, got, Known, Says}
use Rattle.pieces.specs.Parts.{Plain}
use Rattle.pieces.specs.declared.Character.{Character}
use Rattle.pieces.proofs.Answers.{moved}
use Rattle.spelling.specs.Characters.{spell, IsText, TextSays, no_ban}
use Rattle.spelling.proofs.DecidedLaws.{character_exact, first}
use Rattle.spells.specs.Along.{Along, Passes}

-- the character at a place
module _ (s : Bytes) (at : ℕ) (h : at < length s) where
  pub beyond_ascii : 127 < get_or s at 0 → {r : Piece} → Says (λ (c : ℕ). c) 1 s at r (char_p (banned 60) (drop at s)) → Says (λ (c : ℕ). c) 1 s at r (char_p no_ban (drop at s))
  unfolding char_p
  beyond_ascii k g = moved g (omega arith) (omega arith) (rw (drop-cons s at 0 h, lt-leb (get_or s at 0) 127 k))

  pub in_ascii : get_or s at 0 ≤ 127 → is_char (get_or s at 0) ≡ true → Says (λ (c : ℕ). c) 1 s at (got (get_or s at 0) (at + 1)) (char_p no_ban (drop at s))
  unfolding char_p plain_byte
  in_ascii k e = record { says = record { value = get_or s at 0; is = refl; far = omega arith; upto = omega arith; reads = rw (add-one, drop-cons s at 0 h, le-leb (get_or s at 0) 127 k, e) } }

  pub not_ascii : get_or s at 0 ≤ 127 → is_char (get_or s at 0) ≡ false → Says (λ (c : ℕ). c) 1 s at (Err (Bad at)) (char_p no_ban (drop at s))
  unfolding char_p plain_byte
  not_ascii k e = record { says = (omega arith, h, rw (drop-cons s at 0 h, le-leb (get_or s at 0) 127 k, e)) }

pub along_start : (v : Bytes) → Along v 0
along_start v = record { upto = omega arith; to = λ t. t; from = λ t. t }

left : (v : Bytes) (i : ℕ) → i < length v → 0 < length (drop i v)
left v i h = rw length-drop (omega arith)

pub along_next : {v : Bytes} {i c e : ℕ} → Along v i → i < length v → Known (λ (c : ℕ). c) 1 v i c e (char_p no_ban (drop i v)) → Along v e
along_next {v} {i} {c} {e} a h k = record { upto = k.upto; to = λ t. on (a.to t); from = λ t. a.from (back t) }
  where
    on : IsText (drop i v) → IsText (drop e v)
    on t =
        let (d, l, q, g) = first (left v i h) t in
        let r = k.reads in
        let z : drop e v ≡ spell l = cc in
        record { chars = l; good = g; spelt = z }

    back : IsText (drop e v) → IsText (drop i v)
    back t =
        let (w, q, r) = sound character_exact (drop i v) k.value (drop e v) k.reads in
        record {
          chars = k.value ∷ t.chars;
          good = and_both (is_char k.value) (every is_char t.chars) r.char t.good;
          spelt = q ∙ ap (λ (x : Bytes). x ++ drop e v) r.spelt ∙ ap (λ (x : Bytes). utf8 k.value ++ x) t.spelt;
        }

-- a printable character of ASCII
along_ascii : {v : Bytes} {i : ℕ} → Along v i → i < length v → plain_byte (banned 60) (get_or v i 0) ≡ true → Along v (i + 1)
unfolding plain_byte
along_ascii {v} {i} a h p =
    let b : ℕ = get_or v i 0 in
    let low = leb-true b 127 (and_left (leb b 127) (is_char b && not (banned 60 b)) p) in
    let char = and_left (is_char b) (not (banned 60 b)) (and_right (leb b 127) (is_char b && not (banned 60 b)) p) in
    along_next a h (in_ascii v i h low char).says

pub passes_none : (v : Bytes) (i : ℕ) → i ≤ length v → Passes v i i
passes_none v i h = record { from = omega arith; upto = h; along = λ a. a }

-- n of them
pub passes_on : {v : Bytes} {i : ℕ} (n j : ℕ) → Passes v i j → j + n ≤ length v → Plain 60 v j n → Passes v i (j + n)
passes_on {v} {i} zero j a h p = subst (λ (x : ℕ). Passes v i x) (omega arith) a
passes_on {v} {i} (suc n) j a h p =
    let z : j + 0 ≡ j = omega arith in
    let f : plain_byte (banned 60) (get_or v j 0) ≡ true = rw z at (p 0 (omega arith)) in
    let b : Passes v i (j + 1) = record { from = omega (arith, a.from); upto = omega arith; along = λ x. along_ascii (a.along x) (omega arith) f } in
    subst (λ (x : ℕ). Passes v i x) (omega arith) (passes_on n (j + 1) b (omega arith) (λ k l. let e : j + suc k ≡ j + 1 + k = omega arith in rw e at (p (suc k) (omega arith))))

pub along_end : {v : Bytes} {i : ℕ} → Along v i → length v ≤ i → TextSays v true
along_end {v} {i} a h = record { sound = λ e. a.from (record { chars = []; good = refl; spelt = drop_of_length-le v h }); complete = λ t. refl }

-- where no character stands there is no text
pub along_fail : {v : Bytes} {i : ℕ} → Along v i → i < length v → {r : Piece} → ((c : Character) → r ≡ Ok c → ⊥) → Says (λ (c : ℕ). c) 1 v i r (char_p no_ban (drop i v)) → TextSays v false
along_fail {v} {i} a h {r} f g = record { sound = λ e. clash (sym e); complete = λ t. absurd (go r f g (first (left v i h) (a.to t))) }
  where
    go : (r : Piece) → ((c : Character) → r ≡ Ok c → ⊥) → Says (λ (c : ℕ). c) 1 v i r (char_p no_ban (drop i v)) → (c : ℕ) × (l : List ℕ) × (char_p no_ban (drop i v) ≡ done c (spell l)) × (every is_char l ≡ true) → ⊥
    go (Ok c) f g x = f c refl
    go (Err Open) f g (c, l, q, k) = done≢more q g.says
    go (Err (Bad p)) f g (c, l, q, k) = done≢bad q g.says.2
