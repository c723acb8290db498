-- The test `is_text` decides which bytes are a text.
use mathlib.Core.Path.{◌≡◌, refl, sym, ap, ◌∙◌}
use mathlib.Core.List.{List, [], ◌∷◌}
use mathlib.Core.Bool.{Bool, true, false}
use Prim.Native.Nat.{ℕ, zero, suc, ◌+◌, ◌≤◌, ◌<◌}
use native.Mathlib.Omega.{arith}
use lib.ListN.{length, length-append}
use Rattle.exact.specs.Exact.{Out, done, more, bad, Exact, sound, done≢more, done≢bad}
use Rattle.exact.specs.Chain.{clash}
use Rattle.grammar.specs.Bytes.{Bytes, within, every}
use Rattle.grammar.specs.Character.{is_char, utf8}
use Rattle.model.specs.Characters.{IsRaw, plain_byte, char_p}
use Rattle.model.proofs.Characters.{char_exact}
use Rattle.model.specs.Tests.{and_left, and_right, and_both}
use Rattle.spelling.specs.Characters.{spell, IsText, TextSays, no_ban}
use Rattle.spelling.specs.Decided.{onward, text_from, is_text}

pub character_exact : Exact (IsRaw no_ban) (char_p no_ban)
unfolding plain_byte is_char within
character_exact = char_exact no_ban (λ c h. refl) 65 refl

-- a text with a byte begins with a character
pub first : {w : Bytes} → 0 < length w → IsText w → (c : ℕ) × (l : List ℕ) × (char_p no_ban w ≡ done c (spell l)) × (every is_char l ≡ true)
first {w} h t = go t.chars t.good t.spelt
  where
    go : (l : List ℕ) → every is_char l ≡ true → w ≡ spell l → (c : ℕ) × (l : List ℕ) × (char_p no_ban w ≡ done c (spell l)) × (every is_char l ≡ true)
    go [] g e = absurd (let z = ap length e in omega arith)
    go (c ∷ l) g e = (c, l, ap (char_p no_ban) e ∙ character_exact.comp (utf8 c) c (spell l) (record { char = and_left (is_char c) (every is_char l) g; free = refl; spelt = refl }), and_right (is_char c) (every is_char l) g)

-- nothing is a text
empty_text : TextSays [] true
empty_text = record { sound = λ e. record { chars = []; good = refl; spelt = refl }; complete = λ t. refl }

-- a character has a byte
some_byte_lem : (w : Bytes) {c : ℕ} → IsRaw no_ban w c → 0 < length w
unfolding char_p
some_byte_lem [] {c} r = absurd (done≢more (character_exact.comp [] c [] r) refl)
some_byte_lem (b ∷ w) {c} r = omega arith

-- what is said behind a character is said of the whole
more_text : {v rest : Bytes} {c : ℕ} {z : Bool} → char_p no_ban v ≡ done c rest → TextSays rest z → TextSays v z
more_text {v} {rest} {c} {z} e s = record { sound = λ h. back (s.sound h); complete = λ t. s.complete (on t) }
  where
    back : IsText rest → IsText v
    back t =
        let (w, q, r) = sound character_exact v c rest e in
        record { chars = c ∷ t.chars; good = and_both (is_char c) (every is_char t.chars) r.char t.good; spelt = q ∙ rw (r.spelt, t.spelt) }

    on : IsText v → IsText rest
    on t =
        let (w, q, r) = sound character_exact v c rest e in
        let k = some_byte_lem w r in
        let n : length v ≡ length w + length rest = ap length q ∙ length-append w rest in
        let (d, l, f, g) = first (omega arith) t in
        record { chars = l; good = g; spelt = cc }

-- no character stands in front
no_text : {v : Bytes} → ((c : ℕ) (rest : Bytes) → char_p no_ban v ≡ done c rest → ⊥) → 0 < length v → TextSays v false
no_text {v} n h = record { sound = λ e. clash (sym e); complete = λ t. absurd (let (c, l, q, g) = first h t in n c (spell l) q) }

from_decided : (n : ℕ) (v : Bytes) → length v ≤ n → TextSays v (text_from n v)
unfolding text_from
from_decided zero [] h = empty_text
from_decided zero (b ∷ v) h = absurd (omega arith)
from_decided (suc n) [] h = empty_text
from_decided (suc n) (b ∷ v) h = go (char_p no_ban (b ∷ v)) refl (λ rest k. from_decided n rest k)
  where
    go : (o : Out ℕ) → char_p no_ban (b ∷ v) ≡ o → ((rest : Bytes) → length rest ≤ n → TextSays rest (text_from n rest)) → TextSays (b ∷ v) (onward o (λ rest. text_from n rest))
    go (done c rest) e f =
        let (w, q, r) = sound character_exact (b ∷ v) c rest e in
        let k = some_byte_lem w r in
        let m : length (b ∷ v) ≡ length w + length rest = ap length q ∙ length-append w rest in
        more_text e (f rest (omega arith))
    go more e f = no_text (λ c rest q. done≢more q e) (omega arith)
    go (bad r) e f = no_text (λ c rest q. done≢bad q e) (omega arith)

pub text_decided : (v : Bytes) → TextSays v (is_text v)
unfolding is_text
text_decided v = from_decided (length v) v (omega arith)
