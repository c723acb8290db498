-- Plain values: characters of one byte that read as they stand.
use Rattle.std.specs.Prelude.{◌≡◌, refl, List, [], ◌∷◌, ◌++◌, Bool, true, false, ◌&&◌, not, ℕ, ◌≤◌, eqb, leb}
use Rattle.std.proofs.Common.{ap, ◌∙◌, arith, leb-true, le-leb, ne_eqb}
use Prim.Native.Char.{code}
use Rattle.std.proofs.lemmas.Bool.{not-true}
use Rattle.model.specs.Tests.{and_left, and_right}
use Rattle.grammar.specs.Bytes.{Bytes, within}
use Rattle.grammar.specs.Character.{is_char, utf8}
use Rattle.grammar.specs.Value.{Item, raw, spell_value, banned, GoodItem, good_raw, good_last, good_item, feeds, read_item, read_value}
use Rattle.value.proofs.AsRead.{reads_itself}
use Rattle.value.specs.Loose.{BRACKET, Loose}
use Rattle.decodes.specs.Plain.{plain_char, plain}

record PlainView (b : ℕ) : Type 0 where
  from : 0x20 ≤ b
  upto : b ≤ 0x7F
  no_amp : eqb (code "&") b ≡ false
  no_bracket : eqb (code "<") b ≡ false

plain_view : (b : ℕ) → plain_char b ≡ true → PlainView b
unfolding plain_char within
plain_view b h =
    let r = and_left (leb 0x20 b && leb b 0x7F) (not (eqb (code "&") b) && not (eqb (code "<") b)) h in
    let k = and_right (leb 0x20 b && leb b 0x7F) (not (eqb (code "&") b) && not (eqb (code "<") b)) h in
    record {
      from = leb-true 0x20 b (and_left (leb 0x20 b) (leb b 0x7F) r);
      upto = leb-true b 0x7F (and_right (leb 0x20 b) (leb b 0x7F) r);
      no_amp = not-true (eqb (code "&") b) (and_left (not (eqb (code "&") b)) (not (eqb (code "<") b)) k);
      no_bracket = not-true (eqb (code "<") b) (and_right (not (eqb (code "&") b)) (not (eqb (code "<") b)) k);
    }

one_byte : {b : ℕ} → PlainView b → utf8 b ≡ b ∷ []
unfolding utf8
one_byte {b} v = rw (le-leb b 0x7F v.upto)

good_plain : {b : ℕ} → PlainView b → GoodItem BRACKET (raw b)
unfolding is_char within banned
good_plain {b} v = let f = v.from in let u = v.upto in let a = v.no_amp in let k = v.no_bracket in
    good_raw {c = b} (rw (ne_eqb 9 b (λ e. omega arith), ne_eqb 10 b (λ e. omega arith), ne_eqb 13 b (λ e. omega arith), le-leb 0x20 b f, le-leb b 0xD7FF (omega arith))) (rw (k, a))

reads_plain : {b : ℕ} → PlainView b → (lf : Bool) → read_item (raw b) lf ≡ b ∷ []
reads_plain {b} v lf = let f = v.from in reads_itself b lf (ne_eqb (code "\t") b (λ e. omega arith), ne_eqb (code "\n") b (λ e. omega arith), ne_eqb (code "\r") b (λ e. omega arith)) ∙ one_byte v

-- a plain value is items, and reads as it stands
pub plain_reads : (w : Bytes) → plain w ≡ true → (l : List Item) × Loose w l × (read_value l ≡ w)
unfolding read_value
plain_reads [] h = ([], record { good = good_last; spelt = refl }, refl)
plain_reads (b ∷ w) h =
    let v = plain_view b (and_left (plain_char b) (plain w) h) in
    let (l, x, e) = plain_reads w (and_right (plain_char b) (plain w) h) in
    let s : b ∷ w ≡ utf8 b ++ spell_value l = rw (one_byte v) (ap (λ (y : Bytes). b ∷ y) x.spelt) in
    let r : read_item (raw b) (feeds l) ++ read_value l ≡ b ∷ w = rw (reads_plain v (feeds l)) (ap (λ (y : Bytes). b ∷ y) e) in
    (raw b ∷ l, record { good = good_item (good_plain v) x.good; spelt = s }, r)
