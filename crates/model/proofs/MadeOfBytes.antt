-- Every message is made of bytes: each part that the definitions spell is.
use Rattle.std.specs.Prelude.{◌≡◌, refl, List, [], ◌∷◌, ◌++◌, ◌⊎◌, Bool, true, false, ◌||◌, cond, ℕ, ◌+◌, ◌/◌, ◌%◌, ◌≤◌, eqb, leb}
use Rattle.std.proofs.Common.{sym, subst, inl, inr, arith, leb-true, le-leb}
use Rattle.exact.specs.Byte.{eqb-true}
use Rattle.exact.specs.Chain.{clash}
use Rattle.grammar.specs.Bytes.{Bytes, text, within, digit, every, ByteString, same, fits, either}
use Rattle.grammar.specs.Glue.{is_glue, Glue}
use Rattle.grammar.specs.Name.{letter, name_start, name_byte, shaped, Name}
use Rattle.grammar.specs.Character.{is_char, utf8}
use Rattle.grammar.specs.Reference.{Named, amp, lt, gt, quot, apos, Reference, named, spell_reference, hex_digit, GoodReference, good_named, good_decimal, good_hexadecimal}
use Rattle.grammar.specs.Value.{Item, spell_item, spell_value, is_quote, GoodItem, good_raw, good_ref, GoodValue, good_last, good_item}
use Rattle.grammar.specs.Attribute.{Attribute, spell_attribute, spell_attributes, GoodAttribute, GoodEach, good_none, good_each}
use Rattle.grammar.specs.Comment.{Mark, spell_marks, good_mark, good_dash, GoodMarks, marks_end, marks_then}
use Rattle.grammar.specs.Filler.{Site, Bit, Filler, spell_bit, spell_filler, GoodBit, good_glue, good_text, good_comment, GoodBits, bits_end, bits_then}
use Rattle.grammar.specs.Tree.{Tree}
use Rattle.grammar.specs.Element.{Tag, Element, Content, spell_tag, spell_end, spell_element, spell_content, GoodTag, GoodElement, good_empty, good_full, GoodContent, good_bare, good_child}
use Rattle.grammar.specs.Declaration.{Setting, Optional, Declaration, spell_setting, spell_optional, spell_declaration, is_version, is_encoding, is_standalone, GoodSetting, GoodOptional, good_absent, good_present, GoodDeclaration}
use Rattle.grammar.specs.Message.{Root, Layout, hermes, spell_root, spell_layout, GoodRoot, GoodLayout, good_plain, good_declared, Message}
use Rattle.model.proofs.Characters.{char_max, utf8_1}
use Rattle.model.specs.Tests.{and_left, and_right, and_both, or_cases, in_range, same_true, every_append}
use Rattle.model.proofs.Values.{quote_is}
use Rattle.model.proofs.Glue.{glue_low}

abbrev byte : ℕ → Bool
byte b = leb b 255

is : (b : ℕ) → b ≤ 255 → byte b ≡ true
is b h = le-leb b 255 h

each : (t : ℕ → Bool) → ((b : ℕ) → t b ≡ true → b ≤ 255) → (w : Bytes) → every t w ≡ true → ByteString w
each t f [] h = refl
each t f (b ∷ w) h = and_both (byte b) (every byte w) (is b (f b (and_left (t b) (every t w) h))) (each t f w (and_right (t b) (every t w) h))

both : (u v : Bytes) → ByteString u → ByteString v → ByteString (u ++ v)
both u v h k = every_append byte u v h k

utf8_bytes : (c : ℕ) → is_char c ≡ true → ByteString (utf8 c)
unfolding utf8
utf8_bytes c h = at1 (leb c 0x7F) refl
  where
    m : c ≤ 1114111
    m = char_max c h

    at3 : (z : Bool) → leb c 0xFFFF ≡ z → ByteString (cond z ((0xE0 + c / 64 / 64) ∷ (0x80 + c / 64 % 64) ∷ (0x80 + c % 64) ∷ []) ((0xF0 + c / 64 / 64 / 64) ∷ (0x80 + c / 64 / 64 % 64) ∷ (0x80 + c / 64 % 64) ∷ (0x80 + c % 64) ∷ []))
    at3 true e = let k = leb-true c 0xFFFF e in rw (is (0xE0 + c / 64 / 64) (omega arith), is (0x80 + c / 64 % 64) (omega arith), is (0x80 + c % 64) (omega arith))
    at3 false e = rw (is (0xF0 + c / 64 / 64 / 64) (omega (arith, m)), is (0x80 + c / 64 / 64 % 64) (omega arith), is (0x80 + c / 64 % 64) (omega arith), is (0x80 + c % 64) (omega arith))

    at2 : (z : Bool) → leb c 0x7FF ≡ z → ByteString (cond z ((0xC0 + c / 64) ∷ (0x80 + c % 64) ∷ []) (cond (leb c 0xFFFF) ((0xE0 + c / 64 / 64) ∷ (0x80 + c / 64 % 64) ∷ (0x80 + c % 64) ∷ []) ((0xF0 + c / 64 / 64 / 64) ∷ (0x80 + c / 64 / 64 % 64) ∷ (0x80 + c / 64 % 64) ∷ (0x80 + c % 64) ∷ [])))
    at2 true e = let k = leb-true c 0x7FF e in rw (is (0xC0 + c / 64) (omega arith), is (0x80 + c % 64) (omega arith))
    at2 false e = at3 (leb c 0xFFFF) refl

    at1 : (z : Bool) → leb c 0x7F ≡ z → ByteString (cond z (c ∷ []) (cond (leb c 0x7FF) ((0xC0 + c / 64) ∷ (0x80 + c % 64) ∷ []) (cond (leb c 0xFFFF) ((0xE0 + c / 64 / 64) ∷ (0x80 + c / 64 % 64) ∷ (0x80 + c % 64) ∷ []) ((0xF0 + c / 64 / 64 / 64) ∷ (0x80 + c / 64 / 64 % 64) ∷ (0x80 + c / 64 % 64) ∷ (0x80 + c % 64) ∷ []))))
    at1 true e = let k = leb-true c 0x7F e in rw (is c (omega arith))
    at1 false e = at2 (leb c 0x7FF) refl

-- byte classes
glue_small : (b : ℕ) → is_glue b ≡ true → b ≤ 255
glue_small b h = let k = glue_low b h in omega arith

digit_small : (b : ℕ) → digit b ≡ true → b ≤ 255
unfolding digit
digit_small b h = let z = in_range _ _ _ h in let k = z.1 in omega arith

letter_small : (b : ℕ) → letter b ≡ true → b ≤ 255
unfolding letter
letter_small b h = go (or_cases _ _ h)
  where
    go : (within 65 90 b ≡ true) ⊎ (within 97 122 b ≡ true) → b ≤ 255
    go (inl e) = let k = (in_range _ _ _ e).1 in omega arith
    go (inr e) = let k = (in_range _ _ _ e).1 in omega arith

start_small : (b : ℕ) → name_start b ≡ true → b ≤ 255
unfolding name_start
start_small b h = go (or_cases _ _ h)
  where
    go : (letter b ≡ true) ⊎ (eqb 95 b ≡ true) → b ≤ 255
    go (inl e) = letter_small b e
    go (inr e) = let q = eqb-true 95 b e in omega arith

name_small : (b : ℕ) → name_byte b ≡ true → b ≤ 255
unfolding name_byte
name_small b h = go (or_cases _ _ h)
  where
    go4 : (eqb 46 b ≡ true) ⊎ (eqb 58 b ≡ true) → b ≤ 255
    go4 (inl e) = let q = eqb-true 46 b e in omega arith
    go4 (inr e) = let q = eqb-true 58 b e in omega arith

    go3 : (eqb 45 b ≡ true) ⊎ (eqb 46 b || eqb 58 b ≡ true) → b ≤ 255
    go3 (inl e) = let q = eqb-true 45 b e in omega arith
    go3 (inr e) = go4 (or_cases _ _ e)

    go2 : (digit b ≡ true) ⊎ (eqb 45 b || (eqb 46 b || eqb 58 b) ≡ true) → b ≤ 255
    go2 (inl e) = digit_small b e
    go2 (inr e) = go3 (or_cases _ _ e)

    go : (name_start b ≡ true) ⊎ (digit b || (eqb 45 b || (eqb 46 b || eqb 58 b)) ≡ true) → b ≤ 255
    go (inl e) = start_small b e
    go (inr e) = go2 (or_cases _ _ e)

hex_small : (b : ℕ) → hex_digit b ≡ true → b ≤ 255
unfolding hex_digit
hex_small b h = go (or_cases _ _ h)
  where
    go2 : (within 65 70 b ≡ true) ⊎ (within 97 102 b ≡ true) → b ≤ 255
    go2 (inl e) = let k = (in_range _ _ _ e).1 in omega arith
    go2 (inr e) = let k = (in_range _ _ _ e).1 in omega arith

    go : (digit b ≡ true) ⊎ (within 65 70 b || within 97 102 b ≡ true) → b ≤ 255
    go (inl e) = digit_small b e
    go (inr e) = go2 (or_cases _ _ e)

-- parts
of_glue : (g : Bytes) → Glue g → ByteString g
of_glue g h = each is_glue glue_small g h

of_name : {n : Bytes} → Name n → ByteString n
of_name {n} r = go n r.shape
  where
    go : (n : Bytes) → shaped n ≡ true → ByteString n
    go [] h = refl
    go (b ∷ n) h = and_both (byte b) (every byte n) (is b (start_small b (and_left (name_start b) (every name_byte n) h))) (each name_byte name_small n (and_right (name_start b) (every name_byte n) h))

of_quote : (q : ℕ) → is_quote q ≡ true → byte q ≡ true
of_quote q h = go (quote_is q h)
  where
    go : (q ≡ 34) ⊎ (q ≡ 39) → byte q ≡ true
    go (inl e) = is q (omega arith)
    go (inr e) = is q (omega arith)

of_reference : {r : Reference} → GoodReference r → ByteString (spell_reference r)
of_reference (good_named {n}) = go n
  where
    go : (n : Named) → ByteString (spell_reference (named n))
    go amp = refl
    go lt = refl
    go gt = refl
    go quot = refl
    go apos = refl
of_reference (good_decimal {n} d) = both n (text ";") (each digit digit_small n d.digits) refl
of_reference (good_hexadecimal {n} d) = both n (text ";") (each hex_digit hex_small n d.digits) refl

of_item : {q : ℕ} {i : Item} → GoodItem q i → ByteString (spell_item i)
of_item (good_raw {c} h k) = utf8_bytes c h
of_item (good_ref g) = of_reference g

of_value : {q : ℕ} {l : List Item} → GoodValue q l → ByteString (spell_value l)
of_value good_last = refl
of_value (good_item {i} {l} g r) = both (spell_item i) (spell_value l) (of_item g) (of_value r)

of_shut : (w : Bytes) (q : ℕ) → ByteString w → byte q ≡ true → ByteString (q ∷ (w ++ q ∷ []))
of_shut w q h k = and_both (byte q) (every byte (w ++ q ∷ [])) k (both w (q ∷ []) h (and_both (byte q) true k refl))

of_attribute : {a : Attribute} → GoodAttribute a → ByteString (spell_attribute a)
of_attribute {a} g =
    both a.before _ (of_glue a.before g.before)
    (both a.name _ (of_name g.name) (both a.mid _ (of_glue a.mid g.mid) (both a.after _ (of_glue a.after g.after) (of_shut (spell_value a.value) a.quote (of_value g.value) (of_quote a.quote g.quote)))))

of_attributes : {l : List Attribute} → GoodEach l → ByteString (spell_attributes l)
of_attributes good_none = refl
of_attributes (good_each {a} {l} g r) = both (spell_attribute a) (spell_attributes l) (of_attribute g) (of_attributes r)

of_marks : {l : List Mark} → GoodMarks l → ByteString (spell_marks l)
of_marks marks_end = refl
of_marks (marks_then {l = l} (good_mark {c} h d) r) = both (utf8 c) (spell_marks l) (utf8_bytes c h) (of_marks r)
of_marks (marks_then {l = l} (good_dash {c} h d) r) = both (utf8 c) (spell_marks l) (utf8_bytes c h) (of_marks r)

glue_bytes : (c : ℕ) → is_glue c ≡ true → ByteString (utf8 c)
glue_bytes c h = let k = glue_low c h in subst ByteString (sym (utf8_1 c (omega arith))) (and_both (byte c) true (is c (omega arith)) refl)

of_bit : {s : Site} {n : ℕ} {b : Bit} → GoodBit s n b → ByteString (spell_bit b)
of_bit (good_glue {c = c} h) = glue_bytes c h
of_bit (good_text g) = of_item g
of_bit (good_comment {l = l} g) = both (spell_marks l) (text "-->") (of_marks g) refl

of_filler : {s : Site} {n : ℕ} {f : Filler} → GoodBits s n f → ByteString (spell_filler f)
of_filler bits_end = refl
of_filler (bits_then {b = b} {f = f} g r) = both (spell_bit b) (spell_filler f) (of_bit g) (of_filler r)

of_end : (n g : Bytes) → ByteString n → Glue g → ByteString (spell_end n g)
of_end n g h k = both n _ h (both g (text ">") (of_glue g k) refl)

of_tag : {t : Tag} (w : Bytes) → GoodTag t → ByteString w → ByteString (spell_tag t w)
of_tag {t} w g h = both t.name _ (of_name g.name) (both (spell_attributes t.attributes) _ (of_attributes g.attributes.each) (both t.trail w (of_glue t.trail g.trail) h))

mutual
  of_element : {d : ℕ} {e : Element} → GoodElement d e → ByteString (spell_element e)
  of_element (good_empty g) = of_tag (text "/>") g refl
  of_element (good_full {t} {c} {g = x} g m h) = both (spell_tag t (text ">")) _ (of_tag (text ">") g refl) (both (spell_content c) _ (of_content m) (of_end t.name x (of_name g.name) h))

  of_content : {d : ℕ} {c : Content} → GoodContent d c → ByteString (spell_content c)
  of_content (good_bare f) = of_filler f
  of_content (good_child {f} {e} {c} y x r) = both (spell_filler f) _ (of_filler y) (both (spell_element e) (spell_content c) (of_element x) (of_content r))

-- the declaration
of_setting : (W : Bytes → Bool) → ((w : Bytes) → W w ≡ true → ByteString w) → (n : Bytes) (s : Setting) → ByteString n → GoodSetting W s → ByteString (spell_setting n s)
of_setting W f n s h g = both n _ h (both s.mid _ (of_glue s.mid g.mid) (both s.after _ (of_glue s.after g.after) (of_shut s.word s.quote (f s.word g.word) (of_quote s.quote g.quote))))

of_optional : (W : Bytes → Bool) → ((w : Bytes) → W w ≡ true → ByteString w) → (n : Bytes) {o : Optional} → ByteString n → GoodOptional W o → ByteString (spell_optional n o)
of_optional W f n h good_absent = refl
of_optional W f n h (good_present {s} g) = both s.before _ (of_glue s.before g.before) (of_setting W f n s h g)

one_of : (x y : ℕ) → x ≤ 255 → y ≤ 255 → (b : ℕ) → either x y b ≡ true → b ≤ 255
one_of x y h k b e = go (or_cases _ _ e)
  where
    go : (eqb x b ≡ true) ⊎ (eqb y b ≡ true) → b ≤ 255
    go (inl q) = let i = eqb-true x b q in omega arith
    go (inr q) = let i = eqb-true y b q in omega arith

data Small : List (ℕ → Bool) → Type 0 where
  small_none : Small []
  small_then : {t : ℕ → Bool} {ts : List (ℕ → Bool)} → ((b : ℕ) → t b ≡ true → b ≤ 255) → Small ts → Small (t ∷ ts)

of_fits : {ts : List (ℕ → Bool)} → Small ts → (w : Bytes) → fits ts w ≡ true → ByteString w
of_fits s [] h = refl
of_fits small_none (b ∷ w) h = clash (sym h)
of_fits (small_then {t} {ts} f s) (b ∷ w) h = and_both (byte b) (every byte w) (is b (f b (and_left (t b) (fits ts w) h))) (of_fits s w (and_right (t b) (fits ts w) h))

only : (x : ℕ) → x ≤ 255 → (b : ℕ) → eqb x b ≡ true → b ≤ 255
only x h b q = let i = eqb-true x b q in omega arith

of_version : (w : Bytes) → is_version w ≡ true → ByteString w
of_version = of_fits (small_then (only 49 (omega arith)) (small_then (only 46 (omega arith)) (small_then (one_of 48 49 (omega arith) (omega arith)) small_none)))

of_encoding : (w : Bytes) → is_encoding w ≡ true → ByteString w
of_encoding = of_fits (small_then (one_of 85 117 (omega arith) (omega arith)) (small_then (one_of 84 116 (omega arith) (omega arith)) (small_then (one_of 70 102 (omega arith) (omega arith)) (small_then (only 45 (omega arith)) (small_then (only 56 (omega arith)) small_none)))))

of_standalone : (w : Bytes) → is_standalone w ≡ true → ByteString w
of_standalone w h = go (or_cases _ _ h)
  where
    go : (same (text "yes") w ≡ true) ⊎ (same (text "no") w ≡ true) → ByteString w
    go (inl e) = rw (same_true (text "yes") w e)
    go (inr e) = rw (same_true (text "no") w e)

of_declaration : {d : Declaration} → GoodDeclaration d → ByteString (spell_declaration d)
of_declaration {d} g =
    both d.version.before _ (of_glue d.version.before g.version.before) (both (spell_setting (text "version") d.version) _ (of_setting is_version of_version (text "version") d.version refl g.version)
    (both (spell_optional (text "encoding") d.encoding) _ (of_optional is_encoding of_encoding (text "encoding") refl g.encoding)
    (both (spell_optional (text "standalone") d.standalone) _ (of_optional is_standalone of_standalone (text "standalone") refl g.standalone) (both d.trail (text "?>") (of_glue d.trail g.trail) refl))))

of_root : {r : Root} → GoodRoot r → ByteString (spell_root r)
of_root {r} g =
    both (spell_attributes r.attributes) _ (of_attributes g.attributes.each) (both r.trail _ (of_glue r.trail g.trail) (both (spell_filler r.before) _ (of_filler g.before)
    (both (spell_element r.inner) _ (of_element g.inner) (both (spell_filler r.after) _ (of_filler g.after) (of_end hermes r.shut refl g.shut)))))

of_layout : {l : Layout} → GoodLayout l → ByteString (spell_layout l)
of_layout (good_plain g) = of_root g
of_layout (good_declared {d} {f} {r} y h g) = both (spell_declaration d) _ (of_declaration y) (both (spell_filler f) (spell_root r) (of_filler h) (of_root g))

-- every message is a string of bytes
pub message_bytes : {w : Bytes} {t : Tree} → Message w t → ByteString w
message_bytes m = subst ByteString (sym m.laid.spelt) (of_layout m.laid.good)
