-- A text stands exactly as read if and only if no byte of it is `&`, tab, LF or CR.
use Rattle.std.specs.Prelude.{◌≡◌, refl, List, [], ◌∷◌, ◌++◌, ◌⊎◌, ◌↔◌, Bool, true, false, ◌&&◌, ◌||◌, not, cond, ℕ, ◌+◌, ◌/◌, ◌%◌, ◌≤◌, ◌<◌, length, eqb, leb}
use Rattle.std.proofs.Common.{sym, ap, subst, ◌∙◌, inl, inr, arith, length-append, leb-true, ne_eqb}
use Rattle.std.proofs.lemmas.List.{append_cancel_left}
use Prim.Native.Char.{code}
use Rattle.std.proofs.lemmas.Bool.{not-true}
use Rattle.model.specs.Tests.{and_left, and_right, and_both, every_left, every_append}
use Rattle.model.proofs.References.{dec_digit, hex_digit_lem}
use Rattle.model.proofs.Values.{amp_first}
use Rattle.model.proofs.Cuts.{same_length}
use Rattle.exact.specs.Chain.{clash}
use Rattle.exact.specs.Byte.{eqb-true}
use Rattle.grammar.specs.Bytes.{Bytes, text, digit, every}
use Rattle.grammar.specs.Character.{utf8}
use Rattle.grammar.specs.Reference.{Named, amp, lt, gt, quot, apos, Reference, named, spell_reference, hex_digit, worth, number, Digits, GoodReference, good_named, good_decimal, good_hexadecimal, read_named, read_reference}
use Rattle.grammar.specs.Value.{Item, raw, spell_item, spell_value, banned, GoodItem, good_raw, good_ref, GoodValue, good_last, good_item, feeds, read_item, read_value}
use Rattle.value.specs.Text.{Text, altered, as_read}
use Rattle.value.proofs.Quotes.{Bytes8, ascii, beyond, bytes8, every_right}
use Rattle.value.specs.AsRead.{Plain}

pub utf8_size : (c : ℕ) → (1 ≤ length (utf8 c)) × (length (utf8 c) ≤ 4)
unfolding utf8
utf8_size c = at (leb c 0x7F) (leb c 0x7FF) (leb c 0xFFFF)
  where
    at : (x y z : Bool) → (1 ≤ length (cond x (c ∷ []) (cond y ((0xC0 + c / 64) ∷ (0x80 + c % 64) ∷ [])
        (cond z ((0xE0 + c / 64 / 64) ∷ (0x80 + c / 64 % 64) ∷ (0x80 + c % 64) ∷ [])
        ((0xF0 + c / 64 / 64 / 64) ∷ (0x80 + c / 64 / 64 % 64) ∷ (0x80 + c / 64 % 64) ∷ (0x80 + c % 64) ∷ [])))))
        × (length (cond x (c ∷ []) (cond y ((0xC0 + c / 64) ∷ (0x80 + c % 64) ∷ [])
        (cond z ((0xE0 + c / 64 / 64) ∷ (0x80 + c / 64 % 64) ∷ (0x80 + c % 64) ∷ [])
        ((0xF0 + c / 64 / 64 / 64) ∷ (0x80 + c / 64 / 64 % 64) ∷ (0x80 + c / 64 % 64) ∷ (0x80 + c % 64) ∷ [])))) ≤ 4)
    at true y z = (omega arith, omega arith)
    at false true z = (omega arith, omega arith)
    at false false true = (omega arith, omega arith)
    at false false false = (omega arith, omega arith)

-- a reference is longer than the character it names
one_digit : (c : ℕ) → c ≤ 15 → length (utf8 c) ≡ 1
one_digit c h = at (bytes8 c)
  where
    at : Bytes8 c → length (utf8 c) ≡ 1
    at (ascii a e) = rw e
    at (beyond a e) = absurd (omega arith)

number_longer : (is_digit : ℕ → Bool) (base most : ℕ) → ((b : ℕ) → is_digit b ≡ true → worth b ≤ 15) → (n : Bytes) → Digits is_digit base most n → length (utf8 (number base 0 n)) < 3 + length n
number_longer is_digit base most w [] d = clash (sym d.one)
number_longer is_digit base most w (b ∷ []) d =
    let k = w b (and_left (is_digit b) true d.digits) in
    let z = one_digit (number base 0 (b ∷ [])) (omega arith) in
    omega arith
number_longer is_digit base most w (b ∷ c ∷ n) d = let z = utf8_size (number base 0 (b ∷ c ∷ n)) in omega (arith, z.1)

pub reference_longer : {r : Reference} → GoodReference r → length (utf8 (read_reference r)) < length (spell_reference r)
unfolding utf8
reference_longer (good_named {n}) = go n
  where
    go : (n : Named) → length (utf8 (read_named n)) < length (spell_reference (named n))
    go amp = omega arith
    go lt = omega arith
    go gt = omega arith
    go quot = omega arith
    go apos = omega arith
reference_longer (good_decimal {n} d) = let z = number_longer digit 10 7 (λ b h. let k = dec_digit b h in omega arith) n d in omega (arith, length-append n (text ";"))
reference_longer (good_hexadecimal {n} d) = let z = number_longer hex_digit 16 6 hex_digit_lem n d in omega (arith, length-append n (text ";"))

-- no item reads longer than it is spelt
unread : ℕ → Bool
unread c = eqb (code "\t") c || (eqb (code "\n") c || eqb (code "\r") c)

item_size : {q : ℕ} {i : Item} (lf : Bool) → GoodItem q i → length (read_item i lf) ≤ length (spell_item i)
unfolding read_item
item_size lf (good_raw {c} h k) = at (eqb (code "\r") c && lf) (eqb (code "\t") c || (eqb (code "\n") c || eqb (code "\r") c))
  where
    at : (x y : Bool) → length (cond x [] (cond y (text " ") (utf8 c))) ≤ length (utf8 c)
    at true y = omega arith
    at false true = (utf8_size c).0
    at false false = omega arith
item_size lf (good_ref g) = let z = reference_longer g in omega arith

pub value_size : {q : ℕ} {l : List Item} → GoodValue q l → length (read_value l) ≤ length (spell_value l)
unfolding read_value
value_size good_last = omega arith
value_size (good_item {i} {l} g r) = omega (arith, item_size (feeds l) g, value_size r, length-append (read_item i (feeds l)) (read_value l), length-append (spell_item i) (spell_value l))

beyond_plain : (c : ℕ) → 127 < c → Plain c
beyond_plain c h = (ne_eqb (code "\t") c (λ e. omega arith), ne_eqb (code "\n") c (λ e. omega arith), ne_eqb (code "\r") c (λ e. omega arith))

pub reads_itself : (c : ℕ) (lf : Bool) → Plain c → read_item (raw c) lf ≡ utf8 c
unfolding read_item
reads_itself c lf (a, b, d) = rw (a, b, d)

altered_not : (b : ℕ) → altered b ≡ false → (eqb (code "&") b ≡ false) × Plain b
unfolding altered
altered_not b h = go (eqb (code "&") b) (eqb (code "\t") b) (eqb (code "\n") b) (eqb (code "\r") b) h
  where
    go : (x y z u : Bool) → x || (y || (z || u)) ≡ false → (x ≡ false) × ((y ≡ false) × (z ≡ false) × (u ≡ false))
    go true y z u e = clash e
    go false true z u e = clash e
    go false false true u e = clash e
    go false false false u e = (refl, (refl, refl, e))

not_altered : (b : ℕ) → eqb (code "&") b ≡ false → Plain b → altered b ≡ false
unfolding altered
not_altered b x (y, z, u) = rw (x, y, z, u)

-- a reference starts with such a byte
no_amp : {X : Type 0} (w t : Bytes) → w ≡ code "&" ∷ t → as_read w ≡ true → X
unfolding altered
no_amp w t e h = let z : false ≡ true = rw e at h in clash (sym z)

-- no such byte: it reads as it stands
as_item : {q : ℕ} {i : Item} (lf : Bool) → GoodItem q i → as_read (spell_item i) ≡ true → read_item i lf ≡ spell_item i
as_item lf (good_raw {c} h k) a = at (bytes8 c)
  where
    at : Bytes8 c → read_item (raw c) lf ≡ utf8 c
    at (ascii m e) =
        let n : as_read (c ∷ []) ≡ true = rw e at a in
        reads_itself c lf (altered_not c (not-true (altered c) (and_left (not (altered c)) true n))).1
    at (beyond m e) = reads_itself c lf (beyond_plain c m)
as_item lf (good_ref {r} g) a = let z = amp_first r in no_amp (spell_reference r) z.0 z.1 a

as_value : {q : ℕ} {l : List Item} → GoodValue q l → as_read (spell_value l) ≡ true → read_value l ≡ spell_value l
unfolding read_value
as_value good_last a = refl
as_value (good_item {i} {l} g r) a =
    rw (as_item (feeds l) g (every_left (λ b. not (altered b)) (spell_item i) (spell_value l) a), as_value r (every_right (λ b. not (altered b)) (spell_item i) (spell_value l) a))

-- it reads as it stands: no such byte
no_space : (c : ℕ) → (c ≡ 9) ⊎ ((c ≡ 10) ⊎ (c ≡ 13)) → text " " ≡ utf8 c → ⊥
unfolding utf8
no_space c (inl e) h = let k : ◌≡◌ {A = Bytes} (32 ∷ []) (9 ∷ []) = rw e at h in let z : ◌≡◌ {A = ℕ} 32 9 = cc in omega arith
no_space c (inr (inl e)) h = let k : ◌≡◌ {A = Bytes} (32 ∷ []) (10 ∷ []) = rw e at h in let z : ◌≡◌ {A = ℕ} 32 10 = cc in omega arith
no_space c (inr (inr e)) h = let k : ◌≡◌ {A = Bytes} (32 ∷ []) (13 ∷ []) = rw e at h in let z : ◌≡◌ {A = ℕ} 32 13 = cc in omega arith

-- what a raw character reads as tells whether it is altered
raw_kept : (q c : ℕ) (lf : Bool) → banned q c ≡ false → read_item (raw c) lf ≡ utf8 c → as_read (utf8 c) ≡ true
unfolding read_item banned
raw_kept q c lf k e = at (bytes8 c)
  where
    amp_out : (x y z : Bool) → x || (y || z) ≡ false → y ≡ false
    amp_out true y z h = clash h
    amp_out false true z h = clash h
    amp_out false false z h = refl

    in_space : (x : Bool) → cond x [] (text " ") ≡ utf8 c → (c ≡ 9) ⊎ ((c ≡ 10) ⊎ (c ≡ 13)) → ⊥
    in_space true h w = let z = (utf8_size c).0 in omega (arith, ap length h)
    in_space false h w = no_space c w h

    tab : (z : Bool) → eqb (code "\t") c ≡ z → eqb (code "\t") c ≡ false
    tab false h = h
    tab true h = absurd (in_space (eqb (code "\r") c && lf) (rw h at e) (inl (eqb-true (code "\t") c h)))

    feed : (z : Bool) → eqb (code "\n") c ≡ z → eqb (code "\t") c ≡ false → eqb (code "\n") c ≡ false
    feed false h t = h
    feed true h t = absurd (in_space (eqb (code "\r") c && lf) (rw (t, h) at e) (inr (inl (eqb-true (code "\n") c h))))

    return : (z : Bool) → eqb (code "\r") c ≡ z → eqb (code "\t") c ≡ false → eqb (code "\n") c ≡ false → eqb (code "\r") c ≡ false
    return false h t n = h
    return true h t n = absurd (in_space (true && lf) (rw (t, n, h) at e) (inr (inr (eqb-true (code "\r") c h))))

    at : Bytes8 c → as_read (utf8 c) ≡ true
    at (ascii m i) =
        let t = tab (eqb (code "\t") c) refl in
        let n = feed (eqb (code "\n") c) refl t in
        let r = return (eqb (code "\r") c) refl t n in
        rw (i, not_altered c (amp_out (eqb (code "<") c) (eqb (code "&") c) (eqb q c) k) (t, n, r))
    at (beyond m i) = high (utf8 c) i
      where
        high : (w : Bytes) → every (λ b. leb 128 b) w ≡ true → as_read w ≡ true
        high [] h = refl
        high (b ∷ w) h =
            let l = leb-true 128 b (and_left (leb 128 b) (every (λ b. leb 128 b) w) h) in
            and_both (not (altered b)) (as_read w) (rw (not_altered b (ne_eqb (code "&") b (λ z. omega arith)) (beyond_plain b (omega arith)))) (high w (and_right (leb 128 b) (every (λ b. leb 128 b) w) h))

item_kept : {q : ℕ} {i : Item} (lf : Bool) → GoodItem q i → read_item i lf ≡ spell_item i → as_read (spell_item i) ≡ true
unfolding read_item
item_kept {q} lf (good_raw {c} h k) e = raw_kept q c lf k e
item_kept lf (good_ref g) e = absurd (let z = reference_longer g in omega (arith, ap length e))

value_kept : {q : ℕ} {l : List Item} → GoodValue q l → read_value l ≡ spell_value l → as_read (spell_value l) ≡ true
unfolding read_value
value_kept good_last e = refl
value_kept (good_item {i} {l} g r) e =
    let a = item_size (feeds l) g in
    let b = value_size r in
    let n = ap length e in
    let h : length (read_item i (feeds l)) ≡ length (spell_item i) = omega (arith, length-append (read_item i (feeds l)) (read_value l), length-append (spell_item i) (spell_value l)) in
    let s : read_item i (feeds l) ≡ spell_item i = same_length (read_item i (feeds l)) (spell_item i) (read_value l) (spell_value l) e h in
    let t : read_value l ≡ spell_value l = append_cancel_left (spell_item i) (read_value l) (spell_value l) (ap (λ (y : Bytes). y ++ read_value l) (sym s) ∙ e) in
    every_append (λ b. not (altered b)) (spell_item i) (spell_value l) (item_kept (feeds l) g s) (value_kept r t)

-- T1.6
pub raw_as_read_iff : {w v : Bytes} → Text w v → (as_read w ≡ true) ↔ (v ≡ w)
raw_as_read_iff {w} {v} x = (to, from)
  where
    to : as_read w ≡ true → v ≡ w
    to h = x.reads ∙ as_value x.good (subst (λ (y : Bytes). as_read y ≡ true) x.spelt h) ∙ sym x.spelt

    from : v ≡ w → as_read w ≡ true
    from e = subst (λ (y : Bytes). as_read y ≡ true) (sym x.spelt) (value_kept x.good (sym x.reads ∙ e ∙ x.spelt))
