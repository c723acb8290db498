-- The part of the texts, and the refusal of a text.
use mathlib.Core.Path.{◌≡◌, refl, sym, ap, ◌∙◌}
use mathlib.Core.List.{[], ◌∷◌}
use mathlib.Core.Bool.{Bool, true, false, ◌&&◌, cond}
use Prim.Native.Nat.{ℕ, zero, suc, ◌+◌, ◌-◌, ◌≤◌, ◌<◌}
use native.Mathlib.Omega.{arith}
use lib.ListN.{length, take, drop, drop_of_length-le, length-take, length-drop}
use lib.Seq.{take_all, take-nil}
use lib.Dec.{leb}
use borrow.Author.Tests.{le-leb, lt-leb, leb-true}
use Rattle.grammar.specs.Bytes.{Bytes, non_empty}
use Rattle.number.specs.Version.{version_of}
use Rattle.spelling.specs.Characters.{TextSays}
use Rattle.spelling.specs.Decided.{is_text}
use Rattle.spelling.proofs.Theorems.{text_only, text_decided}
use Rattle.value.specs.declared.text.Span.{Span}
use Rattle.table.specs.Table.{words, some_words, version}
use Rattle.table.specs.Says.{a_text, refused, TOO_LONG, when, refusal_in}
use Rattle.meant.specs.Meant.{text_at, sendable, text_meant}

-- the part of the texts
pub part_outside : (texts : Bytes) (p : Span) → length texts < p.start → [] ≡ text_at texts p
part_outside texts p h = sym (ap (λ (y : Bytes). take p.len y) (let q : length texts ≤ p.start = omega arith in drop_of_length-le texts q) ∙ take-nil p.len)

pub part_cut : (texts : Bytes) (p : Span) → length texts - p.start < p.len → take (length texts - p.start) (drop p.start texts) ≡ text_at texts p
part_cut texts p h =
    let l = length-drop p.start texts in
    take_all (length texts - p.start) (drop p.start texts) (omega arith) ∙ sym (take_all p.len (drop p.start texts) (omega arith))

pub part_whole : (texts : Bytes) (p : Span) → take (p.start + p.len - p.start) (drop p.start texts) ≡ text_at texts p
part_whole texts p = let q : p.start + p.len - p.start ≡ p.len = omega arith in ap (λ (n : ℕ). take n (drop p.start texts)) q

-- whether a text can be sent
text_is : {v : Bytes} {r : Bool} → TextSays v r → r ≡ is_text v
text_is {v} s = text_only s (text_decided v)

pub sent_outside : (texts : Bytes) (p : Span) → length texts < p.start + p.len → false ≡ sendable texts p
sent_outside texts p h = sym (ap (λ (b : Bool). b && is_text (text_at texts p)) (lt-leb (p.start + p.len) (length texts) h))

pub sent_inside : (texts : Bytes) (p : Span) {r : Bool} → p.start + p.len ≤ length texts → TextSays (take (p.start + p.len - p.start) (drop p.start texts)) r → r ≡ sendable texts p
sent_inside texts p h s = text_is s ∙ ap is_text (part_whole texts p) ∙ sym (ap (λ (b : Bool). b && is_text (text_at texts p)) (le-leb (p.start + p.len) (length texts) h))

not_both : (x : Bool) → x && false ≡ false
not_both true = refl
not_both false = refl

empty_some : (v : Bytes) → length v ≡ 0 → non_empty v ≡ false
empty_some [] h = refl
empty_some (b ∷ v) h = absurd (omega arith)

any_some : (v : Bytes) → 1 ≤ length v → non_empty v ≡ true
any_some [] h = absurd (omega arith)
any_some (b ∷ v) h = refl

inside : (texts : Bytes) (p : Span) → sendable texts p ≡ true → p.start + p.len ≤ length texts
inside texts p h = leb-true (p.start + p.len) (length texts) (go (leb (p.start + p.len) (length texts)) (is_text (text_at texts p)) h)
  where
    go : (x y : Bool) → x && y ≡ true → x ≡ true
    go true y h = refl
    go false y h = h

-- by its length, then by its bytes
abbrev meant : Bool → Bytes → ℕ
meant b v = refusal_in (when b (a_text v))

abbrev limited : Bool → Bool → Bytes → ℕ
limited short b v = refusal_in (cond short (when b (a_text v)) (refused TOO_LONG))

module _ (texts : Bytes) (p : Span) where
  pub long_text : (n : ℕ) → n < p.len → 5 ≡ refusal_in (text_meant (words n) texts p)
  long_text n h = sym (ap (λ (c : Bool). limited c (sendable texts p) (text_at texts p)) (lt-leb p.len n h))

  short_text : (n : ℕ) (b : Bool) → p.len ≤ n → sendable texts p ≡ b → meant b (text_at texts p) ≡ refusal_in (text_meant (words n) texts p)
  short_text n b h g = sym (ap (λ (c : Bool). limited c (sendable texts p) (text_at texts p)) (le-leb p.len n h) ∙ ap (λ (b : Bool). meant b (text_at texts p)) g)

  pub good_text : (n : ℕ) {b : Bool} → p.len ≤ n → b ≡ sendable texts p → b ≡ true → 0 ≡ refusal_in (text_meant (words n) texts p)
  good_text n h g t = short_text n true h (sym g ∙ t)

  pub bad_text : (n : ℕ) {b : Bool} → p.len ≤ n → b ≡ sendable texts p → b ≡ false → 6 ≡ refusal_in (text_meant (words n) texts p)
  bad_text n h g t = short_text n false h (sym g ∙ t)

  pub long_some : (n : ℕ) → n < p.len → 5 ≡ refusal_in (text_meant (some_words n) texts p)
  long_some n h = sym (ap (λ (c : Bool). limited c (sendable texts p && non_empty (text_at texts p)) (text_at texts p)) (lt-leb p.len n h))

  short_some : (n : ℕ) (b : Bool) → p.len ≤ n → sendable texts p && non_empty (text_at texts p) ≡ b → meant b (text_at texts p) ≡ refusal_in (text_meant (some_words n) texts p)
  short_some n b h g = sym (ap (λ (c : Bool). limited c (sendable texts p && non_empty (text_at texts p)) (text_at texts p)) (le-leb p.len n h) ∙ ap (λ (b : Bool). meant b (text_at texts p)) g)

  pub no_some : (n : ℕ) → p.len ≤ n → p.len ≡ 0 → 6 ≡ refusal_in (text_meant (some_words n) texts p)
  no_some n h k =
      let l = length-take p.len (drop p.start texts) in
      short_some n false h (ap (λ (b : Bool). sendable texts p && b) (empty_some (text_at texts p) (omega arith)) ∙ not_both (sendable texts p))

  pub good_some : (n : ℕ) {b : Bool} → p.len ≤ n → (p.len ≡ 0 → ⊥) → b ≡ sendable texts p → b ≡ true → 0 ≡ refusal_in (text_meant (some_words n) texts p)
  good_some n h k g t =
      let i = inside texts p (sym g ∙ t) in
      let l = length-take p.len (drop p.start texts) in
      let d = length-drop p.start texts in
      short_some n true h (ap (λ (b : Bool). b && non_empty (text_at texts p)) (sym g ∙ t) ∙ any_some (text_at texts p) (at_least p.len k (omega arith)))
    where
      at_least : (m : ℕ) → (m ≡ 0 → ⊥) → length (text_at texts p) ≡ m → 1 ≤ length (text_at texts p)
      at_least zero n e = absurd (n refl)
      at_least (suc m) n e = omega arith

  pub bad_some : (n : ℕ) {b : Bool} → p.len ≤ n → b ≡ sendable texts p → b ≡ false → 6 ≡ refusal_in (text_meant (some_words n) texts p)
  bad_some n h g t = short_some n false h (ap (λ (b : Bool). b && non_empty (text_at texts p)) (sym g ∙ t))

  pub unsent_version : {b : Bool} → b ≡ sendable texts p → b ≡ false → 6 ≡ refusal_in (text_meant version texts p)
  unsent_version g t = sym (ap (λ (b : Bool). meant (b && version_of (text_at texts p)) (text_at texts p)) (sym g ∙ t))

  pub said_version : {b : Bool} {v : Bytes} {c : Bool} (d : Bool) → b ≡ sendable texts p → b ≡ true → v ≡ text_at texts p → c ≡ version_of v → c ≡ d → meant d (text_at texts p) ≡ refusal_in (text_meant version texts p)
  said_version d g t q f k = sym (ap (λ (b : Bool). meant (b && version_of (text_at texts p)) (text_at texts p)) (sym g ∙ t) ∙ ap (λ (b : Bool). meant b (text_at texts p)) (ap version_of (sym q) ∙ sym f ∙ k))
