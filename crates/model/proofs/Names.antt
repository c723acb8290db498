-- The reader of a name that is none of the earlier ones, and that it is exact.
use Rattle.std.specs.Prelude.{◌≡◌, ◌⊎◌, ◌↔◌, Bool, ◌&&◌, ◌||◌, ℕ, suc, ◌+◌, ◌-◌, ◌≤◌, ◌<◌, length, eqb}
use Rattle.std.proofs.Math.Path.{refl, subst}
use Rattle.std.proofs.Common.{sym, ◌∙◌, arith}
use mathlib.Core.List.{List, [], ◌∷◌, ◌++◌, append-nil}
use Rattle.std.proofs.Math.Logic.{inl, inr}
use Rattle.std.proofs.Math.Bool.{true, false, not}
use Rattle.std.proofs.Math.ListN.{length-append}
use Rattle.std.proofs.Math.Dec.{leb}
use borrow.Author.Tests.{leb-true, le-leb, not-true}
use Rattle.exact.specs.Exact.{Lang, Reader, Exact}
use Rattle.exact.specs.Chain.{clash}
use Rattle.exact.specs.Byte.{eqb-true, Starts, starts}
use Rattle.exact.specs.Token.{TokenFrom, token_p, token_exact}
use Rattle.grammar.specs.Bytes.{Bytes, text, within, digit, every, non_empty, among}
use Rattle.grammar.specs.Limits.{NAME}
use Rattle.grammar.specs.Glue.{is_glue}
use Rattle.grammar.specs.Name.{letter, name_start, name_byte, shaped, Name}
use Rattle.model.specs.Tests.{and_left, and_right, and_both, or_cases, or_left, or_right, every_left, every_append, every_snoc}
use Rattle.model.specs.Fresh.{has, some_fresh}
use Rattle.model.specs.Names.{live, new}

pub all_has : (t : ℕ → Bool) (cs : Bytes) → every t cs ≡ true → (c : ℕ) → has c cs ≡ true → t c ≡ true
all_has t [] h c k = clash (sym k)
all_has t (x ∷ cs) h c k = go (or_cases _ _ k) (λ r. all_has t cs (and_right (t x) (every t cs) h) c r)
  where
    go : (eqb x c ≡ true) ⊎ (has c cs ≡ true) → (has c cs ≡ true → t c ≡ true) → t c ≡ true
    go (inl e) f = rw (eqb-true x c e) (and_left (t x) (every t cs) h)
    go (inr e) f = f e

start_byte : (b : ℕ) → name_start b ≡ true → name_byte b ≡ true
unfolding name_byte
start_byte b h = rw h

shape_left : (n m : Bytes) → shaped (n ++ m) ≡ true → shaped n ≡ true
shape_left [] m h = refl
shape_left (b ∷ n) m h = and_both (name_start b) (every name_byte n) (and_left (name_start b) (every name_byte (n ++ m)) h) (every_left name_byte n m (and_right (name_start b) (every name_byte (n ++ m)) h))

shape_shut : (n : Bytes) (b : ℕ) → name_byte b ≡ false → shaped (n ++ b ∷ []) ≡ false
shape_shut [] b h = go (name_start b) refl
  where
    go : (z : Bool) → name_start b ≡ z → name_start b && true ≡ false
    go true e = clash (sym (start_byte b e) ∙ h)
    go false e = rw e
shape_shut (c ∷ n) b h = rw (every_snoc name_byte n b h) (none (name_start c))
  where
    none : (z : Bool) → z && false ≡ false
    none true = refl
    none false = refl

shape_add : (n : Bytes) (c : ℕ) → name_start c ≡ true → shaped n ≡ true → shaped (n ++ c ∷ []) ≡ true
shape_add [] c h k = rw h
shape_add (b ∷ n) c h k = and_both (name_start b) (every name_byte (n ++ c ∷ [])) (and_left (name_start b) (every name_byte n) k) (every_append name_byte n (c ∷ []) (and_right (name_start b) (every name_byte n) k) (rw (start_byte c h)))

abbrev letters : Bytes
letters = text "ABCDEFGHIJKLMNOPQRSTUVWXYZabcdefghijklmnopqrstuvwxyz"

letters_start : every name_start letters ≡ true
unfolding name_start letter within
letters_start = refl

-- glue is no part of a name
pub glue_not_name : (b : ℕ) → is_glue b ≡ true → name_byte b ≡ false
unfolding is_glue name_byte name_start letter within digit
glue_not_name b h = go1 (or_cases _ _ h)
  where
    go3 : (eqb 13 b ≡ true) ⊎ (eqb 10 b ≡ true) → name_byte b ≡ false
    go3 (inl k) = rw (eqb-true 13 b k)
    go3 (inr k) = rw (eqb-true 10 b k)

    go2 : (eqb 9 b ≡ true) ⊎ (eqb 13 b || eqb 10 b ≡ true) → name_byte b ≡ false
    go2 (inl k) = rw (eqb-true 9 b k)
    go2 (inr k) = go3 (or_cases _ _ k)

    go1 : (eqb 32 b ≡ true) ⊎ (eqb 9 b || (eqb 13 b || eqb 10 b) ≡ true) → name_byte b ≡ false
    go1 (inl k) = rw (eqb-true 32 b k)
    go1 (inr k) = go2 (or_cases _ _ k)

pub start_not_glue : (b : ℕ) → name_start b ≡ true → is_glue b ≡ false
unfolding name_byte
start_not_glue b h = go (is_glue b) refl
  where
    go : (z : Bool) → is_glue b ≡ z → is_glue b ≡ false
    go false e = e
    go true e = let f : name_byte b ≡ true = rw h in clash (sym f ∙ glue_not_name b e)

module _ (earlier : List Bytes) where
  pub record Live (n : Bytes) : Type 0 where
    pub shape : shaped n ≡ true
    pub fits : length n ≤ NAME
    pub room : (length n < NAME) ⊎ (among earlier n ≡ false)

  pub live_view : (n : Bytes) → live earlier n ≡ true → Live n
  unfolding live
  live_view n h =
      let r = and_right (shaped n) (leb (length n) NAME && (leb (length n) (NAME - 1) || not (among earlier n))) h in
      record { shape = and_left (shaped n) _ h; fits = leb-true (length n) NAME (and_left _ _ r); room = go (or_cases _ _ (and_right (leb (length n) NAME) _ r)) }
    where
      go : (leb (length n) (NAME - 1) ≡ true) ⊎ (not (among earlier n) ≡ true) → (length n < NAME) ⊎ (among earlier n ≡ false)
      go (inl k) = inl (let z = leb-true (length n) (NAME - 1) k in omega arith)
      go (inr k) = inr (not-true _ k)

  pub of_live : (n : Bytes) → Live n → live earlier n ≡ true
  unfolding live
  of_live n r = rw (r.shape, le-leb (length n) NAME r.fits) (go r.room)
    where
      go : (length n < NAME) ⊎ (among earlier n ≡ false) → leb (length n) (NAME - 1) || not (among earlier n) ≡ true
      go (inl k) = or_left _ _ (le-leb (length n) (NAME - 1) (omega arith))
      go (inr k) = or_right (leb (length n) (NAME - 1)) _ (rw k)

  live_closed : (n m : Bytes) → live earlier (n ++ m) ≡ true → live earlier n ≡ true
  live_closed n [] h = rw append-nil at h
  live_closed n (x ∷ m) h =
      let r = live_view (n ++ x ∷ m) h in
      let f : length n + suc (length m) ≤ NAME = rw length-append at r.fits in
      of_live n (record { shape = shape_left n (x ∷ m) r.shape; fits = omega arith; room = inl (omega arith) })

  pub live_shut : (n : Bytes) (b : ℕ) → name_byte b ≡ false → live earlier (n ++ b ∷ []) ≡ false
  unfolding live
  live_shut n b h = rw (shape_shut n b h)

  module _ (few : length earlier ≤ 51) where
    live_more : (n : Bytes) → shaped n ≡ true → length n < NAME → (m : Bytes) × (live earlier (n ++ m) ≡ true) × (new earlier (n ++ m) ≡ true)
    unfolding new
    live_more n h k =
        let f = some_fresh letters refl n earlier (omega arith) in (
          f.0 ∷ [],
          of_live (n ++ f.0 ∷ []) (record { shape = shape_add n f.0 (all_has name_start letters letters_start f.0 f.1) h; fits = rw length-append (omega arith); room = inr f.2 }),
          and_both (non_empty (n ++ f.0 ∷ [])) (not (among earlier (n ++ f.0 ∷ []))) (some_snoc n f.0) (rw f.2),
        )
      where
        some_snoc : (n : Bytes) (c : ℕ) → non_empty (n ++ c ∷ []) ≡ true
        some_snoc [] c = refl
        some_snoc (x ∷ n) c = refl

    live_fill : (n : Bytes) → live earlier n ≡ true → (m : Bytes) × (live earlier (n ++ m) ≡ true) × (new earlier (n ++ m) ≡ true)
    unfolding new
    live_fill [] h = live_more [] refl (omega arith)
    live_fill (b ∷ n) h = go (among earlier (b ∷ n)) refl (live_view (b ∷ n) h).room
      where
        go : (z : Bool) → among earlier (b ∷ n) ≡ z → (length (b ∷ n) < NAME) ⊎ (among earlier (b ∷ n) ≡ false) → (m : Bytes) × (live earlier (b ∷ n ++ m) ≡ true) × (new earlier (b ∷ n ++ m) ≡ true)
        go true e (inl k) = live_more (b ∷ n) (live_view (b ∷ n) h).shape k
        go true e (inr k) = clash (sym e ∙ k)
        go false e r = ([], subst (λ (y : Bytes). live earlier y ≡ true) (sym (append-nil (b ∷ n))) h, subst (λ (y : Bytes). new earlier y ≡ true) (sym (append-nil (b ∷ n))) (rw e))

    pub name_exact : {A : Type 0} {K : Bytes → Lang A} {q : Bytes → Reader A}
        → ((n k : Bytes) (v : A) → K n k v → Starts name_byte false k)
        → ((n : Bytes) → live earlier n ≡ true → new earlier n ≡ true → Exact (K n) (q n))
        → Exact (TokenFrom (live earlier) (new earlier) K []) (token_p (live earlier) (new earlier) q [])
    name_exact {A} {K} {q} st f = token_exact live_closed live_fill apart f [] (of_live [] (record { shape = refl; fits = omega arith; room = inl (omega arith) }))
      where
        turn : (n k : Bytes) → Starts name_byte false k → (b : ℕ) × (k' : Bytes) × (k ≡ b ∷ k') × (live earlier (n ++ b ∷ []) ≡ false)
        turn n k (starts b k' e h) = (b, k', e, live_shut n b h)

        apart : (n k : Bytes) (v : A) → live earlier n ≡ true → new earlier n ≡ true → K n k v → (b : ℕ) × (k' : Bytes) × (k ≡ b ∷ k') × (live earlier (n ++ b ∷ []) ≡ false)
        apart n k v h o l = turn n k (st n k v l)

  -- the token is a name that is none of the earlier ones
  pub name_of_lem : (n : Bytes) → live earlier n ≡ true → new earlier n ≡ true → Name n × (among earlier n ≡ false)
  unfolding new
  name_of_lem n h o = let r = live_view n h in (record { shape = r.shape; one = and_left (non_empty n) _ o; short = r.fits }, not-true _ (and_right (non_empty n) _ o))

  pub of_name : (n : Bytes) → Name n → among earlier n ≡ false → (live earlier n ≡ true) × (new earlier n ≡ true)
  unfolding new
  of_name n r h = (of_live n (record { shape = r.shape; fits = r.short; room = inr h }), and_both (non_empty n) (not (among earlier n)) r.one (rw h))

-- which beginnings can still become a name that is none of the earlier ones
pub name_open : (earlier : List Bytes) → length earlier ≤ 51 → (n : Bytes) → (live earlier n ≡ true) ↔ ((m : Bytes) × Name (n ++ m) × (among earlier (n ++ m) ≡ false))
name_open earlier few n = (to, from)
  where
    to : live earlier n ≡ true → (m : Bytes) × Name (n ++ m) × (among earlier (n ++ m) ≡ false)
    to h = let f = live_fill earlier few n h in let r = name_of_lem earlier (n ++ f.0) f.1 f.2 in (f.0, r.0, r.1)

    from : (m : Bytes) × Name (n ++ m) × (among earlier (n ++ m) ≡ false) → live earlier n ≡ true
    from (m, r, a) = live_closed earlier n m (of_name earlier (n ++ m) r a).0

pub name_starts : (n k : Bytes) → Name n → Starts name_start true (n ++ k)
name_starts [] k r = clash (sym r.one)
name_starts (b ∷ n) k r = starts b (n ++ k) refl (and_left (name_start b) (every name_byte n) r.shape)
