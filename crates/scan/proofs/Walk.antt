-- A loop over the bytes of a token, against the theory's token_p; glue and names.
use mathlib.Core.Path.{◌≡◌, refl, sym, ◌∙◌}
use mathlib.Core.List.{[], ◌∷◌, ◌++◌}
use mathlib.Core.Logic.{inr}
use mathlib.Core.Bool.{Bool, true, false, ◌&&◌}
use Prim.Native.Nat.{ℕ, suc, ◌+◌, ◌-◌, ◌≤◌, ◌<◌}
use native.Mathlib.Omega.{arith}
use native.Mathlib.Numerals.{add-one}
use lib.ListN.{length, length-append, take, drop, get_or, length-take, length-drop, drop_of_length-le}
use native.Mathlib.Nat.{sub_self}
use lib.Seq.{drop-cons, get_or-drop, take-suc}
use borrow.Author.Tests.{lt-leb, eq-eqb, ne_eqb}
use Rattle.model.specs.Tests.{and_left, and_right, and_both, every_append, every_snoc}
use Rattle.model.specs.Glue.{always}
use Rattle.model.specs.Names.{live, new}
use Rattle.model.proofs.Names.{live_view, of_live, live_shut}
use Rattle.exact.specs.Exact.{done, more, bad}
use Rattle.exact.specs.Chain.{ret_p}
use Rattle.exact.specs.Token.{token_p}
use Rattle.grammar.specs.Bytes.{Bytes, every, non_empty}
use Rattle.grammar.specs.Glue.{is_glue}
use Rattle.grammar.specs.Name.{name_start, name_byte, shaped}
use Rattle.scan.specs.Pieces.{Got, GotTok, Walked, Skipped, byte_p, glue_tok, name_tok}
use Rattle.std.specs.Prelude.{Ok, Err}
use Rattle.scan.specs.declared.Stop.TheVariants.{Open, Bad}

module _ (pre ok : Bytes → Bool) (s : Bytes) (at : ℕ) where
  pub walked_start : at ≤ length s → pre [] ≡ true → Walked pre ok s at at
  walked_start h k =
      let z : at - at ≡ 0 = sub_self at in
      record { from = omega arith; upto = h; begun = rw z k; same = rw z }

  module _ (i : ℕ) (w : Walked pre ok s at i) where
    pub walked_more : length s ≤ i → token_p pre ok ret_p [] (drop at s) ≡ more
    walked_more h = w.same ∙ rw (drop_of_length-le s h)

    module _ (h : i < length s) where
      pub part_length : length (take (i - at) (drop at s)) ≡ i - at
      part_length = rw (length-take, length-drop) (omega arith)

      grown-part : take (suc i - at) (drop at s) ≡ take (i - at) (drop at s) ++ (get_or s i 0 ∷ [])
      grown-part =
          let z : suc i - at ≡ suc (i - at) = omega arith in
          let e : at + (i - at) ≡ i = omega arith in
          let k : i - at < length (drop at s) = rw length-drop (omega arith) in
          rw z (take-suc (drop at s) (i - at) 0 k ∙ rw (get_or-drop at s (i - at) 0, e))

      pub walked_next : pre (take (i - at) (drop at s) ++ (get_or s i 0 ∷ [])) ≡ true → Walked pre ok s at (i + 1)
      walked_next b =
          record { from = omega arith; upto = omega arith; begun = rw (add-one i, grown-part) b; same = w.same ∙ rw (add-one i, grown-part, drop-cons s i 0 h, b) }

      pub walked_stop : pre (take (i - at) (drop at s) ++ (get_or s i 0 ∷ [])) ≡ false → ok (take (i - at) (drop at s)) ≡ true → token_p pre ok ret_p [] (drop at s) ≡ done (take (i - at) (drop at s)) (drop i s)
      walked_stop b k = w.same ∙ rw (drop-cons s i 0 h, b, k)

      pub walked-bad : pre (take (i - at) (drop at s) ++ (get_or s i 0 ∷ [])) ≡ false → ok (take (i - at) (drop at s)) ≡ false → token_p pre ok ret_p [] (drop at s) ≡ bad (drop i s)
      walked-bad b k = w.same ∙ rw (drop-cons s i 0 h, b, k)

-- glue
module _ (s : Bytes) (at : ℕ) where
  pub glue_start : at ≤ length s → Walked (every is_glue) always s at at
  glue_start h = walked_start (every is_glue) always s at h refl

  pub glue_next : (i : ℕ) → Walked (every is_glue) always s at i → i < length s → is_glue (get_or s i 0) ≡ true → Walked (every is_glue) always s at (i + 1)
  glue_next i w h b = walked_next (every is_glue) always s at i w h (every_append is_glue (take (i - at) (drop at s)) (get_or s i 0 ∷ []) w.begun (rw b))

  pub glue_open : (i : ℕ) → Skipped s at i → length s ≤ i → GotTok 0 s at (Err Open) (glue_tok (drop at s))
  unfolding glue_tok
  glue_open i k h = record { says = walked_more (every is_glue) always s at i k.walked h }

  pub glue_done : (i : ℕ) → Skipped s at i → i < length s → GotTok 0 s at (Ok i) (glue_tok (drop at s))
  unfolding glue_tok
  glue_done i k h =
      let f = k.walked.from in
      record { says = (omega arith, h, walked_stop (every is_glue) always s at i k.walked h (every_snoc is_glue (take (i - at) (drop at s)) (get_or s i 0) (k.ends h)) refl) }

-- names
shape_snoc : (n : Bytes) (b : ℕ) → non_empty n ≡ true → name_byte b ≡ true → shaped n ≡ true → shaped (n ++ b ∷ []) ≡ true
shape_snoc [] b z h k = absurd (let y : ◌≡◌ {A = ℕ} 0 1 = cc in omega arith)
shape_snoc (c ∷ n) b z h k = and_both (name_start c) (every name_byte (n ++ b ∷ [])) (and_left (name_start c) (every name_byte n) k) (every_append name_byte n (b ∷ []) (and_right (name_start c) (every name_byte n) k) (rw h))

some_true : (n : Bytes) → 0 < length n → non_empty n ≡ true
some_true [] h = absurd (omega arith)
some_true (b ∷ n) h = refl

new_some : (n : Bytes) → 0 < length n → new [] n ≡ true
unfolding new
new_some n h = rw (some_true n h)

live_snoc : (n : Bytes) (b : ℕ) → live [] n ≡ true → 0 < length n → length n < 64 → name_byte b ≡ true → live [] (n ++ b ∷ []) ≡ true
live_snoc n b l z k h = of_live [] (n ++ b ∷ []) (record { shape = shape_snoc n b (some_true n z) h (live_view [] n l).shape; fits = rw length-append (omega arith); room = inr refl })

live_full : (n : Bytes) (b : ℕ) → 64 ≤ length n → live [] (n ++ b ∷ []) ≡ false
unfolding live
live_full n b h = rw (lt-leb (length (n ++ b ∷ [])) 64 (rw length-append (omega arith))) (go (shaped (n ++ b ∷ [])))
  where
    go : (z : Bool) → z && false ≡ false
    go true = refl
    go false = refl

module _ (s : Bytes) (at : ℕ) where
  pub name_open : length s ≤ at → GotTok 1 s at (Err Open) (name_tok (drop at s))
  unfolding name_tok
  name_open h = record { says = rw (drop_of_length-le s h) }

  module _ (h : at < length s) where
    pub name_bad : name_start (get_or s at 0) ≡ false → GotTok 1 s at (Err (Bad at)) (name_tok (drop at s))
    unfolding name_tok new live
    name_bad f = record { says = (omega arith, h, rw (drop-cons s at 0 h, f)) }

    pub name_start_lem : name_start (get_or s at 0) ≡ true → Walked (live []) (new []) s at (at + 1)
    unfolding live
    name_start_lem f =
        let z : at - at ≡ 0 = sub_self at in
        walked_next (live []) (new []) s at at (walked_start (live []) (new []) s at (omega arith) refl) h (rw (z, f))

  module _ (i : ℕ) (w : Walked (live []) (new []) s at i) (g : at < i) where
    pub name_more : length s ≤ i → GotTok 1 s at (Err Open) (name_tok (drop at s))
    unfolding name_tok
    name_more h = record { says = walked_more (live []) (new []) s at i w h }

    module _ (h : i < length s) where
      pub name-next : name_byte (get_or s i 0) ≡ true → i - at < 64 → Walked (live []) (new []) s at (i + 1)
      name-next f k = let l = part_length (live []) (new []) s at i w h in walked_next (live []) (new []) s at i w h (live_snoc (take (i - at) (drop at s)) (get_or s i 0) w.begun (omega arith) (omega arith) f)

      stops : live [] (take (i - at) (drop at s) ++ (get_or s i 0 ∷ [])) ≡ false → GotTok 1 s at (Ok i) (name_tok (drop at s))
      unfolding name_tok
      stops b = let l = part_length (live []) (new []) s at i w h in record { says = (omega arith, h, walked_stop (live []) (new []) s at i w h b (new_some (take (i - at) (drop at s)) (omega arith))) }

      pub name_done : name_byte (get_or s i 0) ≡ false → GotTok 1 s at (Ok i) (name_tok (drop at s))
      name_done f = stops (live_shut [] (take (i - at) (drop at s)) (get_or s i 0) f)

      pub name-full : 64 ≤ i - at → GotTok 1 s at (Ok i) (name_tok (drop at s))
      name-full k = let l = part_length (live []) (new []) s at i w h in stops (live_full (take (i - at) (drop at s)) (get_or s i 0) (omega arith))

-- one byte
module _ (s : Bytes) (at b : ℕ) where
  pub byte_end : length s ≤ at → Got 1 s at (Err Open) (byte_p b (drop at s))
  unfolding byte_p
  byte_end h = record { says = rw (drop_of_length-le s h) }

  module _ (h : at < length s) where
    pub byte_hit : get_or s at 0 ≡ b → Got 1 s at (Ok (at + 1)) (byte_p b (drop at s))
    unfolding byte_p
    byte_hit e = record { says = (0, omega arith, omega arith, rw (add-one, drop-cons s at 0 h, eq-eqb b (get_or s at 0) (sym e))) }

    pub byte_miss : (get_or s at 0 ≡ b → ⊥) → Got 1 s at (Err (Bad at)) (byte_p b (drop at s))
    unfolding byte_p
    byte_miss e = record { says = (omega arith, h, rw (drop-cons s at 0 h, ne_eqb b (get_or s at 0) (λ q. e (sym q)))) }
