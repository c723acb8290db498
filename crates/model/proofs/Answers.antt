-- Every input has exactly one of the four answers: the model finds it, and none but it satisfies its sentence.
use Rattle.std.specs.Prelude.{◌≡◌, refl, [], ◌∷◌, ◌++◌, Bool, true, false, cond, ℕ, suc, ◌+◌, ◌-◌, ◌≤◌, ◌<◌, length, leb}
use Rattle.std.proofs.Common.{sym, ap, subst, ◌∙◌, append_assoc, append-nil, arith, length-append, leb-true, leb-false}
use Rattle.exact.specs.Exact.{Begins, Ended, Unfinished}
use Rattle.exact.specs.Chain.{clash}
use Rattle.exact.specs.Limit.{Ans, fine, wait, wrong, long, limited, Limited, shorter, limit_exact}
use Rattle.grammar.specs.Bytes.{Bytes, every}
use Rattle.grammar.specs.Limits.{MESSAGE}
use Rattle.grammar.specs.Glue.{is_glue, Glue}
use Rattle.grammar.specs.Tree.{Tree}
use Rattle.grammar.specs.Message.{Message}
use Rattle.grammar.specs.Answer.{leads, Behind, Open, EndedIn, LongestOpen, Answer, ends_at, more_from, malformed_at, too_long_from, Answers}
use Rattle.model.specs.Tests.{and_left, and_right, and_both}
use Rattle.model.specs.Messages.{message_p}
use Rattle.model.proofs.Messages.{message_exact}
use Rattle.model.specs.Answers.{leading, following, answer_by, answer_at, answer_of, Window}

pub behind : (s : Bytes) → Behind s (leading s) (following s)
unfolding leading following
behind [] = record { whole = refl; glue = refl; most = refl }
behind (b ∷ s) = at (is_glue b) refl (behind s)
  where
    at : (z : Bool) → is_glue b ≡ z → Behind s (leading s) (following s) → Behind (b ∷ s) (cond z (b ∷ leading s) []) (cond z (following s) (b ∷ s))
    at true e r = record { whole = ap (λ (y : Bytes). b ∷ y) r.whole; glue = and_both (is_glue b) (every is_glue (leading s)) e r.glue; most = r.most }
    at false e r = record { whole = refl; glue = refl; most = e }

-- the glue in front is one
pub behind_one : {s g x g' x' : Bytes} → Behind s g x → Behind s g' x' → (g ≡ g') × (x ≡ x')
behind_one {s} {g} {x} {g'} {x'} p q = go g g' (sym p.whole ∙ q.whole) p.glue q.glue
  where
    go : (g g' : Bytes) → g ++ x ≡ g' ++ x' → Glue g → Glue g' → (g ≡ g') × (x ≡ x')
    go [] [] e h h' = (refl, e)
    go [] (b ∷ g') e h h' = clash (sym (and_left (is_glue b) (every is_glue g') h') ∙ (rw e at p.most))
    go (b ∷ g) [] e h h' = clash (sym (and_left (is_glue b) (every is_glue g) h) ∙ (rw (← e) at q.most))
    go (b ∷ g) (b' ∷ g') e h h' =
        let i : b ≡ b' = cc in
        let j : g ++ x ≡ g' ++ x' = cc in
        let z = go g g' j (and_right (is_glue b) (every is_glue g) h) (and_right (is_glue b') (every is_glue g') h') in
        let z0 = z.0 in (cc, z.1)

-- the definitions' notions are those of the theory of exact readers
pub begins : {x : Bytes} → Open x → Begins Message x
begins o = (o.rest, o.reading, o.message)

pub is_open : {x : Bytes} → Begins Message x → Open x
is_open (r, t, m) = record { rest = r; reading = t; message = m }

pub ended : {x : Bytes} → EndedIn x → Ended Message x
ended e = (e.bytes, e.reading, e.rest, e.message, e.whole)

pub ended_in : {x : Bytes} → Ended Message x → EndedIn x
ended_in (w, t, r, m, i) = record { bytes = w; reading = t; rest = r; message = m; whole = i }

pub unfinished : {x : Bytes} → Open x → ¬ EndedIn x → Unfinished Message x
unfinished o n = (begins o, λ e. n (ended_in e))

-- a beginning of an open beginning is open
pub open_left : (u v : Bytes) → Open (u ++ v) → Open u
open_left u v o = record { rest = v ++ o.rest; reading = o.reading; message = rw append_assoc at o.message }

-- the longest open beginning is the one that its next byte kills
pub longest_dead : {x u : Bytes} (l : LongestOpen x u) → length u < length x → (b : ℕ) × (r : Bytes) × (x ≡ u ++ b ∷ r) × ¬ Open (u ++ b ∷ [])
longest_dead {x} {u} l h = go l.rest l.whole
  where
    go : (r : Bytes) → x ≡ u ++ r → (b : ℕ) × (r : Bytes) × (x ≡ u ++ b ∷ r) × ¬ Open (u ++ b ∷ [])
    go [] e = absurd (omega (arith, ap length e, length-append u []))
    go (b ∷ r) e = (b, r, e, λ o. omega (arith, l.longest (u ++ b ∷ []) r (e ∙ sym (append_assoc u (b ∷ []) r)) o, length-append u (b ∷ [])))

pub dead_longest : (x u : Bytes) (b : ℕ) (r : Bytes) → x ≡ u ++ b ∷ r → Open u → ¬ Open (u ++ b ∷ []) → LongestOpen x u
dead_longest x u b r e o d = record { rest = b ∷ r; whole = e; is_open = o; longest = λ v t i k. at v t i k (leb (length v) (length u)) refl }
  where
    at : (v t : Bytes) → x ≡ v ++ t → Open v → (z : Bool) → leb (length v) (length u) ≡ z → length v ≤ length u
    at v t i k true q = leb-true (length v) (length u) q
    at v t i k false q =
        let h = leb-false (length v) (length u) q in
        let s = shorter (u ++ b ∷ []) r v t (append_assoc u (b ∷ []) r ∙ sym e ∙ i) (omega (arith, length-append u (b ∷ []))) in
        absurd (d (open_left (u ++ b ∷ []) s.0 (subst (λ (y : Bytes). Open y) s.1 k)))

abbrev verdict : Bytes → Ans Tree
verdict x = limited MESSAGE x (message_p x)

limit : Limited Message MESSAGE (λ x. limited MESSAGE x (message_p x))
limit = limit_exact message_exact MESSAGE

-- it satisfies its sentence
pub answers : {s g x : Bytes} → Behind s g x → Answers s (answer_at (length g) x)
unfolding answer_at
answers {s} {g} {x} p = go (verdict x) refl
  where
    go : (o : Ans Tree) → verdict x ≡ o → Answers s (answer_by (length g) x o)
    go (fine t r) e =
        let (w, i, m, h) = (limit.fines x t r).0 e in
        let n : length x ≡ length w + length r = ap length i ∙ length-append w r in
        record { g = g; bytes = w; rest = r; reading = t; behind = subst (λ (y : Bytes). Behind s g y) i p; message = m; fits = h; starts = refl; ends = omega arith }
    go wait e =
        let (u, h) = (limit.waits x).0 e in
        record { g = g; x = x; behind = p; is_open = is_open u.0; unended = λ k. u.1 (ended k); below = h; starts = refl }
    go (wrong r) e =
        let ((u, b, r', q, i, o, d), h) = (limit.wrongs x r).0 e in
        let n : length x ≡ length u + suc (length r') = ap length i ∙ length-append u (b ∷ r') in
        let m : length r ≡ suc (length r') = ap length q in
        record {
          g = g;
          x = x;
          u = u;
          behind = p;
          longest = dead_longest x u b r' i (is_open o.0) (λ k. d (begins k));
          shorter = omega arith;
          below = omega arith;
          unended = λ k. o.1 (ended k);
          starts = refl;
          at_place = omega arith;
        }
    go long e =
        let (u, r, i, h, o) = (limit.longs x).0 e in
        record { g = g; u = u; rest = r; behind = subst (λ (y : Bytes). Behind s g y) i p; first = h; unended = λ k. o.1 (ended k); is_open = is_open o.0; starts = refl }

pub answered : (s : Bytes) → Answers s (answer_of s)
unfolding answer_of
answered s = answers (behind s)

-- and no other does
record By (s : Bytes) (a : Answer) : Type 0 where
  g : Bytes
  x : Bytes
  behind : Behind s g x
  is : a ≡ answer_at (length g) x

by : (s : Bytes) (a : Answer) → Answers s a → By s a
unfolding answer_at
by s (ends_at a e) p =
    let x = p.bytes ++ p.rest in
    let q : verdict x ≡ fine p.reading p.rest = (limit.fines x p.reading p.rest).1 (p.bytes, refl, p.message, p.fits) in
    let z : e ≡ length p.g + (length x - length p.rest) = omega (arith, p.ends, length-append p.bytes p.rest) in
    record { g = p.g; x = x; behind = p.behind; is = rw (q, p.starts, z) }
by s (more_from a) p =
    record { g = p.g; x = p.x; behind = p.behind; is = rw ((limit.waits p.x).1 (unfinished p.is_open p.unended, p.below), p.starts) }
by s (malformed_at a e) p =
    let (b, r, i, d) = longest_dead p.longest p.shorter in
    let n : length p.x ≡ length p.u + suc (length r) = ap length i ∙ length-append p.u (b ∷ r) in
    let h : length p.x - length (b ∷ r) < MESSAGE = omega (arith, p.below) in
    let q : verdict p.x ≡ wrong (b ∷ r) = (limit.wrongs p.x (b ∷ r)).1 ((p.u, b, r, refl, i, unfinished p.longest.is_open p.unended, λ k. d (is_open k)), h) in
    let z : e ≡ length p.g + (length p.x - length (b ∷ r)) = omega (arith, p.at_place) in
    record { g = p.g; x = p.x; behind = p.behind; is = rw (q, p.starts, z) }
by s (too_long_from a) p =
    let x = p.u ++ p.rest in
    record { g = p.g; x = x; behind = p.behind; is = rw ((limit.longs x).1 (p.u, p.rest, refl, p.first, unfinished p.is_open p.unended), p.starts) }

pub answers_are : {s g x : Bytes} (a : Answer) → Behind s g x → Answers s a → a ≡ answer_at (length g) x
answers_are {s} {g} {x} a p q =
    let b = by s a q in
    let z = behind_one b.behind p in
    b.is ∙ rw (z.0, z.1)

module _ {s g x w : Bytes} (p : Behind s g x) (v : Window x w) where
  sizes : length x ≡ length w + length v.rest
  sizes = ap length v.whole ∙ length-append w v.rest

  -- a beginning that is shorter than the limit, and no longer than x, lies in the window
  inside : (u r : Bytes) → x ≡ u ++ r → length u ≤ MESSAGE → (y : Bytes) × (w ≡ u ++ y)
  inside u r e h = shorter u r w v.rest (sym e ∙ v.whole) (at (leb MESSAGE (length w)) refl)
    where
      at : (z : Bool) → leb MESSAGE (length w) ≡ z → length u ≤ length w
      at true q = let k = leb-true MESSAGE (length w) q in omega arith
      at false q = omega (arith, ap length (v.all (leb-false MESSAGE (length w) q)), sizes, ap length e, length-append u r)

  pub window_behind : Behind (g ++ w) g w
  window_behind = record { whole = refl; glue = p.glue; most = go w (subst (λ (y : Bytes). leads y ≡ false) v.whole p.most) }
    where
      go : (w : Bytes) → leads (w ++ v.rest) ≡ false → leads w ≡ false
      go [] h = refl
      go (b ∷ w) h = h

  pub to_window : (a : Answer) → Answers s a → Answers (g ++ w) a
  to_window (ends_at a e) q =
      let z = behind_one q.behind p in
      let (y, i) = inside q.bytes q.rest (sym z.1) q.fits in
      record {
        g = g;
        bytes = q.bytes;
        rest = y;
        reading = q.reading;
        behind = subst (λ (u : Bytes). Behind (g ++ w) g u) i window_behind;
        message = q.message;
        fits = q.fits;
        starts = q.starts ∙ ap length z.0;
        ends = q.ends ∙ ap (λ (u : Bytes). length u + length q.bytes) z.0;
      }
  to_window (more_from a) q =
      let z = behind_one q.behind p in
      let i : w ≡ q.x = sym (z.1 ∙ v.whole ∙ ap (λ (y : Bytes). w ++ y) (v.all (omega (arith, q.below, ap length z.1, sizes))) ∙ append-nil w) in
      rw i (record { g = g; x = q.x; behind = subst (λ (u : Bytes). Behind (g ++ u) g u) i window_behind; is_open = q.is_open; unended = q.unended; below = q.below; starts = q.starts ∙ ap length z.0 })
  to_window (malformed_at a e) q =
      let z = behind_one q.behind p in
      let l = q.longest in
      let (b, r, k, d) = longest_dead l q.shorter in
      let (y, i) = inside (q.u ++ b ∷ []) r (sym z.1 ∙ k ∙ sym (append_assoc q.u (b ∷ []) r)) (omega (arith, q.below, length-append q.u (b ∷ []))) in
      let j : w ≡ q.u ++ b ∷ y = i ∙ append_assoc q.u (b ∷ []) y in
      record {
        g = g;
        x = w;
        u = q.u;
        behind = window_behind;
        longest = dead_longest w q.u b y j l.is_open d;
        shorter = omega (arith, ap length j, length-append q.u (b ∷ y));
        below = q.below;
        unended = q.unended;
        starts = q.starts ∙ ap length z.0;
        at_place = q.at_place ∙ ap (λ (u : Bytes). length u + length q.u) z.0;
      }
  to_window (too_long_from a) q =
      let z = behind_one q.behind p in
      let (y, i) = inside q.u q.rest (sym z.1) (omega (arith, q.first)) in
      record {
        g = g;
        u = q.u;
        rest = y;
        behind = subst (λ (u : Bytes). Behind (g ++ w) g u) i window_behind;
        first = q.first;
        unended = q.unended;
        is_open = q.is_open;
        starts = q.starts ∙ ap length z.0;
      }

  pub from_window : (a : Answer) → Answers (g ++ w) a → Answers s a
  from_window a q =
      let k = to_window (answer_at (length g) x) (answers p) in
      let e : a ≡ answer_at (length g) x = answers_are a window_behind q ∙ sym (answers_are (answer_at (length g) x) window_behind k) in
      subst (λ (b : Answer). Answers s b) (sym e) (answers p)
