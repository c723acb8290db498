-- Demand 3, sentence by sentence, of every result r that meets the promise of `read`: `Answers s (paper r)`. That a message has
-- one reading, is no beginning of another, and that a cut is one, needs no reader: `model`'s Theorems.
use Rattle.std.specs.Prelude.{◌≡◌, refl, [], ◌∷◌, ◌++◌, ◌↔◌, Bool, true, false, not, ℕ, zero, suc, ◌+◌, ◌≤◌, ◌<◌, length, eqb, leb}
use Rattle.std.proofs.Common.{sym, ap, subst, ◌∙◌, append_assoc, append-nil, arith, length-append, leb-true, leb-false}
use Prim.Native.Char.{code}
use Rattle.exact.specs.Exact.{inhabited}
use Rattle.exact.specs.Chain.{clash}
use Rattle.exact.specs.Limit.{shorter}
use Rattle.grammar.specs.Bytes.{Bytes, text, every}
use Rattle.grammar.specs.Limits.{MESSAGE}
use Rattle.grammar.specs.Glue.{is_glue, Glue}
use Rattle.grammar.specs.Tree.{Tree}
use Rattle.grammar.specs.Message.{Message}
use Rattle.grammar.specs.Answer.{leads, Behind, Open, OpenBeginning, EndedIn, malformed_at, Answers}
use Rattle.model.specs.Tests.{and_left, and_right, every_left, every_right}
use Rattle.model.proofs.Messages.{message_exact}
use Rattle.model.proofs.Answers.{behind_one, longest_dead}
use Rattle.model.proofs.Cuts.{message_ends, piece_behind}
use Rattle.model.proofs.Theorems.{open_down}
use Rattle.reader.specs.Answer.{paper}
use Rattle.reader.proofs.Theorems.{read_only, accepted_iff, more_iff}
use Rattle.reader.specs.declared.answer.Answer.{Answer}
use Rattle.reader.specs.declared.answer.Answer.TheVariants.{Ends, More, Malformed, TooLong}
use Rattle.reader.specs.Demand3.{EndedBehindGlue, DiesAt}

-- "With the limit of 65,536 bytes, and glue before it dropped, a string is accepted as well formed to its last byte
-- exactly if it is one of them"
pub accepted_exactly : {s : Bytes} {r : Answer} → Answers s (paper r) → (start : ℕ)
    → (r ≡ Ends start (length s)) ↔ ((g : Bytes) × (m : Bytes) × (t : Tree) × (s ≡ g ++ m) × Glue g × Message m t × (length m ≤ MESSAGE) × (start ≡ length g))
accepted_exactly {s} {r} p start = (λ e. (accepted_iff s start).0 (subst (λ (a : Answer). Answers s (paper a)) e p), λ h. read_only s r (Ends start (length s)) p ((accepted_iff s start).1 h))

-- "Below the limit, more bytes are asked for only while some message, however long, could still begin so"
pub more_exactly : {s g x : Bytes} {r : Answer} → Behind s g x → Answers s (paper r) → (r ≡ More (length g)) ↔ (Open x × ¬ EndedIn x × (length x < MESSAGE))
more_exactly {s} {g} {x} {r} b p = (to r p, λ (o, n, h). read_only s r (More (length g)) p ((more_iff b h).1 (o, n)))
  where
    to : (r : Answer) → Answers s (paper r) → r ≡ More (length g) → Open x × ¬ EndedIn x × (length x < MESSAGE)
    to r p e =
        let q : Answers s (paper (More (length g))) = subst (λ (a : Answer). Answers s (paper a)) e p in
        let i = (behind_one q.behind b).1 in
        (subst (λ (y : Bytes). Open y) i q.is_open, subst (λ (y : Bytes). ¬ EndedIn y) i q.unended, omega (arith, q.below, ap length i))

-- "otherwise reading answers malformed"
pub malformed_exactly : {s g x : Bytes} {r : Answer} → Behind s g x → length x < MESSAGE → Answers s (paper r) → ((place : ℕ) × (r ≡ Malformed (length g) place)) ↔ (¬ Open x × ¬ EndedIn x)
malformed_exactly {s} {g} {x} {r} b h p = (λ (place, e). only place (subst (λ (a : Answer). Answers s (paper a)) e p), λ (o, e). otherwise r p o e)
  where
    otherwise : (r : Answer) → Answers s (paper r) → ¬ Open x → ¬ EndedIn x → (place : ℕ) × (r ≡ Malformed (length g) place)
    otherwise (Ends start end) p o e =
        let z = behind_one p.behind b in
        absurd (e (record { bytes = p.bytes; reading = p.reading; rest = p.rest; message = p.message; whole = sym z.1 }))
    otherwise (More start) p o e = absurd (o (subst (λ (y : Bytes). Open y) (behind_one p.behind b).1 p.is_open))
    otherwise (Malformed start place) p o e = (place, ap (λ (n : ℕ). Malformed n place) (p.starts ∙ ap length (behind_one p.behind b).0))
    otherwise (TooLong start) p o e =
        let z = behind_one p.behind b in
        absurd (omega (arith, p.first, ap length z.1, length-append p.u p.rest))

    only : (place : ℕ) → Answers s (paper (Malformed (length g) place)) → ¬ Open x × ¬ EndedIn x
    only place p = (dead, none)
      where
        is_x : p.x ≡ x
        is_x = (behind_one p.behind b).1

        dead : Open x → ⊥
        dead o =
            let (c, r, i, d) = longest_dead p.longest p.shorter in
            d (open_down (p.u ++ c ∷ []) r (subst (λ (y : Bytes). Open y) (sym is_x ∙ i ∙ sym (append_assoc p.u (c ∷ []) r)) o))

        none : EndedIn x → ⊥
        none e =
            let q : p.x ≡ e.bytes ++ e.rest = is_x ∙ e.whole in
            let o : Open e.bytes = record { rest = []; reading = e.reading; message = subst (λ (y : Bytes). Message y e.reading) (sym (append-nil e.bytes)) e.message } in
            let n = p.longest.longest e.bytes e.rest q o in
            let (y, i) = shorter e.bytes e.rest p.u p.longest.rest (sym q ∙ p.longest.whole) n in
            p.unended (record { bytes = e.bytes; reading = e.reading; rest = y; message = e.message; whole = i })

-- what leads a beginning leads the whole
leads_left : (u r : Bytes) → leads (u ++ r) ≡ false → leads u ≡ false
leads_left [] r h = refl
leads_left (b ∷ u) r h = h

-- glue at the front of an input is part of its leading glue
glue_within : (g h x r : Bytes) → Glue h → h ++ r ≡ g ++ x → leads x ≡ false → length h ≤ length g
glue_within g [] x r k e f = omega arith
glue_within [] (b ∷ h) (c ∷ x) r k e f = let i : b ≡ c = cc in clash (sym (and_left (is_glue b) (every is_glue h) k) ∙ ap is_glue i ∙ f)
glue_within [] (b ∷ h) [] r k e f = absurd (let z : ◌≡◌ {A = ℕ} 0 1 = cc in omega arith)
glue_within (c ∷ g) (b ∷ h) x r k e f = let j : h ++ r ≡ g ++ x = cc in let n = glue_within g h x r (and_right (is_glue b) (every is_glue h) k) j f in omega arith

-- glue alone is an open beginning
glue_opens : (h : Bytes) → Glue h → OpenBeginning h
glue_opens h k =
    let (w, t, m) = inhabited message_exact in
    record { g = h; x = []; behind = record { whole = sym (append-nil h); glue = k; most = refl }; is_open = record { rest = w; reading = t; message = m } }

-- what stands behind the same bytes
same_behind : (g x y : Bytes) → g ++ x ≡ g ++ y → x ≡ y
same_behind [] x y e = e
same_behind (b ∷ g) x y e = same_behind g x y (let i : g ++ x ≡ g ++ y = cc in i)

-- a beginning of an input that reaches behind its leading glue
past_glue : {s g x : Bytes} → Behind s g x → (v r : Bytes) → s ≡ v ++ r → length g ≤ length v → (y : Bytes) × (v ≡ g ++ y) × (x ≡ y ++ r) × Behind v g y
past_glue {s} {g} {x} b v r e h =
    let (y, i) = shorter g x v r (sym b.whole ∙ e) h in
    let j : x ≡ y ++ r = same_behind g x (y ++ r) (sym b.whole ∙ e ∙ ap (λ (z : Bytes). z ++ r) i ∙ append_assoc g y r) in
    (y, i, j, record { whole = i; glue = b.glue; most = leads_left y r (subst (λ (z : Bytes). leads z ≡ false) j b.most) })

-- one that does not is glue
in_glue : {s g x : Bytes} → Behind s g x → (v r : Bytes) → s ≡ v ++ r → length v ≤ length g → Glue v
in_glue {s} {g} {x} b v r e h = let (y, i) = shorter v r g x (sym e ∙ b.whole) h in every_left is_glue v y (subst (λ (z : Bytes). Glue z) i b.glue)

-- a message behind the glue of a beginning stands behind the glue of the whole
ended_more : {s g x : Bytes} → Behind s g x → (v r : Bytes) → s ≡ v ++ r → (q : EndedBehindGlue v) → (q.g ≡ g) × (q.x ++ r ≡ x)
ended_more {s} b v r e q =
    let w : s ≡ q.g ++ (q.ended.bytes ++ (q.ended.rest ++ r)) = e ∙ ap (λ (y : Bytes). y ++ r) q.behind.whole ∙ append_assoc q.g q.x r
    ∙ ap (λ (y : Bytes). q.g ++ (y ++ r)) q.ended.whole ∙ ap (λ (y : Bytes). q.g ++ y) (append_assoc q.ended.bytes q.ended.rest r) in
    let z = behind_one (piece_behind (q.ended.rest ++ r) q.behind.glue q.ended.message w) b in
    (z.0, ap (λ (y : Bytes). y ++ r) q.ended.whole ∙ append_assoc q.ended.bytes q.ended.rest r ∙ z.1)

-- "the longest open beginning .. its length, glue included, is the place"
pub place_longest : {s : Bytes} {start place : ℕ} → Answers s (paper (Malformed start place))
    → ((b : Bytes) × (r : Bytes) × (s ≡ b ++ r) × (length b ≡ place) × OpenBeginning b) × ((v r : Bytes) → s ≡ v ++ r → OpenBeginning v → length v ≤ place)
place_longest {s} {start} {place} p = ((p.g ++ p.u, p.longest.rest, whole, length-append p.g p.u ∙ sym p.at_place, record { g = p.g; x = p.u; behind = front; is_open = p.longest.is_open }), most)
  where
    whole : s ≡ (p.g ++ p.u) ++ p.longest.rest
    whole = p.behind.whole ∙ ap (λ (y : Bytes). p.g ++ y) p.longest.whole ∙ sym (append_assoc p.g p.u p.longest.rest)

    front : Behind (p.g ++ p.u) p.g p.u
    front = record { whole = refl; glue = p.behind.glue; most = leads_left p.u p.longest.rest (subst (λ (y : Bytes). leads y ≡ false) p.longest.whole p.behind.most) }

    at : (v r g x : Bytes) → s ≡ v ++ r → v ≡ g ++ x → Glue g → leads x ≡ false → Open x → length v ≤ place
    at v r g [] e i h m o =
        let j : g ++ r ≡ p.g ++ p.x = ap (λ (y : Bytes). y ++ r) (sym (append-nil g) ∙ sym i) ∙ sym e ∙ p.behind.whole in
        let n = glue_within p.g g p.x r h j p.behind.most in
        omega (arith, p.at_place, ap length i, length-append g [])
    at v r g (b ∷ x) e i h m o =
        let q : Behind s g ((b ∷ x) ++ r) = record { whole = e ∙ ap (λ (y : Bytes). y ++ r) i ∙ append_assoc g (b ∷ x) r; glue = h; most = m } in
        let z = behind_one q p.behind in
        let n = p.longest.longest (b ∷ x) r (sym z.1) o in
        omega (arith, p.at_place, ap length i, length-append g (b ∷ x), ap length z.0)

    most : (v r : Bytes) → s ≡ v ++ r → OpenBeginning v → length v ≤ place
    most v r e o = at v r o.g o.x e o.behind.whole o.behind.glue o.behind.most o.is_open

-- a place in a list
split : (n : ℕ) (s : Bytes) → n ≤ length s → (v : Bytes) × (r : Bytes) × (s ≡ v ++ r) × (length v ≡ n)
split n s h = go s n h
  where
    go : (s : Bytes) (n : ℕ) → n ≤ length s → (v : Bytes) × (r : Bytes) × (s ≡ v ++ r) × (length v ≡ n)
    go s zero h = ([], s, refl, refl)
    go [] (suc n) h = absurd (omega arith)
    go (b ∷ s) (suc n) h = let (v, r, e, i) = go s n (omega arith) in (b ∷ v, r, ap (λ (y : Bytes). b ∷ y) e, omega arith)

-- "malformed, at the first byte after which none could"
pub malformed_at_lem : {s : Bytes} {r : Answer} → Answers s (paper r) → (start place : ℕ) → (r ≡ Malformed start place) ↔ DiesAt s start place
malformed_at_lem {s} {r} p start place = (λ e. to (subst (λ (a : Answer). Answers s (paper a)) e p), λ d. read_only s r (Malformed start place) p (from d))
  where
    to : Answers s (paper (Malformed start place)) → DiesAt s start place
    to p = record {
      g = p.g;
      x = p.x;
      behind = p.behind;
      starts_there = p.starts;
      inside = omega (arith, p.at_place, p.shorter, ap length p.behind.whole, length-append p.g p.x);
      below = omega (arith, p.at_place, p.below, p.starts);
      lives = λ v r e h. live v r e h (leb (length v) (length p.g)) refl;
      dies = λ v r e h o. let n = (place_longest {s = s} {start = start} {place = place} p).1 v r e o in omega arith;
      unended = none;
    }
      where
        live : (v r : Bytes) → s ≡ v ++ r → length v ≤ place → (z : Bool) → leb (length v) (length p.g) ≡ z → OpenBeginning v
        live v r e h true k = glue_opens v (in_glue p.behind v r e (leb-true (length v) (length p.g) k))
        live v r e h false k =
            let l = leb-false (length v) (length p.g) k in
            let (y, i, j, b) = past_glue p.behind v r e (omega arith) in
            let (z, q) = shorter y r p.u p.longest.rest (sym j ∙ p.longest.whole) (omega (arith, p.at_place, ap length i, length-append p.g y)) in
            record { g = p.g; x = y; behind = b; is_open = open_down y z (subst (λ (w : Bytes). Open w) q p.longest.is_open) }

        none : (v r : Bytes) → s ≡ v ++ r → length v ≤ place → EndedBehindGlue v → ⊥
        none v r e h q =
            let (a, b) = ended_more p.behind v r e q in
            let n : length v ≡ length q.g + length q.x = ap length q.behind.whole ∙ length-append q.g q.x in
            let (y, i) = shorter q.x r p.u p.longest.rest (b ∙ p.longest.whole) (omega (arith, p.at_place, ap length a)) in
            p.unended (record {
              bytes = q.ended.bytes;
              reading = q.ended.reading;
              rest = q.ended.rest ++ y;
              message = q.ended.message;
              whole = i ∙ ap (λ (w : Bytes). w ++ y) q.ended.whole ∙ append_assoc q.ended.bytes q.ended.rest y;
            })

    from : DiesAt s start place → Answers s (malformed_at start place)
    from d =
        let (v, r, e, n) = split place s (let h = d.inside in omega arith) in
        let h : length d.g ≤ place = enough in
        let (u, i, j, b) = past_glue d.behind v r e (omega arith) in
        let o = d.lives v r e (omega arith) in
        let k : length v ≡ length d.g + length u = ap length i ∙ length-append d.g u in
        record {
          g = d.g;
          x = d.x;
          u = u;
          behind = d.behind;
          longest = record { rest = r; whole = j; is_open = subst (λ (y : Bytes). Open y) (behind_one o.behind b).1 o.is_open; longest = λ w t q x. longest u (sym n ∙ k) w t q x (leb (length w) (length u)) refl };
          shorter = omega (arith, d.inside, ap length d.behind.whole, length-append d.g d.x);
          below = omega (arith, d.below, d.starts_there);
          unended = λ y. d.unended v r e (omega arith) (record { g = d.g; x = u; behind = b; ended = y });
          starts = d.starts_there;
          at_place = omega arith;
        }
      where
        enough : length d.g ≤ place
        enough = at (leb (length d.g) place) refl
          where
            at : (z : Bool) → leb (length d.g) place ≡ z → length d.g ≤ place
            at true k = leb-true (length d.g) place k
            at false k =
                let l = leb-false (length d.g) place k in
                absurd (d.dies d.g d.x d.behind.whole (omega arith) (glue_opens d.g d.behind.glue))

        longest : (u : Bytes) → place ≡ length d.g + length u → (w t : Bytes) → d.x ≡ w ++ t → Open w → (z : Bool) → leb (length w) (length u) ≡ z → length w ≤ length u
        longest u k w t q o true m = leb-true (length w) (length u) m
        longest u k w t q o false m =
            let l = leb-false (length w) (length u) m in
            let b : Behind (d.g ++ w) d.g w = record { whole = refl; glue = d.behind.glue; most = leads_left w t (subst (λ (y : Bytes). leads y ≡ false) q d.behind.most) } in
            absurd (d.dies (d.g ++ w) t (d.behind.whole ∙ ap (λ (y : Bytes). d.g ++ y) q ∙ sym (append_assoc d.g w t)) (omega (arith, length-append d.g w)) (record { g = d.g; x = w; behind = b; is_open = o }))

-- A message ends with `>`: where more was asked for, bytes without `>` end no message, and nobody need ask before the next `>`.
pub no_end_without_gt : {s : Bytes} {start : ℕ} → Answers s (paper (More start)) → (u : Bytes) → every (λ b. not (eqb (code ">") b)) u ≡ true
    → {r : Answer} → Answers (s ++ u) (paper r) → (a e : ℕ) → r ≡ Ends a e → ⊥
no_end_without_gt {s} {start} p u h {r} q a e i = go (subst (λ (r : Answer). Answers (s ++ u) (paper r)) i q)
  where
    absent_in : (v r : Bytes) → every (λ b. not (eqb (code ">") b)) (v ++ (text ">" ++ r)) ≡ true → ⊥
    absent_in v r k = clash (sym (and_left false (every (λ b. not (eqb (code ">") b)) r) (every_right (λ b. not (eqb (code ">") b)) v (text ">" ++ r) k)))

    go : Answers (s ++ u) (paper (Ends a e)) → ⊥
    go k = at (leb (length s) (length k.g + length (message_ends k.message).0)) refl
      where
        v : Bytes
        v = (message_ends k.message).0

        whole : s ++ u ≡ (k.g ++ v) ++ (text ">" ++ k.rest)
        whole =
            k.behind.whole ∙ ap (λ (y : Bytes). k.g ++ (y ++ k.rest)) (message_ends k.message).1
            ∙ ap (λ (y : Bytes). k.g ++ y) (append_assoc v (text ">") k.rest) ∙ sym (append_assoc k.g v (text ">" ++ k.rest))

        at : (z : Bool) → leb (length s) (length k.g + length v) ≡ z → ⊥
        at true l =
            let m = leb-true (length s) (length k.g + length v) l in
            let (y, j) = shorter s u (k.g ++ v) (text ">" ++ k.rest) whole (omega (arith, length-append k.g v)) in
            absent_in y k.rest (subst (λ (w : Bytes). every (λ b. not (eqb (code ">") b)) w ≡ true) (tail y j) h)
          where
            tail : (y : Bytes) → k.g ++ v ≡ s ++ y → u ≡ y ++ (text ">" ++ k.rest)
            tail y j = same_behind s u (y ++ (text ">" ++ k.rest)) (whole ∙ ap (λ (w : Bytes). w ++ (text ">" ++ k.rest)) j ∙ append_assoc s y (text ">" ++ k.rest))
        at false l =
            let m = leb-false (length s) (length k.g + length v) l in
            let w : (k.g ++ k.bytes) ++ k.rest ≡ s ++ u = append_assoc k.g k.bytes k.rest ∙ sym k.behind.whole in
            let n : length k.bytes ≡ length v + 1 = ap length (message_ends k.message).1 ∙ length-append v (text ">") in
            let (y, j) = shorter (k.g ++ k.bytes) k.rest s u w (omega (arith, length-append k.g k.bytes)) in
            let b : Behind s k.g (k.bytes ++ y) = piece_behind y k.behind.glue k.message (j ∙ append_assoc k.g k.bytes y) in
            p.unended (record { bytes = k.bytes; reading = k.reading; rest = y; message = k.message; whole = sym (behind_one b p.behind).1 })
