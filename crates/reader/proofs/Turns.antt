-- Reading again and again, each time from the end of the message that was found: "a run of bytes cuts into messages and glue in
-- one way at most, and the library finds it where each message keeps the limit".
use Rattle.std.specs.Prelude.{◌≡◌, refl, List, [], ◌∷◌, ◌++◌, false, ℕ, zero, suc, ◌+◌, ◌≤◌, length, drop}
use Rattle.std.proofs.Common.{sym, ap, subst, ◌∙◌, append_assoc, append-nil, arith, length-append, length-drop, drop_at}
use Rattle.exact.specs.Byte.{Starts, starts}
use Rattle.grammar.specs.Bytes.{Bytes}
use Rattle.grammar.specs.Glue.{is_glue, Glue}
use Rattle.grammar.specs.Answer.{Answer as PaperAnswer, ends_at, more_from, malformed_at, too_long_from, Answers}
use Rattle.grammar.specs.Cut.{Piece, Cut, cut_end, cut_piece}
use Rattle.model.proofs.Cuts.{message_starts}
use Rattle.model.proofs.Theorems.{answers_total}
use Rattle.reader.specs.Theorems.{EachFits, fits_none, fits_piece, Finds}
use Rattle.reader.proofs.Theorems.{cut_found}
use Rattle.reader.specs.declared.answer.Answer.{Answer}
use Rattle.reader.specs.declared.answer.Answer.TheVariants.{Ends, More, Malformed, TooLong}
use Rattle.reader.specs.Turns.{InTurn, reads_on, waits, stops, gives_up, answers_of, EndsInGlue}

-- a message that is read is dropped
moves : {s : Bytes} {start end : ℕ} (p : Answers s (ends_at start end)) → Starts is_glue false p.bytes → length (drop end s) + 1 ≤ length s
moves {s} {start} {end} p (starts b w i k) =
    let n : length p.bytes ≡ suc (length w) = ap length i in
    let m : length s ≡ length p.g + length (p.bytes ++ p.rest) = ap length p.behind.whole ∙ length-append p.g (p.bytes ++ p.rest) in
    omega (arith, p.ends, length-append p.bytes p.rest, length-drop end s)

one_turn : (s : Bytes) → ((r : Bytes) → length r + 1 ≤ length s → (rs : List Answer) × InTurn r rs) → (a : PaperAnswer) → Answers s a → (rs : List Answer) × InTurn s rs
one_turn s next (ends_at start end) p = let (rs, t) = next (drop end s) (moves p (message_starts p.message)) in (Ends start end ∷ rs, reads_on start end p t)
one_turn s next (more_from start) p = (More start ∷ [], waits start p)
one_turn s next (malformed_at start place) p = (Malformed start place ∷ [], stops start place p)
one_turn s next (too_long_from start) p = (TooLong start ∷ [], gives_up start p)

turns : (n : ℕ) (s : Bytes) → length s ≤ n → (rs : List Answer) × InTurn s rs
turns zero s h = let (a, p) = answers_total s in one_turn s (λ r k. absurd (omega arith)) a p
turns (suc n) s h = let (a, p) = answers_total s in one_turn s (λ r k. turns n r (omega arith)) a p

-- every input can be read in turn, to an end
pub in_turn_total : (s : Bytes) → (rs : List Answer) × InTurn s rs
in_turn_total s = turns (length s) s (omega arith)

-- "and the library finds it where each message keeps the limit": the whole cut, message by message, to the last glue
pub cut_found_whole : {s g : Bytes} {l : List Piece} {rs : List Answer} → Cut s l g → EachFits l → InTurn s rs → rs ≡ answers_of l g
cut_found_whole {s} {g} {l = []} c f (reads_on start end p t) = let e = cut_found c f (Ends start end) p in absurd (let z : ◌≡◌ {A = ℕ} 0 1 = cc in omega arith)
cut_found_whole {s} {g} {l = []} c f (waits start p) = ap (λ (a : Answer). a ∷ []) (cut_found c f (More start) p)
cut_found_whole {s} {g} {l = []} c f (stops start place p) = ap (λ (a : Answer). a ∷ []) (cut_found c f (Malformed start place) p)
cut_found_whole {s} {g} {l = []} c f (gives_up start p) = ap (λ (a : Answer). a ∷ []) (cut_found c f (TooLong start) p)
cut_found_whole {s} {g} {l = q ∷ l} c (fits_piece h j) (reads_on {l = rs} start end p t) =
    go (cut_found c (fits_piece h j) (Ends start end) p) (λ n k. cut_found_whole {s = drop (length q.glue + length q.bytes) s} {g = g} {l = l} {rs = rs} k j (subst (λ (m : ℕ). InTurn (drop m s) rs) n t))
  where
    go : Finds s (q ∷ l) g (Ends start end) → (end ≡ length q.glue + length q.bytes → Cut (drop (length q.glue + length q.bytes) s) l g → rs ≡ answers_of l g) → Ends start end ∷ rs ≡ answers_of (q ∷ l) g
    go (e, k) f = let n : end ≡ length q.glue + length q.bytes = cc in let i = f n k in cc
cut_found_whole {s} {g} {l = q ∷ l} c f (waits start p) = let e = (cut_found c f (More start) p).0 in absurd (let z : ◌≡◌ {A = ℕ} 0 1 = cc in omega arith)
cut_found_whole {s} {g} {l = q ∷ l} c f (stops start place p) = let e = (cut_found c f (Malformed start place) p).0 in absurd (let z : ◌≡◌ {A = ℕ} 0 1 = cc in omega arith)
cut_found_whole {s} {g} {l = q ∷ l} c f (gives_up start p) = let e = (cut_found c f (TooLong start) p).0 in absurd (let z : ◌≡◌ {A = ℕ} 0 1 = cc in omega arith)

-- and then it is a cut, and these are its answers
pub found_is_cut : {s : Bytes} {rs : List Answer} → InTurn s rs → EndsInGlue s rs → (l : List Piece) × (g : Bytes) × Cut s l g × EachFits l × (rs ≡ answers_of l g)
found_is_cut {s} {rs} t h = let (l, g, c, f) = cut t h in (l, g, c, f, cut_found_whole c f t)
  where
    cut : {s : Bytes} {rs : List Answer} → InTurn s rs → EndsInGlue s rs → (l : List Piece) × (g : Bytes) × Cut s l g × EachFits l
    cut {s} (reads_on {l = rs} start end p t) h = go (cut t h)
      where
        left : drop end s ≡ p.rest
        left =
            ap (λ (n : ℕ). drop n s) (p.ends ∙ sym (length-append p.g p.bytes))
            ∙ ap (drop (length (p.g ++ p.bytes))) (p.behind.whole ∙ sym (append_assoc p.g p.bytes p.rest)) ∙ drop_at (p.g ++ p.bytes) p.rest (length (p.g ++ p.bytes)) refl

        go : (l : List Piece) × (g : Bytes) × Cut (drop end s) l g × EachFits l → (l : List Piece) × (g : Bytes) × Cut s l g × EachFits l
        go (l, g, c, f) = (record { glue = p.g; bytes = p.bytes; reading = p.reading } ∷ l, g, cut_piece p.behind.glue p.message p.behind.whole (subst (λ (y : Bytes). Cut y l g) left c), fits_piece p.fits f)
    cut {s} (waits start p) h = ([], s, cut_end all, fits_none)
      where
        none : (x : Bytes) → length x ≡ 0 → x ≡ []
        none [] e = refl
        none (b ∷ x) e = absurd (omega arith)

        all : Glue s
        all =
            let e : p.x ≡ [] = none p.x (omega (arith, h, p.starts, ap length p.behind.whole, length-append p.g p.x)) in
            subst Glue (sym (p.behind.whole ∙ ap (λ (y : Bytes). p.g ++ y) e ∙ append-nil p.g)) p.behind.glue
    cut (stops start place p) h = absurd h
    cut (gives_up start p) h = absurd h
