-- What a window shows holds of all input that starts with it, and glue in front only moves the places.
use Rattle.std.specs.Prelude.{◌≡◌, List, [], ◌∷◌, ◌++◌, false, ℕ, ◌+◌, ◌<◌, length, drop}
use Rattle.std.proofs.Common.{sym, ap, subst, ◌∙◌, append_assoc, append-nil, arith, length-append}
use Rattle.std.proofs.Math.Seq.{drop-append-add}
use Rattle.grammar.specs.Bytes.{Bytes, every}
use Rattle.grammar.specs.Glue.{is_glue, Glue}
use Rattle.grammar.specs.Answer.{leads, Behind, Malformed, TooLong, more_from, malformed_at, too_long_from, Answers}
use Rattle.model.specs.Tests.{and_left, and_right, and_both}
use Rattle.model.proofs.Answers.{longest_dead, dead_longest}
use Rattle.model.proofs.Cuts.{piece_behind}
use Rattle.lines.specs.Lines.{MessageLine, LastLine, FirstLine, EndLine, unfinished, malformed, too_long, line_from, last_from, Lists, list_end, list_line}

-- bytes added behind leave the glue as it is, where a byte stands behind it
behind_more : {s g x : Bytes} (t : Bytes) → Behind s g x → 0 < length x → Behind (s ++ t) g (x ++ t)
behind_more {s} {g} {x} t p h = record { whole = ap (λ (y : Bytes). y ++ t) p.whole ∙ append_assoc g x t; glue = p.glue; most = go x h p.most }
  where
    go : (x : Bytes) → 0 < length x → leads x ≡ false → leads (x ++ t) ≡ false
    go [] h e = absurd (omega arith)
    go (b ∷ x) h e = e

-- 2 stays 2, at the same place
pub malformed_more : {s : Bytes} {start place : ℕ} (t : Bytes) → Malformed s start place → Malformed (s ++ t) start place
malformed_more {s} t p =
    let (b, r, i, d) = longest_dead p.longest p.shorter in
    let j : p.x ++ t ≡ p.u ++ b ∷ (r ++ t) = ap (λ (y : Bytes). y ++ t) i ∙ append_assoc p.u (b ∷ r) t in
    record {
      g = p.g;
      x = p.x ++ t;
      u = p.u;
      behind = behind_more t p.behind (omega (arith, p.shorter));
      longest = dead_longest (p.x ++ t) p.u b (r ++ t) j p.longest.is_open d;
      shorter = omega (arith, p.shorter, length-append p.x t);
      below = p.below;
      unended = p.unended;
      starts = p.starts;
      at_place = p.at_place;
    }

-- 3 stays 3
pub too_long_more : {s : Bytes} {start : ℕ} (t : Bytes) → TooLong s start → TooLong (s ++ t) start
too_long_more {s} t p = record {
  g = p.g;
  u = p.u;
  rest = p.rest ++ t;
  behind = subst (λ (y : Bytes). Behind (s ++ t) p.g y) (append_assoc p.u p.rest t) (behind_more t p.behind (omega (arith, p.first, length-append p.u p.rest)));
  first = p.first;
  unended = p.unended;
  is_open = p.is_open;
  starts = p.starts;
}

-- 0 stays 0: "nothing behind the end of a message matters"
pub line_more : {s : Bytes} {m : MessageLine} (t : Bytes) → FirstLine s m → FirstLine (s ++ t) m
line_more {s} {m} t f =
    let p = f.message in record {
      message = record {
        g = p.g;
        bytes = p.bytes;
        rest = p.rest ++ t;
        reading = p.reading;
        behind = piece_behind (p.rest ++ t) p.behind.glue p.message (ap (λ (y : Bytes). y ++ t) p.behind.whole ∙ append_assoc p.g (p.bytes ++ p.rest) t ∙ ap (λ (y : Bytes). p.g ++ y) (append_assoc p.bytes p.rest t));
        message = p.message;
        fits = p.fits;
        starts = p.starts;
        ends = p.ends;
      };
      kind = f.kind;
      refusal = f.refusal;
    }

-- a last line stays, with any bytes behind if it is not that of unfinished bytes
pub end_more : {s : Bytes} {z : LastLine} (t : Bytes) → (z.answer ≡ 1 → t ≡ []) → EndLine s z → EndLine (s ++ t) z
end_more {s} {z} t h (unfinished start p e) = subst (λ (t : Bytes). EndLine (s ++ t) z) (sym (h (ap (λ (z : LastLine). z.answer) e))) (subst (λ (y : Bytes). EndLine y z) (sym (append-nil s)) (unfinished start p e))
end_more t h (malformed start place p e) = malformed start place (malformed_more t p) e
end_more t h (too_long start p e) = too_long start (too_long_more t p) e

-- glue and glue
glue_both : (g h : Bytes) → Glue g → Glue h → Glue (g ++ h)
glue_both [] h p q = q
glue_both (b ∷ g) h p q = and_both (is_glue b) (every is_glue (g ++ h)) (and_left (is_glue b) (every is_glue g) p) (glue_both g h (and_right (is_glue b) (every is_glue g) p) q)

behind_glue : {s g x : Bytes} (h : Bytes) → Glue h → Behind s g x → Behind (h ++ s) (h ++ g) x
behind_glue {s} {g} {x} h k p = record { whole = ap (λ (y : Bytes). h ++ y) p.whole ∙ sym (append_assoc h g x); glue = glue_both h g k p.glue; most = p.most }

-- each answer behind more glue
module _ (h : Bytes) (k : Glue h) {s : Bytes} where
  more_glue : {start : ℕ} → Answers s (more_from start) → Answers (h ++ s) (more_from (length h + start))
  more_glue p = record { g = h ++ p.g; x = p.x; behind = behind_glue h k p.behind; is_open = p.is_open; unended = p.unended; below = p.below; starts = omega (arith, p.starts, length-append h p.g) }

  malformed_glue : {start place : ℕ} → Answers s (malformed_at start place) → Answers (h ++ s) (malformed_at (length h + start) (length h + place))
  malformed_glue p = record {
    g = h ++ p.g;
    x = p.x;
    u = p.u;
    behind = behind_glue h k p.behind;
    longest = p.longest;
    shorter = p.shorter;
    below = p.below;
    unended = p.unended;
    starts = omega (arith, p.starts, length-append h p.g);
    at_place = omega (arith, p.at_place, length-append h p.g);
  }

  too_long_glue : {start : ℕ} → Answers s (too_long_from start) → Answers (h ++ s) (too_long_from (length h + start))
  too_long_glue p = record { g = h ++ p.g; u = p.u; rest = p.rest; behind = behind_glue h k p.behind; first = p.first; unended = p.unended; is_open = p.is_open; starts = omega (arith, p.starts, length-append h p.g) }

  line_glue : {m : MessageLine} → FirstLine s m → FirstLine (h ++ s) (line_from (length h) m)
  line_glue f =
      let p = f.message in record {
        message = record {
          g = h ++ p.g;
          bytes = p.bytes;
          rest = p.rest;
          reading = p.reading;
          behind = behind_glue h k p.behind;
          message = p.message;
          fits = p.fits;
          starts = omega (arith, p.starts, length-append h p.g);
          ends = omega (arith, p.ends, length-append h p.g);
        };
        kind = f.kind;
        refusal = f.refusal;
      }

  end_glue : {z : LastLine} → EndLine s z → EndLine (h ++ s) (last_from (length h) z)
  end_glue (unfinished start p e) = unfinished (length h + start) (more_glue p) (ap (last_from (length h)) e)
  end_glue (malformed start place p e) = malformed (length h + start) (length h + place) (malformed_glue p) (ap (last_from (length h)) e)
  end_glue (too_long start p e) = too_long (length h + start) (too_long_glue p) (ap (last_from (length h)) e)

-- glue that is dropped is only counted
pub lists_glue : (h : Bytes) → Glue h → {n : ℕ} {s : Bytes} {l : List MessageLine} {z : LastLine} → Lists (n + length h) s l z → Lists n (h ++ s) l z
lists_glue h k {n} (list_end e p i) = list_end (last_from (length h) e) (end_glue h k p) (i ∙ moved)
  where
    moved : last_from (n + length h) e ≡ last_from n (last_from (length h) e)
    moved = ap (λ (x : ℕ). record { place = x; answer = e.answer }) (omega arith)
lists_glue h k {n} {s} (list_line {l} {z = z} m f i t) = list_line (line_from (length h) m) (line_glue h k f) (i ∙ moved) rest
  where
    moved : line_from (n + length h) m ≡ line_from n (line_from (length h) m)
    moved =
        ap (λ (x : ℕ). record { start = x; end = n + length h + m.end; kind = m.kind; refusal = m.refusal }) (omega arith)
        ∙ ap (λ (x : ℕ). record { start = n + (length h + m.start); end = x; kind = m.kind; refusal = m.refusal }) (omega arith)

    rest : Lists (n + (length h + m.end)) (drop (length h + m.end) (h ++ s)) l z
    rest =
        subst (λ (y : Bytes). Lists (n + (length h + m.end)) y l z) (sym (drop-append-add h s m.end))
        (subst (λ (x : ℕ). Lists x (drop m.end s) l z) (omega arith) t)
