-- The turns that the program counts are never used up before its input ends.
use Rattle.std.specs.Prelude.{◌≡◌, ◌++◌, true, false, ℕ, suc, ◌+◌, ◌*◌, ◌^◌, ◌≤◌, ◌<◌, length}
use Rattle.std.proofs.Common.{sym, ap, ◌∙◌, arith, length-append}
use Rattle.exact.specs.Chain.{clash}
use Rattle.grammar.specs.Bytes.{Bytes}
use Rattle.number.proofs.Tests.{cases}
use Rattle.lines.specs.Step.{ListStep}
use Rattle.lines.proofs.Theorems.{line_within}
use Rattle.lines.specs.declared.Listed.{Listed}
use Rattle.lines.specs.declared.Listed.TheVariants.{Line, Drop, End}
use Rattle.windows.specs.Held.{bytes_of, next, ends}
use Rattle.listing.specs.Turns.{At, Turn, Past, past_start, past_turn, Unended}
use Rattle.listing.specs.Prints.{holds}
use Rattle.listing.proofs.Prints.{topped_long, left_long}
use Rattle.windows.specs.declared.window.Window.{Window}

-- each line has a byte of its own; and so has each turn without one: before it a byte is read, since the turn before it had a line and needed none, or
-- left a window in which no message ends
record Counts (k : ℕ) (input : Bytes) (a : At) : Type 0 where
  lines : ℕ
  drops : ℕ
  turns : k ≡ lines + drops
  short : lines + holds a ≤ length input
  few : drops ≤ length input
  fewer : a.window.dry ≡ false → a.window.last ≡ false → drops < length input

counts_turn : {k : ℕ} {input : Bytes} {a b : At} → Counts k input a → (t : Turn a false b) → Counts (suc k) (input ++ t.topped.more) b
counts_turn {k} {input} {a} {b} p t = go t.turned.listed t.turned.step t.turned.window (sym t.turned.done)
  where
    more : Bytes
    more = t.topped.more

    input_is : length (input ++ more) ≡ length input + length more
    input_is = length-append input more

    -- where the input goes on there is a byte more than there were turns without a line
    spare : t.held.last ≡ false → p.drops < length (input ++ more)
    spare h =
        cases a.window.dry (λ e. let q = t.topped.on e h in omega (arith, input_is, p.few))
        (λ e. let q = p.fewer e (goes_on h) in omega (arith, input_is))
      where
        goes_on : t.held.last ≡ false → a.window.last ≡ false
        goes_on h = cases a.window.last (λ e. clash (sym (t.topped.ended e).0 ∙ h)) (λ e. e)

    go : (x : Listed) → ListStep (bytes_of t.held b.buf) t.held.last x → b.window ≡ next t.held x → ends x ≡ false → Counts (suc k) (input ++ more) b
    go (Line start end kind refusal) s e f =
        let (i, j) = line_within s in record {
          lines = suc p.lines;
          drops = p.drops;
          turns = omega (arith, p.turns);
          short = omega (arith, p.short, left_long t end false e, topped_long t, input_is);
          few = omega (arith, p.few, input_is);
          fewer = λ _ h. spare (sym (ap (λ (w : Window). w.last) e) ∙ h);
        }
    go (Drop glue) s e f =
        let h = spare s.shows.1 in record {
          lines = p.lines;
          drops = suc p.drops;
          turns = omega (arith, p.turns);
          short = omega (arith, p.short, left_long t glue true e, topped_long t, input_is);
          few = omega arith;
          fewer = λ d _. clash (sym (ap (λ (w : Window). w.dry) e) ∙ d);
        }
    go (End place answer) s e f = clash f

counts : {k : ℕ} {input given : Bytes} {a : At} → Past k input given a → Counts k input a
counts (past_start buf out) = record { lines = 0; drops = 0; turns = omega arith; short = omega arith; few = omega arith; fewer = λ d _. clash d }
counts (past_turn p t) = counts_turn (counts p) t

-- there are at most two turns for each byte that is read, before that with the last line
pub few_turns : {k : ℕ} {input given : Bytes} {a : At} → Past k input given a → k ≤ 2 * length input
few_turns p = let c = counts p in omega (arith, c.turns, c.short, c.few)

-- so the turns are used up only on an input of 2^63 bytes or more
pub long_input : {out : Bytes} (u : Unended out) → 2 ^ 63 ≤ length u.input
long_input u = omega (arith, few_turns u.past)
