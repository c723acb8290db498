-- What the program hands to the system is the text of the whole input's listing.
use Rattle.std.specs.Prelude.{◌≡◌, refl, List, [], ◌∷◌, ◌++◌, Bool, true, false, ℕ, ◌+◌, ◌-◌, ◌^◌, ◌<◌, length, take}
use Rattle.std.proofs.Common.{sym, ap, subst, ◌∙◌, append-nil, append_assoc, mod-eq_of_lt, arith, length-append, length-drop}
use Rattle.std.proofs.Math.Nat.{mod-add-mod}
use Rattle.exact.specs.Chain.{clash}
use Rattle.grammar.specs.Bytes.{Bytes}
use Rattle.number.proofs.Tests.{cases}
use Rattle.printing.specs.Writes.{wrote_behind}
use Rattle.lines.specs.Lines.{MessageLine, LastLine, Lists, list_end, list_line, Listing}
use Rattle.lines.specs.Text.{line_text, last_text, lines_text, listing_text}
use Rattle.lines.specs.Step.{ListStep}
use Rattle.lines.specs.Runs.{Run}
use Rattle.lines.proofs.Unique.{line_moves}
use Rattle.lines.proofs.Theorems.{line_within, drop_within, start_within, end_within, list_exact}
use Rattle.lines.specs.declared.Listed.{Listed}
use Rattle.lines.specs.declared.Listed.TheVariants.{Line, Drop, End}
use Rattle.windows.specs.Held.{bytes_of, without, next, ends}
use Rattle.windows.specs.Printed.{in64, line_in64, lines_in64, last_in64, line_printed, step_printed, roomy, handed, left}
use Rattle.listing.specs.Turns.{At, Turn, gives, Past, past_start, past_turn, Finished}
use Rattle.listing.specs.Theorems.{without_long, Goes, turn_goes}
use Rattle.windows.specs.declared.window.Window.{Window}
use Rattle.listing.specs.Prints.{holds, Sofar}

-- a place counted from a base that is n in 64 bits
from_base : (n k : ℕ) {base : ℕ} → base ≡ in64 n → in64 (base + k) ≡ in64 (n + k)
from_base n k h = ap (λ (x : ℕ). in64 (x + k)) h ∙ mod-add-mod n (2 ^ 64) k

line_from_base : (n start end kind refusal : ℕ) {base : ℕ} → base ≡ in64 n → line_printed base start end kind refusal ≡ line_text (line_in64 (record { start = n + start; end = n + end; kind = kind; refusal = refusal }))
line_from_base n start end kind refusal {base} h =
    ap (λ (x : ℕ). line_text (record { start = x; end = in64 (base + end); kind = kind; refusal = refusal })) (from_base n start h)
    ∙ ap (λ (x : ℕ). line_text (record { start = in64 (n + start); end = x; kind = kind; refusal = refusal })) (from_base n end h)

-- the text with one line more
lines_snoc : (l : List MessageLine) (y : MessageLine) → lines_text (lines_in64 (l ++ (y ∷ []))) ≡ lines_text (lines_in64 l) ++ line_text (line_in64 y)
unfolding lines_text
lines_snoc [] y = append-nil (line_text (line_in64 y))
lines_snoc (l ∷ ls) y = ap (λ (t : Bytes). line_text (line_in64 l) ++ t) (lines_snoc ls y) ∙ sym (append_assoc (line_text (line_in64 l)) (lines_text (lines_in64 ls)) (line_text (line_in64 y)))

-- where room is made no byte is lost
handed_all : (dry : Bool) (out : Bytes) (at : ℕ) → handed dry out at ++ take (left dry (length out) at) out ≡ take at out
handed_all true out at = append-nil (take at out)
handed_all false out at = cases (roomy (length out) at) (λ e. rw e) (λ e. rw e (append-nil (take at out)))

-- a turn adds what its step prints
turn_text : {a b : At} {done : Bool} (given : Bytes) (t : Turn a done b) → (given ++ gives a) ++ take b.waiting b.out ≡ (given ++ take a.waiting a.out) ++ step_printed t.held.base t.turned.listed
turn_text {a} {b} given t =
    let step = step_printed t.held.base t.turned.listed in
    let before = take (left a.window.dry (length a.out) a.waiting) a.out in
    append_assoc given (gives a) (take b.waiting b.out)
    ∙ ap (λ (y : Bytes). given ++ (gives a ++ y)) (wrote_behind t.turned.printed.wrote t.turned.printed.inside)
    ∙ ap (λ (y : Bytes). given ++ y) (sym (append_assoc (gives a) before step) ∙ ap (λ (y : Bytes). y ++ step) (handed_all a.window.dry a.out a.waiting))
    ∙ sym (append_assoc given (take a.waiting a.out) step)

-- and when the window is topped up
pub topped_long : {a b : At} {done : Bool} (t : Turn a done b) → length (bytes_of t.held b.buf) ≡ holds a + length t.topped.more
topped_long {a} t = ap length t.topped.bytes ∙ length-append (bytes_of a.window a.buf) t.topped.more

-- and when n of them are dropped
pub left_long : {a b : At} {done : Bool} (t : Turn a done b) (n : ℕ) (dry : Bool) → b.window ≡ without t.held n dry → holds b ≡ length (bytes_of t.held b.buf) - n
left_long {b = b} t n dry e = ap (λ (w : Window). length (bytes_of w b.buf)) e ∙ without_long t.held n dry b.buf

-- where a window's input has ended, so it has when it is topped up, and nothing is read
still : {a b : At} {done : Bool} (t : Turn a done b) (rest : Bytes) → (t.held.last ≡ true → rest ≡ []) → a.window.last ≡ true → t.topped.more ++ rest ≡ []
still t rest h e = let (i, j) = t.topped.ended e in ap (λ (y : Bytes). y ++ rest) j ∙ h i

sofar_turn : {input given : Bytes} {a b : At} → Sofar input given a → (t : Turn a false b) → Sofar (input ++ t.topped.more) (given ++ gives a) b
sofar_turn {input} {given} {a} {b} p t =
    go t.turned.listed t.turned.step t.turned.window (sym t.turned.done) (turn_text given t ∙ ap (λ (y : Bytes). y ++ step_printed t.held.base t.turned.listed) p.texts) (turn_goes t.topped t.turned p.n)
  where
    more : Bytes
    more = t.topped.more

    base : t.held.base ≡ in64 p.n
    base = t.topped.base ∙ p.base

    before : (rest : Bytes) (l : List MessageLine) (z : LastLine) → (t.held.last ≡ true → rest ≡ []) → Run p.n (bytes_of a.window a.buf) (more ++ rest) l z → Run 0 [] ((input ++ more) ++ rest) (p.lines ++ l) z
    before rest l z h r = subst (λ (y : Bytes). Run 0 [] y (p.lines ++ l) z) (sym (append_assoc input more rest)) (p.goes (more ++ rest) l z (still t rest h) r)

    go : (x : Listed) → ListStep (bytes_of t.held b.buf) t.held.last x → b.window ≡ next t.held x → ends x ≡ false → (given ++ gives a) ++ take b.waiting b.out ≡ lines_text (lines_in64 p.lines) ++ step_printed t.held.base x
        → ((later : Bytes) → (t.held.last ≡ true → later ≡ []) → Goes p.n (bytes_of a.window a.buf) (more ++ later) (bytes_of b.window b.buf) later x) → Sofar (input ++ more) (given ++ gives a) b
    go (Line start end kind refusal) s e f i g =
        let y : MessageLine = record { start = p.n + start; end = p.n + end; kind = kind; refusal = refusal } in record {
          n = p.n + end;
          lines = p.lines ++ (y ∷ []);
          count = omega (arith, p.count, topped_long t, left_long t end false e, (line_within s).1, length-append input more);
          base = ap (λ (v : Window). v.base) e ∙ from_base p.n end base;
          texts = i ∙ ap (λ (b : Bytes). lines_text (lines_in64 p.lines) ++ b) (line_from_base p.n start end kind refusal base) ∙ sym (lines_snoc p.lines y);
          goes = λ rest l z h r. let k : t.held.last ≡ true → rest ≡ [] = λ q. h (ap (λ (v : Window). v.last) e ∙ q) in subst (λ (m : List MessageLine). Run 0 [] ((input ++ more) ++ rest) m z) (sym (append_assoc p.lines (y ∷ []) l)) (before rest (y ∷ l) z k (g rest k l z r));
        }
    go (Drop glue) s e f i g = record {
      n = p.n + glue;
      lines = p.lines;
      count = omega (arith, p.count, topped_long t, left_long t glue true e, drop_within s, length-append input more);
      base = ap (λ (v : Window). v.base) e ∙ from_base p.n glue base;
      texts = i ∙ append-nil (lines_text (lines_in64 p.lines));
      goes = λ rest l z h r. let k : t.held.last ≡ true → rest ≡ [] = λ q. h (ap (λ (v : Window). v.last) e ∙ q) in before rest l z k (g rest k l z r);
    }
    go (End place answer) s e f i g = clash f

pub sofar : {k : ℕ} {input given : Bytes} {a : At} → Past k input given a → Sofar input given a
unfolding lines_text
sofar (past_start buf out) = record { n = 0; lines = []; count = omega arith; base = refl; texts = refl; goes = λ rest l z h r. r }
sofar (past_turn p t) = sofar_turn (sofar p) t

-- the text of all that the program hands out is that of the listing of its whole input, places in 64 bits. It has read `input`, and `later`
-- is what it left unread: nothing, where it took the input for ended
pub prints : {input text : Bytes} (f : Finished input text) (later : Bytes) → (f.turn.held.last ≡ true → later ≡ []) → (l : List MessageLine) (z : LastLine) → Listing (input ++ later) l z → text ≡ listing_text (lines_in64 l) (last_in64 z)
unfolding listing_text
prints {input} {text} f later h l z q =
    go t.turned.listed (sym t.turned.done)
    (f.whole ∙ turn_text f.given t ∙ ap (λ (y : Bytes). y ++ step_printed t.held.base t.turned.listed) p.texts) (turn_goes t.topped t.turned p.n later h)
  where
    t : Turn f.a true f.b
    t = f.turn

    p : Sofar f.before f.given f.a
    p = sofar f.past

    input_is : f.before ++ (t.topped.more ++ later) ≡ input ++ later
    input_is = sym (append_assoc f.before t.topped.more later) ∙ ap (λ (y : Bytes). y ++ later) (sym f.read)

    go : (x : Listed) → ends x ≡ true → text ≡ lines_text (lines_in64 p.lines) ++ step_printed t.held.base x
        → Goes p.n (bytes_of f.a.window f.a.buf) (t.topped.more ++ later) (bytes_of f.b.window f.b.buf) later x → text ≡ lines_text (lines_in64 l) ++ last_text (last_in64 z)
    go (Line start end kind refusal) e i g = clash (sym e)
    go (Drop glue) e i g = clash (sym e)
    go (End place answer) e i g =
        let y : LastLine = record { place = p.n + place; answer = answer } in
        let r : Run 0 [] (f.before ++ (t.topped.more ++ later)) (p.lines ++ []) y = p.goes (t.topped.more ++ later) [] y (still t later h) g in
        let r' : Run 0 [] (input ++ later) p.lines y = subst (λ (m : List MessageLine). Run 0 [] (input ++ later) m y) (append-nil p.lines) (subst (λ (b : Bytes). Run 0 [] b (p.lines ++ []) y) input_is r) in
        let (c, d) = list_exact (input ++ later) p.lines l y z r' q in
        i ∙ ap (λ (x : ℕ). lines_text (lines_in64 p.lines) ++ last_text (record { place = x; answer = answer })) (from_base p.n place (t.topped.base ∙ p.base))
        ∙ ap (λ (m : List MessageLine). lines_text (lines_in64 m) ++ last_text (last_in64 y)) c ∙ ap (λ (m : LastLine). lines_text (lines_in64 l) ++ last_text (last_in64 m)) d

-- places of an input that is shorter than 2^64 bytes are told as they are
line_small : (y : MessageLine) → y.start < 2 ^ 64 → y.end < 2 ^ 64 → line_in64 y ≡ y
line_small y h k =
    ap (λ (x : ℕ). record { start = x; end = in64 y.end; kind = y.kind; refusal = y.refusal }) (mod-eq_of_lt h)
    ∙ ap (λ (x : ℕ). record { start = y.start; end = x; kind = y.kind; refusal = y.refusal }) (mod-eq_of_lt k)

last_small : (z : LastLine) → z.place < 2 ^ 64 → last_in64 z ≡ z
last_small z h = ap (λ (x : ℕ). record { place = x; answer = z.answer }) (mod-eq_of_lt h)

small : {n : ℕ} {s : Bytes} {l : List MessageLine} {z : LastLine} → Lists n s l z → n + length s < 2 ^ 64 → (lines_in64 l ≡ l) × (last_in64 z ≡ z)
small {n} {s} {z = z} (list_end e p i) h = let a = ap (λ (y : LastLine). y.place) i in (refl, last_small z (omega (arith, end_within p)))
small {n} {s} (list_line {l} {y} m f i t) h =
    let a = ap (λ (y : MessageLine). y.start) i in
    let b = ap (λ (y : MessageLine). y.end) i in
    let c = (line_moves f).1 in
    let (d, e) = small t (omega (arith, length-drop m.end s)) in
    let g : line_in64 y ≡ y = line_small y (omega (arith, start_within f)) (omega arith) in
    (ap (λ (x : MessageLine). x ∷ lines_in64 l) g ∙ ap (λ (x : List MessageLine). y ∷ x) d, e)

-- so, on an input that is shorter than 2^64 bytes, the program hands out exactly the text of its listing
pub prints_exact : {input text : Bytes} (f : Finished input text) (later : Bytes) → (f.turn.held.last ≡ true → later ≡ []) → length (input ++ later) < 2 ^ 64
    → (l : List MessageLine) (z : LastLine) → Listing (input ++ later) l z → text ≡ listing_text l z
prints_exact f later h k l z q =
    let (a, b) = small q (omega (arith, k)) in
    prints f later h l z q ∙ ap (λ (m : List MessageLine). listing_text m (last_in64 z)) a ∙ ap (listing_text l) b
