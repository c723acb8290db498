-- What a step drops lies in the window, and how it moves it.
use Rattle.std.proofs.Common.{◌≡◌, ℕ, ◌+◌, ◌-◌, ◌<◌, ◌≤◌, Bool, true, false, length, take, drop, sym, ap, ◌∙◌, subst, arith, length-drop, length-take, length-take-le}
use Rattle.exact.specs.Chain.{clash}
use Rattle.grammar.specs.Bytes.{Bytes}
use Rattle.grammar.specs.Limits.{MESSAGE}
use Rattle.printing.specs.Writes.{wrote_none}
use Rattle.lines.specs.Step.{ListStep}
use Rattle.lines.proofs.Theorems.{line_within, drop_within, drop_leaves}
use Rattle.lines.specs.declared.Listed.{Listed}
use Rattle.lines.specs.declared.Listed.TheVariants.{Line, Drop, End}
use Rattle.windows.specs.Held.{Held, bytes_of, without, next, ends, refuses, Turned}
use Rattle.windows.specs.Printed.{line_printed, last_printed, step_printed, Printed}
use Rattle.windows.specs.declared.window.Window.{Window}

pub line_held : (b : Bytes) {last : Bool} {r : Listed} {a e k n : ℕ} (front back : ℕ) → ListStep (take (back - front) (drop front b)) last r → r ≡ Line a e k n → front ≤ back → front + e ≤ back
line_held b {last} front back p h o =
    let q = line_within (subst (λ (r : Listed). ListStep (take (back - front) (drop front b)) last r) h p) in
    omega (arith, q.1, length-take (back - front) (drop front b))

pub drop_held : (b : Bytes) {last : Bool} {r : Listed} {g : ℕ} (front back : ℕ) → ListStep (take (back - front) (drop front b)) last r → r ≡ Drop g → front ≤ back → front + g ≤ back
drop_held b {last} front back p h o =
    let q = drop_within (subst (λ (r : Listed). ListStep (take (back - front) (drop front b)) last r) h p) in
    omega (arith, q, length-take (back - front) (drop front b))

-- behind dropped glue fewer bytes are held than a message may have
drop_room : (b : Bytes) (w : Window) {last : Bool} {r : Listed} {g : ℕ} → ListStep (bytes_of w b) last r → r ≡ Drop g → Held w (length b) → w.len - (w.at + g) < MESSAGE
drop_room b w {last} p h o =
    let q = drop_leaves (subst (λ (r : Listed). ListStep (bytes_of w b) last r) h p) in
    let d = length-drop w.at b in
    let n : length (bytes_of w b) ≡ w.len - w.at = length-take-le (w.len - w.at) (drop w.at b) (omega (arith, o.front, o.back)) in
    omega arith

-- what each case of a step makes of the window and of the output
pub turned_line : (b : Bytes) (w v : Window) {old new : Bytes} {waiting put : ℕ} {r : Listed} {a e k n : ℕ} → ListStep (bytes_of w b) w.last r → r ≡ Line a e k n → v ≡ without w e false → Held w (length b)
    → Printed old waiting (line_printed w.base a e k n) new put → Turned b w old waiting new (record { window = v; waiting = put; done = false; refusal = n })
turned_line b w v {old} {new} {waiting} {put} {r} p h i o q = record {
  listed = r;
  step = p;
  window = i ∙ ap (next w) (sym h);
  done = ap ends (sym h);
  refusal = ap refuses (sym h);
  printed = subst (λ (x : Listed). Printed old waiting (step_printed w.base x) new put) (sym h) q;
  held = subst (λ (v : Window). Held v (length b)) (sym i) (record { front = line_held b w.at w.len p h o.front; back = o.back; room = λ z. clash (sym z) });
}

pub turned_drop : (b : Bytes) (w v : Window) (out : Bytes) (waiting : ℕ) {r : Listed} {g : ℕ} → ListStep (bytes_of w b) w.last r → r ≡ Drop g → v ≡ without w g true → Held w (length b)
    → waiting ≤ length out → Turned b w out waiting out (record { window = v; waiting = waiting; done = false; refusal = 0 })
turned_drop b w v out waiting {r} p h i o q = record {
  listed = r;
  step = p;
  window = i ∙ ap (next w) (sym h);
  done = ap ends (sym h);
  refusal = ap refuses (sym h);
  printed = subst (λ (x : Listed). Printed out waiting (step_printed w.base x) out waiting) (sym h) (record { wrote = wrote_none out waiting; inside = q });
  held = subst (λ (v : Window). Held v (length b)) (sym i) (record { front = drop_held b w.at w.len p h o.front; back = o.back; room = λ _. drop_room b w p h o });
}

pub turned_end : (b : Bytes) (w : Window) {old new : Bytes} {waiting put : ℕ} {r : Listed} {a n : ℕ} → ListStep (bytes_of w b) w.last r → r ≡ End a n → Held w (length b)
    → Printed old waiting (last_printed w.base a n) new put → Turned b w old waiting new (record { window = w; waiting = put; done = true; refusal = 0 })
turned_end b w {old} {new} {waiting} {put} {r} p h o q = record {
  listed = r;
  step = p;
  window = ap (next w) (sym h);
  done = ap ends (sym h);
  refusal = ap refuses (sym h);
  printed = subst (λ (x : Listed). Printed old waiting (step_printed w.base x) new put) (sym h) q;
  held = o;
}
