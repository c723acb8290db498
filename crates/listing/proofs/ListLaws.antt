-- The loop of the program is a chain of turns.
use mathlib.Core.Path.{◌≡◌, refl, sym, subst}
use mathlib.Core.List.{[], ◌++◌}
use mathlib.Core.Bool.{Bool, true, false}
use Prim.Native.Nat.{ℕ, zero, suc, ◌+◌, ◌≤◌}
use native.Mathlib.Omega.{arith}
use lib.ListN.{length, take}
use Rattle.grammar.specs.Bytes.{Bytes}
use Rattle.windows.specs.Held.{fresh, Held, ToppedUp, Turned}
use Rattle.windows.specs.Printed.{left}
use Rattle.listing.specs.Turns.{At, start, Turn, gives, Past, past_start, past_turn, TURNS, Ended, Stopped, Unended}
use Rattle.windows.specs.declared.window.Window.{Window}
use Rattle.windows.specs.declared.turn.Stand.{Stand}

-- where the loop is
abbrev pub at : Window → Bytes → ℕ → Bytes → At
at w buf waiting out = record { window = w; buf = buf; waiting = waiting; out = out }

-- the turns that are made have led there; `turns` are left
pub record Going (turns : ℕ) (w : Window) (buf : Bytes) (waiting : ℕ) (out : Bytes) : Type 0 where
  pub held : Held w (length buf)
  pub waits : waiting ≤ length out
  pub k : ℕ
  pub input : Bytes
  pub given : Bytes
  pub past : Past k input given (at w buf waiting out)
  pub counted : turns + k ≡ TURNS

going_start : (buf out : Bytes) → Going TURNS (start buf out).window buf 0 out
going_start buf out = record { held = record { front = omega arith; back = omega arith; room = λ _. omega arith }; waits = omega arith; k = zero; input = []; given = []; past = past_start buf out; counted = omega arith }

pub going_opened : (buf out : Bytes) {w : Window} → w ≡ fresh → Going TURNS w buf 0 out
going_opened buf out e = subst (λ (w : Window). Going TURNS w buf 0 out) (sym e) (going_start buf out)

-- a turn of the loop
module _ {turns : ℕ} {w v : Window} {buf out new printed : Bytes} {waiting r : ℕ} {s : Stand} (g : Going turns w buf waiting out) (t : ToppedUp w buf v new) (e : r ≡ left w.dry (length out) waiting) (u : Turned new v out r printed s) where
  abbrev turn : {done : Bool} → s.done ≡ done → Turn (at w buf waiting out) done (at s.window new s.waiting printed)
  turn {done} d = record {
    held = v;
    refusal = s.refusal;
    topped = t;
    turned = subst (λ (z : Bool). Turned new v out (left w.dry (length out) waiting) printed (record { window = s.window; waiting = s.waiting; done = z; refusal = s.refusal })) d (subst (λ (k : ℕ). Turned new v out k printed s) e u);
  }

  pub going_on : (rest : ℕ) → turns ≡ rest + 1 → s.done ≡ false → Going rest s.window new s.waiting printed
  going_on rest h d = record {
    held = u.held;
    waits = u.printed.inside;
    k = suc g.k;
    input = g.input ++ t.more;
    given = g.given ++ gives (at w buf waiting out);
    past = past_turn g.past (turn d);
    counted = omega (arith, g.counted);
  }

  pub going_ends : s.done ≡ true → Ended printed
  going_ends d = record {
    input = g.input ++ t.more;
    text = (g.given ++ gives (at w buf waiting out)) ++ take s.waiting printed;
    finished = record { k = g.k; before = g.input; given = g.given; a = at w buf waiting out; b = at s.window new s.waiting printed; past = g.past; turn = turn d; read = refl; whole = refl };
    holds = refl;
  }

-- no turn is left
pub going_out : {turns : ℕ} {w : Window} {buf out : Bytes} {waiting : ℕ} → Going turns w buf waiting out → turns ≡ 0 → Unended out
going_out {w = w} {buf} {out} {waiting} g h = record {
  input = g.input;
  given = g.given;
  a = at w buf waiting out;
  past = subst (λ (k : ℕ). Past k g.input g.given (at w buf waiting out)) (omega (arith, g.counted)) g.past;
  holds = refl;
}

-- reading failed
pub going_stops : {turns : ℕ} {w v : Window} {buf out new : Bytes} {waiting : ℕ} → Going turns w buf waiting out → ToppedUp w buf v new → v.failed ≡ true → Stopped out
going_stops {w = w} {v} {buf} {out} {new} {waiting} g t f = record { k = g.k; input = g.input; given = g.given; a = at w buf waiting out; past = g.past; held = v; buf = new; topped = t; failed = f; holds = refl }
