-- The turns of the program make up a run: so, by `list-exact`, the lines that it comes to are those of the whole input.
use Rattle.std.specs.Prelude.{◌≡◌, refl, List, [], ◌∷◌, ◌++◌, Bool, true, false, ℕ, zero, suc, ◌+◌, ◌-◌, length, take, drop}
use Rattle.std.proofs.Common.{sym, ap, subst, ◌∙◌, arith, length-drop}
use Rattle.std.proofs.Math.Seq.{drop-nil, take-nil}
use Rattle.grammar.specs.Bytes.{Bytes}
use Rattle.lines.specs.Lines.{MessageLine, LastLine}
use Rattle.lines.specs.Step.{ListStep}
use Rattle.lines.specs.Runs.{Run, run_read, run_line, run_drop, run_end}
use Rattle.lines.specs.declared.Listed.{Listed}
use Rattle.lines.specs.declared.Listed.TheVariants.{Line, Drop, End}
use Rattle.windows.specs.Held.{bytes_of, ToppedUp, without, next, Turned}
use Rattle.windows.specs.declared.window.Window.{Window}
use Rattle.windows.specs.declared.turn.Stand.{Stand}

drop-drop : (m n : ℕ) (b : Bytes) → drop (m + n) b ≡ drop n (drop m b)
drop-drop m n [] = drop-nil (m + n) ∙ sym (drop-nil n) ∙ ap (drop n) (sym (drop-nil m))
drop-drop zero n (x ∷ b) = let e : zero + n ≡ n = omega arith in ap (λ (k : ℕ). drop k (x ∷ b)) e
drop-drop (suc m) n (x ∷ b) = let e : suc m + n ≡ suc (m + n) = omega arith in ap (λ (k : ℕ). drop k (x ∷ b)) e ∙ drop-drop m n b

drop_take : (n k : ℕ) (b : Bytes) → drop n (take k b) ≡ take (k - n) (drop n b)
drop_take n k [] = ap (drop n) (take-nil k) ∙ drop-nil n ∙ sym (ap (take (k - n)) (drop-nil n) ∙ take-nil (k - n))
drop_take zero k (x ∷ b) = let e : k ≡ k - zero = omega arith in ap (λ (k : ℕ). take k (x ∷ b)) e
drop_take (suc n) zero (x ∷ b) = let e : 0 ≡ zero - suc n = omega arith in ap (λ (k : ℕ). take k (drop n b)) e
drop_take (suc n) (suc k) (x ∷ b) = let e : k - n ≡ suc k - suc n = omega arith in drop_take n k b ∙ ap (λ (k : ℕ). take k (drop n b)) e

-- a window without its first bytes holds what is left of its bytes
pub without_bytes : (w : Window) (n : ℕ) (dry : Bool) (b : Bytes) → bytes_of (without w n dry) b ≡ drop n (bytes_of w b)
without_bytes w n dry b =
    let e : w.len - (w.at + n) ≡ w.len - w.at - n = omega arith in
    ap (λ (k : ℕ). take k (drop (w.at + n) b)) e ∙ ap (take (w.len - w.at - n)) (drop-drop w.at n b) ∙ sym (drop_take n (w.len - w.at) (drop w.at b))

pub without_long : (w : Window) (n : ℕ) (dry : Bool) (b : Bytes) → length (bytes_of (without w n dry) b) ≡ length (bytes_of w b) - n
without_long w n dry b = ap length (without_bytes w n dry b) ∙ length-drop n (bytes_of w b)

-- what a turn adds to a run, by its step: from n dropped bytes, `before` held and `rest` to come, to `after` held and `later` to come
abbrev pub Goes : ℕ → Bytes → Bytes → Bytes → Bytes → Listed → Type 0
Goes n before rest after later (Line start end kind refusal) = (l : List MessageLine) (z : LastLine) → Run (n + end) after later l z → Run n before rest (record { start = n + start; end = n + end; kind = kind; refusal = refusal } ∷ l) z
Goes n before rest after later (Drop glue) = (l : List MessageLine) (z : LastLine) → Run (n + glue) after later l z → Run n before rest l z
Goes n before rest after later (End place answer) = Run n before rest [] (record { place = n + place; answer = answer })

-- a window topped up from what is to come, and a turn on it, go on with a run: `last` is set only where nothing is to come
pub turn_goes : {w r : Window} {old new out printed : Bytes} {waiting : ℕ} {s : Stand} (t : ToppedUp w old r new) (u : Turned new r out waiting printed s) (n : ℕ) (later : Bytes) → (r.last ≡ true → later ≡ [])
    → Goes n (bytes_of w old) (t.more ++ later) (bytes_of s.window new) later u.listed
turn_goes {w} {r} {old} {new} {s = s} t u n later h = go u.listed u.step u.window
  where
    from : {l : List MessageLine} {z : LastLine} → Run n (bytes_of r new) later l z → Run n (bytes_of w old) (t.more ++ later) l z
    from {l} {z} p = run_read t.more later refl (subst (λ (y : Bytes). Run n y later l z) t.bytes p)

    left : (k : ℕ) (dry : Bool) → s.window ≡ without r k dry → bytes_of s.window new ≡ drop k (bytes_of r new)
    left k dry e = ap (λ (v : Window). bytes_of v new) e ∙ without_bytes r k dry new

    go : (x : Listed) → ListStep (bytes_of r new) r.last x → s.window ≡ next r x → Goes n (bytes_of w old) (t.more ++ later) (bytes_of s.window new) later x
    go (Line start end kind refusal) p e = λ l z q. from (run_line r.last start end kind refusal h p refl (subst (λ (y : Bytes). Run (n + end) y later l z) (left end false e) q))
    go (Drop glue) p e = λ l z q. from (run_drop glue (subst (λ (b : Bool). ListStep (bytes_of r new) b (Drop glue)) p.shows.1 p) (subst (λ (y : Bytes). Run (n + glue) y later l z) (left glue true e) q))
    go (End place answer) p e = from (run_end r.last place answer h p refl)
