-- No second answer meets a promise: the answers are determined.
use Rattle.std.specs.Prelude.{◌≡◌, refl, ℕ, ◌-◌, ◌≤◌, ◌<◌, length, drop, Ok, Err}
use Rattle.std.proofs.Common.{sym, ap, ◌∙◌, arith, length-drop}
use Rattle.exact.specs.Exact.{Out, done, bad, done≢more, done≢bad, more≢bad}
use Rattle.grammar.specs.Bytes.{Bytes}
use Rattle.scan.specs.Pieces.{StopCase, Step, Got as StepSays}
use Rattle.scan.specs.declared.Stop.{Stop}
use Rattle.scan.specs.declared.Stop.TheVariants.{Open, Bad}
use Rattle.pieces.specs.Says.{Piece, got, Says}

-- what is left says where it begins
drop_only : (s : Bytes) (e e' : ℕ) → e ≤ length s → e' ≤ length s → drop e s ≡ drop e' s → e ≡ e'
drop_only s e e' h k q = let z : length s - e ≡ length s - e' = sym (length-drop e s) ∙ ap length q ∙ length-drop e' s in omega arith

module _ {A : Type 0} {o : Out A} (s : Bytes) where
  pub done_only : {v v' : A} (e e' : ℕ) → e ≤ length s → e' ≤ length s → o ≡ done v (drop e s) → o ≡ done v' (drop e' s) → (v ≡ v') × (e ≡ e')
  done_only {v} {v'} e e' h k p q = let z : drop e s ≡ drop e' s = cc in let y : v ≡ v' = cc in (y, drop_only s e e' h k z)

  pub bad_only : (p p' : ℕ) → p < length s → p' < length s → o ≡ bad (drop p s) → o ≡ bad (drop p' s) → p ≡ p'
  bad_only p p' h k a b = let z : drop p s ≡ drop p' s = cc in drop_only s p p' (omega arith) (omega arith) z

-- of what stops
pub stop_only : {A : Type 0} (o : Out A) (s : Bytes) (at : ℕ) (x x' : Stop) → StopCase s at x o → StopCase s at x' o → x ≡ x'
stop_only o s at Open Open a b = refl
stop_only o s at Open (Bad p) a b = absurd (more≢bad a b.2)
stop_only o s at (Bad p) Open a b = absurd (more≢bad b a.2)
stop_only o s at (Bad p) (Bad p') a b = ap Bad (bad_only s p p' a.1 b.1 a.2 b.2)

-- what was read did not stop
pub done_stops : {A : Type 0} {o : Out A} {v : A} {t : Bytes} (s : Bytes) (at : ℕ) (x : Stop) → o ≡ done v t → StopCase s at x o → ⊥
done_stops s at Open a b = done≢more a b
done_stops s at (Bad p) a b = done≢bad a b.2

-- of readers with a number: `character`, `reference`, `item`
pub says_only : {A : Type 0} {f : A → ℕ} {k : ℕ} {s : Bytes} {at : ℕ} {o : Out A} (r r' : Piece) → Says f k s at r o → Says f k s at r' o → r ≡ r'
says_only {f = f} {s = s} (Ok c) (Ok c') x y =
    let a = x.says in
    let b = y.says in
    let z = done_only s c.next c'.next a.upto b.upto a.reads b.reads in
    ap (λ (n : ℕ). got n c.next) (sym a.is ∙ ap f z.0 ∙ b.is) ∙ ap (got c'.code_point) z.1
says_only {s = s} {at = at} (Ok c) (Err x') x y = absurd (done_stops s at x' x.says.reads y.says)
says_only {s = s} {at = at} (Err x') (Ok c) x y = absurd (done_stops s at x' y.says.reads x.says)
says_only {s = s} {at = at} {o = o} (Err x') (Err y') x y = ap Err (stop_only o s at x' y' x.says y.says)

-- of readers without one: `value`
pub step_only : {A : Type 0} {k : ℕ} {s : Bytes} {at : ℕ} {o : Out A} (r r' : Step) → StepSays k s at r o → StepSays k s at r' o → r ≡ r'
step_only {s = s} (Ok e) (Ok e') x y = ap Ok (done_only s e e' x.says.2 y.says.2 x.says.3 y.says.3).1
step_only {s = s} {at = at} (Ok e) (Err x') x y = absurd (done_stops s at x' x.says.3 y.says)
step_only {s = s} {at = at} (Err x') (Ok e) x y = absurd (done_stops s at x' y.says.3 x.says)
step_only {s = s} {at = at} {o = o} (Err x') (Err y') x y = ap Err (stop_only o s at x' y' x.says y.says)
