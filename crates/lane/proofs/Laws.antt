-- Laws of the definitions, for the theorems.
use Rattle.std.proofs.Math.Path.{◌≡◌, refl}
use Rattle.std.proofs.Common.{sym, ap, subst, ◌∙◌, inl, inr, arith, eqb→eq, eqb-true}
use mathlib.Core.List.{List, [], ◌∷◌}
use Rattle.std.specs.Prelude.{Bool, ◌⊎◌, ℕ, eqb, Option, Some, None}
use Rattle.std.proofs.Math.Bool.{true, false}
use Rattle.std.proofs.Math.Dec.{T}
use Rattle.lane.specs.Chart.{pick, both, either, among, is_free, may_pass, may_name, Received, Sent, Row, chart, by_rows, is_for, next}
use Rattle.lane.specs.Names.{U, D, MachineReady, BoardForecast, Accepted, MayNotBeSent, ProtocolError}
use Rattle.lane.specs.Record.{other, forecast_used, forecast_held, replaced, cleared, forecast_after, forecast_in, answer, ended, kept, step_in, step_out, received, sent}
use Rattle.lane.specs.Ids.{no_forecast, righted}
use Rattle.lane.proofs.IdLaws.{righted_none, righted_again}
pub use Rattle.lane.proofs.IdLaws.{both_parts, same_refl, same_true, same_false}
use Rattle.lane.specs.declared.Event.{Event}
use Rattle.lane.specs.declared.Lane.{Lane}
use Rattle.lane.specs.declared.Moved.{Moved}
use Rattle.lane.specs.declared.ids.Forecast.{Forecast}

pub clash : {A : Type 0} → true ≡ false → A
clash e = absurd (let x : ◌≡◌ {A = ℕ} 0 1 = cc in omega arith)

pub same_picked : {A : Type 0} (b : Bool) (x : A) → pick b x x ≡ x
same_picked true x = refl
same_picked false x = refl

pub is_true : (b : Bool) → T b → b ≡ true
is_true true t = refl
is_true false t = absurd t

-- Rows: each row of a list passes a test of its state, message, sender and next state; so does every step by them.
abbrev pub each : (ℕ → ℕ → ℕ → ℕ → Bool) → List Row → Bool
each P [] = true
each P (x ∷ xs) = both (P x.state x.message x.sender x.next) (each P xs)

module _ (P : ℕ → ℕ → ℕ → ℕ → Bool) (s k u n : ℕ) (r : Bool) where
  at_row : (x : Row) → T (is_for x s k u r) → x.next ≡ n → T (P x.state x.message x.sender x.next) → T (P s k u n)
  at_row x t e h =
      let a = both_parts (eqb s x.state) (both (eqb k x.message) (both (either x.may_be_sent r) (eqb u x.sender))) t in
      let b = both_parts (eqb k x.message) (both (either x.may_be_sent r) (eqb u x.sender)) a.1 in
      let c = both_parts (either x.may_be_sent r) (eqb u x.sender) b.1 in
      rw (eqb→eq s x.state a.0, eqb→eq k x.message b.0, eqb→eq u x.sender c.1, ← e) h

  pub by_rows_lem : (xs : List Row) → T (each P xs) → by_rows xs s k u r ≡ Some n → T (P s k u n)
  unfolding by_rows
  by_rows_lem [] t q = absurd (let z : ◌≡◌ {A = ℕ} 0 1 = cc in omega arith)
  by_rows_lem (x ∷ xs) t q =
      let p = both_parts (P x.state x.message x.sender x.next) (each P xs) t in
      go (is_for x s k u r) refl p.0 (by_rows_lem xs p.1)
    where
      go : (z : Bool) → is_for x s k u r ≡ z → T (P x.state x.message x.sender x.next) → (by_rows xs s k u r ≡ Some n → T (P s k u n)) → T (P s k u n)
      go true e h rest = at_row x (subst T (sym e) tt) (let w : Some x.next ≡ Some n = rw e at q in cc) h
      go false e h rest = rest (rw e at q)

-- A step is that of a free kind, which keeps the state, or that of a row, with an id that may pass.
pub next_cases : (s k u : ℕ) (r same : Bool) (n : ℕ) → next s k u r same ≡ Some n → ((is_free k ≡ true) × (n ≡ s)) ⊎ ((by_rows chart s k u r ≡ Some n) × (may_name k r same ≡ true))
unfolding next
next_cases s k u r same n q = free (is_free k) refl (may_pass k r) refl (may_name k r same) refl
  where
    free : (f : Bool) → is_free k ≡ f → (p : Bool) → may_pass k r ≡ p → (m : Bool) → may_name k r same ≡ m → ((is_free k ≡ true) × (n ≡ s)) ⊎ ((by_rows chart s k u r ≡ Some n) × (may_name k r same ≡ true))
    free true ef true ep m em = inl (ef, (let w : Some s ≡ Some n = rw (ef, ep) at q in cc))
    free true ef false ep m em = absurd (let w : None ≡ Some n = rw (ef, ep) at q in let z : ◌≡◌ {A = ℕ} 0 1 = cc in omega arith)
    free false ef p ep true em = inr (rw (ef, em) at q, em)
    free false ef p ep false em = absurd (let w : None ≡ Some n = rw (ef, em) at q in let z : ◌≡◌ {A = ℕ} 0 1 = cc in omega arith)

-- What holds at each number of a list.
abbrev pub Each : (ℕ → Type 0) → List ℕ → Type 0
Each P [] = Unit {0}
Each P (k ∷ ks) = P k × Each P ks

pub at_each : (P : ℕ → Type 0) (ks : List ℕ) (n : ℕ) → Each P ks → among n ks ≡ true → P n
at_each P [] n p h = absurd (let z : ◌≡◌ {A = ℕ} 0 1 = cc in omega arith)
at_each P (k ∷ ks) n p h = go (eqb n k) refl (at_each P ks n p.1)
  where
    go : (z : Bool) → eqb n k ≡ z → (among n ks ≡ true → P n) → P n
    go true e rest = subst P (sym (eqb-true n k e)) p.0
    go false e rest = rest (rw e at h)

-- Who receives from a side is the other one.
pub other_down : (side : ℕ) → other side ≡ D → side ≡ U
other_down side q = go (eqb side U) refl (eqb side D) refl
  where
    go : (a : Bool) → eqb side U ≡ a → (b : Bool) → eqb side D ≡ b → side ≡ U
    go true ea b eb = eqb-true side U ea
    go false ea true eb = absurd (let x : ◌≡◌ {A = ℕ} U D = rw (ea, eb) at q in omega arith)
    go false ea false eb = absurd (let x : ◌≡◌ {A = ℕ} 0 D = rw (ea, eb) at q in omega arith)

pub other_up : (side : ℕ) → other side ≡ U → side ≡ D
other_up side q = go (eqb side U) refl (eqb side D) refl
  where
    go : (a : Bool) → eqb side U ≡ a → (b : Bool) → eqb side D ≡ b → side ≡ D
    go true ea b eb = absurd (let x : ◌≡◌ {A = ℕ} D U = rw ea at q in omega arith)
    go false ea true eb = eqb-true side D eb
    go false ea false eb = absurd (let x : ◌≡◌ {A = ℕ} 0 U = rw (ea, eb) at q in omega arith)

-- The step, once known, is put into the answer.
pub received_by_lem : (l : Lane) (e : Event) (st : Option ℕ) → step_in l e ≡ st → received l e ≡ answer Received st l e (ended l ProtocolError)
unfolding received
received_by_lem l e st h = rw h

pub sent_by : (l : Lane) (e : Event) (st : Option ℕ) → step_out l e ≡ st → sent l e ≡ answer Sent st l e (kept l MayNotBeSent)
unfolding sent
sent_by l e st h = rw h

-- An accepted message made a step; any other answer is the refusal.
pub record Leads (st : Option ℕ) : Type 0 where
  pub next : ℕ
  pub leads : st ≡ Some next

module _ (l : Lane) (e : Event) where
  pub received_leads : (received l e).refusal ≡ Accepted → Leads (step_in l e)
  received_leads h = go (step_in l e) refl
    where
      go : (st : Option ℕ) → step_in l e ≡ st → Leads (step_in l e)
      go (Some n) q = record { next = n; leads = q }
      go None q = absurd (let x : ◌≡◌ {A = ℕ} 9 0 = sym (ap (λ (m : Moved). m.refusal) (received_by_lem l e None q)) ∙ h in omega arith)

  pub sent_leads : (sent l e).refusal ≡ Accepted → Leads (step_out l e)
  sent_leads h = go (step_out l e) refl
    where
      go : (st : Option ℕ) → step_out l e ≡ st → Leads (step_out l e)
      go (Some n) q = record { next = n; leads = q }
      go None q = absurd (let x : ◌≡◌ {A = ℕ} 8 0 = sym (ap (λ (m : Moved). m.refusal) (sent_by l e None q)) ∙ h in omega arith)

  pub received_ended : ((received l e).refusal ≡ Accepted → ⊥) → received l e ≡ ended l ProtocolError
  unfolding received
  received_ended = go (step_in l e)
    where
      go : (st : Option ℕ) → ((answer Received st l e (ended l ProtocolError)).refusal ≡ Accepted → ⊥) → answer Received st l e (ended l ProtocolError) ≡ ended l ProtocolError
      go (Some n) h = absurd (h refl)
      go None h = refl

-- The record's forecast is one that is right.
abbrev Right : Forecast → Type 0
Right f = righted f ≡ f

right : (b : Bool) {f g : Forecast} → Right f → Right g → Right (pick b f g)
right true p q = p
right false p q = q

pub none_right : righted no_forecast ≡ no_forecast
none_right = sym (righted_none no_forecast refl)

pub held_right : (l : Lane) → righted (forecast_held l) ≡ forecast_held l
held_right l = right (forecast_used l.state) (righted_again l.forecast) none_right

pub after_right : (r : Bool) (f : Forecast) (e : Event) → righted f ≡ f → righted (forecast_after r f e) ≡ forecast_after r f e
after_right r f e p = right (eqb e.kind BoardForecast) (new e.forecast) (right (eqb e.kind MachineReady) (clear e.forecast) p)
  where
    new : (o : Option Forecast) → Right (replaced r f o)
    new None = p
    new (Some g) = right r (righted_again g) p

    clear : (o : Option Forecast) → Right (cleared f o)
    clear None = p
    clear (Some g) = right _ none_right p

pub forecast_right : (r : Bool) (n : ℕ) (l : Lane) (e : Event) → righted (forecast_in r n l e) ≡ forecast_in r n l e
forecast_right r n l e = right (forecast_used n) (after_right r (forecast_held l) e (held_right l)) none_right
