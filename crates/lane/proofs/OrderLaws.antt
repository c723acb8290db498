-- What an order says of the message that gave it, for the theorems of Orders.
use Rattle.std.specs.Prelude.{◌≡◌, refl, [], ◌∷◌, Bool, true, false, ◌⊎◌, ℕ, T, eqb, Some, None}
use Rattle.std.proofs.Common.{sym, ◌∙◌, inl, inr, ⊎_elim, arith, eqb→eq, eqb-true}
use Rattle.lane.specs.Names.{D, Ready, Both, StartTransport, NoOrder, Run, Cancel, StopNow}
use Rattle.lane.specs.Chart.{pick, both, either, among, Sent, chart, by_rows, next}
use Rattle.lane.specs.Record.{carries_own, start_order}
use Rattle.lane.proofs.Laws.{both_parts}
use Rattle.lane.proofs.Laws.{by_rows_lem, next_cases}
use Rattle.lane.specs.declared.Event.{Event}
use Rattle.lane.specs.declared.Lane.{Lane}

-- what an order says of the message
module _ (l : Lane) (e : Event) where
  pub run_says : start_order l e ≡ Run → (e.kind ≡ StartTransport) × (l.state ≡ Both) × (carries_own l e ≡ true)
  run_says q = go (eqb e.kind 7) refl (eqb l.state 5) refl (carries_own l e) refl
    where
      go : (a : Bool) → eqb e.kind 7 ≡ a → (b : Bool) → eqb l.state 5 ≡ b → (c : Bool) → carries_own l e ≡ c → (e.kind ≡ StartTransport) × (l.state ≡ Both) × (carries_own l e ≡ true)
      go true ea true eb true ec = (eqb-true e.kind 7 ea, eqb-true l.state 5 eb, ec)
      go true ea true eb false ec = absurd (let w : ◌≡◌ {A = ℕ} 2 1 = rw (ec, ea, eb) at q in omega arith)
      go true ea false eb c ec = absurd (let w : ◌≡◌ {A = ℕ} 2 1 = rw (ea, eb) at q in omega arith)
      go false ea b eb c ec = absurd (let w : ◌≡◌ {A = ℕ} 0 1 = rw ea at q in omega arith)

  pub cancel_says : start_order l e ≡ Cancel → (e.kind ≡ StartTransport) × (both (eqb l.state Both) (carries_own l e) ≡ false)
  cancel_says q = go (eqb e.kind 7) refl (both (eqb l.state 5) (carries_own l e)) refl
    where
      go : (a : Bool) → eqb e.kind 7 ≡ a → (b : Bool) → both (eqb l.state 5) (carries_own l e) ≡ b → (e.kind ≡ StartTransport) × (both (eqb l.state 5) (carries_own l e) ≡ false)
      go true ea true eb = absurd (let w : ◌≡◌ {A = ℕ} 1 2 = rw (eb, ea) at q in omega arith)
      go true ea false eb = (eqb-true e.kind 7 ea, eb)
      go false ea b eb = absurd (let w : ◌≡◌ {A = ℕ} 0 2 = rw ea at q in omega arith)

  pub stop_not : start_order l e ≡ StopNow → ⊥
  stop_not q = go (eqb e.kind 7) refl (both (eqb l.state 5) (carries_own l e)) refl
    where
      go : (a : Bool) → eqb e.kind 7 ≡ a → (b : Bool) → both (eqb l.state 5) (carries_own l e) ≡ b → ⊥
      go true ea true eb = (let w : ◌≡◌ {A = ℕ} 1 3 = rw (eb, ea) at q in omega arith)
      go true ea false eb = (let w : ◌≡◌ {A = ℕ} 2 3 = rw (eb, ea) at q in omega arith)
      go false ea b eb = (let w : ◌≡◌ {A = ℕ} 0 3 = rw ea at q in omega arith)

pub end_not : (b : Bool) (n : ℕ) → (n ≡ Run) ⊎ (n ≡ Cancel) → pick b StopNow NoOrder ≡ n → ⊥
end_not true n w q = ⊎_elim (λ e. let x : ◌≡◌ {A = ℕ} 3 1 = q ∙ e in omega arith) (λ e. let x : ◌≡◌ {A = ℕ} 3 2 = q ∙ e in omega arith) w
end_not false n w q = ⊎_elim (λ e. let x : ◌≡◌ {A = ℕ} 0 1 = q ∙ e in omega arith) (λ e. let x : ◌≡◌ {A = ℕ} 0 2 = q ∙ e in omega arith) w

pub end_stop : (b : Bool) → pick b StopNow NoOrder ≡ StopNow → b ≡ true
end_stop true q = refl
end_stop false q = absurd (let x : ◌≡◌ {A = ℕ} 0 3 = q in omega arith)

-- StartTransport passes only from downstream, and only in Ready or Both
start_row : ℕ → ℕ → ℕ → ℕ → Bool
start_row s k u n = pick (eqb k StartTransport) (both (eqb u D) (among s (Ready ∷ Both ∷ []))) true

pub start_passes : (s k u : ℕ) (r same : Bool) (n : ℕ) → k ≡ StartTransport → next s k u r same ≡ Some n → (u ≡ D) × ((s ≡ Ready) ⊎ (s ≡ Both))
unfolding start_row chart
start_passes s k u r same n e q =
    ⊎_elim (λ p. absurd (let z : false ≡ true = rw e at p.0 in let x : ◌≡◌ {A = ℕ} 0 1 = cc in omega arith))
    (λ p. by (rw e at (by_rows_lem start_row s k u n r chart tt p.0)))
    (next_cases s k u r same n q)
  where
    by : T (both (eqb u D) (among s (Ready ∷ Both ∷ []))) → (u ≡ D) × ((s ≡ Ready) ⊎ (s ≡ Both))
    by t =
        let p = both_parts (eqb u 2) (among s (4 ∷ 5 ∷ [])) t in
        (eqb→eq u 2 p.0, one (eqb s 4) refl (eqb s 5) refl p.1)
      where
        one : (a : Bool) → eqb s 4 ≡ a → (b : Bool) → eqb s 5 ≡ b → T (either a (either b false)) → (s ≡ Ready) ⊎ (s ≡ Both)
        one true ea b eb t = inl (eqb-true s 4 ea)
        one false ea true eb t = inr (eqb-true s 5 eb)
        one false ea false eb t = absurd t

-- and sent, only in Both with the offered id
ready_not_sent : (u : ℕ) → by_rows chart Ready StartTransport u Sent ≡ None
unfolding by_rows chart
ready_not_sent u = refl

pub start_sent_passes : (s k u : ℕ) (same : Bool) (n : ℕ) → k ≡ StartTransport → next s k u Sent same ≡ Some n → (s ≡ Both) × (same ≡ true)
start_sent_passes s k u same n e q =
    ⊎_elim (λ p. absurd (let z : false ≡ true = rw e at p.0 in let x : ◌≡◌ {A = ℕ} 0 1 = cc in omega arith))
    (λ p. (⊎_elim (λ es. absurd (not_ready es p.0)) (λ es. es) (start_passes s k u Sent same n e q).1, rw e at p.1))
    (next_cases s k u Sent same n q)
  where
    not_ready : s ≡ Ready → by_rows chart s k u Sent ≡ Some n → ⊥
    not_ready es h =
        let w : by_rows chart Ready StartTransport u Sent ≡ Some n = rw (es, e) at h in
        let v : None ≡ Some n = sym (ready_not_sent u) ∙ w in
        let x : ◌≡◌ {A = ℕ} 0 1 = cc in
        omega arith
