-- T2.L2: in any run of calls, each record is what `next` makes of the one before.
use Rattle.std.specs.Prelude.{◌≡◌, refl, List, [], ◌∷◌, Some, None}
use Rattle.std.proofs.Common.{sym, ap, subst, ◌∙◌}
use Rattle.lane.proofs.Laws.{received_by_lem, sent_by}
use Rattle.lane.specs.declared.Lane.{Lane}
use Rattle.lane.specs.declared.Moved.{Moved}
use Rattle.lane.specs.StepForStep.{Happening, gets, sends, ends, loses, after, Promised, Charted, Run, records}

pub charted : (l : Lane) (h : Happening) (l' : Lane) → Promised l h l' → Charted l h l'
charted l (gets e) l' p =
    record {
      moves = λ n q. p ∙ ap (λ (m : Moved). m.lane) (received_by_lem l e (Some n) q);
      refuses = λ q. p ∙ ap (λ (m : Moved). m.lane) (received_by_lem l e None q);
    }
charted l (sends e) l' p =
    record {
      moves = λ n q. p ∙ ap (λ (m : Moved). m.lane) (sent_by l e (Some n) q);
      refuses = λ q. p ∙ ap (λ (m : Moved). m.lane) (sent_by l e None q);
    }
charted l (ends refusal) l' p = p
charted l loses l' p = p

pub step_for_step : (l : Lane) (hs : List Happening) (ls : List Lane) → Run Promised l hs ls → Run Charted l hs ls
step_for_step l [] [] r = tt
step_for_step l [] (l' ∷ ls) r = r
step_for_step l (h ∷ hs) [] r = r
step_for_step l (h ∷ hs) (l' ∷ ls) r = (charted l h l' r.0, step_for_step l' hs ls r.1)

pub run_total : (l : Lane) (hs : List Happening) → Run Promised l hs (records l hs)
run_total l [] = tt
run_total l (h ∷ hs) = (refl, run_total (after l h) hs)

pub run_only : (l : Lane) (hs : List Happening) (ms ns : List Lane) → Run Promised l hs ms → Run Promised l hs ns → ms ≡ ns
run_only l [] [] [] r t = refl
run_only l [] [] (n ∷ ns) r t = absurd t
run_only l [] (m ∷ ms) ns r t = absurd r
run_only l (h ∷ hs) [] ns r t = absurd r
run_only l (h ∷ hs) (m ∷ ms) [] r t = absurd t
run_only l (h ∷ hs) (m ∷ ms) (n ∷ ns) r t =
    let q : n ≡ m = t.0 ∙ sym r.0 in
    rw (q, run_only m hs ms ns r.1 (subst (λ (x : Lane). Run Promised x hs ns) q t.1))
