-- What `tryphomel_check` answers, and that no second answer satisfies its promise.
use mathlib.Core.Path.{◌≡◌, refl, sym, ap, ◌∙◌}
use mathlib.Core.List.{List}
use Prim.Native.Nat.{ℕ}
use Rattle.grammar.specs.Bytes.{Bytes}
use Rattle.message.specs.Checked.{handed_by, ChecksInto}
use Rattle.message.specs.declared.checking.Found.{Found}
use Rattle.message.proofs.Theorems.{check_only}
use Rattle.message.specs.declared.checking.Checked.{Checked}
use Rattle.c_promises.specs.Checking.{Finds}

pub finds : {s : Bytes} {cells : List ℕ} {f : Found} → ChecksInto s cells f → Finds s f.refusal f.start f.end f.place f.kind cells f.id
finds {cells = cells} {f = f} p = record { found = handed_by f cells; checks = p.checks; refuses = refl; starts = refl; ends = refl; places = refl; kinds = refl; says = refl; names = refl }

pub finds_only : {s : Bytes} {r a e p k r' a' e' p' k' : ℕ} {n n' : List ℕ} {i i' : Bytes} → Finds s r a e p k n i → Finds s r' a' e' p' k' n' i'
    → (r ≡ r') × (a ≡ a') × (e ≡ e') × (p ≡ p') × (k ≡ k') × (n ≡ n') × (i ≡ i')
finds_only x y =
    let q : x.found ≡ y.found = check_only x.checks y.checks in (
      x.refuses ∙ ap (λ (c : Checked). c.refusal) q ∙ sym y.refuses,
      x.starts ∙ ap (λ (c : Checked). c.start) q ∙ sym y.starts,
      x.ends ∙ ap (λ (c : Checked). c.end) q ∙ sym y.ends,
      x.places ∙ ap (λ (c : Checked). c.place) q ∙ sym y.places,
      x.kinds ∙ ap (λ (c : Checked). c.message.kind) q ∙ sym y.kinds,
      x.says ∙ ap (λ (c : Checked). c.message.cells) q ∙ sym y.says,
      x.names ∙ ap (λ (c : Checked). c.message.id) q ∙ sym y.names,
    )
