-- An attribute of a name, tried: what is found at its place is what the reading gives it.
use Rattle.std.specs.Prelude.{Option, Some, None}
use mathlib.Core.Path.{◌≡◌, sym, ap, subst, ◌∙◌}
use mathlib.Core.List.{List}
use mathlib.Core.Bool.{Bool}
use Prim.Native.Nat.{ℕ, ◌+◌, ◌-◌, ◌≤◌}
use native.Mathlib.Omega.{arith}
use lib.ListN.{length, take, drop}
use Rattle.std.proofs.Math.Logic.{∥∥₁_elim}
use Rattle.std.proofs.Math.Bridge.{le_prop}
use Rattle.grammar.specs.Bytes.{Bytes}
use Rattle.grammar.specs.Value.{Item, read_value}
use Rattle.grammar.specs.Tree.{Pair}
use Rattle.value.specs.Loose.{Loose}
use Rattle.value.proofs.Loose.{loosen}
use Rattle.value.specs.declared.text.Span.{Span}
use Rattle.table.specs.Table.{Form}
use Rattle.table.specs.Says.{Result, judged, without, given}
use Rattle.message.specs.Handed.{ReadsAt}
use Rattle.reads.specs.Held.{Held, pairs, place, Found, Tries}
use Rattle.message.proofs.PlaceLaws.{reads_at, has_worth, missing_at}

-- at the place p stands a raw value, and what it reads as is the value of the name
pub record Stands (s name : Bytes) (l : List Pair) (p : Span) : Type 0 where
  pub items : List Item
  pub loose : Loose (take p.len (drop p.start s)) items
  pub inside : p.start + p.len ≤ length s
  pub worth : (t : Form) (o : Bool) → given t o name l ≡ judged t (read_value items)

pub stands_so : {s name : Bytes} {l : List Pair} {p : Span} → ReadsAt s name l p → Stands s name l p
stands_so r = record { items = r.text.items; loose = record { good = loosen r.text.good; spelt = r.text.spelt }; inside = r.inside; worth = λ t o. has_worth r.has t o ∙ ap (judged t) r.text.reads }

module _ {s : Bytes} {base : ℕ} {table : List ℕ} {count : ℕ} {name : Bytes} {w : Option Span} (found : Found s base table count name w) where
  pub there : (h : Held s base table count) (p : Span) → w ≡ Some p → Stands s name (pairs h) p
  there h p e = stands_so (reads_at s base h.attributes h.after h.good h.stand name p (sym (found.says h) ∙ e))

  pub found_inside : ∥ Held s base table count ∥₁ → (p : Span) → w ≡ Some p → p.start + p.len ≤ length s
  found_inside t p e = ∥∥₁_elim t le_prop (λ h. (there h p e).inside)

  pub tries_absent : {A : Type 0} (f : Option Span → Result → A) (t : Form) (o : Bool) {r : A} → w ≡ None → r ≡ f w (without o) → Tries f t o s base table count name r
  tries_absent f t o e k =
      record { says = λ h. k ∙ ap (λ (w : Option Span). f w (without o)) (found.says h) ∙ ap (f (place h name)) (sym (missing_at base h.attributes name (sym (found.says h) ∙ e) t o)) }

  pub tries_present : {A : Type 0} (f : Option Span → Result → A) (t : Form) (o : Bool) (p : Span) {r : A} → w ≡ Some p
      → ((l : List Item) → Loose (take (p.start + p.len - p.start) (drop p.start s)) l → r ≡ f (Some p) (judged t (read_value l))) → Tries f t o s base table count name r
  tries_present f t o p {r} e k = record { says = λ h. go h (there h p e) }
    where
      go : (h : Held s base table count) → Stands s name (pairs h) p → r ≡ f (place h name) (given t o name (pairs h))
      go h x =
          let q : p.len ≡ p.start + p.len - p.start = omega arith in
          k x.items (subst (λ (n : ℕ). Loose (take n (drop p.start s)) x.items) q x.loose) ∙ ap (λ (w : Option Span). f w (judged t (read_value x.items))) (sym e ∙ found.says h) ∙ ap (f (place h name)) (sym (x.worth t o))
