-- No second answer meets the promise of `text_len`.
use mathlib.Core.Path.{◌≡◌, refl, sym, ap, ◌∙◌}
use mathlib.Core.List.{List}
use lib.ListN.{length}
use Rattle.grammar.specs.Bytes.{Bytes}
use Rattle.grammar.specs.Value.{Item, read_value}
use Rattle.value.proofs.Theorems.{loose_one}
use Rattle.decodes.specs.Decoded.{LengthSays}
use Prim.Native.Nat.{ℕ}
use Rattle.std.specs.Prelude.{Option, Some, None}

pub length_only : {w : Bytes} (r q : Option ℕ) → LengthSays w r → LengthSays w q → r ≡ q
length_only (Some n) (Some m) x y =
    let (l, a, e) = x.says in
    let (k, b, f) = y.says in
    ap Some (e ∙ ap (λ (l : List Item). length (read_value l)) (loose_one a b) ∙ sym f)
length_only (Some n) None x y = let (l, a, e) = x.says in absurd (y.says l a)
length_only None (Some m) x y = let (k, b, f) = y.says in absurd (x.says k b)
length_only None None x y = refl
