-- A GUID is 36 bytes; the id that bytes are.
use Rattle.std.specs.Prelude.{Option, Some, None}
use mathlib.Core.Path.{◌≡◌, refl, sym, ◌∙◌}
use mathlib.Core.List.{List, [], ◌∷◌}
use mathlib.Core.Bool.{Bool, true, false}
use native.Mathlib.Omega.{arith}
use lib.ListN.{length}
use Rattle.exact.specs.Chain.{clash}
use Rattle.grammar.specs.Bytes.{Bytes}
use Rattle.number.specs.Guid.{Place, places, may, filled, guid_of}
use Rattle.number.proofs.Tests.{and_right}
use Rattle.value.specs.Ids.{id_read}

filled_long : (ps : List Place) (v : Bytes) → filled ps v ≡ true → length v ≡ length ps
unfolding filled
filled_long [] [] h = refl
filled_long [] (b ∷ v) h = clash (sym h)
filled_long (p ∷ ps) [] h = clash (sym h)
filled_long (p ∷ ps) (b ∷ v) h = let z = filled_long ps v (and_right (may p b) (filled ps v) h) in omega arith

pub guid_long : (v : Bytes) → guid_of v ≡ true → length v ≡ 36
unfolding guid_of
guid_long v h = filled_long places v h

-- by what was said of the bytes v
module _ (v : Bytes) {r : Bool} (g : r ≡ guid_of v) where
  pub id_long : r ≡ true → length v ≡ 36
  id_long e = guid_long v (sym g ∙ e)

  pub id_bytes : r ≡ true → {b : Bytes} → b ≡ v → Some b ≡ id_read v
  unfolding id_read
  id_bytes e f = let k : guid_of v ≡ true = sym g ∙ e in rw (k, f)

  pub id_none : r ≡ false → {q : Option Bytes} → q ≡ None → q ≡ id_read v
  unfolding id_read
  id_none e f = let k : guid_of v ≡ false = sym g ∙ e in rw k f
