-- Byte strings compared by the library, and by the definition.
use Rattle.std.proofs.Common.{◌≡◌, Bool, ◌&&◌, eqb, [], ◌∷◌, refl, ap}
use Rattle.std.specs.Str.{bytes_eq}
use Rattle.grammar.specs.Bytes.{Bytes, same}

pub bytes_same : (a b : Bytes) → bytes_eq a b ≡ same a b
bytes_same [] [] = refl
bytes_same [] (y ∷ b) = refl
bytes_same (x ∷ a) [] = refl
bytes_same (x ∷ a) (y ∷ b) = ap (λ (z : Bool). eqb x y && z) (bytes_same a b)
