-- What the classes are, number by number, and that each number has one.
use Rattle.std.specs.Prelude.{◌≡◌, ℕ, ◌≤◌}
use Rattle.routes.specs.Classes.{Undefined, ARoute, Return, ManualRemoval, Reserved, Own}

-- which numbers a class has
pub data Has : ℕ → ℕ → Type 0 where
  undefined : Has 0 Undefined
  a_route : {n : ℕ} → 1 ≤ n → n ≤ 99 → Has n ARoute
  return : Has 900 Return
  removal : Has 999 ManualRemoval
  reserved : {n : ℕ} → 100 ≤ n → n ≤ 998 → (n ≡ 900 → ⊥) → Has n Reserved
  own : {n : ℕ} → 1000 ≤ n → Has n Own
