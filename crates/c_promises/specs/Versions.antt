-- The version that a program asks for: a header and a library belong together if both have the same.
use Rattle.std.specs.Prelude.{◌≡◌, refl, ℕ, ◌+◌, ◌*◌}
use Rattle.std.proofs.Common.{sym, ◌∙◌}

-- a version as a number: the first times 10,000, the second times 100, the third
abbrev pub numbered : ℕ → ℕ → ℕ → ℕ
numbered first second third = first * 10_000 + second * 100 + third

-- 1.5.0
abbrev pub VERSION : ℕ
VERSION = numbered 1 5 0

-- as a person reads it
pub numbered_so : (numbered 1 5 0 ≡ 10_500) × (numbered 2 13 7 ≡ 21_307)
numbered_so = (refl, refl)

-- no second number satisfies the promise of `tryphomel_version`
pub version_told_only : {a b : ℕ} → a ≡ VERSION → b ≡ VERSION → a ≡ b
version_told_only e f = e ∙ sym f
