use Rattle.std.proofs.Common.{◌≡◌, ℕ, arith}
use Rattle.windows.proofs.ending.ended.Goals as goal

pub returns-then-flush : goal.returns-then-flush
returns-then-flush g c = record { result_nonzero = (λ e. absurd (let z : ◌≡◌ {A = ℕ} 0 1 = cc in omega arith)); result_nonzero_2 = (λ e. absurd (let z : ◌≡◌ {A = ℕ} 0 1 = cc in omega arith)) }

pub returns : goal.returns
returns g c = record { result_nonzero = (λ e. absurd (let z : ◌≡◌ {A = ℕ} 0 1 = cc in omega arith)); result_nonzero_2 = (λ e. absurd (let z : ◌≡◌ {A = ℕ} 0 1 = cc in omega arith)) }
