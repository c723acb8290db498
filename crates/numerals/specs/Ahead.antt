-- Runs of digits taken at once, for the proofs of the code.
use Rattle.std.specs.Prelude.{◌≡◌, true, false, ℕ, ◌+◌, ◌*◌, ◌≤◌, ◌<◌, length, take}
use Rattle.number.specs.Bytes.{Bytes, digit, figure}
use Rattle.numerals.specs.Scan.{TENTH, SLICE, run, step}
use Rattle.numerals.specs.declared.ends.Ends.{Ends}
use Rattle.numerals.specs.declared.scan.Body.{Body}
use Rattle.numerals.specs.declared.scan.Scan.{Scan}
use Rattle.numerals.specs.declared.ahead.Run.{Run}

-- the state behind digits that write n, without a point
abbrev pub whole_of : ℕ → ℕ → Scan
whole_of n k = record { ends = Ends.Inside; body = Body.Whole false (record { n = n; zeros = 0; places = 0 }) }

-- and with k of them behind a point
abbrev pub part_of : ℕ → ℕ → Scan
part_of n k = record { ends = Ends.Inside; body = Body.Part (record { n = n; zeros = 0; places = k }) }

-- states of which a digit makes the next one, as long as no zero has to be left out
abbrev pub Steps : (ℕ → ℕ → Scan) → Type 0
Steps f = (n k b : ℕ) → n < TENTH → k < SLICE → digit b ≡ true → step (f n k) b ≡ f (10 * n + figure b) (k + 1)

-- the digits of the run, with which v begins, take each such state to a later one
pub record Runs (v : Bytes) (n : ℕ) (r : Run) : Type 0 where
  pub upto : r.len ≤ length v
  pub says : (f : ℕ → ℕ → Scan) → Steps f → run step (f n 0) (take r.len v) ≡ f r.n r.len
