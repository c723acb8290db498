-- No second answer meets a promise that tells what bytes are worth.
use mathlib.Core.Path.{◌≡◌, refl, sym, ap, ◌∙◌}
use mathlib.Core.Bool.{Bool}
use Rattle.number.specs.Bytes.{Bytes}
use Rattle.number.specs.Whole.{Whole, no_int, int, int_of, capped, paper, whole_read}
use Rattle.number.specs.Positive.{number_of, decimals_of, number_read}
use Rattle.number.specs.Guid.{guid_of}
use Rattle.number.specs.Version.{version_of}
use Rattle.std.specs.Prelude.{Option, Some, None}
use Rattle.number.specs.declared.Int.{Int}
use Rattle.number.specs.declared.Positive.{Positive}

-- two answers that say the same are the same
pub paper_injective : (r q : Option Int) → paper r ≡ paper q → r ≡ q
unfolding paper
paper_injective None None h = refl
paper_injective None (Some j) h = cc
paper_injective (Some i) None h = cc
paper_injective (Some i) (Some j) h =
    let e : i.negative ≡ j.negative = cc in
    let f : i.size ≡ j.size = cc in
    let g : ◌≡◌ {A = Int} (record { negative = i.negative; size = i.size }) (record { negative = j.negative; size = j.size }) = cc in
    ap Some g

-- the other public functions, the steps and ends of the scans, promise one value: no second result meets that
pub value_only : {A : Type 0} (x r q : A) → r ≡ x → q ≡ x → r ≡ q
value_only x r q h k = h ∙ sym k

-- no second answer meets the promise of a call
pub int_only : (v : Bytes) (r q : Option Int) → paper r ≡ capped (int_of v) → paper q ≡ capped (int_of v) → r ≡ q
int_only v r q h k = paper_injective r q (h ∙ sym k)

-- the promise of `int_of` as an equation of the answer
paper_read : (x : Whole) → paper (whole_read x) ≡ capped x
unfolding paper whole_read capped
paper_read no_int = refl
paper_read (int b n) = refl

pub number_only : (v : Bytes) (r q : Option Positive) → r ≡ number_read (number_of v) (decimals_of v) → q ≡ number_read (number_of v) (decimals_of v) → r ≡ q
number_only v r q h k = value_only (number_read (number_of v) (decimals_of v)) r q h k

pub guid_only : (v : Bytes) (r q : Bool) → r ≡ guid_of v → q ≡ guid_of v → r ≡ q
guid_only v r q h k = value_only (guid_of v) r q h k

pub version_only : (v : Bytes) (r q : Bool) → r ≡ version_of v → q ≡ version_of v → r ≡ q
version_only v r q h k = value_only (version_of v) r q h k
