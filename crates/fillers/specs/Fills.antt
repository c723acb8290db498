-- What the answers of the readers of comments, text and filler say of the models.
use Rattle.std.specs.Prelude.{◌≡◌, ◌∷◌, ◌⊎◌, Bool, true, false, ℕ, ◌+◌, ◌≤◌, ◌<◌, length, drop, get_or, Ok, Err}
use Rattle.exact.specs.Exact.{done, more, bad, Reader}
use Rattle.exact.specs.Ahead.{Ahead}
use Rattle.exact.specs.Loop.{loop_p}
use Rattle.grammar.specs.Bytes.{Bytes}
use Rattle.grammar.specs.Filler.{Site, in_root, below_root, Filler}
use Rattle.model.specs.Fillers.{FillAcc, bit_p, peek_p}
use Rattle.scan.specs.Pieces.{Step, Got, chained}
use Rattle.pieces.specs.Parts.{PlainRun}
use Rattle.scan.specs.declared.Stop.TheVariants.{Open, Bad}

-- where filler stands
abbrev pub site_of : Bool → Site
site_of true = below_root
site_of false = in_root

-- filler and the `<` behind it: the byte behind that is not read
unfoldable pub fill_tok : Site → Reader Filler
fill_tok s t = chained (peek_p s t) (λ x u. done x.value (x.first ∷ u))

pub record GotFiller (site : Site) (s : Bytes) (at : ℕ) (r : Step) : Type 0 where
  pub says : Got 1 s at r (fill_tok site (drop at s))

-- a `<` stands at j, and no `!` behind it
pub record TagAt (s : Bytes) (j : ℕ) : Type 0 where
  pub inside : j + 1 < length s
  pub opens : get_or s j 0 ≡ 60
  pub apart : get_or s (j + 1) 0 ≡ 33 → ⊥

-- behind a `-` that stands at i, or at i
pub record PastDash (s : Bytes) (i r : ℕ) : Type 0 where
  pub says : ((get_or s i 0 ≡ 45) × (r ≡ i + 1)) ⊎ ((get_or s i 0 ≡ 45 → ⊥) × (r ≡ i))

-- plain bytes that are no `]`, if none stood before
pub record Cleared (s : Bytes) (at n r : ℕ) : Type 0 where
  pub ran : PlainRun 93 s at r
  pub calm : (n ≡ 0) ⊎ (r ≡ at)

-- what is left of filler
unfoldable pub bits_p : Site → FillAcc → Reader (Ahead Filler)
bits_p s a = loop_p (bit_p s) a

-- no `]` stands before
abbrev pub calmly : (Filler → Filler) → FillAcc
calmly k = record { row = 0; build = k }

-- the next `<` behind glue or text, whatever was read before
abbrev pub GapCase : Site → Bytes → ℕ → Step → Type 0
GapCase site s at (Ok j) = (at ≤ j) × (j < length s) × (get_or s j 0 ≡ 60) × ((k : Filler → Filler) → (a : FillAcc) × (bits_p site (calmly k) (drop at s) ≡ bits_p site a (drop j s)))
GapCase site s at (Err Open) = (k : Filler → Filler) → bits_p site (calmly k) (drop at s) ≡ more
GapCase site s at (Err (Bad p)) = (at ≤ p) × (p < length s) × ((k : Filler → Filler) → bits_p site (calmly k) (drop at s) ≡ bad (drop p s))

pub record GotGap (site : Site) (s : Bytes) (at : ℕ) (r : Step) : Type 0 where
  pub says : GapCase site s at r
