-- What the answers of the readers of the declaration say of the models.
use Rattle.std.specs.Prelude.{◌≡◌, List, [], ◌∷◌, Bool, ℕ, ◌+◌, ◌-◌, ◌≤◌, length, drop, get_or, Ok, Err}
use Rattle.scan.specs.Pieces.{StopCase, Got, word_p, glue_tok, chained, Step, glued_p}
use Rattle.model.specs.Declarations.{fits_p, setting_p, behind_standalone_p, standalone_or_end_p, behind_encoding_p, behind_version_p}
use Rattle.exact.specs.Exact.{done, Reader}
use Rattle.exact.specs.Chain.{ret_p}
use Rattle.exact.specs.Byte.{on_p}
use Rattle.grammar.specs.Bytes.{Bytes, either}
use Rattle.grammar.specs.Value.{is_quote}
use Rattle.grammar.specs.Declaration.{Optional, Declaration}

-- each byte is one of two
abbrev pub pairs : Bytes → Bytes → List (ℕ → Bool)
pairs [] b = []
pairs (x ∷ a) [] = []
pairs (x ∷ a) (y ∷ b) = either x y ∷ pairs a b

unfoldable pub pairs_p : Bytes → Bytes → Reader Bytes
pairs_p a b = fits_p (pairs a b)

-- a name, glue, `=`, glue, a quote
pub record Opening : Type 0 where
  pub mid : Bytes
  pub after : Bytes
  pub quote : ℕ

abbrev pub mk_opening : Bytes → Bytes → ℕ → Opening
mk_opening m a q = record { mid = m; after = a; quote = q }

unfoldable pub quote_p : Bytes → Bytes → Reader Opening
quote_p m a = on_p is_quote (λ q. ret_p (mk_opening m a q))

unfoldable pub open_p : Bytes → Reader Opening
open_p name t = chained (word_p name t) (λ _ u. chained (glued_p 61 u) (λ m v. chained (glue_tok v) (λ a w. quote_p m a w)))

abbrev pub OpenCase : Bytes → Bytes → ℕ → Step → Type 0
OpenCase name s at (Ok e) = (o : Opening) × (o.quote ≡ get_or s (e - 1) 0) × (at + 1 ≤ e) × (e ≤ length s) × (open_p name (drop at s) ≡ done o (drop e s))
OpenCase name s at (Err x) = StopCase s at x (open_p name (drop at s))

pub record GotOpen (name s : Bytes) (at : ℕ) (r : Step) : Type 0 where
  pub says : OpenCase name s at r

pub record GotSetting (name : Bytes) (W : Reader Bytes) (s : Bytes) (at : ℕ) (r : Step) : Type 0 where
  pub says : (g : Bytes) → Got 1 s at r (setting_p name W g (drop at s))

-- the end, and what may stand before it
pub record GotBehindStandalone (s : Bytes) (at : ℕ) (r : Step) : Type 0 where
  pub says : (f : Bytes → Declaration) → Got 1 s at r (behind_standalone_p f (drop at s))

pub record GotStandaloneOrEnd (s : Bytes) (at : ℕ) (r : Step) : Type 0 where
  pub says : (g : Bytes) (f : Optional → Bytes → Declaration) → Got 1 s at r (standalone_or_end_p g f (drop at s))

pub record GotBehindEncoding (s : Bytes) (at : ℕ) (r : Step) : Type 0 where
  pub says : (f : Optional → Bytes → Declaration) → Got 1 s at r (behind_encoding_p f (drop at s))

pub record GotBehindVersion (s : Bytes) (at : ℕ) (r : Step) : Type 0 where
  pub says : (f : Optional → Optional → Bytes → Declaration) → Got 1 s at r (behind_version_p f (drop at s))
