-- What the answers of the readers of tags and elements say of the models.
use Rattle.std.specs.Prelude.{◌≡◌, List, true, ℕ, ◌+◌, ◌-◌, ◌≤◌, ◌<◌, length, take, drop, Result, Ok, Err}
use Rattle.exact.specs.Exact.{done, Reader}
use Rattle.grammar.specs.Bytes.{Bytes}
use Rattle.model.specs.Attributes.{Head, head_p}
use Rattle.scan.specs.Pieces.{StopCase, name_tok, chained}
use Rattle.scan.specs.declared.Stop.{Stop}
use Rattle.tags.specs.Heads.{Noted}
use Rattle.reader.specs.declared.elements.Start.{Start}

-- a start tag or an empty tag, behind its `<`
pub record Started : Type 0 where
  pub name : Bytes
  pub head : Head

unfoldable pub start_p : Reader Started
start_p t = chained (name_tok t) (λ n u. chained (head_p true u) (λ h v. done (record { name = n; head = h }) v))

-- a tag that was read at `at`: its name, whether it is empty, its attributes and their places in a table that is lent
pub record StartRead (s : Bytes) (at : ℕ) (old new : List ℕ) (r : Start) : Type 0 where
  pub value : Started
  pub from : at + 1 ≤ r.to
  pub upto : r.to < length s
  pub name : value.name ≡ take (r.to - at) (drop at s)
  pub empty : r.tag.empty ≡ value.head.empty
  pub count : r.tag.count ≡ length value.head.attributes
  pub table : Noted s r.to old new value.head.attributes
  pub far : r.to + 1 ≤ r.tag.end
  pub room : r.tag.end ≤ length s
  pub head : head_p true (drop r.to s) ≡ done value.head (drop r.tag.end s)
  pub reads : start_p (drop at s) ≡ done value (drop r.tag.end s)

abbrev pub StartCase : Bytes → ℕ → List ℕ → List ℕ → Result Start Stop → Type 0
StartCase s at old new (Ok r) = StartRead s at old new r
StartCase s at old new (Err x) = StopCase s at x (start_p (drop at s))

-- what the answer says of the model, and of the table
pub record GotStart (s : Bytes) (at : ℕ) (old new : List ℕ) (r : Result Start Stop) : Type 0 where
  pub says : StartCase s at old new r
  pub long : length new ≡ length old
