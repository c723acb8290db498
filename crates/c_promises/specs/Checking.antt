-- What a check tells C.
use Rattle.std.specs.Prelude.{◌≡◌, List, ℕ}
use Rattle.grammar.specs.Bytes.{Bytes}
use Rattle.message.specs.Checked.{Checks}
use Rattle.message.specs.declared.checking.Checked.{Checked}

pub record Finds (s : Bytes) (refusal start end place kind : ℕ) (cells : List ℕ) (id : Bytes) : Type 0 where
  pub found : Checked
  pub checks : Checks s found
  pub refuses : refusal ≡ found.refusal
  pub starts : start ≡ found.start
  pub ends : end ≡ found.end
  pub places : place ≡ found.place
  pub kinds : kind ≡ found.message.kind
  pub says : cells ≡ found.message.cells
  pub names : id ≡ found.message.id
