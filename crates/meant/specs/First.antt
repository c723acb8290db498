-- Bytes that are written first into a buffer, or not at all.
use Rattle.std.specs.Prelude.{◌≡◌, ◌++◌, cond, ℕ, length, drop, leb}
use Rattle.grammar.specs.Bytes.{Bytes}
use Rattle.meant.specs.Writes.{refused_by}
use Rattle.meant.specs.declared.Written.{Written}

-- "7 is given exactly if the bytes to be written, a Notification too, are more than the buffer holds"
abbrev pub count_of : Bytes → ℕ → Written
count_of b room = cond (leb (length b) room) (record { refusal = 0; count = length b }) (refused_by 7)

-- "reply or message first, rest kept"
abbrev pub first_in : Bytes → Bytes → Bytes
first_in b old = cond (leb (length b) (length old)) (b ++ drop (length b) old) old

pub record First (b old new : Bytes) (r : Written) : Type 0 where
  pub answer : r ≡ count_of b (length old)
  pub buffer : new ≡ first_in b old
