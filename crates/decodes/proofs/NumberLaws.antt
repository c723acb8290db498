-- The scan, kept over the characters of a value; and plain values, which need none.
use mathlib.Core.Path.{◌≡◌, sym, ap, subst, ◌∙◌}
use mathlib.Core.List.{[], ◌++◌}
use mathlib.Core.Bool.{Bool, true}
use Prim.Native.Nat.{ℕ, ◌≤◌}
use native.Mathlib.Omega.{arith}
use lib.ListN.{length, take}
use Rattle.grammar.specs.Bytes.{Bytes}
use Rattle.grammar.specs.Character.{utf8}
use Rattle.grammar.specs.Value.{read_value}
use Rattle.numerals.specs.Scan.{run, step, start}
use Rattle.numerals.specs.declared.scan.Scan.{Scan}
use Rattle.numerals.proofs.Theorems.{scanned_on}
use Rattle.std.specs.Prelude.{Option, Some, None}
use Rattle.decodes.specs.Walk.{Taken, Walked, walked_start, walked_step, walked_end, walked_fail}
use Rattle.decodes.specs.Plain.{plain}
use Rattle.decodes.proofs.Plain.{plain_reads}
use Rattle.decodes.specs.Units.{UnitSays}
use Rattle.value.specs.Numbers.{Reads, read, unread}
use Rattle.decodes.specs.Walked.{WalkCase, WalkSays}

-- what is said of the bytes of a plain value is said of what it reads as
pub plain_read : {A : Type 0} {says : Bytes → A → Type 0} {none : A} {w : Bytes} {p : Bool} {r : A} → p ≡ plain w → p ≡ true → says w r → Reads says none w r
plain_read {says = says} {w = w} {r = r} h k s = let (l, x, e) = plain_reads w (sym h ∙ k) in read l x (subst (λ (v : Bytes). says v r) (sym e) s)

-- the bytes of a character, which stand first in b
pub first_run : (from : Scan) (b w : Bytes) {n : ℕ} → n ≡ length w → take (length w) b ≡ w → run step from (take n b) ≡ run step from w
first_run from b w e h = ap (λ (k : ℕ). run step from (take k b)) e ∙ ap (run step from) h

-- the scan after what was read up to i
pub record Scanned (src : Bytes) (i : ℕ) (s : Scan) : Type 0 where
  pub bytes : Bytes
  pub walked : Walked src i bytes
  pub state : s ≡ run step start bytes

pub scanned_none : (src : Bytes) {s : Scan} → s ≡ start → Scanned src 0 s
unfolding run
scanned_none src e = record { bytes = []; walked = walked_start src; state = e }

pub scanned_next : {src : Bytes} {i c e : ℕ} {s s' : Scan} → Scanned src i s → Taken src i c e → s' ≡ run step s (utf8 c) → Scanned src e s'
scanned_next {c = c} k t g = record { bytes = k.bytes ++ utf8 c; walked = walked_step k.walked t; state = g ∙ ap (λ (s : Scan). run step s (utf8 c)) k.state ∙ sym (scanned_on Scan step start k.bytes (utf8 c)) }

pub scanned_end : {src : Bytes} {i : ℕ} {s : Scan} → Scanned src i s → length src ≤ i → WalkSays src (Some s)
scanned_end {src} k h = let (l, x, e) = walked_end k.walked h in let n : length (read_value l) ≤ length src = let a = k.walked.no_longer in let b = k.walked.upto in let c = ap length e in omega arith in record { says = (l, x, k.state ∙ ap (run step start) (sym e), n) }

pub scanned_fail : {src : Bytes} {i : ℕ} {s : Scan} → Scanned src i s → UnitSays src i None → WalkSays src None
scanned_fail k g = record { says = walked_fail k.walked g.says }

-- what is said of a scan, by the walk
module _ {A : Type 0} (says : Bytes → A → Type 0) (none : A) {w : Bytes} {p : Option Scan} (g : WalkSays w p) where
  pub walk_read : {s : Scan} → p ≡ Some s → {r : A} → ((v : Bytes) → length v ≤ length w → s ≡ run step start v → says v r) → Reads says none w r
  walk_read q f = let (l, x, e, n) = subst (λ (p : Option Scan). WalkCase w p) q g.says in read l x (f (read_value l) n e)

  pub walk_none : p ≡ None → {r : A} → r ≡ none → Reads says none w r
  walk_none q e = unread (subst (λ (p : Option Scan). WalkCase w p) q g.says) e
