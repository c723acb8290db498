-- A number outside of a range fails its test.
use mathlib.Core.Path.{◌≡◌, refl}
use mathlib.Core.Bool.{Bool, true, false, ◌&&◌}
use Prim.Native.Nat.{ℕ, ◌<◌}
use lib.Dec.{leb}
use borrow.Author.Tests.{lt-leb}
use Rattle.grammar.specs.Bytes.{within}

pub under : (lo hi b : ℕ) → b < lo → within lo hi b ≡ false
unfolding within
under lo hi b h = rw (lt-leb lo b h)

pub over : (lo hi b : ℕ) → hi < b → within lo hi b ≡ false
unfolding within
over lo hi b h = go (leb lo b)
  where
    go : (z : Bool) → z && leb b hi ≡ false
    go true = lt-leb b hi h
    go false = refl
