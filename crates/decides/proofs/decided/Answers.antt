-- Each answer by the outline.
use mathlib.Core.Path.{refl}
use Rattle.reads.proofs.OutlineLaws.{known_sketch, accepted_order, accepted_in, accepted_held}
use Rattle.decides.proofs.DecideLaws.{decides_end, decides_more, decides_malformed, decides_too_long}
use Rattle.decides.proofs.decided.Goals as goal

pub sort_of-sort-requires : goal.sort_of-sort-requires
sort_of-sort-requires c = let a = (known_sketch c.in-Ok.is c.outline.ensures).accepted in (accepted_order a, accepted_in a)

pub invariant_of-attributes : goal.invariant_of-attributes
invariant_of-attributes c = record { held = ∣ accepted_held (known_sketch c.in-Ok.is c.outline.ensures).accepted refl ∣₁ }

pub returns-in-Ok : goal.returns-in-Ok
returns-in-Ok c = decides_end (known_sketch c.in-Ok.is c.outline.ensures) refl c.sort_of-sort.ensures c.rule.ensures c.made.ensures

pub returns-in-Err-More : goal.returns-in-Err-More
returns-in-Err-More c = decides_more (rw c.in-Err-More.field-0-is at c.in-Err-More.ensures) c.unread.ensures

pub returns-in-Err-Malformed : goal.returns-in-Err-Malformed
returns-in-Err-Malformed c = decides_malformed (rw c.in-Err-Malformed.field-0-is at c.in-Err-Malformed.ensures) c.unread-in-Err-Malformed.ensures

pub returns-in-Err-TooLong : goal.returns-in-Err-TooLong
returns-in-Err-TooLong c = decides_too_long (rw c.in-Err-TooLong.field-0-is at c.in-Err-TooLong.ensures) c.unread-in-Err-TooLong.ensures
