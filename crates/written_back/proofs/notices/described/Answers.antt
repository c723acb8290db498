-- Each number has its line.
use mathlib.Core.Path.{sym, ap}
use native.Mathlib.Omega.{arith}
use Rattle.meant.specs.Notices.{description}
use Rattle.written_back.proofs.ReplyLaws.{undescribed}
use Rattle.written_back.proofs.notices.described.Goals as goal

-- Each number has its line.
pub returns-in-2 : goal.returns-in-2
unfolding description
returns-in-2 c = record { inside = omega arith; short = omega arith; is = sym (ap description c.in-2.is) }

pub returns-in-3 : goal.returns-in-3
unfolding description
returns-in-3 c = record { inside = omega arith; short = omega arith; is = sym (ap description c.in-3.is) }

pub returns-in-4 : goal.returns-in-4
unfolding description
returns-in-4 c = record { inside = omega arith; short = omega arith; is = sym (ap description c.in-4.is) }

pub returns-in-5 : goal.returns-in-5
unfolding description
returns-in-5 c = record { inside = omega arith; short = omega arith; is = sym (ap description c.in-5.is) }

pub returns-in-6 : goal.returns-in-6
unfolding description
returns-in-6 c = record { inside = omega arith; short = omega arith; is = sym (ap description c.in-6.is) }

pub returns-in-9 : goal.returns-in-9
unfolding description
returns-in-9 c = record { inside = omega arith; short = omega arith; is = sym (ap description c.in-9.is) }

pub returns-in_default : goal.returns-in_default
returns-in_default c = record { inside = omega arith; short = omega arith; is = sym (undescribed c.args.refusal c.in_default.in_default-own.rest) }
