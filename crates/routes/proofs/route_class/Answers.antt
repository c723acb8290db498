-- Each answer is the class that has the number.
use mathlib.Core.Path.{sym, ap}
use native.Mathlib.Omega.{arith}
use Rattle.routes.specs.Classes.{class_of}
use Rattle.routes.specs.Theorems.{a_route, reserved, own}
use Rattle.routes.proofs.Theorems.{class_has}
use Rattle.routes.proofs.route_class.Goals as goal

pub returns-in-0 : goal.returns-in-0
unfolding class_of
returns-in-0 c = sym (ap class_of c.in-0.is)

pub returns-in-1-to-99 : goal.returns-in-1-to-99
returns-in-1-to-99 c = sym (class_has _ _ (a_route (omega arith) (omega arith)))

pub returns-in-900 : goal.returns-in-900
unfolding class_of
returns-in-900 c = sym (ap class_of c.in-900.is)

pub returns-in-999 : goal.returns-in-999
unfolding class_of
returns-in-999 c = sym (ap class_of c.in-999.is)

pub returns-in-100-to-998 : goal.returns-in-100-to-998
returns-in-100-to-998 c = sym (class_has _ _ (reserved (omega arith) (omega arith) (λ e. omega arith)))

pub returns-in_default : goal.returns-in_default
returns-in_default c = sym (class_has _ _ (own (omega arith)))
