-- The number of each class, in the code's words.
use Rattle.std.specs.Prelude.{ℕ}
use Rattle.routes.specs.Classes.{Undefined, ARoute, Return, ManualRemoval, Reserved, Own}
use Rattle.routes.specs.declared.RouteClass.{RouteClass}

abbrev pub number_of : RouteClass → ℕ
number_of RouteClass.Undefined = Undefined
number_of RouteClass.Route = ARoute
number_of RouteClass.Return = Return
number_of RouteClass.ManualRemoval = ManualRemoval
number_of RouteClass.Reserved = Reserved
number_of RouteClass.Own = Own
