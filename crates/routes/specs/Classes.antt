-- Order 1: "Route 0 is undefined, 1 to 99 a route, 900 return, 999 manual removal, other values up to 998 reserved, 1000 and above the line's own".
use Rattle.std.specs.Prelude.{◌&&◌, cond, ℕ, eqb, leb}

abbrev pub Undefined : ℕ
Undefined = 0

abbrev pub ARoute : ℕ
ARoute = 1

abbrev pub Return : ℕ
Return = 2

abbrev pub ManualRemoval : ℕ
ManualRemoval = 3

abbrev pub Reserved : ℕ
Reserved = 4

abbrev pub Own : ℕ
Own = 5

-- the class of each number, by cases in the order of the sentence
unfoldable pub class_of : ℕ → ℕ
class_of n =
    cond (eqb n 0) Undefined
    (cond (leb 1 n && leb n 99) ARoute
    (cond (eqb n 900) Return
    (cond (eqb n 999) ManualRemoval
    (cond (leb n 998) Reserved Own))))
