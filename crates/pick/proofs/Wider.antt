-- The wider of two, as an operation: nothing is its unit, and it is associative, so that leaves can be compared one by one.
-- Rests on specs/Picks.antt alone.
use Rattle.std.proofs.Common.{◌≡◌, refl, ap, arith, Option, Some, None}
use Rattle.records.specs.Found.{wider}
use Rattle.records.specs.declared.Found.{Found}
use Rattle.pick.specs.Picks.{wider_of}

-- Nothing adds nothing.
pub wider-nothing : (x : Option Found) → wider_of x None ≡ x
unfolding wider_of
wider-nothing None = refl
wider-nothing (Some x) = refl

-- Of three leaves it does not matter which two are compared first.
three : (x y z : Found) → wider (wider x y) z ≡ wider x (wider y z)
three x y z = grind arith

-- Nor of any three findings.
pub wider-assoc : (x y z : Option Found) → wider_of (wider_of x y) z ≡ wider_of x (wider_of y z)
unfolding wider_of
wider-assoc None y z = refl
wider-assoc (Some x) None z = refl
wider-assoc (Some x) (Some y) None = refl
wider-assoc (Some x) (Some y) (Some z) = ap Some (three x y z)
