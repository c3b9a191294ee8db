-- The demand of two lists of asks is that of both.
use Rattle.std.proofs.Common.{◌≡◌, List, [], ◌∷◌, ◌++◌, refl, arith}
use Rattle.nntp_said.specs.Asks.{Ask}
use Rattle.nntp_theory.specs.Given.{join, demand}

-- the demand of both
pub demand_append : (xs ys : List Ask) → demand (xs ++ ys) ≡ join (demand xs) (demand ys)
demand_append [] ys = refl
demand_append (ask ∷ xs) ys = grind (arith, demand_append xs ys)
