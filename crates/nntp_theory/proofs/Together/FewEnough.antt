-- Numbers are as few as is estimated.
use Rattle.std.{proofs.{Common.{◌≡◌, true, IsTrue, List, [], ◌∷◌, refl, arith}, lemmas.Bool.{and_parts, and_from}}, specs.{List.{AllByRecursion}, FinMap.{len}}}
use Rattle.nntp_article.specs.Session.Spool.{Numbers}
use Rattle.nntp_said.specs.Asks.{Ask}
use Rattle.nntp_theory.specs.{Inner.Estimates.{estimate_in, is_within, is_within_all}, Together.{IsFewFor}}

pub within_one : (N : Numbers) (ask : Ask) → IsFewFor N ask → is_within (estimate_in ask) (len N) ≡ true
within_one N ask h = grind arith

-- as few as each ask estimates
pub few_for : (N : Numbers) (asks : List Ask) → IsTrue (is_within_all asks (len N)) → AllByRecursion (IsFewFor N) asks
few_for N [] t = tt
few_for N (ask ∷ asks) t = let p = and_parts (is_within (estimate_in ask) (len N)) (is_within_all asks (len N)) t in ((grind arith), few_for N asks p.1)

pub within_all : (N : Numbers) (asks : List Ask) → AllByRecursion (IsFewFor N) asks → is_within_all asks (len N) ≡ true
within_all N [] h = refl
within_all N (ask ∷ asks) h = and_from (is_within (estimate_in ask) (len N)) (is_within_all asks (len N)) (within_one N ask h.0) (within_all N asks h.1)
