use Rattle.nntp_kept.proofs.Base.{◌≡◌, Bool, sym, subst, arith, ◌↔◌, IsTrue, IsFalse, not, IsKept, told}
use Rattle.nntp_kept.proofs.kept.Kept.may_be_missing.Goals as goal

-- a test that has to fail
unless : (a b : Bool) → a ≡ b → IsTrue (not a) ↔ IsFalse b
unless a b e = grind arith

pub returns-in-Some : goal.returns-in-Some
returns-in-Some g c facts kept = grind (arith, unless, c.is_shown.ensures (told facts) (subst (IsKept facts) (sym c.self.view_is) kept).groups)
