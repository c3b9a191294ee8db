use Rattle.std.proofs.Common.{arith, None, Some}
use Rattle.nntp_numbers.proofs.UnseenNumbers.{met, first_wanted}
use Rattle.nntp_numbers.proofs.numbers.Numbers.one_more.Goals as goal

pub returns-in_default : goal.returns-in_default
returns-in_default g c = met c.args.self.now _ c.self.view_is _ c.how_many_wanted.ensures c.in_default.not-Absent

pub returns-in_err-n : goal.returns-in_err-n
returns-in_err-n g c = grind (arith, first_wanted c.args.self.now _ c.self.view_is _ c.how_many_wanted.ensures c.in-Absent.is _ c.least_free_from.ensures None c.in_err-n.was tt)

pub returns-then-wants : goal.returns-then-wants
returns-then-wants g c =
    grind (arith, first_wanted c.args.self.now _ c.self.view_is _ c.how_many_wanted.ensures c.in-Absent.is _ c.least_free_from.ensures (Some c.in_ok-n.n) c.in_ok-n.was (omega arith))

pub returns-else-wants : goal.returns-else-wants
returns-else-wants g c =
    grind (arith, first_wanted c.args.self.now _ c.self.view_is _ c.how_many_wanted.ensures c.in-Absent.is _ c.least_free_from.ensures (Some c.in_ok-n.n) c.in_ok-n.was (omega arith))
