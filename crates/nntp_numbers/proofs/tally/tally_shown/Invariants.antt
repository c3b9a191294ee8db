use Rattle.std.{proofs.Common.{◌+◌, ◌^◌, ◌||◌, ◌<◌, take}, specs.Prelude.{IsTrue}}
use Rattle.nntp_article.specs.Session.Machine.{is_ascending}
use Rattle.nntp_numbers.specs.Inner.{Part.{is_one_of}, Summary.{has, IsTally}}
use Rattle.nntp_numbers.proofs.tally.tally_shown.Given as goal

abbrev pub invariant-loop-n : goal.invariant-loop-n
invariant-loop-n g l =
    (IsTrue (is_ascending l.numbers) → IsTally (λ n. has l.shown n || is_one_of (take l.n-index l.numbers) n) l.demand l.tally.found l.tally.count)
    × (l.tally.count < 2 ^ 63 + 2 + l.n-index)
