use Rattle.std.proofs.Common.{refl}
use Rattle.nntp_numbers.proofs.ConflictsOfNumbers.{known_tally}
use Rattle.nntp_numbers.proofs.numbers.Numbers.tally.Goals as goal

pub returns-clause-tally : goal.returns-clause-tally
returns-clause-tally g c = λ asks sum bounded apart.
    known_tally c.args.self.now asks sum bounded apart _ c.self.view_is _ c.known_ends.ensures _ _ (c.of.ensures.tally refl)
