use Rattle.nntp_numbers.{proofs.GapsOfAPart.{none_denied}, specs.Inner.PartView.{said}}
use Rattle.nntp_numbers.proofs.numbers_part.NumbersPart.denies_none.Goals as goal

pub returns-then-none_outside : goal.returns-then-none_outside
returns-then-none_outside g c =
    λ regular. none_denied (said c.args.self.now) regular c.args.shown.now c.gaps.result c.none_in_gaps.result
    c.gaps.ensures (c.none_outside.ensures.0 c.if-none_outside.true) c.none_in_gaps.ensures
