use Rattle.std.{proofs.Common.{arith, sym, subst}, specs.Prelude.{nat_lt}}
use Rattle.nntp_pair.{specs.Inner.Searching.{BeginsWithPlace}, proofs.FeedLemmas.{line-place}}
use Rattle.nntp_wire.specs.Session.{taken}
use Rattle.nntp_pair.proofs.searches.Searches.split_place.Goals as goal

pub returns : goal.returns
returns c = subst (λ place. BeginsWithPlace (nat_lt 0 c.args.index) (taken c.args.overviews c.args.client.now) place c.in_ok-line.rest.now) (sym c.new-2.ensures)
    (line-place c.args.index (taken c.args.overviews c.args.client.now) c.in_ok-line.line.now c.in_ok-line.rest.now (omega arith) c.in_ok-line.ensures.parts.0 c.in_ok-line.ensures.parts.1)
