use Rattle.std.proofs.Common.{false, refl, ◌∙◌}
use Rattle.nntp_pair.proofs.FeedLemmas.{begins-awaits}
use Rattle.nntp_wire.specs.Session.{taken}
use Rattle.nntp_pair.proofs.searches.Searches.begin_frame.Goals as goal

pub returns : goal.returns
returns c = λ server. record {
  place = c.in_ok-place.place;
  awaits = begins-awaits c.args.index false (taken c.args.overviews c.args.client.now) server c.in_ok-place.place c.in_ok-place.field-0-1.now refl c.in_ok-place.ensures;
  kind = c.new.ensures.kind ∙ c.kind.ensures;
  searched = c.new.ensures.searched server;
}
