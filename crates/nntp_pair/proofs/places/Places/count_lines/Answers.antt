use Rattle.std.{proofs.Common.{◌∙◌, sym, ap}, specs.Prelude.{count_by}}
use Rattle.nntp_pair.{proofs.PairLemmas.{lines-count}, specs.Pairing.{has_line}}
use Rattle.nntp_wire.specs.Session.{taken}
use Rattle.nntp_pair.proofs.places.Places.count_lines.Goals as goal

pub returns : goal.returns
returns c = c.count_lines.ensures ∙ sym (lines-count c.self.inside.is_greeted (taken c.self.inside.overviews c.self.inside.client.now)) ∙ ap (count_by has_line) c.self.view_is
