use Rattle.std.{proofs.Common.{◌∙◌, ap, sym}, specs.Option.{option_copied}}
use Rattle.nntp_pair.{specs.{Pairing.{line_ahead}, Inner.Feeding.{left_of}}, proofs.{FeedLemmas.{begins-here}, feed.Feed.ahead.Goals.{in-Some, in-None}}}
use Rattle.nntp_wire.specs.Session.{taken}
use Rattle.nntp_pair.proofs.feed.Feed.ahead.Goals as goal

pub returns-clause-line : goal.returns-clause-line
returns-clause-line g c =
    let seen = ap (λ fed. line_ahead (left_of fed).places) c.self.view_is in
    elim c.match-split_place.branch [
      | in-Some w ↦ (
          let place = w.in-Some.place in
          let begins = rw c.as_slice-client.ensures at w.in-Some.ensures in
          ap option_copied w.line-is ∙ w.line-line.ensures ∙ sym (ap line_ahead
          (begins-here c.self.inside.index (taken c.self.inside.overviews c.self.inside.client) place w.in-Some.field-0-1.now begins)) ∙ seen)
      | in-None w ↦ (
          let none = rw c.as_slice-client.ensures at w.in-None.ensures in
          ap option_copied w.line-is ∙ sym (ap line_ahead none) ∙ seen)
    ]
