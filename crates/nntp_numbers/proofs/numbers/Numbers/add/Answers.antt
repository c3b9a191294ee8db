use Rattle.nntp_numbers.{proofs.MoreAsks.{added}, specs.Inner.PartView.{said}}
use Rattle.nntp_numbers.proofs.numbers.Numbers.add.Goals as goal

pub returns : goal.returns
returns g c =
    added c.args.self.now _ (said c.args.part.now) _ c.self.view_is c.in_ok-insert_all.ensures.shown c.in_ok-insert_all.ensures.ascends
    c.in_ok-deny.ensures c.least-self-inside.ensures c.join-self-inside.ensures c.join-self-inside-2.ensures
