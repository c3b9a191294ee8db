use Rattle.nntp_kept.{proofs.Base.{nth_from_yields_List, YieldsList-from_first}, specs.Inner.ReadersView.{number_value}}
use Rattle.nntp_kept.proofs.shown_groups.ShownGroup.number.Goals as goal

pub returns : goal.returns
returns g c = nth_from_yields_List c.nth.result _ c.args.index c.nth.ensures.ran (YieldsList-from_first number_value (λ w. w) c.args.self.now.numbers c.numbers.ensures)
