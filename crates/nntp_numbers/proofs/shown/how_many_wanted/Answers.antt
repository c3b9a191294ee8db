use Rattle.nntp_numbers.{proofs.Tallies.{all_wanted}, specs.Inner.Summary.{has}}
use Rattle.nntp_numbers.proofs.shown.how_many_wanted.Goals as goal

pub returns-in-NotEmpty : goal.returns-in-NotEmpty
returns-in-NotEmpty g c = all_wanted (has c.args.shown.now) c.args.demand c.how_many.result c.in-NotEmpty.is c.how_many.ensures
