use Rattle.std.proofs.Common.{ap, ◌∙◌}
use Rattle.nntp_content.proofs.ShownNumbers.{how_many}
use Rattle.std.specs.FinMap as map
use Rattle.nntp_content.proofs.numbers.Numbers.len.Goals as goal

pub returns : goal.returns
returns g c = let ids = c.self.inside.ids in c.len.ensures ∙ ids.ok.0 ∙ how_many ids.items c.self.invariant.0 ∙ ap map.len c.self.view_is
