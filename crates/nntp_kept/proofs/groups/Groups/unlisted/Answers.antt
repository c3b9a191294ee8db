use Rattle.nntp_kept.proofs.{Base.{active_groups}, Keeping.KeptNames.{one_unlisted}}
use Rattle.nntp_kept.proofs.groups.Groups.unlisted.Goals as goal

pub returns : goal.returns
returns g c facts kept together =
    one_unlisted (λ k. k.items) c.self.inside.groups.entries c.args.self.now facts c.args.wildmat.now (active_groups c.args.block.now) c.in_ok-listed.listed.keys c.first_unlisted.result
    c.self.view_is c.in_ok-listed.ensures kept together c.first_unlisted.ensures
