use Rattle.std.proofs.Common.{sym, ◌∙◌}
use Rattle.nntp_spool.proofs.verification.holding.holds.Goals as goal

pub returns-in-OverviewsAre-clause-holds : goal.returns-in-OverviewsAre-clause-holds
returns-in-OverviewsAre-clause-holds g c = rw c.in-OverviewsAre.is c.lists_overviews.ensures.lists

pub returns-in-GroupsAre-clause-holds : goal.returns-in-GroupsAre-clause-holds
returns-in-GroupsAre-clause-holds g c =
    let these = rw c.in-GroupsAre.is at c.requires.listed in
    rw (c.in-GroupsAre.is, these.0 ∙ sym c.groups.ensures, sym c.spool-spool.ensures) c.lists_groups.ensures.lists
