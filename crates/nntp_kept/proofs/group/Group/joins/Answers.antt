use Rattle.nntp_kept.{proofs.Base.{arith, ◌≡◌, sym, ap, ◌∙◌}, specs.Inner.GroupHeld.{group_held}}
use Rattle.nntp_kept.proofs.group.Group.joins.Goals as goal

pub returns-in-Between : goal.returns-in-Between
returns-in-Between g c asks more kept stand bounded says agree =
    let same : c.between.result ≡ c.args.self.now = c.between.ensures ∙ sym (ap group_held c.in-Between.is) ∙ c.self.view_is in
    grind (arith, same, c.joins-in-Between.ensures asks more)
