use Rattle.std.{proofs.Common.{◌∙◌, sym, subst}, specs.Prelude.{IfOk}}
use Rattle.nntp_several.specs.Sessions.{Recorded}
use Rattle.nntp_explain.specs.Explaining.{IsExplanation}
use Rattle.nntp_check.specs.{Run.{ExplainsHeld}, Inner.Collecting.{held_in}}
use Rattle.nntp_check.proofs.run.explain_collected.Goals as goal

pub returns : goal.returns
returns g c =
    let same = c.session.view_is ∙ c.last-session.ensures in
    let alone = subst (λ (s : Recorded). IfOk c.explain_taking.result (λ told. IsExplanation c.args.limit c.args.marks s.client s.server told.text.items told.is_without_fault))
    same c.explain_taking.ensures in
    subst (λ several. IfOk c.explain_taking.result (λ told. ExplainsHeld c.args.limit c.args.marks c.args.overviews several (held_in c.args.streams.now) told.text.items told.is_without_fault))
    (sym c.if-is_several.false) alone
