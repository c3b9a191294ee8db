use Rattle.std.{proofs.{Common.{sym, subst, ◌∙◌, IsTrue}, lemmas.Bool.{true≢false}}, specs.{Prelude.{◌↔◌}, List.{AllByRecursion}}}
use Rattle.nntp_spool.specs.Inner.ListedOverviews.{StandsIn}
use Rattle.nntp_spool.proofs.verification.listed_overviews.lists_overviews.Goals as goal

pub returns-then-meets : goal.returns-then-meets
returns-then-meets g c =
    let stand = rw c.meets.ensures.spool at c.stand_in.ensures.stand in
    let stand = subst (λ os. IsTrue c.stand_in.result ↔ AllByRecursion (StandsIn c.args.group.now c.args.name.now) os) (c.overviews.ensures.overviews ∙ sym c.requires.listed.0) stand in
    record { spool = c.stand_in.ensures.spool ∙ c.meets.ensures.spool; lists = (λ t. (c.meets.ensures.meets.0 c.if-meets.true, stand.0 t), λ h. stand.1 h.1) }

pub returns-else-meets : goal.returns-else-meets
returns-else-meets g c = record { spool = c.meets.ensures.spool; lists = (λ t. absurd (true≢false (sym t ∙ c.if-meets.false)), λ h. c.meets.ensures.meets.1 h.0) }
