use Rattle.nntp_facts.proofs.{Base.{◌∙◌, sym, subst, ap, start, numbers_of, saying_of, stands_of, said}, Keeping.ToldAnswers.{there_told}}
use Rattle.nntp_facts.proofs.PointsFound.Statements.{told_alone}
use Rattle.nntp_kept.specs.Inner.Saying.{TellsThere}
use Rattle.nntp_facts.proofs.points.statement.Statement.of.Goals as goal

pub returns : goal.returns
returns c profile marks fit listed =
    let a = stands_of c.args.answer.now in
    let saying = saying_of c.of-saying.result in
    let there : TellsThere a.selected saying (said profile.marks a) =
    there_told profile a _ _ _ _ _ saying _ marks fit c.prompt.ensures c.answer.ensures.value c.position.ensures c.selected_name.ensures.value (listed
    ∙ ap numbers_of (sym c.answer.ensures.value)) c.of-saying.ensures.tells in
    told_alone profile a saying there _ (c.group_of.ensures (said profile.marks a) (subst (λ o. TellsThere o saying (said profile.marks a)) (sym c.selected.ensures) there))
    (c.answer.ensures.well_formed profile.marks (record start.visible { selected = a.selected }) a.position) c.selected_name.ensures.is_name
