use Rattle.nntp_kept.proofs.Base.{Some, ap, refl, subst, sym, ◌∙◌, Profile, Visible, start, asked, response, AreListed, nothing, saying_by}
use Rattle.nntp_kept.proofs.Keeping.SayingRows.{told_here, lists_said}
use Rattle.nntp_kept.proofs.saying.Saying.of.Goals as goal

pub returns-clause-tells : goal.returns-clause-tells
returns-clause-tells c =
    told_here c.args.how c.args.at (asked c.args.prompt.now) (response c.args.answer.now) c.args.selected.now c.args.numbers.now c.numbers_shown.result.now _ c.by.result
    (λ i. (c.type_inv.numbers i).fits) c.numbers_shown.ensures.shown c.by.ensures c.facts_of.ensures

pub returns-clause-listed : goal.returns-clause-listed
returns-clause-listed c lists e =
    let profile : Profile = record { limit = 0; marks = c.args.how } in
    let v : Visible = record start.visible { selected = Some c.args.selected.now } in
    let q = asked c.args.prompt.now in
    let r = response c.args.answer.now in
    let made = c.by.ensures ∙ ap (saying_by c.numbers_shown.result.now nothing) (c.facts_of.ensures v refl) in
    subst (λ s. AreListed s lists) (sym made) (lists_said profile v c.args.at q r c.numbers_shown.result.now lists e)
