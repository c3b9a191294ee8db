use Rattle.nntp_kept.proofs.Base.{true, not, ap, subst, sym, ◌∙◌, IfOk-weaker, Lists, facts_of, AreListed, nothing, saying_by, asked, response, lists, fact_of}
use Rattle.nntp_kept.{proofs.Keeping.{FactsSaid.{no_first, none_added}, SayingRows.{lists_said, told_here}}, specs.Inner.Kept.{AreAdded}}
use Rattle.nntp_kept.proofs.kept.Kept.note_answer.Goals as goal

pub returns-then-is_none : goal.returns-then-is_none
returns-then-is_none g c profile v all may is_shown here listing kept together formed =
    let none = no_first (λ fact. fact_of fact.now) c.first.result c.facts_of-facts.result c.first.ensures (c.is_none.ensures ∙ ap not c.if-is_none.true) in
    subst (λ more. AreAdded all more c.args.self.now c.args.self.now true) (sym none ∙ c.facts_of-facts.ensures v here) (none_added all c.args.self.now kept together)

pub returns : goal.returns
returns g c = IfOk-weaker c.note.result _ _ (λ does adds profile v all may is_shown here listing kept together formed.
    let q = asked c.args.prompt.now in
    let r = response c.args.answer.now in
    let more = facts_of c.args.how v c.args.at q r in
    let says = c.by-saying.ensures in
    let tells = told_here c.args.how c.args.at q r c.args.selected.now c.numbers.result.now c.numbers_shown.result.now c.facts_of-facts.result c.by-saying.result c.numbers_shown.ensures.small
    c.numbers_shown.ensures.shown says c.facts_of-facts.ensures profile v all may is_shown here (c.numbers.ensures ∙ ap (λ (l : Lists). l.numbers) listing) in
    let listed = subst (λ more. AreListed (saying_by c.numbers_shown.result.now nothing more) (lists c.args.listed.now)) (sym (c.facts_of-facts.ensures v here))
    (lists_said (record profile { marks = c.args.how }) v c.args.at q r c.numbers_shown.result.now (lists c.args.listed.now) listing) in
    adds (subst (λ s. AreListed s (lists c.args.listed.now)) (sym says) listed) all more kept together formed tells.tells) c.note.ensures
