use Rattle.nntp_facts.proofs.Base.{ap, sym, subst, ◌∙◌, refl, start, Lists, lists_of, group_of, if_ok, saying_of, profile_of, said, the_group, stands_of}
use Rattle.nntp_facts.proofs.Keeping.ToldAnswers.{there_told, group_refused, answer_told}
use Rattle.nntp_kept.specs.Inner.{Kept.{AreAdded}, Saying.{TellsThere}}
use Rattle.nntp_facts.proofs.told.tell_listing.Goals as goal

pub returns-then-not-branch : goal.returns-then-not-branch
returns-then-not-branch g c facts kept together fit =
    let profile = profile_of c.args.limit c.args.marks in
    let a = stands_of c.args.answer.now in
    let saying = saying_of c.of-saying.result in
    let own = said profile.marks a in
    let listed = c.requires ∙ ap lists_of (sym c.answer-response.ensures.value) in
    let there = there_told profile a _ _ _ _ _ saying _ refl fit c.prompt.ensures c.answer-response.ensures.value c.position.ensures
    c.selected_name.ensures.value (c.numbers.ensures ∙ ap (λ (l : Lists). l.numbers) listed) c.of-saying.ensures.tells in
    let group = c.in_ok-tell_group.ensures profile facts own refl kept together (subst (λ o. TellsThere o saying own) (sym c.selected.ensures) there) in
    group_refused profile a facts together c.tell_group.new.kept (subst (AreAdded facts (the_group profile (group_of own)) _ _) c.if-not-branch.true group).0

pub returns : goal.returns
returns g c = if_ok c.note.result (λ does adds facts kept together fit.
    let profile = profile_of c.args.limit c.args.marks in
    let a = stands_of c.args.answer.now in
    let saying = saying_of c.of-saying.result in
    let own = said profile.marks a in
    let listed = c.requires ∙ ap lists_of (sym c.answer-response.ensures.value) in
    let there = there_told profile a _ _ _ _ _ saying _ refl fit c.prompt.ensures c.answer-response.ensures.value c.position.ensures
    c.selected_name.ensures.value (c.numbers.ensures ∙ ap (λ (l : Lists). l.numbers) listed) c.of-saying.ensures.tells in
    let group = subst (λ does. AreAdded facts (the_group profile (group_of own)) c.args.kept.now c.tell_group.new.kept does) c.if-not-branch.false
    (c.in_ok-tell_group.ensures profile facts own refl kept together (subst (λ o. TellsThere o saying own) (sym c.selected.ensures) there)) in
    let formed = c.answer-response.ensures.well_formed profile.marks (record start.visible { selected = a.selected }) a.position in
    answer_told profile a facts together c.tell_group.new.kept c.note.new.self saying does group.0 group.1 formed c.answer-response.ensures.few_lines there
    (adds (c.of-saying.ensures.listed _ listed))) c.note.ensures
