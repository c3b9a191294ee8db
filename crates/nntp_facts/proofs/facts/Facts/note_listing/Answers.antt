use Rattle.nntp_facts.proofs.{Base.{◌≡◌, true, sym, ap, subst, ◌∙◌, arith, asked, response, lists_of, is_none, fits_by_reason}, Keeping.NotedExchange.{unfit}}
use Rattle.nntp_facts.{proofs.Keeping.NotedExchange.{weighed, refused, accepted}, specs.Inner.Noted.{profile_kept, HasNotedBehind}}
use Rattle.nntp_facts.proofs.facts.Facts.note_listing.Goals as goal

pub returns-then-is_some : goal.returns-then-is_some
returns-then-is_some g c profile earlier past stands =
    let before = subst (λ facts. HasNotedBehind profile facts earlier past) (sym c.self.view_is) stands in
    unfit profile _ _ _ earlier past c.args.exchange.now _ _ _ c.self.view_is before c.prompt-prompt.ensures c.answer-answer.ensures.value
    (c.profile-profile.ensures ∙ ap profile_kept (sym c.self.view_is))
    (fits_by_reason c.profile-profile.result c.self.inside.visible (asked c.prompt-prompt.result.now) (response c.answer-answer.result.now) c.in_ok-why.why c.in_ok-why.ensures)
    (grind (arith, c.is_some.ensures, c.if-is_some.true))

pub returns-then-not-branch : goal.returns-then-not-branch
returns-then-not-branch g c profile earlier past stands =
    let pair = c.args.exchange.now in
    let says = c.answer-answer.ensures in
    let is = c.self.view_is in
    let before = subst (λ facts. HasNotedBehind profile facts earlier past) (sym is) stands in
    let fits_so = fits_by_reason c.profile-profile.result c.self.inside.visible (asked c.prompt-prompt.result.now) (response c.answer-answer.result.now) c.in_ok-why.why c.in_ok-why.ensures in
    let does : is_none c.in_ok-why.why ≡ true = grind (arith, c.is_some.ensures, c.if-is_some.false) in
    let w = weighed profile _ _ _ pair _ _ _ is before.profile_is c.requires.due says.low_index says.few_lines says.is_spelled c.prompt-prompt.ensures says.value
    (c.profile-profile.ensures ∙ ap profile_kept (sym is)) fits_so does in
    refused profile _ _ c.note_answer.new.self earlier past pair _ _ is w before c.prompt-prompt.ensures says.value (λ all shown kept together formed.
    rw c.if-not-branch.true at (c.in_ok-note_answer.ensures c.profile-profile.result c.self.inside.visible all (sym fits_so ∙ does) shown c.selected_name-here.ensures
    (c.requires.listed ∙ ap lists_of (sym says.value)) kept together formed))

pub returns : goal.returns
returns g c profile earlier past stands =
    let pair = c.args.exchange.now in
    let says = c.answer-answer.ensures in
    let is = c.self.view_is in
    let before = subst (λ facts. HasNotedBehind profile facts earlier past) (sym is) stands in
    let fits_so = fits_by_reason c.profile-profile.result c.self.inside.visible (asked c.prompt-prompt.result.now) (response c.answer-answer.result.now) c.in_ok-why.why c.in_ok-why.ensures in
    let does : is_none c.in_ok-why.why ≡ true = grind (arith, c.is_some.ensures, c.if-is_some.false) in
    let w = weighed profile _ _ _ pair _ _ _ is before.profile_is c.requires.due says.low_index says.few_lines says.is_spelled c.prompt-prompt.ensures says.value
    (c.profile-profile.ensures ∙ ap profile_kept (sym is)) fits_so does in
    accepted profile _ c.args.self.now _ earlier past pair _ _ w before c.prompt-prompt.ensures says.value
    (grind (arith, c.in_ok-advance.ensures.ok, c.after-self-inside.ensures, c.prompt-prompt.ensures, says.value)) (λ all shown kept together formed.
    rw c.if-not-branch.false at (c.in_ok-note_answer.ensures c.profile-profile.result c.self.inside.visible all (sym fits_so ∙ does) shown c.selected_name-here.ensures
    (c.requires.listed ∙ ap lists_of (sym says.value)) kept together formed))
