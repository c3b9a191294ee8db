use Rattle.std.proofs.{Common.{arith, ap, sym, ◌∙◌}, lemmas.Bool.{true≢false}}
use Rattle.nntp_wire.specs.Inner.{AnswerView.{response}, View.{asked}}
use Rattle.nntp_article.specs.Inner.Listed.{lists, lists_of}
use Rattle.nntp_spool.proofs.AnswersInFacts.{fitting, unfitting, facts_list, permitted_where_held}
use Rattle.nntp_spool.proofs.verification.may_answer_listing.Goals as goal

pub returns-then-is_closed-clause-may : goal.returns-then-is_closed-clause-may
returns-then-is_closed-clause-may g c = grind (arith, true≢false, unfitting)

pub hold-requires-clause-listed : goal.hold-requires-clause-listed
hold-requires-clause-listed g c =
    let v = c.args.visible.now in
    let q = asked c.prompt-prompt.result.now in
    let a = response c.answer-answer.result.now in
    let f = fitting c.args.profile v q a c.in_ok-why.why c.in_ok-why.ensures (sym c.is_some.ensures ∙ c.if-is_some.false) in
    facts_list c.args.profile v c.args.position q a (lists c.args.listed.now) _ f (c.requires.listed ∙ ap lists_of (sym c.answer-answer.ensures.value))
    (c.facts_of.ensures v c.selected_name-selected.ensures)

pub returns-clause-may : goal.returns-clause-may
returns-clause-may g c =
    let v = c.args.visible.now in
    let q = asked c.prompt-prompt.result.now in
    let a = response c.answer-answer.result.now in
    let f = fitting c.args.profile v q a c.in_ok-why.why c.in_ok-why.ensures (sym c.is_some.ensures ∙ c.if-is_some.false) in
    let may = permitted_where_held c.args.profile c.args.group.now v c.args.position q a c.facts_of.result c.hold.result (sym c.is_closed.ensures ∙ c.if-is_closed.false) f
    (c.facts_of.ensures v c.selected_name-selected.ensures) c.hold.ensures.hold in
    rw (sym c.prompt-prompt.ensures, sym c.answer-answer.ensures.value) may
