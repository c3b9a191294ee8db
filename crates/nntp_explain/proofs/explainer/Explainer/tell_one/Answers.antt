use Rattle.nntp_facts.specs.Inner.Noted.{profile_kept}
use Rattle.nntp_explain.proofs.{ToldAnswers.{if_both}, ReadSessions.{alone, told_alone, explained_alone}}
use Rattle.nntp_explain.proofs.explainer.Explainer.tell_one.Goals as goal

pub read-requires : goal.read-requires
read-requires g c = (profile_kept c.args.self.now.facts, alone, told_alone c.requires.0 c.requires.1 c.requires.2 c.begin.ensures.kept c.begin.ensures.text)

pub returns : goal.returns
returns g c =
    let told = told_alone c.requires.0 c.requires.1 c.requires.2 c.begin.ensures.kept c.begin.ensures.text in
    if_both c.finish.result c.finish.ensures.text c.finish.ensures.is_without_fault
    (λ found text good. explained_alone (c.in_ok-unanswered.ensures (profile_kept c.args.self.now.facts) alone told) c.from.ensures c.in_ok-extend_from_slice.ensures.items text good)
