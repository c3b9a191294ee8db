use Rattle.std.proofs.Common.{◌≡◌, [], refl, subst, sym}
use Rattle.nntp_article.specs.Session.Limit.{profile_of}
use Rattle.nntp_facts.specs.Inner.Noted.{HasNoted}
use Rattle.nntp_explain.proofs.ReadSessions.{kept_first}
use Rattle.nntp_explain.proofs.explainer.Explainer.new.Goals as goal

pub returns-clause-none : goal.returns-clause-none
returns-clause-none g c =
    let facts = c.new.result in
    let profile-is : profile_of facts.limit facts.marks ≡ profile_of c.args.limit c.args.marks = λ i. profile_of (c.new.ensures.limit i) (c.new.ensures.marks i) in
    (kept_first (subst (λ profile. HasNoted profile facts []) (sym profile-is) c.new.ensures.stands) c.new-2.ensures.items refl, refl, c.new-4.ensures.items)
