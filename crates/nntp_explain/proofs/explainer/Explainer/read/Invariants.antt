use Rattle.std.proofs.Common.{length}
use Rattle.nntp_article.specs.declared.session.profile.Profile.{Profile}
use Rattle.nntp_pair.specs.Pairing.{streams}
use Rattle.nntp_explain.specs.Inner.ExplainingView.{Before, HasTold}
use Rattle.nntp_explain.proofs.explainer.Explainer.read.Given as goal

-- what was told and kept as the session began is gone on from
abbrev pub invariant-loop-exchange : goal.invariant-loop-exchange
invariant-loop-exchange g l =
    (profile : Profile) (b : Before) → HasTold profile b l.session.client l.session.server l.fn.self (streams l.session.client l.session.server)
    → HasTold profile b l.session.client l.session.server l.self l.pairs

abbrev pub decreases-loop-exchange : goal.decreases-loop-exchange
decreases-loop-exchange g l = length l.pairs.server
