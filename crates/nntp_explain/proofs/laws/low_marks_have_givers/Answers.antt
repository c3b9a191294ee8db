use Rattle.nntp_article.specs.Inner.Misfit.{marked_by}
use Rattle.nntp_explain.{specs.Explaining.{visible_left}, proofs.LowMarks.{giver_of_marks}}
use Rattle.nntp_explain.proofs.laws.low_marks_have_givers.Goals as goal

pub returns : goal.returns
returns c = λ profile session accepted asked response low e.
    giver_of_marks session accepted low (marked_by response) (c.reasons_are_so.ensures.low profile (visible_left accepted) asked response low e)
