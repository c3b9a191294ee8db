use Rattle.std.proofs.Common.{◌≡◌, List, [], ◌∷◌, ◌++◌, append_assoc, arith}
use Rattle.nntp_article.specs.Article.{Control.{ControlValue, controls_among}, Parts.{Header}}
use Rattle.nntp_article.proofs.article.control_headers.control.Goals as goal

first_and_others : (header : Header) (left : List Header) → controls_among (header ∷ left) ≡ controls_among (header ∷ []) ++ controls_among left
first_and_others header left = grind (arith)

goes_on : (said now all : List ControlValue) (before left : List Header) (header : Header) → said ++ controls_among before ≡ all → before ≡ header ∷ left
    → now ≡ said ++ controls_among (header ∷ []) → now ++ controls_among left ≡ all
goes_on said now all before left header is next more = grind (arith, first_and_others, append_assoc)

pub loop-header-preserved : goal.loop-header-preserved
loop-header-preserved g c = goes_on _ _ _ _ _ _ c.loop-header.invariant c.in-Some.ensures.steps c.in_ok-push_control.ensures
