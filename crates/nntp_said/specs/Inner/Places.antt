-- The ids that facts give at numbers, overviews aside.
use Rattle.std.specs.Prelude.{◌≡◌, ◌⊎◌, List, [], ◌∷◌}
use Rattle.nntp_article.specs.Article.Parts.{Id}
use Rattle.nntp_said.specs.Facts.{Fact, IdAt}

-- one of the facts gives the id at a number, overviews aside
abbrev pub Place : Id → List Fact → Type 0
Place id [] = ⊥
Place id (IdAt name n other ∷ facts) = (other ≡ id) ⊎ Place id facts
Place id (fact ∷ facts) = Place id facts
