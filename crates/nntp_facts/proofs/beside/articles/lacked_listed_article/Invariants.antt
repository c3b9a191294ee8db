use Rattle.nntp_facts.proofs.Base.{option_map_or, get, overviews_of, first_given, ◌≡◌, if◌then◌else◌, false, Some, None, Article}
use Rattle.nntp_facts.proofs.beside.articles.lacked_listed_article.Given as goal

-- the first of those that are left is the first of all
abbrev pub invariant-loop-overview : goal.invariant-loop-overview
invariant-loop-overview g l =
    (goal.iterator-loop-overview g).can_next l.overview-iterator × (goal.iterator-loop-overview g).is_finite l.overview-iterator
    × (first_given (λ o. if option_map_or (λ a. a.is_denied) (get l.kept.articles o.id) false then Some (Article o.id) else None) l.overview-iterator
    ≡ first_given (λ o. if option_map_or (λ a. a.is_denied) (get l.kept.articles o.id) false then Some (Article o.id) else None) (overviews_of l.block))
