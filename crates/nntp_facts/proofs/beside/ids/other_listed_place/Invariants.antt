use Rattle.nntp_facts.{proofs.Base.{overviews_of, Name, first_given, AreKept, Told, ◌≡◌}, specs.Inner.Points.{other_place_of}}
use Rattle.nntp_facts.proofs.beside.ids.other_listed_place.Given as goal

-- the first of those that are left is the first of all
abbrev pub invariant-loop-overview : goal.invariant-loop-overview
invariant-loop-overview g l =
    (goal.iterator-loop-overview g).can_next l.overview-iterator × (goal.iterator-loop-overview g).is_finite l.overview-iterator
    × ((tells : Name → Told) → AreKept tells l.kept.groups → first_given (λ o. other_place_of (tells l.name).places l.name (o.number, o.id)) l.overview-iterator
    ≡ first_given (λ o. other_place_of (tells l.name).places l.name (o.number, o.id)) (overviews_of l.block))
