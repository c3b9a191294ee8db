use Rattle.nntp_facts.{proofs.Base.{overviews_of, Option, Point}, specs.Inner.Points.{IsFieldAmong}}
use Rattle.nntp_facts.proofs.beside.fields.other_listed_field.Given as goal

-- what is so of those that are left is so of all
abbrev pub invariant-loop-overview : goal.invariant-loop-overview
invariant-loop-overview g l =
    (goal.iterator-loop-overview g).can_next l.overview-iterator × (goal.iterator-loop-overview g).is_finite l.overview-iterator
    × ((point : Option Point) → IsFieldAmong l.kept l.overview-iterator point → IsFieldAmong l.kept (overviews_of l.block) point)
