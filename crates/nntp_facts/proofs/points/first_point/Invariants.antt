use Rattle.nntp_facts.{proofs.Base.{List, Profile, Fact, profile_of, AreHeld, NoneBefore}, specs.Inner.StatementView.{listing_of}}
use Rattle.nntp_facts.proofs.points.first_point.Given as goal

-- at no point of the kinds so far the facts conflict
abbrev pub invariant-loop-kind : goal.invariant-loop-kind
invariant-loop-kind g l = (profile : Profile) (all : List Fact)
    → AreHeld profile all (record { profile = profile_of l.limit l.fn.marks; kept = l.kept; last = listing_of l.last }) → NoneBefore all l.kind-index
