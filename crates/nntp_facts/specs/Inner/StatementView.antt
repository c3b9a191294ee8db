-- What the values of src/points mean.
use Rattle.std.specs.Prelude.{List, ℕ, option_map}
use Rattle.nntp_theory.specs.Conflict.{Placed}
use Rattle.nntp_facts.specs.declared.points.{Listing.{Listing}, Conflict.{Conflict}, Refusal.{Refusal}, statement.Statement.{Statement}}
use Rattle.nntp_facts.specs.declared.points.{NumbersKind.{NumbersKind, TheVariants.{Number, Count, First}}, Kind.{Kind, TheVariants.{Step, Group, Numbers}}}
use Rattle.nntp_facts.specs.{declared.points.Kind.TheVariants.{IdOf, PlaceOf, Article, HeadOf, BodyOf, FieldOf}, Standing.{stands_of}}
use Rattle.nntp_kept.specs.Inner.SayingView.{saying_of}
use Rattle.nntp_article.specs.{Session.Limit.{profile_of}, Inner.Listed.{lists}}
use Rattle.nntp_facts.specs.Inner.Points as points

-- the rank of the points of a kind that are about numbers
abbrev pub rank_of_numbers : NumbersKind → ℕ
rank_of_numbers Number = 2
rank_of_numbers Count = 3
rank_of_numbers First = 4

-- the rank of the points of a kind
abbrev pub rank_of : Kind → ℕ
rank_of Step = 0
rank_of Group = 1
rank_of (Numbers kind) = rank_of_numbers kind
rank_of IdOf = 5
rank_of PlaceOf = 6
rank_of Article = 7
rank_of HeadOf = 8
rank_of BodyOf = 9
rank_of FieldOf = 10

-- an answer, and the numbers that it lists
abbrev pub listing_of : {A : Type 0} → Listing A → Placed × List ℕ
listing_of l = (stands_of l.answer.now, (lists l.listed).numbers)

-- what an answer says, and the group of which it speaks
abbrev pub statement_of : Statement → points.Statement
statement_of t = record { group = option_map (λ name. name.now) t.group; saying = saying_of t.saying }

-- what is held of answers that conflict
abbrev pub held_of : {A : Type 0} → Conflict A → points.Answers
held_of c = record { profile = profile_of c.limit c.marks; kept = c.kept; last = listing_of c.last }

abbrev pub held_of_refusal : {A : Type 0} → Refusal A → points.Answers
held_of_refusal r = record { profile = profile_of r.limit r.marks; kept = r.kept.now; last = listing_of r.last }
