-- What a session says is bounded by its answers.
use Rattle.nntp_wire.{specs.{declared.marks.Marks.{Marks}, Answer.{Asked, Response}}, proofs.ListingLemmas.{listed_numbers-few, overviews_of-few}}
use Rattle.nntp_wire.proofs.ListingLemmas.{active_groups-few}
use Rattle.std.{proofs.{lemmas.List.{length-map}, Common.{◌+◌, ◌*◌, ◌<◌, ◌≤◌, ◌^◌, List, [], ◌∷◌, length, arith}}, specs.List.{AllByRecursion}}
use Rattle.nntp_article.specs.Session.Machine.{Visible, visible_after, start}
use Rattle.nntp_said.specs.{Asks.{position_after}, declared.position.Position.{Position, TheVariants.{Nowhere}}, Facts.{facts_of, facts_from}}
use Rattle.nntp_theory.{specs.{Inner.Given.{size, weight}, Given.{facts_of_session}}, proofs.Given.FirstBadAnswer.{size-append}}
use Rattle.nntp_pair.specs.{Pairing.{Paired, responses_of}, Inner.Pairing.{lines_in}}

-- what an answer says is bounded by its lines
pub answer_size : (how : Marks) (v : Visible) (at : Position) (p : Asked) (a : Response) → size (facts_of how v at p a) ≤ lines_in a + 3
answer_size how v at p a = grind (arith, listed_numbers-few, overviews_of-few, length-map, active_groups-few)

-- and so a session, from any state on
from_size : (how : Marks) (v : Visible) (at : Position) (ps : List Asked) (answers : List Response) → size (facts_from how v at ps answers) ≤ weight answers
from_size how v at (p ∷ ps) (a ∷ more) = grind (arith, answer_size, size-append, from_size how (visible_after v p a) (position_after at p a) ps more)
from_size how v at ps answers = grind arith

-- what a session says is bounded by its answers
pub session_size : (how : Marks) (ps : List Asked) (answers : List Response) → size (facts_of_session how ps answers) ≤ weight answers
session_size how ps answers = from_size how start.visible Nowhere ps answers

-- answers of few lines weigh little
pub pairs_weight : (pairs : List Paired) → AllByRecursion (λ pair. lines_in pair.response < 2 ^ 64) pairs → weight (responses_of pairs) ≤ (2 ^ 64 + 2) * length pairs
pairs_weight [] few = omega arith
pairs_weight (pair ∷ pairs) few = omega (arith, pairs_weight pairs few.1, few.0)
