-- What is said with the words of `Judging.antt`, and needn't be believed.
use Rattle.std.specs.Prelude.{◌≡◌, ◌⊎◌, ℕ, ◌<◌, Bool, true, false, IsTrue, ⊤, List, [], ◌∷◌, ◌++◌, Option, None, Some, length, map}
use Rattle.nntp_wire.specs.declared.{limit.Limit.{Limit}, marks.Marks.{Marks}}
use Rattle.nntp_pair.specs.{Pairing.{Paired, Unpaired, Ends, bad as pair_end, line_ahead}, declared.class.{PairClass.{PairClass}, Class.{Class}}}
use Rattle.nntp_pair.specs.declared.class.Class.TheVariants.{Surplus, Cut, Malformed, OutOfPlace, Contradiction}
use Rattle.nntp_theory.specs.declared.noted.Noted.{Noted}
use Rattle.nntp_facts.specs.Inner.Noted.{FactsKept, HasNotedBehind}
use Rattle.nntp_article.specs.declared.session.profile.Profile.{Profile}
use Rattle.nntp_several.specs.{Inner.{Paired.{ArePaired}, Passing.{PassedOfAll}}, Sessions.{Recorded}}
use Rattle.nntp_printing.specs.BadAnswer.{IsFirstLine}
use Rattle.nntp_verdict.specs.{Verdict.{bad, JudgementOfAll, consistent_of_all, bad_of_all}, Judging.{IsVerdictOfAll}}
use Rattle.nntp_pair.specs.declared.class.PairClass.TheVariants as pair
use Rattle.nntp_theory.specs.declared.noted.Noted.TheVariants as noted

-- the class of an answer that is noted, if it is bad
abbrev pub class_noted : Noted → Option Class
class_noted noted.Consistent = None
class_noted noted.OutOfPlace = Some OutOfPlace
class_noted noted.Contradiction = Some Contradiction

-- ---- of several sessions

-- it is the verdict on sessions, of which this one comes behind those before, whatever sessions follow
abbrev pub IsVerdictFrom : Limit → Marks → List Recorded → Recorded → JudgementOfAll → Type 0
IsVerdictFrom limit marks before session judgement = (more : List Recorded) → IsVerdictOfAll limit marks (before ++ session ∷ more) judgement

-- ---- the way to it

-- sessions have ended, each with so many answers, and the facts are those of all of them
pub record HaveEnded (profile : Profile) (sessions : List Recorded) (facts : FactsKept) (answers : List ℕ) : Type 0 where
  pub earlier : List (List Paired)
  pub ended : ArePaired sessions earlier
  pub answers_are : answers ≡ map length earlier
  pub stands : HasNotedBehind profile facts earlier []

-- behind sessions that have ended, each with so many answers, exchanges of one more have passed; the facts are those of all of them; and then this is left
pub record Passed (profile : Profile) (before : List Recorded) (session : Recorded) (facts : FactsKept) (answers : List ℕ) (left : Unpaired) : Type 0 where
  pub passed : PassedOfAll profile before session facts left
  pub answers_are : answers ≡ map length passed.earlier

-- the pairing ends here at octets of this class, and these are their index, their line, and octets with their first line
pub record StopsHere (left : Unpaired) (index : ℕ) (class : PairClass) (line : Option (List ℕ)) (octets : List ℕ) : Type 0 where
  pub ends : Ends left (pair_end class)
  pub index_is : index ≡ left.index
  pub line_is : line ≡ line_ahead left.places
  pub first : (first : List ℕ) → IsFirstLine octets first → IsFirstLine left.server first

-- the answer of this class is whole
abbrev pub is_whole : Class → Bool
is_whole Surplus = false
is_whole Cut = false
is_whole class = true

-- a no at a whole answer, which no octets that follow can mend
abbrev pub IsNoAtWholeAnswer : JudgementOfAll → Type 0
IsNoAtWholeAnswer (consistent_of_all L answers) = ⊥
IsNoAtWholeAnswer (bad_of_all j k class command reply) = IsTrue (is_whole class)

-- a no that nothing can mend: at a whole answer, or at one of a session that has ended
abbrev pub IsNoForGood : List Recorded → JudgementOfAll → Type 0
IsNoForGood ended (consistent_of_all L answers) = ⊥
IsNoForGood ended (bad_of_all j k class command reply) = (j < length ended) ⊎ IsTrue (is_whole class)

-- where octets spell nothing
abbrev pub OnMalformed : PairClass → Type 0 → Type 0
OnMalformed pair.Malformed P = P
OnMalformed class P = ⊤
