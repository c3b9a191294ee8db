-- What is said with the words of `Reading.antt`, and needn't be believed.
use Rattle.std.specs.Prelude.{◌≡◌, ◌⊎◌, List, ◌∷◌, ◌++◌, ℕ, length, map, Some}
use Rattle.nntp_article.specs.declared.session.profile.Profile.{Profile}
use Rattle.nntp_pair.specs.{declared.class.{PairClass.{PairClass}, Class.{Class}}, Pairing.{Paired, end, bad}, Classes.{class_of}}
use Rattle.nntp_theory.specs.Reading.{Judged, Accepted, accepted_of, class_behind}
use Rattle.nntp_several.specs.Reading.{ReadSession}

-- all answers of a session are accepted, and no octet is left
abbrev pub IsGood : ReadSession → Type 0
IsGood r = (r.answers ≡ map Accepted (accepted_of r.answers)) × (unanswered : ℕ) × (r.ending ≡ end unanswered)

-- the first bad answer of a session is an answer behind these, which are all accepted
pub record IsBadAnswer (profile : Profile) (r : ReadSession) (pairs : List Paired) (class : Class) : Type 0 where
  pub answer : Judged
  pub more : List Judged
  pub answers : r.answers ≡ map Accepted pairs ++ answer ∷ more
  pub class_is : class_behind profile pairs answer ≡ Some class

-- or it is the octets at which the reading ends, behind these, which are all that there are
pub record AreBadOctets (r : ReadSession) (pairs : List Paired) (class : Class) : Type 0 where
  pub pair_class : PairClass
  pub answers : r.answers ≡ map Accepted pairs
  pub ending : r.ending ≡ bad pair_class
  pub class_is : class ≡ class_of pair_class

-- the answer is the first bad one of a session, of this class
pub record IsFirstBad (profile : Profile) (r : ReadSession) (answer : ℕ) (class : Class) : Type 0 where
  pub pairs : List Paired
  pub place : answer ≡ length pairs
  pub is_bad : IsBadAnswer profile r pairs class ⊎ AreBadOctets r pairs class
