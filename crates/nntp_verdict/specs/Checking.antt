-- Which answer is told to be bad before the streams of sessions have ended.
use Rattle.std.specs.Prelude.{ℕ, List, Option, MatchOption}
use Rattle.nntp_article.specs.declared.session.profile.Profile.{Profile}
use Rattle.nntp_pair.specs.declared.class.Class.{Class}
use Rattle.nntp_theory.specs.{Classes.{IsSettled}, Outcome.{No, IsOutcome}}
use Rattle.nntp_wire.specs.Session.{ClientStream}

-- the answer is bad, of its class, and no octets that follow change that
abbrev pub IsBadForGood : Profile → ClientStream → List ℕ → ℕ → Class → Type 0
IsBadForGood profile client server answer class = IsOutcome profile client server (No answer class) × IsSettled client server answer class

-- what is told of the octets that came: the answer that is bad for good, if there is one
abbrev pub IsToldBad : Profile → ClientStream → List ℕ → Option (ℕ × Class) → Type 0
IsToldBad profile client server told = MatchOption told ((answer : ℕ) (class : Class) → ¬ (IsBadForGood profile client server answer class)) (λ bad. IsBadForGood profile client server bad.0 bad.1)
