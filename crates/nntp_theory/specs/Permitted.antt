-- That some spool permits the exchanges of sessions, one session behind the other.
use Rattle.std.specs.Prelude.{List, [], ◌∷◌, ◌++◌, map}
use Rattle.nntp_article.specs.declared.session.profile.Profile.{Profile}
use Rattle.nntp_pair.specs.Pairing.{Paired, asked_of, responses_of}
use Rattle.nntp_theory.specs.Answered.{Answered, SomePermitsEach}

-- the exchanges of a session, as it is answered
abbrev pub exchanged : List Paired → Answered
exchanged pairs = record { prompts = asked_of pairs; answers = responses_of pairs }

-- some spool permits the exchanges of a session, and those of earlier sessions
abbrev pub ArePermittedBehind : Profile → List (List Paired) → List Paired → Type 0
ArePermittedBehind profile earlier pairs = SomePermitsEach profile (map exchanged earlier ++ exchanged pairs ∷ [])

-- some spool permits the exchanges of a session
abbrev pub ArePermitted : Profile → List Paired → Type 0
ArePermitted profile pairs = ArePermittedBehind profile [] pairs
