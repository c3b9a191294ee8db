-- Which answer of several sessions is bad whatever follows (RFC 3977, section 3.5).
use Rattle.std.specs.Prelude.{◌⊎◌, ℕ, ◌<◌, List, [], ◌∷◌, ◌++◌, length, Option, MatchOption}
use Rattle.nntp_several.specs.{Sessions.{Recorded}, Outcome.{NoOfAll, IsOutcomeOfAll}}
use Rattle.nntp_article.specs.declared.session.profile.Profile.{Profile}
use Rattle.nntp_pair.specs.declared.class.Class.{Class}
use Rattle.nntp_theory.specs.Classes.{IsSettled}
use Rattle.nntp_wire.specs.Session.{further}

-- the session with more octets
abbrev pub with_more : Recorded → List ℕ → List ℕ → Recorded
with_more session client server = record { client = further session.client client; server = session.server ++ server }

-- the answer is bad, of its class, and nothing that follows changes that: its session has ended, or it is settled
abbrev pub IsBadForGoodOfAll : Profile → List Recorded → Recorded → ℕ → ℕ → Class → Type 0
IsBadForGoodOfAll profile before session j k class =
    IsOutcomeOfAll profile (before ++ session ∷ []) (NoOfAll j k class) × ((j < length before) ⊎ IsSettled session.client session.server k class)

-- what is told of what came: the answer that is bad for good, if there is one
abbrev pub IsToldBadOfAll : Profile → List Recorded → Recorded → Option (ℕ × ℕ × Class) → Type 0
IsToldBadOfAll profile before session told =
    MatchOption told ((j k : ℕ) (class : Class) → ¬ (IsBadForGoodOfAll profile before session j k class)) (λ bad. IsBadForGoodOfAll profile before session bad.0 bad.1 bad.2)
