-- What `verify` answers.
use Rattle.std.specs.Prelude.{ℕ, List}
use Rattle.nntp_article.specs.{Session.{Spool.{Spool}, Explains.{Explains}}, declared.session.profile.Profile.{Profile}}
use Rattle.nntp_spool.specs.{declared.verification.verified.Verified.{Verified, TheVariants.{Permits, Refuses}}, Sessions.{RefusesAt}}
use Rattle.nntp_wire.specs.Session.{ClientStream}

-- the spool explains both streams, with so many answers; or this answer is the first that it doesn't explain
abbrev pub IsVerified : Profile → Spool → ClientStream → List ℕ → Verified → Type 0
IsVerified profile S client server (Permits answers) = Explains profile S client server answers
IsVerified profile S client server (Refuses index) = RefusesAt profile S client server index
