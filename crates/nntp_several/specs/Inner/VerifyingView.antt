-- What the value of src/verifying.rt means.
use Rattle.nntp_several.specs.{Verifying.{VerifiedOfAll, PermitsAll, RefusesOne}, declared.verifying.VerifiedSessions.{VerifiedSessions, TheVariants.{Permits}}}
use Rattle.nntp_several.specs.declared.verifying.VerifiedSessions.TheVariants.{Refuses}

-- what is told of sessions, without where it lies in memory
abbrev pub verified_shown : {A : Type 0} → VerifiedSessions A → VerifiedOfAll
verified_shown (Permits answers) = PermitsAll answers.items
verified_shown (Refuses session index) = RefusesOne session index
