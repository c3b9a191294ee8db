-- Whether some spool permits a session, and the first answer from which on none does.
use Rattle.std.specs.Prelude.{ℕ, ◌+◌, ◌<◌, List, length, take}
use Rattle.nntp_article.specs.{Session.{Spool.{Spool, IsSpool}, Machine.{Run, start}}, declared.session.profile.Profile.{Profile}}
use Rattle.nntp_wire.specs.Answer.{Asked, Response}

-- some spool permits the session
abbrev pub SomePermits : Profile → List Asked → List Response → Type 0
SomePermits profile prompts answers = (S : Spool) × IsSpool profile.limit S × Run profile S start prompts answers

-- some spool permits the answers before k, and none those up to k
abbrev pub IsFirstUnpermitted : Profile → List Asked → List Response → ℕ → Type 0
IsFirstUnpermitted profile prompts answers k = (k < length answers) × SomePermits profile prompts (take k answers) × (SomePermits profile prompts (take (k + 1) answers) → ⊥)
