use Rattle.std.proofs.Common.{take}
use Rattle.nntp_article.specs.Session.Limit.{profile_of}
use Rattle.nntp_several.specs.Verifying.{PermitsAll, IsVerifiedOfAll}
use Rattle.nntp_several.proofs.verifying.verify_sessions.Given as goal

-- the spool permits the sessions so far
abbrev pub invariant-loop-session : goal.invariant-loop-session
invariant-loop-session g l = IsVerifiedOfAll (profile_of l.spool.limit l.marks) l.spool.spool (take l.session-index l.sessions) (PermitsAll l.answers.items)
