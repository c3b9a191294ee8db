use Rattle.std.proofs.Common.{rules, ◌≡◌, List, [], ◌∷◌, ◌++◌, ap, refl, subst, sym}
use Rattle.nntp_wire.specs.declared.overviews.Overviews.TheVariants.{Opaque}
use Rattle.nntp_several.specs.Sessions.{Named}
use Rattle.nntp_check.specs.{Capture.{session_as, sessions_as}, Inner.Showing.{AreReported}}
use Rattle.nntp_check.proofs.session_printer.SessionPrinterSink.begin_session.Goals as goal

-- the sessions that ended, and the last one
as_opaque : (sessions : List Named) (last : Named) → sessions_as Opaque (sessions ++ last ∷ []) ≡ sessions_as Opaque sessions ++ session_as Opaque last ∷ []
as_opaque [] last = refl
as_opaque (s ∷ sessions) last = ap (λ rest. session_as Opaque s ∷ rest) (as_opaque sessions last)

pub returns-clause-ok : goal.returns-clause-ok
returns-clause-ok g c = λ by held before.
    let printer = c.end_session.new.self in
    let ended : AreReported printer.many printer.ended.items printer.is_answered (sessions_as Opaque (held.ended ++ held.last ∷ [])) =
    subst (AreReported printer.many printer.ended.items printer.is_answered) (sym (as_opaque held.ended held.last)) (c.in_ok-end_session.ensures held before) in
    search (rules, ended)
