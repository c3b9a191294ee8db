use Rattle.std.proofs.Common.{rules, ◌≡◌, ◌<◌, ◌^◌, ap, arith, length}
use Rattle.nntp_wire.specs.declared.overviews.Overviews.TheVariants.{Opaque}
use Rattle.nntp_check.{specs.{Capture.{sessions_as}, declared.session_printer.SessionPrinter.{SessionPrinter}}, proofs.ShowLemmas.{many-fits, session-ended}}
use Rattle.nntp_check.proofs.session_printer.SessionPrinter.end_session.Goals as goal

pub overflow_add-self : goal.overflow_add-self
overflow_add-self g c =
    let old = c.args.self.now in
    let small : length old.ended.items < 2 ^ 64 = search rules in
    let fits = many-fits old.many old.ended.items old.is_answered (sessions_as Opaque c.requires.0.ended) c.requires.1.0.ended small in
    let same : c.put_ending.new.self.many ≡ old.many = ap (λ (p : SessionPrinter g.row.A.Denot). p.many) c.put_ending.ensures.rest in
    omega arith

pub returns : goal.returns
returns g c held shows = grind (arith, session-ended)
