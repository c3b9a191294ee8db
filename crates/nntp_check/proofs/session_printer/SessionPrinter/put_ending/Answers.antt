use Rattle.std.proofs.Common.{◌∙◌, ◌++◌, ap}
use Rattle.nntp_pair.specs.Pairing.{end}
use Rattle.nntp_check.{specs.{Show.{end_line}, Capture.{session_as}}, proofs.ShowLemmas.{at-ending, at-octets}}
use Rattle.nntp_wire.specs.declared.overviews.Overviews.TheVariants.{Opaque}
use Rattle.nntp_check.proofs.session_printer.SessionPrinter.put_ending.Goals as goal

pub returns-in_ok-put_end-in-End-clause-shown : goal.returns-in_ok-put_end-in-End-clause-shown
returns-in_ok-put_end-in-End-clause-shown g c held shows =
    let self = c.args.self.now in
    at-ending self.feed self.text.items c.put_end.new.text.items (session_as Opaque held.last) (end c.in-End.unanswered) shows.0.last c.in-End.ensures.1
    (c.in_ok-put_end-in-End.ensures ∙ ap (λ n. self.text.items ++ end_line n c.in-End.unanswered) c.index-answers.ensures)

pub returns-in_ok-put_bad_line-in-Bad-clause-shown : goal.returns-in_ok-put_bad_line-in-Bad-clause-shown
returns-in_ok-put_bad_line-in-Bad-clause-shown g c held shows =
    let self = c.args.self.now in
    at-octets self.feed self.text.items c.put_bad_line.new.text.items (session_as Opaque held.last) c.in-Bad.class shows.0.last c.in-Bad.ensures.2
    c.in-Bad.index c.in-Bad.ensures.1 c.from.result c.from.ensures c.in_ok-put_bad_line-in-Bad.ensures
