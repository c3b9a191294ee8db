use Rattle.nntp_check.proofs.session_printer.SessionPrinterSink.take.Goals as goal

pub returns-clause-ok : goal.returns-clause-ok
returns-clause-ok g c = λ by held before. c.in_ok-show_whole.ensures _ (c.in_ok-feed.ensures.ok held before.0)
