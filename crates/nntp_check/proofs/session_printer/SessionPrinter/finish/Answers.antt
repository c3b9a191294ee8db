use Rattle.std.proofs.Common.{◌∙◌, List, ℕ, subst, sym}
use Rattle.nntp_check.{specs.Run.{ShowReports}, proofs.ShowLemmas.{one-reported, several-reported}}
use Rattle.nntp_check.proofs.session_printer.SessionPrinter.finish.Goals as goal

pub returns-then-is_several : goal.returns-then-is_several
returns-then-is_several g c captured same alone shows =
    let printer = c.end_session.new.self in
    subst (λ (text : List ℕ). ShowReports captured text printer.is_answered) (sym c.deref.ensures.value)
    (several-reported captured printer.many printer.ended.items printer.is_answered (c.in_ok-end_session.ensures captured.held shows) (same ∙ c.if-is_several.true))

pub returns : goal.returns
returns g c captured same alone shows =
    let is_answered = c.in_ok-is_answered.is_answered in
    subst (λ (text : List ℕ). ShowReports captured text is_answered) (sym c.deref-2.ensures.value)
    (one-reported captured c.put_ending.new.self.text.items is_answered alone (same ∙ c.if-is_several.false) (c.in_ok-is_answered.ensures.shown captured.held shows))
