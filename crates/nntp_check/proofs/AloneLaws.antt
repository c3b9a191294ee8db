-- The report on a capture of one session.
use Rattle.std.proofs.Common.{◌≡◌, ◌∙◌, ◌↔◌, refl, sym, ap, subst, ℕ, Bool, false, List, [], ◌∷◌, ◌++◌}
use Rattle.nntp_wire.specs.{declared.{limit.Limit.{Limit}, marks.Marks.{Marks}, overviews.Overviews.{Overviews}}, Session.{taken}}
use Rattle.nntp_several.specs.Sessions.{Named, unnamed}
use Rattle.nntp_verdict.specs.{Judging.{IsVerdict, IsVerdictOfAll}, Verdict.{Judgement, consistent, bad, is_consistent_of_all}, Inner.Verdict.{is_consistent}}
use Rattle.nntp_verdict.{specs.Inner.Verdict.{verdict_of_one}, proofs.VerdictLaws.{one_verdict_of_all, one_session_verdict}}
use Rattle.nntp_check.specs.{Capture.{Captured, session_as, sessions_as, sessions_of}, Report.{names_of, report_of}, Run.{CheckReports}}

-- the answer on one session is the same
one-answer : (verdict : Judgement) → is_consistent_of_all (verdict_of_one verdict) ≡ is_consistent verdict
one-answer (consistent L answers) = refl
one-answer (bad answer class command reply) = refl

module _ (limit : Limit) (marks : Marks) (overviews : Overviews) (c : Captured) (verdict : Judgement) (text : List ℕ) (answer : Bool) (one : c.is_several ≡ false) (alone : c.held.ended ≡ [])
    (exact : IsVerdict limit marks (taken overviews c.held.last.session.client.octets) c.held.last.session.server verdict) where
  -- their verdict
  verdict-of-all : IsVerdictOfAll limit marks (unnamed (sessions_of overviews c.held)) (verdict_of_one verdict)
  verdict-of-all =
      let all = ap (λ (ended : List Named). unnamed (sessions_as overviews ended ++ session_as overviews c.held.last ∷ [])) alone in
      subst (λ sessions. IsVerdictOfAll limit marks sessions (verdict_of_one verdict)) (sym all) ((one_session_verdict limit marks (session_as overviews c.held.last).session verdict).1 exact)

  -- the report on them: of one session no name is told
  text-of-all : report_of c.is_several (names_of (sessions_of overviews c.held)) (verdict_of_one verdict) ≡ report_of false [] (verdict_of_one verdict)
  text-of-all = ap (λ b. report_of b (names_of (sessions_of overviews c.held)) (verdict_of_one verdict)) one

  pub one-report : CheckReports limit marks overviews c text answer ↔ ((text ≡ report_of false [] (verdict_of_one verdict)) × (answer ≡ is_consistent verdict))
  one-report = (
    λ reports.
        let same = one_verdict_of_all limit marks (unnamed (sessions_of overviews c.held)) reports.judgement (verdict_of_one verdict) reports.verdict verdict-of-all in (
          reports.text_is ∙ ap (λ j. report_of c.is_several (names_of (sessions_of overviews c.held)) j) same ∙ text-of-all,
          reports.answer_is ∙ ap is_consistent_of_all same ∙ one-answer verdict,
        ),
    λ h. record { judgement = verdict_of_one verdict; verdict = verdict-of-all; text_is = h.0 ∙ sym text-of-all; answer_is = h.1 ∙ sym (one-answer verdict) },
  )
