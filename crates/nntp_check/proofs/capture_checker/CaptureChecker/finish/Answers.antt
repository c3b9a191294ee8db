use Rattle.std.proofs.{Common.{◌≡◌, ◌∙◌, List, [], ◌∷◌, ◌++◌, ap, arith, refl, subst, sym}, lemmas.{Bool.{false≢true}, Result.{err_from_is_err_and}}}
use Rattle.nntp_wire.specs.declared.{limit.Limit.{Limit}, marks.Marks.{Marks}}
use Rattle.nntp_pair.specs.declared.pair_error.PairError.{PairError}
use Rattle.nntp_several.specs.Sessions.{Named, Recorded, unnamed}
use Rattle.nntp_verdict.specs.{Inner.Checking.{Checked, IsUnfinished, StandsForAll, decided, failed, judging}, Judging.{IsVerdictOfAll}}
use Rattle.nntp_verdict.specs.Verdict.{sessions_verdict_shown}
use Rattle.nntp_check.specs.{Capture.{session_as, sessions_as}, Report.{names_of}}
use Rattle.nntp_pair.specs.declared.pair_error.PairError.TheVariants as errors
use Rattle.nntp_check.proofs.capture_checker.CaptureChecker.finish.Goals as goal

-- sessions and the last one, without their names
last_unnamed : (sessions : List Named) (last : Named) → unnamed (sessions ++ last ∷ []) ≡ unnamed sessions ++ last.session ∷ []
last_unnamed [] last = refl
last_unnamed (s ∷ sessions) last = ap (λ rest. s.session ∷ rest) (last_unnamed sessions last)

-- and their names
last_named : (sessions : List Named) (last : Named) → names_of (sessions ++ last ∷ []) ≡ names_of sessions ++ last.name ∷ []
last_named [] last = refl
last_named (s ∷ sessions) last = ap (λ rest. s.name ∷ rest) (last_named sessions last)

-- where a checker stands for sessions, none but want of memory keeps it from its verdict
unfinished : (limit : Limit) (marks : Marks) (ended : List Recorded) (session : Recorded) (error : PairError) (checker : Checked) → StandsForAll limit marks checker ended session
    → IsUnfinished error checker → error ≡ errors.Memory
unfinished limit marks ended session errors.Memory checker stands why = refl
unfinished limit marks ended session errors.Failed (judging overviews facts answers fed) stands why = absurd (false≢true why)
unfinished limit marks ended session errors.Failed (decided judgement counts) stands why = absurd (false≢true why)
unfinished limit marks ended session errors.Failed failed stands why = absurd stands
unfinished limit marks ended session errors.TooLong checker stands why = absurd why

pub returns-in_err-verdict-clause-err : goal.returns-in_err-verdict-clause-err
returns-in_err-verdict-clause-err g c =
    let before = unnamed (sessions_as c.requires.2 c.requires.3.ended) in
    let last = (session_as c.requires.2 c.requires.3.last).session in
    let stands = subst (λ (checker : Checked). StandsForAll c.requires.0 c.requires.1 checker before last) (sym c.in_ok-end_name.ensures.rest.0) c.requires.4.checks in
    let memory = unfinished c.requires.0 c.requires.1 before last c.in_err-verdict.field-0.0 c.end_name.new.self.checker stands c.in_err-verdict.ensures in
    grind (arith, err_from_is_err_and, memory)

pub returns-clause-ok : goal.returns-clause-ok
returns-clause-ok g c limit marks overviews held judges =
    let before = sessions_as overviews held.ended in
    let last = session_as overviews held.last in
    let stands = subst (λ (checker : Checked). StandsForAll limit marks checker (unnamed before) last.session) (sym c.in_ok-end_name.ensures.rest.0) judges.checks in
    let verdict = c.in_ok-verdict.ensures.verdict limit marks (unnamed before) last.session stands in (
      subst (λ sessions. IsVerdictOfAll limit marks sessions (sessions_verdict_shown c.in_ok-verdict.verdict)) (sym (last_unnamed before last)) verdict,
      c.in_ok-end_name.ensures.names ∙ (λ i. judges.names i ++ judges.last_name i ∷ []) ∙ sym (last_named before last),
    )
