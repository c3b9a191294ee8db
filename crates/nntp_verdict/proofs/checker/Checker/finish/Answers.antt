use Rattle.std.proofs.Common.{sym, subst}
use Rattle.nntp_verdict.{specs.{Inner.Checking.{IsFinished}, Verdict.{sessions_verdict_shown}}, proofs.CheckerLemmas.{finished-alone}}
use Rattle.nntp_verdict.proofs.checker.Checker.finish.Goals as goal

pub returns : goal.returns
returns g c =
    let j = sessions_verdict_shown c.in_ok-verdict.verdict in
    record {
      alone = subst (IsFinished c.args.self) (sym c.of_last.ensures) (finished-alone c.args.self j c.in_ok-verdict.ensures);
      sessions = (j, c.in_ok-verdict.ensures, c.of_last.ensures);
    }
