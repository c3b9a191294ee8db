use Rattle.std.proofs.Common.{◌∙◌, sym, subst}
use Rattle.nntp_article.specs.Session.Limit.{profile_of}
use Rattle.nntp_several.specs.{Verifying.{IsVerifiedOfAll}, Inner.VerifyingView.{verified_shown}}
use Rattle.nntp_store.specs.Limited.{IsWithinLimit}
use Rattle.nntp_check.proofs.run.verify_collected.Goals as goal

pub returns-clause-ok : goal.returns-clause-ok
returns-clause-ok g c =
    let value = c.in_ok-spool.spool in
    let verified = verified_shown c.in_ok-verify_sessions.field-0 in
    record {
      value = value;
      is_spool = subst IsWithinLimit c.spool.view_is c.spool.invariant;
      spool_is = sym c.deref.ensures.value ∙ c.in_ok-spool.ensures.spool;
      exact = subst (λ sessions. IsVerifiedOfAll (profile_of value.limit c.args.marks) value.spool sessions verified)
          (c.deref-2.ensures.value ∙ c.in_ok-sessions.ensures) c.in_ok-verify_sessions.ensures;
    }
