use Rattle.std.proofs.Common.{◌*◌, ◌≤◌, ◌^◌, take}
use Rattle.nntp_facts.specs.Inner.Noted.{profile_kept}
use Rattle.nntp_explain.specs.Inner.ExplainingView.{kept_of, HaveRead}
use Rattle.nntp_explain.proofs.explainer.Explainer.read_all.Given as goal

-- the sessions so far were read, and each has fewer than 2^64 lines
abbrev pub invariant-loop-named : goal.invariant-loop-named
invariant-loop-named g l = record {
  read : HaveRead (profile_kept l.fn.self.facts) (take l.named-index l.sessions) (kept_of l.self) l.self.text.items l.unanswered;
  few : l.unanswered ≤ l.named-index * 2 ^ 64;
}
