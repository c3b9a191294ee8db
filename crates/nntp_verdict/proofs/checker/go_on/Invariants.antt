use Rattle.std.proofs.Common.{◌≡◌, false, List, length}
use Rattle.nntp_wire.specs.declared.{limit.Limit.{Limit}, marks.Marks.{Marks}}
use Rattle.nntp_article.specs.Session.Limit.{profile_of}
use Rattle.nntp_several.specs.Sessions.{Recorded}
use Rattle.nntp_verdict.specs.Inner.Checking.{Keeps}
use Rattle.nntp_verdict.proofs.checker.go_on.Given as goal

abbrev pub invariant-loop-exchange : goal.invariant-loop-exchange
invariant-loop-exchange g l = record {
  kept : (limit : Limit) (marks : Marks) (before : List Recorded) (session : Recorded)
      → Keeps (profile_of limit marks) before session l.fn.judge.facts l.fn.judge.answers.items l.fn.feed
      → Keeps (profile_of limit marks) before session l.judge.facts l.judge.answers.items l.feed;
  whole : l.feed.has_failed ≡ false;
  counts : l.feed.counts ≡ l.fn.feed.counts;
}

abbrev pub decreases-loop-exchange : goal.decreases-loop-exchange
decreases-loop-exchange g l = length l.feed.server
