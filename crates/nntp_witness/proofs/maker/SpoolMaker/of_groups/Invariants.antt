use Rattle.std.proofs.Common.{List}
use Rattle.nntp_article.specs.Session.Spool.{Spool as SpoolValue}
use Rattle.nntp_said.specs.Facts.{Fact}
use Rattle.nntp_kept.specs.Inner.Readers.{AreShownGroups}
use Rattle.nntp_witness.specs.Inner.{Witness.{HaveArticles, IsGivenSpool}, Making.{GroupsLeft}}
use Rattle.nntp_witness.proofs.maker.SpoolMaker.of_groups.Given as goal

-- the groups that the iterator has are left
abbrev pub invariant-loop-group : goal.invariant-loop-group
invariant-loop-group g l = (said : List Fact) (G : SpoolValue) → HaveArticles l.facts said → AreShownGroups said l.fn.groups
    → IsGivenSpool l.facts.limit said G
    → GroupsLeft l.facts.limit said G l.groups l.maker.builder l.maker.next
