use Rattle.std.{proofs.Common.{◌≡◌, true, drop}, specs.Prelude.{◌↔◌}}
use Rattle.nntp_article.specs.Session.{Spool.{Lists}, Machine.{is_ascending}}
use Rattle.nntp_spool.specs.Inner.ListedNumbers.{ListsFrom}
use Rattle.nntp_spool.proofs.verification.lookups.lists.Given as goal

abbrev pub invariant-loop-number : goal.invariant-loop-number
invariant-loop-number g l = record {
  same : ListsFrom l.numbers l.range l.before (drop l.number-index l.listed) ↔ Lists l.numbers l.range l.listed;
  ascends : is_ascending (drop l.number-index l.listed) ≡ true;
}
