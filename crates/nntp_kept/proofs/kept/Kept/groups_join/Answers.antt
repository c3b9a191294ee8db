use Rattle.nntp_kept.proofs.Base.{refl, saying_of}
use Rattle.nntp_kept.proofs.kept.Kept.groups_join.Goals as goal

pub returns-then-may_be_missing-clause-again : goal.returns-then-may_be_missing-clause-again
returns-then-may_be_missing-clause-again g c again facts asks no_list kept together may = c.group_joins.ensures.again again facts (saying_of c.args.saying.now) asks refl no_list kept together may
