use Rattle.std.proofs.{Common.{arith}, lemmas.Bool.Decides.{nat_tests}}
use Rattle.nntp_wire.proofs.WordLemmas.{clean_by_search}
use Rattle.nntp_article.proofs.article.head_line.is_clean.Goals as goal

pub returns : goal.returns
returns c = let found = clean_by_search c.args.line.now c.memchr3.result c.memchr3.ensures in let h = c.is_none.ensures in grind (arith, nat_tests)
