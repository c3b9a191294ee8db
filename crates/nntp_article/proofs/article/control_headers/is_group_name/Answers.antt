use Rattle.nntp_wire.{specs.{Name.{IsGroupName}, Decided.{is_group_name}}, proofs.{DecidedLemmas.{group_name-iff}, ValuesByTests.{some-test}}}
use Rattle.nntp_article.proofs.article.control_headers.is_group_name.Goals as goal

pub returns : goal.returns
returns c = some-test (is_group_name c.args.word.now) (IsGroupName c.args.word.now) c.args.word.now c.parse.result c.is_some.result (group_name-iff c.args.word.now) c.parse.ensures c.is_some.ensures
