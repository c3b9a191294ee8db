use Rattle.nntp_wire.{specs.{Name.{IsMessageId}, Decided.{is_message_id}}, proofs.{DecidedLemmas.{message_id-iff}, ValuesByTests.{some-test}}}
use Rattle.nntp_article.proofs.article.control_headers.is_message_id.Goals as goal

pub returns : goal.returns
returns c = some-test (is_message_id c.args.word.now) (IsMessageId c.args.word.now) c.args.word.now c.parse.result c.is_some.result (message_id-iff c.args.word.now) c.parse.ensures c.is_some.ensures
