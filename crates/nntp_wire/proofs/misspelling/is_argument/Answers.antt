use Rattle.std.proofs.Common.{sym, ap, ◌∙◌}
use Rattle.nntp_wire.specs.{Name.{IsMessageId, IsGroupName}, Decided.{is_message_id, is_group_name}, Misspelling.{is_argument}}
use Rattle.nntp_wire.proofs.ValuesByTests.{some-test}
use Rattle.nntp_wire.proofs.misspelling.is_argument.Goals as goal

pub returns-in-GroupName : goal.returns-in-GroupName
returns-in-GroupName c =
    some-test (is_group_name c.args.word.now) (IsGroupName c.args.word.now) c.args.word.now c.parse.result c.is_some-in-GroupName.result
    (c.group_names_are_decided.ensures c.args.word.now) c.parse.ensures c.is_some-in-GroupName.ensures
    ∙ sym (ap (λ due. is_argument due c.args.word.now) c.in-GroupName.is)

pub returns-in-MessageId : goal.returns-in-MessageId
returns-in-MessageId c =
    some-test (is_message_id c.args.word.now) (IsMessageId c.args.word.now) c.args.word.now c.parse-in-MessageId.result c.is_some-in-MessageId.result
    (c.message_ids_are_decided.ensures c.args.word.now) c.parse-in-MessageId.ensures c.is_some-in-MessageId.ensures
    ∙ sym (ap (λ due. is_argument due c.args.word.now) c.in-MessageId.is)
