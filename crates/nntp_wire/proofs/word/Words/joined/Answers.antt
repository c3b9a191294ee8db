use Rattle.std.proofs.Common.{arith}
use Rattle.nntp_wire.proofs.JoinedWords.{joined_words}
use Rattle.nntp_wire.proofs.word.Words.joined.Goals as goal

pub returns-then-are_joined : goal.returns-then-are_joined
returns-then-are_joined c = grind (arith, joined_words)
