use Rattle.nntp_theory.proofs.{Session.{OneMoreAnswer.{as_few, facts_by_pairs, prompts_of_pairs}, LaterPrompts.{facts_longer}}, Streams.ExplainedOrBad.{light}}
use Rattle.nntp_theory.proofs.Ids.SizeOfASession.{session_size}
use Rattle.nntp_pair.proofs.SpelledLemmas.{pairs-spelled}
use Rattle.std.proofs.Common.{length-append, arith}
use Rattle.nntp_theory.proofs.laws.size_is_bounded_by_octets.Goals as goal

pub returns : goal.returns
returns c = grind (arith, pairs-spelled, facts_by_pairs, length-append, session_size, light, prompts_of_pairs, facts_longer, as_few)
