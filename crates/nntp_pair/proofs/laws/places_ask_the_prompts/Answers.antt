use Rattle.nntp_pair.proofs.SpelledLemmas.{places-prompts}
use Rattle.nntp_pair.proofs.laws.places_ask_the_prompts.Goals as goal

pub returns : goal.returns
returns c = places-prompts
