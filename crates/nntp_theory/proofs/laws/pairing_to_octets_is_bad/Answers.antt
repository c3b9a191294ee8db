use Rattle.std.specs.Prelude.{⊤}
use Rattle.nntp_theory.proofs.Streams.PairedStreams.{bad_end}
use Rattle.nntp_theory.proofs.laws.pairing_to_octets_is_bad.Goals as goal

pub returns : goal.returns
returns c = λ profile client server pairs class pairing some. bad_end (λ S. ⊤) profile client server pairs class pairing some.0 some.1 tt some.2
