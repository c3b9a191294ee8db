-- An explanation of two streams, and their pairing.
use Rattle.std.proofs.Common.{◌≡◌, ℕ, List, arith}
use Rattle.nntp_wire.specs.Session.{ClientStream}
use Rattle.nntp_pair.{specs.{Pairing.{Paired, Ending, end, IsPairing, responses_of, streams}, Inner.Pairing.{HasPairs}}, proofs.SpelledLemmas.{spelled-pairs}}
use Rattle.nntp_pair.proofs.SpelledLemmas.{spelled-whole}
use Rattle.nntp_article.specs.{Session.{Spool.{Spool}, Explains.{ExplainsUpTo, Explains}}, declared.session.profile.Profile.{Profile}}
use Rattle.nntp_article.proofs.SessionLemmas.ClosingAnswers.{run-stays-open}

-- an explanation of the first answers is by the first pairs
pub by_pairs : (profile : Profile) (S : Spool) (client : ClientStream) (server : List ℕ) (n : ℕ) (rest : List ℕ) (explained : ExplainsUpTo profile S client server n rest)
    → HasPairs (streams client server) explained.answers rest
by_pairs profile S client server n rest explained = grind (arith, spelled-pairs, run-stays-open)

-- and one of both streams by all pairs
pub by_all_pairs : (profile : Profile) (S : Spool) (client : ClientStream) (server : List ℕ) (n : ℕ) (pairs : List Paired) (ending : Ending) → IsPairing client server pairs ending
    → (explained : Explains profile S client server n) → (responses_of pairs ≡ explained.answers) × (unanswered : ℕ) × (ending ≡ end unanswered)
by_all_pairs profile S client server n pairs ending pairing explained = grind (arith, spelled-whole client server pairs ending explained.answers pairing, run-stays-open)
