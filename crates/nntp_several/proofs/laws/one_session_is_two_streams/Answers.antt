use Rattle.nntp_several.proofs.{OneOutcomeOfAll.{one_explained, one_session_outcome, one_session_only}, SessionsRead.{one_session_reading}}
use Rattle.nntp_several.proofs.laws.one_session_is_two_streams.Goals as goal

pub returns : goal.returns
returns c = record { explained = one_explained; bad = λ profile s k. (λ b. b, λ b. b); outcome = one_session_outcome; only = one_session_only; reading = one_session_reading }
