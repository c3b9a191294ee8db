use Rattle.nntp_several.proofs.SessionsVerified.{one_verified, permits_alone}
use Rattle.nntp_several.proofs.laws.sessions_are_verified_in_one_way.Goals as goal

pub returns : goal.returns
returns c = record { one = one_verified; explained = permits_alone }
