use Rattle.nntp_several.proofs.PassingSessions.{passing_begins, exchange_passes, session_passes, passing_ends, passing_stops, passing_contradicted}
use Rattle.nntp_several.proofs.PassingSessions.{passing_unfitting}
use Rattle.nntp_several.proofs.laws.sessions_are_judged_in_turn.Goals as goal

pub returns : goal.returns
returns c = record {
  begins = passing_begins;
  passes = exchange_passes;
  goes_on = session_passes;
  yes = passing_ends;
  octets = passing_stops;
  contradiction = passing_contradicted;
  out_of_place = passing_unfitting;
}
