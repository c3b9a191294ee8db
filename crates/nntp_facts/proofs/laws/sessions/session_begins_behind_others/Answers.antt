use Rattle.nntp_facts.proofs.{Base.{exchanged, permits_alone}, Keeping.NotedSessions.{session_begins}}
use Rattle.nntp_facts.proofs.laws.sessions.session_begins_behind_others.Goals as goal

pub returns : goal.returns
returns c = record { alone = λ profile past. permits_alone profile (exchanged past); begins = session_begins }
