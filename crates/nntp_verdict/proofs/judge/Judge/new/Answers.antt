use Rattle.std.proofs.Common.{[]}
use Rattle.nntp_verdict.proofs.judge.Judge.new.Goals as goal

pub returns : goal.returns
returns g c = record { earlier = []; ended = tt; answers_are = c.new-2.ensures.items; stands = c.new.ensures.stands }
