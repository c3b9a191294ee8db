use Rattle.std.proofs.Common.{◌+◌, length}
use Rattle.nntp_slow_judge.proofs.wildmats.+take.Given as goal

-- each call has a shorter pattern, or the same one and a shorter text
abbrev pub decreases-take : goal.decreases-take
decreases-take l = length l.items.now + length l.text.now
