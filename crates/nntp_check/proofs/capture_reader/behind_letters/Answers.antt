use Rattle.nntp_check.proofs.ReadingLemmas.{no-letter}
use Rattle.nntp_check.proofs.capture_reader.behind_letters.Goals as goal

pub returns-then-octet-first : goal.returns-then-octet-first
returns-then-octet-first c line h =
    no-letter line c.args.rest.now c.args.source c.in_ok-first.first.now c.args.octet c.in_ok-first.rest.now h.0 c.in_ok-first.ensures.cases.0 c.if-octet-first.true
