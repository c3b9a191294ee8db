use Rattle.std.proofs.Common.{subst}
use Rattle.nntp_check.{specs.{Inner.CaptureReading.{HasCome, captured}, declared.capture_reader.Place.{Place}}, proofs.ReadingLemmas.{ends-cut, ends-whole}}
use Rattle.nntp_check.proofs.capture_reader.CaptureReader.finish.Goals as goal

pub returns-in_default-clause-bad : goal.returns-in_default-clause-bad
returns-in_default-clause-bad c came held h = ends-cut c.args.self.now.piece c.args.self.now.place came _ h.come h.is_open c.in_default.not-Start

pub returns-in-Start-clause-whole : goal.returns-in-Start-clause-whole
returns-in-Start-clause-whole c came held h =
    ends-whole c.args.self.now.piece came _ (subst (λ (place : Place). HasCome c.args.self.now.piece place came (captured c.args.self.now held)) c.in-Start.is h.come)
