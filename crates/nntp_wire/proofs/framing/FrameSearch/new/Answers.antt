use Rattle.nntp_wire.specs.Inner.Block.{end_of_block}
use Rattle.nntp_wire.proofs.framing.FrameSearch.new.Goals as goal

pub returns-clause-searched : goal.returns-clause-searched
returns-clause-searched c = λ stream. record { line = c.new.ensures stream; block = c.new-2.ensures end_of_block stream }
