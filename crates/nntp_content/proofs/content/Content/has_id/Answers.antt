use Rattle.std.proofs.Common.{arith}
use Rattle.nntp_content.proofs.MapEntries.{entries-empty}
use Rattle.nntp_content.proofs.content.Content.has_id.Goals as goal

pub returns-in-None : goal.returns-in-None
returns-in-None g c = grind (arith, entries-empty)
