use Rattle.nntp_pair.proofs.searches.Searches.new.Goals as goal

pub go_on-requires : goal.go_on-requires
go_on-requires c = record { line = c.new.ensures c.args.client.now; frame = tt }
