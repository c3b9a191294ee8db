use Rattle.nntp_wire.proofs.stream.split_first_line.Goals as goal

pub go_on-requires : goal.go_on-requires
go_on-requires c = c.new-search.ensures c.args.stream.now
