use Rattle.std.proofs.Common.{arith, subst}
use Rattle.nntp_wire.{specs.{Octets.{crlf}, Inner.Search.{IsSearched, IsThrough}}, proofs.{FrameLemmas.{line_found}, StreamLemmas.{lines-none, lines-first}}}
use Rattle.nntp_wire.proofs.stream.LineSearch.split.Goals as goal

pub returns-in_default-clause-lines : goal.returns-in_default-clause-lines
returns-in_default-clause-lines c = lines-none c.args.stream.now (subst (IsThrough crlf c.args.stream.now) c.in_default.is c.requires.through)

pub returns-clause-parts : goal.returns-clause-parts
returns-clause-parts c =
    rw (c.split_at-2.ensures.back, c.split_at.ensures.back, c.split_at.ensures.front)
    (line_found c.args.stream.now c.in-Found.end (subst (IsSearched crlf c.args.stream.now) c.in-Found.is c.requires.searched))

pub returns-clause-lines : goal.returns-clause-lines
returns-clause-lines c =
    let parts = line_found c.args.stream.now c.in-Found.end (subst (IsSearched crlf c.args.stream.now) c.in-Found.is c.requires.searched) in
    grind (arith, lines-first)
