use Rattle.std.{proofs.Common.{◌≡◌}, specs.List.{list_all}}
use Rattle.nntp_article.specs.{Article.Parts.{is_head, said_id}, Inner.{Parts.{is_head_line}, SaidId.{id_by}}}
use Rattle.nntp_article.proofs.article.head.Head.parse.Given as goal

-- the lines that are left decide, and what they say with what is known so far
abbrev pub invariant-loop-line : goal.invariant-loop-line
invariant-loop-line l = record {
  is_head : list_all is_head_line l.rest ≡ is_head l.fn.lines;
  said : id_by l.said l.rest ≡ said_id l.fn.lines;
}
