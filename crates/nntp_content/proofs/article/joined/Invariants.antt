use Rattle.std.{proofs.Common.{◌≡◌, ◌++◌, drop, IsTrue}, specs.List.{list_all}}
use Rattle.nntp_article.specs.Session.Spool.{is_line}
use Rattle.nntp_wire.specs.Inner.Held.{held}
use Rattle.nntp_content.proofs.article.joined.Given as goal

-- the lines that were copied, and those that are left
abbrev pub invariant-loop-line : goal.invariant-loop-line
invariant-loop-line g l = record {
  copied : l.block ++ held (drop l.line-index l.lines) ≡ held l.lines;
  are_lines : IsTrue (list_all is_line (held (drop l.line-index l.lines)));
}
