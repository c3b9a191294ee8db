use Rattle.std.proofs.Common.{◌≡◌, ◌++◌, map}
use Rattle.nntp_article.specs.{Article.Control.{controls_of, controls_among}, Inner.View.{control_value}}
use Rattle.nntp_article.proofs.article.control_headers.control.Given as goal

-- what was read, and what the headers that are left say
abbrev pub invariant-loop-header : goal.invariant-loop-header
invariant-loop-header g l = map control_value l.controls.items ++ controls_among l.headers ≡ controls_of l.head
