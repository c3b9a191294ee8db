-- The ids of a group, each at one number.
use Rattle.std.specs.{Prelude.{Bool, bytes_eq}, List.{list_any}, FinMap.{entries}}
use Rattle.nntp_article.specs.{Article.Parts.{Id}, Session.Spool.{Numbers}}

-- some number has the id
abbrev pub has_id : Numbers → Id → Bool
has_id N id = list_any (λ e. bytes_eq e.1 id) (entries N)
