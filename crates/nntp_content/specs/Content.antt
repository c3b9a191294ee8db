-- Groups and articles that a spool may hold, whether each id has its article or not.
use Rattle.std.specs.{Prelude.{Bool, ◌&&◌, List, is_some}, List.{list_all}, FinMap.{get, insert, empty, entries}}
use Rattle.nntp_article.specs.{Article.Parts.{Line, Id, is_clean_head}, Session.{Spool.{Name, Spool, Numbers, Text}, Machine.{says_own_id}}}

-- no group and no article
abbrev pub no_spool : Spool
no_spool = record { groups = empty; articles = empty }

abbrev pub with_group : Spool → Name → Numbers → Spool
with_group S name N = record S { groups = insert S.groups name N }

abbrev pub with_article : Spool → Id → Text → Spool
with_article S id text = record S { articles = insert S.articles id text }

-- the lines are a head, and the id that it says, if it says one, is this id
abbrev pub is_head_of : Id → List Line → Bool
is_head_of id lines = is_clean_head lines && says_own_id id lines

-- each id of these numbers has an article
abbrev pub all_known : Spool → Numbers → Bool
all_known S N = list_all (λ e. is_some (get S.articles e.1)) (entries N)

-- whether each id of a number has an article
abbrev pub ids_have_articles : Spool → Bool
ids_have_articles S = list_all (λ g. all_known S g.1) (entries S.groups)
