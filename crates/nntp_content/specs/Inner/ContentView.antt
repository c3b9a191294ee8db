-- The groups and articles that the code's maps and lists show.
use Rattle.std.specs.{Prelude.{◌≡◌, true, List, String, map}, FinMap.{FinMap, is_sorted}, Ordering.{nat_cmp}, Cmp.Lexicographic.{slice_cmp}}
use Rattle.std.specs.String.{string_bytes}
use Rattle.nntp_article.specs.{Inner.ShownMap.{shown, shown_entry}, Session.Spool.{Spool, Numbers, Text}}
use Rattle.nntp_content.specs.Inner.ArticleLines.{HasLineCounts}

-- the groups by the octets of their names
abbrev pub groups_shown : {A : Type 0} → List (String A × Numbers) → FinMap (slice_cmp nat_cmp) Numbers
groups_shown groups = shown (slice_cmp nat_cmp) string_bytes (λ N. N) groups

-- beside the articles
abbrev pub spool_stored : {A : Type 0} → List (String A × Numbers) → FinMap (slice_cmp nat_cmp) Text → Spool
spool_stored groups articles = record { groups = groups_shown groups; articles = articles }

-- each name is greater than those before it, and the lines are counted
pub record IsInOrder {A : Type 0} (groups : List (String A × Numbers)) (articles : FinMap (slice_cmp nat_cmp) Text) : Type 0 where
  pub names : is_sorted (slice_cmp nat_cmp) (map (shown_entry string_bytes (λ N. N)) groups) ≡ true
  pub line_counts : HasLineCounts (spool_stored groups articles)
