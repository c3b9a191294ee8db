-- How many groups of a spool match the wildmats of LIST ACTIVE, each counted once (RFC 3977, section 7.6.3).
use Rattle.std.specs.{Prelude.{◌≡◌, ℕ, List, Option, None, Some, IfSome, refl}, Ordering.{nat_cmp}, Cmp.Lexicographic.{slice_cmp}, FinMap.{FinMap, get, insert}}
use Rattle.std.specs.Coded.{Coded, code_by, coded×, coded_ℕ, coded_list, coded_option}
use Rattle.nntp_article.specs.Session.Spool.{Spool}
use Rattle.nntp_content.specs.Inner.Content.{asked_count}
use Rattle.std.specs.FinMap as map

-- the counts that are remembered: of all groups, and of those that match a wildmat
pub record AskedCounts : Type 0 where
  pub all : Option ℕ
  pub by_wildmat : FinMap (slice_cmp nat_cmp) ℕ

abbrev pub coded_counts : Coded AskedCounts
coded_counts = code_by _ (coded× (coded_option coded_ℕ) (map.code (coded_list coded_ℕ) coded_ℕ)) (λ c. (c.all, c.by_wildmat)) (λ p. record { all = p.0; by_wildmat = p.1 }) (λ _. refl)

-- the count that is remembered for the wildmat
abbrev pub remembered : AskedCounts → Option (List ℕ) → Option ℕ
remembered counts None = counts.all
remembered counts (Some w) = get counts.by_wildmat w

-- the counts that are remembered once one more is
abbrev pub with_count : Option (List ℕ) → ℕ → AskedCounts → AskedCounts
with_count None n counts = record counts { all = Some n }
with_count (Some w) n counts = record counts { by_wildmat = insert counts.by_wildmat w n }

-- each count that is remembered is that of the spool
abbrev pub AreCounted : Spool → AskedCounts → Type 0
AreCounted S counts = (p : Option (List ℕ)) → IfSome (remembered counts p) (λ n. n ≡ asked_count S p)
