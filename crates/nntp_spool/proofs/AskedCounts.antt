-- Counts of matching groups that are remembered.
use Rattle.std.{proofs.Common.{◌≡◌, ℕ, Bool, true, false, cond, List, Option, None, Some, refl, sym, ap, subst, ◌∙◌}, specs.Prelude.{IfSome}}
use Rattle.std.specs.{Ordering.{nat_cmp, eq_by_cmp}, Cmp.Lexicographic.{slice_cmp, nat_list_cmp_total}, FinMap.{get, get-insert}}
use Rattle.nntp_article.{proofs.ShownMaps.{equal_is}, specs.Session.Spool.{Spool}}
use Rattle.nntp_spool.specs.Inner.AskedCounts.{AskedCounts, AreCounted, remembered, with_count}
use Rattle.nntp_content.{specs.Inner.Content.{asked_count}, proofs.{MapEntries.{tied_itself}, ShownMaps.{octet_keys}}}

pub counts_are : (a b : AskedCounts) → a.all ≡ b.all → a.by_wildmat ≡ b.by_wildmat → a ≡ b
counts_are a b e f i = record { all = e i; by_wildmat = f i }

-- one more count, if it is that of the spool
pub one_more : (S : Spool) (counts : AskedCounts) (p : Option (List ℕ)) (n : ℕ) → n ≡ asked_count S p → AreCounted S counts → AreCounted S (with_count p n counts)
one_more S counts None n e all None = e
one_more S counts None n e all (Some v) = all (Some v)
one_more S counts (Some w) n e all None = all None
one_more S counts (Some w) n e all (Some v) =
    subst (λ o. IfSome o (λ m. m ≡ asked_count S (Some v))) (sym (get-insert nat_list_cmp_total counts.by_wildmat w n v)) (by (eq_by_cmp (slice_cmp nat_cmp) v w) refl)
  where
    by : (b : Bool) → eq_by_cmp (slice_cmp nat_cmp) v w ≡ b → IfSome (cond b (Some n) (get counts.by_wildmat v)) (λ m. m ≡ asked_count S (Some v))
    by true t = subst (λ w. n ≡ asked_count S (Some w)) (sym (octet_keys v w (equal_is (slice_cmp nat_cmp v w) t))) e
    by false f = all (Some v)

-- what is remembered is found again
pub found_again : (counts : AskedCounts) (p : Option (List ℕ)) (n : ℕ) → remembered (with_count p n counts) p ≡ Some n
found_again counts None n = refl
found_again counts (Some w) n =
    get-insert nat_list_cmp_total counts.by_wildmat w n w ∙ ap (λ b. cond b (Some n) (get counts.by_wildmat w)) (tied_itself nat_list_cmp_total w)
