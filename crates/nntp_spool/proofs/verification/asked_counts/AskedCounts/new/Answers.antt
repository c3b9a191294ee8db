use Rattle.std.{proofs.Common.{None, Some}, specs.{Ordering.{nat_cmp}, Cmp.Lexicographic.{slice_cmp, nat_list_cmp_total}}}
use Rattle.nntp_article.proofs.ShownMaps.{get-shown}
use Rattle.nntp_spool.proofs.verification.asked_counts.AskedCounts.new.Goals as goal

pub returns : goal.returns
returns g c S None = tt
returns g c S (Some w) = rw (get-shown (slice_cmp nat_cmp) (λ k. k.items) (λ v. v) nat_list_cmp_total c.new.result.entries w, c.new.ensures.empty) tt
