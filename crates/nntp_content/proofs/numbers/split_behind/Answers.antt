use Rattle.std.proofs.{Common.{◌<◌, ◌≤◌, leb, arith, rules}, lemmas.{Bool.Decides.{nat_tests}, List.Sorted.{IsPartitionPoint-from_clause, IsPartitionedBy-leb}}}
use borrow.Author.Tests.{tests}
use Rattle.nntp_content.proofs.ShownNumbers.{rise, parts_are}
use Rattle.nntp_content.proofs.numbers.split_behind.Goals as goal

pub returns : goal.returns
returns g c =
    let ids = c.args.ids.now in
    let n = c.args.number in
    let at = c.partition_point.result in
    let parted = IsPartitionedBy-leb (λ e. e.0) ids n (rise ids c.requires) in
    let point = IsPartitionPoint-from_clause (λ e. leb e.0 n) ids at c.partition_point.ensures.partitioned parted (λ a r q k. search (rules, tests)) in
    rw (c.split_at.ensures.front, c.split_at.ensures.back)
    (parts_are (λ m. leb m n) (λ m. m ≤ n) (λ m. n < m) (λ m t. grind (arith, nat_tests)) (λ m f. grind (arith, nat_tests)) ids at c.partition_point.ensures.bound point)
