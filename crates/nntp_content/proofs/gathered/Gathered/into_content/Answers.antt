use Rattle.std.specs.{Cmp.Lexicographic.{slice_cmp, nat_list_cmp_total}, Ordering.{nat_cmp}, String.{string_bytes}}
use Rattle.nntp_content.proofs.{GatheredEntries.{sorted_listed}, ShownMaps.{octet_keys}}
use Rattle.nntp_content.proofs.gathered.Gathered.into_content.Goals as goal

pub map_of-requires : goal.map_of-requires
map_of-requires g c = sorted_listed (slice_cmp nat_cmp) string_bytes (λ v. v) nat_list_cmp_total octet_keys c.self.inside.groups.items c.self.invariant.names
