-- The codes of the values that the kept groups show.
use Rattle.std.specs.{Prelude.{ℕ, List, refl}, Coded.{Coded, code_by, coded×, coded_ℕ, coded_list}, Ordering.{nat_cmp}, Cmp.Lexicographic.{slice_cmp}}
use Rattle.nntp_numbers.specs.Inner.SummaryView.{coded_summary}
use Rattle.nntp_kept.specs.Inner.Kept.{KeptGroup}
use Rattle.std.specs.FinMap as map

abbrev pub coded_ids : Coded (map.FinMap nat_cmp (List ℕ) × map.FinMap (slice_cmp nat_cmp) ℕ)
coded_ids = coded× (map.code coded_ℕ (coded_list coded_ℕ)) (map.code (coded_list coded_ℕ) coded_ℕ)

abbrev pub coded_group : Coded KeptGroup
coded_group =
    code_by _ (coded× coded_summary coded_ids)
    (λ g. (g.numbers, (g.ids, g.places)))
    (λ p. record { numbers = p.0; ids = p.1.0; places = p.1.1 }) (λ _. refl)

abbrev pub coded_groups : Coded (map.FinMap (slice_cmp nat_cmp) KeptGroup)
coded_groups = map.code (coded_list coded_ℕ) coded_group
