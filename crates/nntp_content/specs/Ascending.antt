-- Keys that come in ascending order.
use Rattle.std.specs.{Prelude.{Bool}, List.{list_all}, Ordering.{is_lt}, declared.cmp.Ordering.{Ordering}, FinMap.{FinMap, entries}}

-- the key is greater than each one before it
abbrev pub is_last : {K X : Type 0} {R : K → K → Ordering} → FinMap R X → K → Bool
is_last {R = R} m k = list_all (λ e. is_lt (R e.0 k)) (entries m)
