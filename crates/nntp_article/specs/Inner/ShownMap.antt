-- The finite map that the entries of a `BTreeMap`, or of a list of pairs, show.
use Rattle.std.specs.{Prelude.{List, map}, FinMap.{FinMap, from_entries}, declared.cmp.Ordering.{Ordering}}

-- an entry under a view of its key, and one of its value
abbrev pub shown_entry : {L V K X : Type 0} → (L → K) → (V → X) → L × V → K × X
shown_entry key value = λ e. (key e.0, value e.1)

-- the map of the entries under these views
abbrev pub shown : {L V K X : Type 0} (R : K → K → Ordering) → (L → K) → (V → X) → List (L × V) → FinMap R X
shown R key value es = from_entries (map (shown_entry key value) es)
