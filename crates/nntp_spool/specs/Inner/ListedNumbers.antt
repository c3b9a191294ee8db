-- The numbers of a group within a range, from some number on.
use Rattle.std.specs.{Prelude.{◌≡◌, ℕ, ◌<◌, ◌≤◌, ◌↔◌, List, Option, None, MatchOption, IfSome, Contains}, FinMap.{get}}
use Rattle.nntp_wire.specs.declared.range.Range.{Range}
use Rattle.nntp_article.specs.Session.Spool.{Numbers, IsNumber}

-- the number is above this one, if there is one
abbrev pub IsAbove : Option ℕ → ℕ → Type 0
IsAbove before n = IfSome before (λ c. c < n)

-- first is the least number above before, or None where there is no such number
abbrev pub IsNextFrom : Numbers → Option ℕ → Option ℕ → Type 0
IsNextFrom N before first =
    MatchOption first ((m : ℕ) → IsAbove before m → get N m ≡ None) (λ n. IsNumber N n × IsAbove before n × ((m : ℕ) → IsAbove before m → IsNumber N m → n ≤ m))

-- the listed numbers are those above that one, up to the end of the range
abbrev pub ListsFrom : Numbers → Range → Option ℕ → List ℕ → Type 0
ListsFrom N r before ns = (n : ℕ) → Contains ns n ↔ (IsNumber N n × IsAbove before n × IfSome r.last (λ last. n ≤ last))
