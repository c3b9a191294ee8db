-- What is said with the words of `Spool.antt`, and needn't be believed.
use Rattle.std.specs.{Prelude.{◌≡◌, ℕ, ◌≤◌, Option, None, MatchOption}, FinMap.{get}}
use Rattle.nntp_article.specs.Session.Spool.{Numbers, IsNumber}

-- first is none where there is no number, and else a number that none is below
abbrev pub IsFirst : Numbers → Option ℕ → Type 0
IsFirst N first = MatchOption first ((m : ℕ) → get N m ≡ None) (λ n. IsNumber N n × ((m : ℕ) → IsNumber N m → n ≤ m))
