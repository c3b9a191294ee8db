-- What answers ask of the numbers of a group, with the current article read off the session (RFC 3977, section 6.1).
use Rattle.std.specs.{Prelude.{◌≡◌, ℕ, ◌≤◌, List, Option, None, Some, MatchOption}, FinMap.{get}}
use Rattle.nntp_article.specs.Session.{Spool.{Numbers, IsNumber, least, IsNextAbove, IsNextBelow, NoneAbove, NoneBelow, Lists}, Machine.{Bound}}
use Rattle.nntp_wire.specs.{declared.{range.Range.{Range}, marks.Marks.{Marks}, water_marks.WaterMarks.{WaterMarks}}, Answer.{Asked, Response, to, group_is}}
use Rattle.nntp_wire.specs.{Answer.{numbers_are, sends}, Command.{by_number, current, next, last, retrieve}}
use Rattle.nntp_said.specs.declared.position.Position.{Position, TheVariants.{Nowhere, First, Known}}

-- where an answer leaves the session
abbrev pub position_after : Position → Asked → Response → Position
position_after at asked (group_is m name) = First
position_after at asked (numbers_are m name lines) = First
position_after at (to next) (sends sent) = Known sent.number
position_after at (to last) (sends sent) = Known sent.number
position_after at (to (retrieve what (by_number n))) (sends sent) = Known sent.number
position_after at (to (retrieve what current)) (sends sent) = Known sent.number
position_after at asked response = at

-- the current article of a group at a position
abbrev pub current_in : Numbers → Position → Option ℕ
current_in N Nowhere = None
current_in N First = least N
current_in N (Known n) = Some n

-- one thing that an answer says of the numbers of a group
pub data Ask : Type 0 where
  Estimates : (how : Marks) → (marks : WaterMarks) → Ask  -- there are at most so many numbers, between the marks, which are read so
  Bounds : (low high : ℕ) → Ask  -- all numbers are between the marks
  ListsIn : (range : Range) → (listed : List ℕ) → Ask  -- the numbers in the range are these
  Has : (number : ℕ) → Ask  -- the number is there
  Lacks : (number : ℕ) → Ask  -- the number isn't there
  StandsAt : (at : Position) → (number : ℕ) → Ask  -- the current article is this number
  StandsNowhere : (at : Position) → Ask  -- there is no current article
  StepsUp : (at : Position) → (number : ℕ) → Ask  -- the next number above the current article is this
  StepsDown : (at : Position) → (number : ℕ) → Ask  -- the next number below the current article is this
  IsTop : (at : Position) → Ask  -- no number is above the current article
  IsBottom : (at : Position) → Ask  -- no number is below the current article

-- the numbers meet what is asked
abbrev pub Meets : Numbers → Ask → Type 0
Meets N (Estimates how m) = Bound how N m
Meets N (Bounds low high) = (n : ℕ) → IsNumber N n → (low ≤ n) × (n ≤ high)
Meets N (ListsIn r ns) = Lists N r ns
Meets N (Has n) = IsNumber N n
Meets N (Lacks n) = get N n ≡ None
Meets N (StandsAt at n) = current_in N at ≡ Some n
Meets N (StandsNowhere at) = current_in N at ≡ None
Meets N (StepsUp at n) = MatchOption (current_in N at) ⊥ (λ c. IsNextAbove N c n)
Meets N (StepsDown at n) = MatchOption (current_in N at) ⊥ (λ c. IsNextBelow N c n)
Meets N (IsTop at) = MatchOption (current_in N at) ⊥ (NoneAbove N)
Meets N (IsBottom at) = MatchOption (current_in N at) ⊥ (NoneBelow N)
