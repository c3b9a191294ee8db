-- The spool, and what the machine looks up in it (RFC 3977, section 6.1).
use Rattle.std.specs.Prelude.{◌≡◌, ℕ, ◌<◌, ◌≤◌, ◌↔◌, Bool, ◌&&◌, nat_lt, IsTrue, List, [], ◌∷◌, ◌++◌, Option, None, Some, IsSome, IfSome, option_map, unwrap_or}
use Rattle.std.specs.{Prelude.{slice_get, All, Contains}, Ordering.{nat_cmp}, Cmp.Lexicographic.{slice_cmp}, FinMap.{FinMap, get, empty, keys}, List.{list_all}}
use Rattle.nntp_wire.specs.{Octets.{is_clean}, Name.{IsGroupName, IsMessageId}, declared.{range.Range.{Range}, command.What.{What, TheVariants.{Article}}}}
use Rattle.nntp_wire.specs.declared.command.What.TheVariants.{Head, Body, Stat}
use Rattle.nntp_article.specs.Article.Parts.{Line, Id, is_head, said_id}

-- the name of a group
abbrev pub Name : Type 0
Name = List ℕ

-- octets, below 256, other than NUL, CR and LF
abbrev pub is_line : Line → Bool
is_line line = is_clean line && list_all (λ c. nat_lt c 256) line

-- an article: its head and its body, line by line
pub record Text : Type 0 where
  pub head : List Line
  pub body : List Line

-- a group: from its numbers to their ids
abbrev pub Numbers : Type 0
Numbers = FinMap nat_cmp Id

-- what a server has: its groups, and its articles by their ids
pub record Spool : Type 0 where
  pub groups : FinMap (slice_cmp nat_cmp) Numbers
  pub articles : FinMap (slice_cmp nat_cmp) Text

-- there is such a group
abbrev pub IsGroup : Spool → Name → Type 0
IsGroup S name = IsSome (get S.groups name)

-- the numbers of a group, none where there is no such group
abbrev pub numbers : Spool → Name → Numbers
numbers S name = unwrap_or (get S.groups name) empty

-- the number is one of the group
abbrev pub IsNumber : Numbers → ℕ → Type 0
IsNumber N n = IsSome (get N n)

-- the least number, or none where there is no number: the first of the keys, which ascend
abbrev pub least : Numbers → Option ℕ
least N = slice_get (keys N) 0

-- n is the least number above c
abbrev pub IsNextAbove : Numbers → ℕ → ℕ → Type 0
IsNextAbove N c n = (c < n) × IsNumber N n × ((m : ℕ) → c < m → IsNumber N m → n ≤ m)

-- n is the greatest number below c
abbrev pub IsNextBelow : Numbers → ℕ → ℕ → Type 0
IsNextBelow N c n = (n < c) × IsNumber N n × ((m : ℕ) → m < c → IsNumber N m → m ≤ n)

-- no number is above c
abbrev pub NoneAbove : Numbers → ℕ → Type 0
NoneAbove N c = (m : ℕ) → c < m → get N m ≡ None

-- no number is below c
abbrev pub NoneBelow : Numbers → ℕ → Type 0
NoneBelow N c = (m : ℕ) → m < c → get N m ≡ None

-- the range has the number
abbrev pub IsInRange : Range → ℕ → Type 0
IsInRange r n = (r.first ≤ n) × IfSome r.last (λ last. n ≤ last)

-- the listed numbers are those in the range
abbrev pub Lists : Numbers → Range → List ℕ → Type 0
Lists N r ns = (n : ℕ) → Contains ns n ↔ (IsNumber N n × IsInRange r n)

-- what is sent of an article
abbrev pub text_of : What → Text → Option (List Line)
text_of Article t = Some (t.head ++ [] ∷ t.body)
text_of Head t = Some t.head
text_of Body t = Some t.body
text_of Stat t = None

-- the id has an article, and this is what is sent of it
abbrev pub HasText : Spool → What → Id → Option (List Line) → Type 0
HasText S what id lines = option_map (text_of what) (get S.articles id) ≡ Some lines

-- the numbers are 1 to the limit, ids are one-to-one in a group, each id that is used has an article, and a head says its own id if any
pub record IsSpool (limit : ℕ) (S : Spool) : Type 0 where
  pub names : (name : Name) → IsGroup S name → IsGroupName name
  pub numbers_in_limit : (name : Name) (n : ℕ) → IsNumber (numbers S name) n → (1 ≤ n) × (n ≤ limit)
  pub one_to_one : (name : Name) (n m : ℕ) (id : Id) → get (numbers S name) n ≡ Some id → get (numbers S name) m ≡ Some id → n ≡ m
  pub ids_have_articles : (name : Name) (n : ℕ) (id : Id) → get (numbers S name) n ≡ Some id → IsSome (get S.articles id)
  pub ids : (id : Id) → IsSome (get S.articles id) → IsMessageId id
  pub heads : (id : Id) (t : Text) → get S.articles id ≡ Some t → IsTrue (is_head t.head) × All (λ line. IsTrue (is_line line)) (t.head ++ t.body)
  pub own_ids : (id said : Id) (t : Text) → get S.articles id ≡ Some t → said_id t.head ≡ Some said → said ≡ id
