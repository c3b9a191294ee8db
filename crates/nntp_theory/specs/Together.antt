-- Conditions on single groups, ids and names, under which what is said stands together.
use Rattle.std.specs.Prelude.{◌≡◌, ℕ, ◌<◌, ◌≤◌, Bool, true, false, not, ◌&&◌, ◌==◌, nat_lt, if◌then◌else◌, List, Option, None, Some, IfSome, ⊤}
use Rattle.std.specs.{List.{AllByRecursion, list_any, list_all}, Option.{option_map_or}, FinMap.{len}}
use Rattle.nntp_wire.specs.{Decided.{matches_name}, Listing.{OverviewValue}}
use Rattle.nntp_article.specs.{Article.Parts.{Id}, Session.{Spool.{Name, Numbers}, Machine.{is_in_range, is_same}}}
use Rattle.nntp_said.specs.{Asks.{Ask, Estimates, ListsIn, StandsAt, StandsNowhere, StepsUp, StepsDown, IsTop, IsBottom}, Facts.{Fact, ThereIsNo, IdAt, TextIs}}
use Rattle.nntp_said.specs.{Facts.{NoArticle, FieldsAre, OverviewsAre, GroupsAre}, declared.position.Position.TheVariants.{Nowhere, Known}}
use Rattle.nntp_theory.specs.{Given.{first_given, has_overview_of}, declared.demand.Demand.{Demand, TheVariants.{NoDemand, NotEmpty, OnlyOne, SecondIs}}}
use Rattle.nntp_theory.specs.declared.demand.Demand.TheVariants.{Impossible}

-- ---- the numbers of one group

-- some numbers meet the ask: what it lists is in its range, and what it says of a known number can be
abbrev pub is_possible : Ask → Bool
is_possible (ListsIn r ns) = list_all (is_in_range r) ns
is_possible (StandsAt (Known c) m) = c == m
is_possible (StandsAt Nowhere m) = false
is_possible (StandsNowhere (Known c)) = false
is_possible (StepsUp (Known c) m) = nat_lt c m
is_possible (StepsUp Nowhere m) = false
is_possible (StepsDown (Known c) m) = nat_lt m c
is_possible (StepsDown at m) = false
is_possible (IsTop Nowhere) = false
is_possible (IsBottom Nowhere) = false
is_possible ask = true

-- numbers meet the demand
abbrev pub MeetsDemand : Demand → (ℕ → Type 0) → Type 0
MeetsDemand NoDemand P = ⊤
MeetsDemand NotEmpty P = (n : ℕ) × P n
MeetsDemand OnlyOne P = (n : ℕ) × P n × ((m : ℕ) → P m → m ≡ n)
MeetsDemand (SecondIs k) P = P k × (n : ℕ) × (n < k) × P n × ((m : ℕ) → m < k → P m → m ≡ n)
MeetsDemand Impossible P = ⊥

-- there are no more numbers than the ask estimates
abbrev pub IsFewFor : Numbers → Ask → Type 0
IsFewFor N (Estimates how m) = len N ≤ m.estimate
IsFewFor N ask = ⊤

-- ---- groups, ids and texts

-- the fact says that there is no such group: it says so, or lists all that match and not this one
abbrev pub denies_group : Name → Fact → Bool
denies_group name (ThereIsNo g) = is_same g name
denies_group name (GroupsAre p lines) = option_map_or (λ w. matches_name w name) p true && not (list_any (λ line. is_same line.name name) lines)
denies_group name fact = false

-- the number of an overview with an id
abbrev pub number_of_overview : Id → OverviewValue → Option ℕ
number_of_overview id o = if is_same o.id id then Some o.number else None

-- the number that a fact shows for an id of a group; of overviews the first with the id
abbrev pub number_in : Name → Id → Fact → Option ℕ
number_in name id (IdAt g n other) = if is_same g name && is_same other id then Some n else None
number_in name id (OverviewsAre g range overviews) = if is_same g name then first_given (number_of_overview id) overviews else None
number_in name id fact = None

-- the fact shows that the id has an article: the id stands at a number, a success names it, or an overview has it
abbrev pub shows_article : Id → Fact → Bool
shows_article id (IdAt name n other) = is_same other id
shows_article id (TextIs what other lines) = is_same other id
shows_article id (FieldsAre overviews) = has_overview_of id overviews
shows_article id (OverviewsAre name range overviews) = has_overview_of id overviews
shows_article id fact = false

-- the fact says that the id has no article
abbrev pub denies_article : Id → Fact → Bool
denies_article id (NoArticle other) = is_same other id
denies_article id fact = false

-- what facts give is one, wherever they give it
abbrev pub GiveOne : {A : Type 0} → (Fact → Option A) → List Fact → Type 0
GiveOne f facts = AllByRecursion (λ fact. IfSome (f fact) (λ x. first_given f facts ≡ Some x)) facts
