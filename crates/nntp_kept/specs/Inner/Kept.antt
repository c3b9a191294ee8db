-- What is kept of all that a session says: of each group, of each id, and of the names that are no groups.
use Rattle.std.specs.Prelude.{◌≡◌, ℕ, Bool, true, false, ◌||◌, ◌==◌, if◌then◌else◌, List, [], ◌++◌, Option, None, Some, MatchOption, IsTrue, IfSome, is_some}
use Rattle.std.specs.{Option.{option_or}, List.{list_any, count_by, AllByRecursion}, Ordering.{nat_cmp}, Cmp.Lexicographic.{slice_cmp}, FinMap.{FinMap, get}}
use Rattle.std.specs.FinMap.{insert, entries}
use Rattle.nntp_wire.specs.{Inner.Decided.{is_asked}, Decided.{matches_name}, Wildmat.{is_wildmat}}
use Rattle.nntp_article.specs.{Article.Parts.{Id}, Session.{Spool.{Name}, Machine.{is_same}}}
use Rattle.nntp_said.specs.{Asks.{Ask}, Facts.{Fact}}
use Rattle.nntp_theory.specs.{Given.{is_shown, asks_of, is_shown_group, first_given, id_in}, Together.{number_in, denies_group}, Inner.Together.{Join}}
use Rattle.nntp_numbers.specs.Inner.Summary.{Summary, IsSummary, AreBounded}
use Rattle.nntp_kept.specs.{Inner.ListedGroups.{WereListed}, declared.joins.Joins.{Joins, TheVariants.{Never}}}
use Rattle.nntp_kept_articles.specs.Inner.Articles.{KeptArticle, AreKeptArticles, IsAddedIf}

-- ---- what is added

-- what is said joins all before
abbrev pub joins_at_all : Joins → Bool
joins_at_all Never = false
joins_at_all joins = true

-- ---- groups

-- what is kept of a group: its numbers, and the ids that are shown at numbers, both ways
pub record KeptGroup : Type 0 where
  pub numbers : Summary
  pub ids : FinMap nat_cmp Id
  pub places : FinMap (slice_cmp nat_cmp) ℕ

-- what facts say of a group: whether they show it, what they ask of its numbers, and the ids that they give at numbers, both ways
pub record Told : Type 0 where
  pub is_shown : Bool
  pub asks : List Ask
  pub ids : ℕ → Option Id
  pub places : Id → Option ℕ

abbrev pub told : List Fact → Name → Told
told facts name = record {
  is_shown = is_shown_group facts name;
  asks = asks_of name facts;
  ids = λ n. first_given (id_in name n) facts;
  places = λ id. first_given (number_in name id) facts;
}

-- g is kept of what is told of the group, which is shown; no number from 2^64 on is left open
pub record IsKeptGroup (t : Told) (g : KeptGroup) : Type 0 where
  pub shown : t.is_shown ≡ true
  pub bounded : AreBounded t.asks
  pub numbers : IsSummary g.numbers t.asks
  pub ids : (n : ℕ) → get g.ids n ≡ t.ids n
  pub places : (id : Id) → get g.places id ≡ t.places id

-- nothing is told of the group
pub record IsUntold (t : Told) : Type 0 where
  pub not_shown : t.is_shown ≡ false
  pub no_asks : t.asks ≡ []
  pub no_ids : (n : ℕ) → t.ids n ≡ None
  pub no_places : (id : Id) → t.places id ≡ None

-- what is told of each group that is shown is kept, and of other groups nothing is told
abbrev pub AreKept : (Name → Told) → FinMap (slice_cmp nat_cmp) KeptGroup → Type 0
AreKept tells groups = (name : Name) → MatchOption (get groups name) (IsUntold (tells name)) (IsKeptGroup (tells name))

abbrev pub AreKeptGroups : List Fact → FinMap (slice_cmp nat_cmp) KeptGroup → Type 0
AreKeptGroups facts groups = AreKept (told facts) groups

-- how many of the groups match
abbrev pub asked_count : FinMap (slice_cmp nat_cmp) KeptGroup → Option (List ℕ) → ℕ
asked_count groups p = count_by (λ e. is_asked p e.0) (entries groups)

-- where the id is at the number already, the number is that of the id
abbrev pub Agree : (ℕ → Option Id) → (Id → Option ℕ) → Option (ℕ × Id) → Type 0
Agree ids places id = IfSome id (λ e. ids e.0 ≡ Some e.1 → places e.1 ≡ Some e.0)

-- where the id is at the number already, the number is shown
abbrev pub IsShownAt : Told → Option (ℕ × Id) → Type 0
IsShownAt t id = IfSome id (λ e. t.ids e.0 ≡ Some e.1 → IsTrue (is_shown t.asks e.0))

-- the number has no other id, and the id no other number
abbrev pub IsFree : Option Id → Option ℕ → ℕ × Id → Type 0
IsFree at place e = IfSome at (λ other. e.1 ≡ other) × IfSome place (λ other. e.0 ≡ other)

-- the number may have the id, if one is shown
abbrev pub MayHave : FinMap nat_cmp Id → FinMap (slice_cmp nat_cmp) ℕ → Option (ℕ × Id) → Type 0
MayHave ids places id = IfSome id (λ e. IsFree (get ids e.0) (get places e.1) e)

-- the number may have the id, if one is shown, beside what is told of the group
abbrev pub MayShow : Told → Option (ℕ × Id) → Type 0
MayShow t id = IfSome id (λ e. IsFree (t.ids e.0) (t.places e.1) e)

-- the ids at numbers, once this id is shown at this number
abbrev pub ids_with : FinMap nat_cmp Id → Option (ℕ × Id) → FinMap nat_cmp Id
ids_with ids None = ids
ids_with ids (Some e) = insert ids e.0 e.1

abbrev pub places_with : FinMap (slice_cmp nat_cmp) ℕ → Option (ℕ × Id) → FinMap (slice_cmp nat_cmp) ℕ
places_with places None = places
places_with places (Some e) = insert places e.1 e.0

-- the id that is shown at the number, and the number of the id
abbrev pub id_of : Option (ℕ × Id) → ℕ → Option Id
id_of None n = None
id_of (Some e) n = if e.0 == n then Some e.1 else None

abbrev pub place_of : Option (ℕ × Id) → Id → Option ℕ
place_of None id = None
place_of (Some e) id = if is_same e.1 id then Some e.0 else None

-- what is told of a group once this is asked of its numbers, and an id shown at a number
abbrev pub with_part : Told → List Ask → Option (ℕ × Id) → Told
with_part t asks id = record {
  is_shown = true;
  asks = t.asks ++ asks;
  ids = λ n. option_or (t.ids n) (id_of id n);
  places = λ other. option_or (t.places other) (place_of id other);
}

-- what is told of one group is then this, and what is told of others is as before
pub record Changes (before after : Name → Told) (name : Name) (t : Told) : Type 0 where
  pub here : after name ≡ t
  pub elsewhere : (other : Name) → is_same name other ≡ false → after other ≡ before other

-- the groups are kept once this is asked of the numbers of one, and an id shown at a number
abbrev pub AreKeptWith : (Name → Told) → Name → List Ask → Option (ℕ × Id) → FinMap (slice_cmp nat_cmp) KeptGroup → Type 0
AreKeptWith before name asks id groups = (after : Name → Told) → Changes before after name (with_part (before name) asks id) → AreKept after groups

-- ---- names

-- what is kept of names: those that are denied, and for which wildmats, or without one, how many groups were listed
pub record KeptNames : Type 0 where
  pub denied : List Name
  pub wildmats : List (List ℕ × ℕ)
  pub all_listed : Option ℕ

-- the name is denied, if it isn't shown: it is said to be no group, or LIST ACTIVE would have listed it
abbrev pub is_denied_name : KeptNames → Name → Bool
is_denied_name k name = list_any (λ g. is_same g name) k.denied || is_some k.all_listed || list_any (λ e. matches_name e.0 name) k.wildmats

-- the octets are a wildmat, for which so many groups were listed
abbrev pub WasAnswered : List Fact → List ℕ × ℕ → Type 0
WasAnswered facts e = IsTrue (is_wildmat e.0) × WereListed facts (Some e.0) e.1

-- k is kept of what the facts say of names
pub record AreKeptNames (facts : List Fact) (k : KeptNames) : Type 0 where
  pub wildmats : AllByRecursion (WasAnswered facts) k.wildmats
  pub all_listed : IfSome k.all_listed (WereListed facts None)
  pub denied : (name : Name) → is_shown_group facts name ≡ false → list_any (denies_group name) facts ≡ is_denied_name k name

-- ---- the whole

-- what is kept of all that was said
pub record Kept : Type 0 where
  pub groups : FinMap (slice_cmp nat_cmp) KeptGroup
  pub names : KeptNames
  pub articles : FinMap (slice_cmp nat_cmp) KeptArticle

-- k is kept of the facts
pub record IsKept (facts : List Fact) (k : Kept) : Type 0 where
  pub groups : AreKeptGroups facts k.groups
  pub names : AreKeptNames facts k.names
  pub articles : AreKeptArticles facts k.articles

-- more facts are added, if they join those before
abbrev pub AreAdded : List Fact → List Fact → Kept → Kept → Bool → Type 0
AreAdded facts more old new does = IsAddedIf (Join facts more) (IsKept (facts ++ more)) old new does
