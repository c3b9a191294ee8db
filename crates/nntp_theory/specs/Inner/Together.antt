-- What is said with the words of `Together.antt`, and needn't be believed.
use Rattle.std.specs.{Prelude.{◌≡◌, ℕ, Bool, false, ◌||◌, IsTrue, IsFalse, List, ◌++◌, Option, None, Some, IfSome, ⊤}, List.{AllByRecursion, list_any}}
use Rattle.std.specs.Option.{option_or}
use Rattle.nntp_wire.specs.{Name.{IsGroupName, IsMessageId}, Listing.{OverviewValue, Fields}}
use Rattle.nntp_article.specs.{Article.Parts.{Id, Line}, Session.Spool.{Name, Numbers, is_line}, Inner.Fields.{TellsWords}}
use Rattle.nntp_said.specs.{Asks.{Ask}, Facts.{Fact, ThereIs, IdAt, TextIs, FieldsAre, OverviewsAre, GroupsAre}}
use Rattle.nntp_theory.specs.Given.{demand, is_denied, IsGivenNumber, HasGivenNumbers, asks_of, is_shown_group, first_given, id_of_overview, id_in}
use Rattle.nntp_theory.specs.{Given.{is_mentioned, is_sent, head_in, fields_of_overview, fields_in, body_in}, Together.{is_possible, MeetsDemand, IsFewFor}}
use Rattle.nntp_theory.specs.Together.{denies_group, number_of_overview, number_in, shows_article, denies_article, GiveOne}

-- ---- the numbers of one group

-- what is asked of one group stands together: each ask can be met, and the given numbers aren't denied, meet the demand, and are as few as is estimated
pub record AsksStand (asks : List Ask) : Type 0 where
  pub possible : AllByRecursion (λ ask. IsTrue (is_possible ask)) asks
  pub not_denied : (n : ℕ) → IsGivenNumber asks n → IsFalse (is_denied asks n)
  pub demand_met : MeetsDemand (demand asks) (IsGivenNumber asks)
  pub few : (N : Numbers) → HasGivenNumbers asks N → AllByRecursion (IsFewFor N) asks

-- ---- groups, ids and texts

-- the id and the words of the overview are such
abbrev pub IsProperOverview : OverviewValue → Type 0
IsProperOverview o = IsMessageId o.id × TellsWords o

-- the names, ids and lines of the fact are names, ids and lines
abbrev pub IsWellFormed : Fact → Type 0
IsWellFormed (ThereIs name) = IsGroupName name
IsWellFormed (IdAt name n id) = IsMessageId id
IsWellFormed (TextIs what id lines) = IsMessageId id × IfSome lines (λ lines. AllByRecursion (λ line. IsTrue (is_line line)) lines)
IsWellFormed (FieldsAre overviews) = AllByRecursion IsProperOverview overviews
IsWellFormed (OverviewsAre name range overviews) = AllByRecursion IsProperOverview overviews
IsWellFormed (GroupsAre p lines) = AllByRecursion (λ line. IsGroupName line.name) lines
IsWellFormed fact = ⊤

-- for the id of the overview they tell what it tells, if it does
abbrev pub TellsOwn : List OverviewValue → OverviewValue → Type 0
TellsOwn overviews o = IfSome o.told (λ fields. first_given (fields_of_overview o.id) overviews ≡ Some fields)

-- overviews agree with one another: for the id of each they tell its own fields; and in a range they show at its number its own id, and for its id its own number
abbrev pub AgreesWithItself : Fact → Type 0
AgreesWithItself (FieldsAre overviews) = AllByRecursion (TellsOwn overviews) overviews
AgreesWithItself (OverviewsAre name range overviews) =
    AllByRecursion (λ o. (first_given (id_of_overview o.number) overviews ≡ Some o.id) × (first_given (number_of_overview o.id) overviews ≡ Some o.number) × TellsOwn overviews o) overviews
AgreesWithItself fact = ⊤

-- what is said stands together: nothing is both shown and denied, and what is shown twice is shown alike
pub record Together (facts : List Fact) : Type 0 where
  pub well_formed : AllByRecursion IsWellFormed facts
  pub lists : AllByRecursion AgreesWithItself facts
  pub groups : (name : Name) → IsTrue (is_shown_group facts name) → IsFalse (list_any (denies_group name) facts)
  pub numbers : (name : Name) → AsksStand (asks_of name facts)
  pub ids : (name : Name) (n : ℕ) → GiveOne (id_in name n) facts
  pub ids_once : (name : Name) (id : Id) → GiveOne (number_in name id) facts
  pub articles : (id : Id) → IsTrue (list_any (shows_article id) facts) → IsFalse (list_any (denies_article id) facts)
  pub heads : (id : Id) → GiveOne (head_in id) facts
  pub fields : (id : Id) → GiveOne (fields_in id) facts
  pub bodies : (id : Id) → GiveOne (body_in id) facts

-- what facts say agrees with one another, but for what they ask of numbers
pub record AgreeWithin (facts : List Fact) : Type 0 where
  pub groups : (name : Name) → IsTrue (is_shown_group facts name) → IsFalse (list_any (denies_group name) facts)
  pub ids : (name : Name) (n : ℕ) → GiveOne (id_in name n) facts
  pub ids_once : (name : Name) (id : Id) → GiveOne (number_in name id) facts
  pub articles : (id : Id) → IsTrue (list_any (shows_article id) facts) → IsFalse (list_any (denies_article id) facts)
  pub heads : (id : Id) → GiveOne (head_in id) facts
  pub fields : (id : Id) → GiveOne (fields_in id) facts
  pub bodies : (id : Id) → GiveOne (body_in id) facts

-- ---- what is said of an id

-- what facts say of an id: whether they mention it, show that it has an article, or deny that, and whether a success
-- names it; the head and the body that are sent first; and what is told first of four headers
pub record SaidOfArticle : Type 0 where
  pub is_mentioned : Bool
  pub is_shown : Bool
  pub is_denied : Bool
  pub is_sent : Bool
  pub head : Option (List Line)
  pub fields : Option Fields
  pub body : Option (List Line)

abbrev pub said_of : List Fact → Id → SaidOfArticle
said_of facts id = record {
  is_mentioned = is_mentioned facts id;
  is_shown = list_any (shows_article id) facts;
  is_denied = list_any (denies_article id) facts;
  is_sent = is_sent facts id;
  head = first_given (head_in id) facts;
  fields = first_given (fields_in id) facts;
  body = first_given (body_in id) facts;
}

-- nothing is said of the id
abbrev pub said_nothing : SaidOfArticle
said_nothing = record { is_mentioned = false; is_shown = false; is_denied = false; is_sent = false; head = None; fields = None; body = None }

-- what is said of an id in all, where more is said behind what was
abbrev pub join_said : SaidOfArticle → SaidOfArticle → SaidOfArticle
join_said before more = record {
  is_mentioned = before.is_mentioned || more.is_mentioned;
  is_shown = before.is_shown || more.is_shown;
  is_denied = before.is_denied || more.is_denied;
  is_sent = before.is_sent || more.is_sent;
  head = option_or before.head more.head;
  fields = option_or before.fields more.fields;
  body = option_or before.body more.body;
}

-- ---- more facts

-- what is given twice is the same
abbrev pub AreSame : {A : Type 0} → Option A → Option A → Type 0
AreSame more before = IfSome more (λ x. IfSome before (λ y. x ≡ y))

-- what more facts give is what was given before, if anything was
abbrev pub GiveSame : {A : Type 0} → (Fact → Option A) → List Fact → List Fact → Type 0
GiveSame f facts more = AreSame (first_given f more) (first_given f facts)

-- the groups that more facts show aren't denied, and those that they deny aren't shown
pub record JoinNames (facts more : List Fact) : Type 0 where
  pub groups : (name : Name) → IsTrue (is_shown_group more name) → IsFalse (list_any (denies_group name) facts)
  pub no_groups : (name : Name) → IsTrue (list_any (denies_group name) more) → IsFalse (is_shown_group facts name)

-- what more facts ask of each group stands together with what was asked
abbrev pub JoinNumbers : List Fact → List Fact → Type 0
JoinNumbers facts more = (name : Name) → AsksStand (asks_of name facts ++ asks_of name more)

-- the ids that more facts give at numbers, and the numbers of ids, were given alike
pub record JoinIds (facts more : List Fact) : Type 0 where
  pub ids : (name : Name) (n : ℕ) → GiveSame (id_in name n) facts more
  pub ids_once : (name : Name) (id : Id) → GiveSame (number_in name id) facts more

-- the article that is shown isn't denied, one that is denied isn't shown, and the head and the body that are sent, and what is told of headers, were so before
pub record JoinArticle (before more : SaidOfArticle) : Type 0 where
  pub shown : IsTrue more.is_shown → IsFalse before.is_denied
  pub denied : IsTrue more.is_denied → IsFalse before.is_shown
  pub head : AreSame more.head before.head
  pub fields : AreSame more.fields before.fields
  pub body : AreSame more.body before.body

-- what more facts say of each id joins what was said of it
abbrev pub JoinArticles : List Fact → List Fact → Type 0
JoinArticles facts more = (id : Id) → JoinArticle (said_of facts id) (said_of more id)

-- more facts join those before
pub record Join (facts more : List Fact) : Type 0 where
  pub well_formed : AllByRecursion IsWellFormed more
  pub lists : AllByRecursion AgreesWithItself more
  pub names : JoinNames facts more
  pub numbers : JoinNumbers facts more
  pub ids : JoinIds facts more
  pub articles : JoinArticles facts more
