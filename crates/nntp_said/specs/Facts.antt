-- What each answer of a session says of the spool, with the current article read off the session.
use Rattle.std.specs.{List.{AllByRecursion}, Prelude.{◌≡◌, ℕ, ◌==◌, if◌then◌else◌, List, [], ◌∷◌, ◌++◌, Option, None, Some, unwrap_or}, Option.{option_map_or}}
use Rattle.std.specs.FinMap.{get}
use Rattle.nntp_article.specs.Session.{Spool.{Spool, IsGroup, numbers, HasText, Name}, Machine.{Visible, visible_after, ActivesAgree, is_one_of, none_in_range}}
use Rattle.nntp_article.specs.{Session.Machine.{HasOverview, ListsOverviews, only}, Article.Parts.{Id, Line}}
use Rattle.nntp_said.specs.Asks.{position_after, Ask, Meets, Estimates, ListsIn, Lacks, StandsAt, StandsNowhere, StepsUp, StepsDown, IsTop, IsBottom}
use Rattle.nntp_said.specs.declared.position.Position.{Position}
use Rattle.nntp_wire.specs.{Listing.{ActiveValue, OverviewValue, listed_numbers, active_groups, overviews_of}, declared.marks.Marks.{Marks}}
use Rattle.nntp_wire.specs.{declared.{range.Range.{Range}, command.What.{What}}, Command.{Request, Target, Overviewed, by_id, by_number, current, group, next}}
use Rattle.nntp_wire.specs.{Command.{last, retrieve, list_group, list_active, over, the_id, in_range, the_current}, Answer.{Asked, Response, Success, to}}
use Rattle.nntp_wire.specs.Answer.{group_is, numbers_are, sends, active_are, overviews_are, plain}

-- one thing that an answer says of the spool
pub data Fact : Type 0 where
  ThereIs : (name : Name) → Fact  -- there is such a group
  ThereIsNo : (name : Name) → Fact  -- there is no such group
  Asks : (name : Name) → (ask : Ask) → Fact  -- this is asked of the numbers of the group
  IdAt : (name : Name) → (number : ℕ) → (id : Id) → Fact  -- the group gives the id at the number
  TextIs : (what : What) → (id : Id) → (lines : Option (List Line)) → Fact  -- the id has an article, of which these lines are sent
  NoArticle : (id : Id) → Fact  -- the id has no article
  FieldsAre : (overviews : List OverviewValue) → Fact  -- the id of each has an article, whose head tells the same
  OverviewsAre : (name : Name) → (range : Range) → (overviews : List OverviewValue) → Fact  -- the overviews of the numbers of the group in the range are these, and each is that of its article
  GroupsAre : (wildmat : Option (List ℕ)) → (lines : List ActiveValue) → Fact  -- the groups that match are these

-- the fact holds of the spool
abbrev pub Holds : Spool → Fact → Type 0
Holds S (ThereIs name) = IsGroup S name
Holds S (ThereIsNo name) = get S.groups name ≡ None
Holds S (Asks name ask) = Meets (numbers S name) ask
Holds S (IdAt name n id) = get (numbers S name) n ≡ Some id
Holds S (TextIs what id lines) = HasText S what id lines
Holds S (NoArticle id) = get S.articles id ≡ None
Holds S (FieldsAre overviews) = AllByRecursion (HasOverview S) overviews
Holds S (OverviewsAre name range overviews) = ListsOverviews S (numbers S name) range overviews
Holds S (GroupsAre p lines) = ActivesAgree S p lines

-- the fact is said, if the code is the expected one
abbrev pub on : ℕ → ℕ → Fact → List Fact
on code expected fact = if code == expected then fact ∷ [] else []

-- the selected group; no group has the empty name
abbrev pub here : Visible → Name
here v = unwrap_or v.selected []

-- what an answer of a code alone says
abbrev pub facts_of_code : Visible → Position → Request → ℕ → List Fact
facts_of_code v at (group word) code = on code 411 (ThereIsNo word)
facts_of_code v at (list_group (Some word) range) code = on code 411 (ThereIsNo word)
facts_of_code v at next code = on code 420 (Asks (here v) (StandsNowhere at)) ++ on code 421 (Asks (here v) (IsTop at))
facts_of_code v at last code = on code 420 (Asks (here v) (StandsNowhere at)) ++ on code 422 (Asks (here v) (IsBottom at))
facts_of_code v at (retrieve what (by_id word)) code = on code 430 (NoArticle word)
facts_of_code v at (retrieve what (by_number (Some n))) code = on code 423 (Asks (here v) (Lacks n))
facts_of_code v at (retrieve what current) code = on code 420 (Asks (here v) (StandsNowhere at))
facts_of_code v at (over keyword (the_id word)) code = on code 430 (NoArticle word)
facts_of_code v at (over keyword (in_range range)) code = if is_one_of (none_in_range keyword) code then Asks (here v) (ListsIn range []) ∷ [] else []
facts_of_code v at (over keyword the_current) code = on code 420 (Asks (here v) (StandsNowhere at))
facts_of_code v at command code = []

-- where an article stands of which this was asked: nowhere in the group, if it was asked for by its id and the number is 0
abbrev pub facts_of_place : Visible → Position → Target → ℕ → Id → List Fact
facts_of_place v at (by_id word) number id = if number == 0 then [] else IdAt (here v) number id ∷ []
facts_of_place v at (by_number n) number id = IdAt (here v) number id ∷ []
facts_of_place v at current number id = Asks (here v) (StandsAt at number) ∷ IdAt (here v) number id ∷ []

-- what a success of ARTICLE, HEAD, BODY or STAT says
abbrev pub facts_of_article : Visible → Position → What → Target → Success → List Fact
facts_of_article v at what which sent = TextIs what sent.id sent.block ∷ facts_of_place v at which sent.number sent.id

-- what the overview of one article says
abbrev pub facts_of_overview : Visible → Position → Target → OverviewValue → List Fact
facts_of_overview v at which o = FieldsAre (o ∷ []) ∷ facts_of_place v at which o.number o.id

-- what overviews say: those of a range that they are all, and the only one of another command what its article tells
abbrev pub facts_of_overviews : Visible → Position → Overviewed → List OverviewValue → List Fact
facts_of_overviews v at (in_range range) overviews = OverviewsAre (here v) range overviews ∷ []
facts_of_overviews v at (the_id word) overviews = option_map_or (facts_of_overview v at (by_id word)) (only overviews) []
facts_of_overviews v at the_current overviews = option_map_or (facts_of_overview v at current) (only overviews) []

-- what an answer says of the spool, where marks are read so
abbrev pub facts_of : Marks → Visible → Position → Asked → Response → List Fact
facts_of how v at (to command) (plain code) = facts_of_code v at command code
facts_of how v at (to (group word)) (group_is m name) = ThereIs name ∷ Asks name (Estimates how m) ∷ []
facts_of how v at (to (list_group word range)) (numbers_are m name lines) = ThereIs name ∷ Asks name (Estimates how m) ∷ Asks name (ListsIn range (listed_numbers lines)) ∷ []
facts_of how v at (to next) (sends sent) = Asks (here v) (StepsUp at sent.number) ∷ IdAt (here v) sent.number sent.id ∷ []
facts_of how v at (to last) (sends sent) = Asks (here v) (StepsDown at sent.number) ∷ IdAt (here v) sent.number sent.id ∷ []
facts_of how v at (to (retrieve what which)) (sends sent) = facts_of_article v at what which sent
facts_of how v at (to (list_active p)) (active_are lines) = GroupsAre p (active_groups lines) ∷ []
facts_of how v at (to (over keyword which)) (overviews_are lines) = facts_of_overviews v at which (overviews_of lines)
facts_of how v at asked response = []

-- the group of whose numbers facts speak, if they do: all facts of one answer speak of one
abbrev pub group_of : List Fact → Option Name
group_of [] = None
group_of (ThereIs name ∷ facts) = Some name
group_of (Asks name ask ∷ facts) = Some name
group_of (IdAt name n id ∷ facts) = Some name
group_of (OverviewsAre name range overviews ∷ facts) = Some name
group_of (fact ∷ facts) = group_of facts

-- what answers say, from a visible state and a position on
abbrev pub facts_from : Marks → Visible → Position → List Asked → List Response → List Fact
facts_from how v at [] answers = []
facts_from how v at (asked ∷ ps) [] = []
facts_from how v at (asked ∷ ps) (response ∷ more) =
    facts_of how v at asked response ++ facts_from how (visible_after v asked response) (position_after at asked response) ps more
