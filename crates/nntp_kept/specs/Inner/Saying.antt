-- What an answer says of the spool, in parts (RFC 3977, sections 6 and 7.6.3).
use Rattle.std.specs.Prelude.{◌≡◌, ℕ, true, IsTrue, List, [], ◌∷◌, ◌++◌, map, Option, None, Some, option_map, unwrap_or, IfSome, MatchOption, ⊤, ◌⊎◌}
use Rattle.std.specs.Option.{option_map_or}
use Rattle.nntp_article.specs.{Article.Parts.{Id}, Session.{Spool.{Name}, Machine.{Visible, head_fits, overview_numbers, only}}, Inner.Listed.{Lists}}
use Rattle.nntp_wire.specs.{declared.range.Range.{Range}, Answer.{Response, sends}, Listing.{ActiveValue, OverviewValue}}
use Rattle.nntp_said.specs.{Asks.{Ask, ListsIn, Has}, Facts.{Fact, ThereIs, ThereIsNo, Asks, IdAt, TextIs, NoArticle, FieldsAre, OverviewsAre, GroupsAre}}
use Rattle.nntp_said.specs.Facts.{group_of}
use Rattle.nntp_theory.specs.Given.{is_shown_group}
use Rattle.nntp_numbers.specs.Inner.{Part.{Said, Says}, PartOf.{nothing_said, part_with}, Summary.{AreBounded}}
use Rattle.nntp_kept.specs.Inner.{ListedGroups.{MayList}, ListedOverviews.{HaveOwn}}
use Rattle.nntp_kept_articles.specs.Inner.ArticleSaid.{OfArticle, IsToExist, Lacks, Exists, Sends, Describes}

-- what is said of one group: of its numbers, and the id at a number, if one is shown
pub record OfGroup : Type 0 where
  pub name : Name
  pub numbers : Said
  pub id : Option (ℕ × Id)

-- all that an answer says: that there is such a group, or none; what it says of the numbers of one group, and of an id; the
-- overviews of those in a range; and the groups that match
pub record Saying : Type 0 where
  pub there_is : Option Name
  pub there_is_no : Option Name
  pub group : Option OfGroup
  pub article : Option (Id × OfArticle)
  pub overviews : Option (Range × List OverviewValue)
  pub groups : Option (Option (List ℕ) × List ActiveValue)

-- ---- as facts

-- the number is there at which an id is shown
abbrev pub asked_id : Option (ℕ × Id) → List Ask
asked_id None = []
asked_id (Some e) = Has e.0 ∷ []

-- what is sent of an article, or told of it
abbrev pub sent_facts : Option (Id × OfArticle) → List Fact
sent_facts (Some (id, Sends what lines)) = TextIs what id lines ∷ []
sent_facts (Some (id, Describes overviews)) = FieldsAre overviews ∷ []
sent_facts article = []

-- the id has no article
abbrev pub lack_facts : Option (Id × OfArticle) → List Fact
lack_facts (Some (id, Lacks)) = NoArticle id ∷ []
lack_facts article = []

-- the id at a number of the group
abbrev pub id_facts : Name → Option (ℕ × Id) → List Fact
id_facts name None = []
id_facts name (Some e) = IdAt name e.0 e.1 ∷ []

-- what is asked of the numbers of the group, and the id at a number
abbrev pub group_facts : Option OfGroup → List Ask → List Fact
group_facts None asks = []
group_facts (Some g) asks = map (Asks g.name) asks ++ id_facts g.name g.id

-- there is such a group
abbrev pub there_facts : Option Name → List Fact
there_facts None = []
there_facts (Some name) = ThereIs name ∷ []

-- there is no such group
abbrev pub missing_facts : Option Name → List Fact
missing_facts None = []
missing_facts (Some name) = ThereIsNo name ∷ []

-- the groups that match
abbrev pub groups_facts : Option (Option (List ℕ) × List ActiveValue) → List Fact
groups_facts None = []
groups_facts (Some l) = GroupsAre l.0 l.1 ∷ []

-- all that is said where no overviews are, and this is asked of the numbers of the group
abbrev pub facts_in : Saying → List Ask → List Fact
facts_in s asks = sent_facts s.article ++ (there_facts s.there_is ++ (group_facts s.group asks ++ (missing_facts s.there_is_no ++ (lack_facts s.article ++ groups_facts s.groups))))

-- the overviews of numbers of the group
abbrev pub overviews_facts : Option OfGroup → Range × List OverviewValue → List Fact
overviews_facts None o = []
overviews_facts (Some g) o = OverviewsAre g.name o.0 o.1 ∷ []

-- all that is said, where this is asked of the numbers of the group: overviews, or else the other parts
abbrev pub facts_told : Saying → List Ask → List Fact
facts_told s asks = option_map_or (overviews_facts s.group) s.overviews (facts_in s asks)

-- the group of whose numbers overviews are said, if any are
abbrev pub group_of_overviews : Saying → Option OfGroup
group_of_overviews s = option_map_or (λ o. s.group) s.overviews None

-- ---- made of facts

-- nothing
abbrev pub nothing : Saying
nothing = record { there_is = None; there_is_no = None; group = None; article = None; overviews = None; groups = None }

-- what is said of the group, or nothing yet of this one
abbrev pub begun : Option OfGroup → Name → OfGroup
begun (Some g) name = g
begun None name = record { name = name; numbers = nothing_said; id = None }

-- an ask is said of the group too
abbrev pub with_ask : List ℕ → Ask → OfGroup → OfGroup
with_ask shown ask g = record g { numbers = part_with shown ask g.numbers }

-- the id at a number is said too; where nothing is asked of the numbers, that the number is there
abbrev pub with_id : List ℕ → Option OfGroup → Name → ℕ → Id → OfGroup
with_id shown (Some g) name n id = record g { id = Some (n, id) }
with_id shown None name n id = record { name = name; numbers = part_with shown (Has n) nothing_said; id = Some (n, id) }

-- and that the id has an article, where nothing is sent of it
abbrev pub placed : Option (Id × OfArticle) → Id → Id × OfArticle
placed (Some a) id = a
placed None id = (id, Exists)

-- and what overviews tell of the article of the first, if there is one
abbrev pub told_of : Option (Id × OfArticle) → List OverviewValue → Option (Id × OfArticle)
told_of a [] = a
told_of a (o ∷ overviews) = Some (o.id, Describes (o ∷ overviews))

-- one more fact is said; the numbers that the answer shows are given
abbrev pub saying_with : List ℕ → Fact → Saying → Saying
saying_with shown (ThereIs name) s = record s { there_is = Some name }
saying_with shown (ThereIsNo name) s = record s { there_is_no = Some name }
saying_with shown (Asks name ask) s = record s { group = Some (with_ask shown ask (begun s.group name)) }
saying_with shown (IdAt name n id) s = record s { group = Some (with_id shown s.group name n id); article = Some (placed s.article id) }
saying_with shown (TextIs what id lines) s = record s { article = Some (id, Sends what lines) }
saying_with shown (NoArticle id) s = record s { article = Some (id, Lacks) }
saying_with shown (FieldsAre overviews) s = record s { article = told_of s.article overviews }
saying_with shown (OverviewsAre name r os) s = record s { group = Some (with_ask shown (ListsIn r (overview_numbers os)) (begun s.group name)); overviews = Some (r, os) }
saying_with shown (GroupsAre p lines) s = record s { groups = Some (p, lines) }

-- all of these are said
abbrev pub saying_by : List ℕ → Saying → List Fact → Saying
saying_by shown s [] = s
saying_by shown s (fact ∷ facts) = saying_by shown (saying_with shown fact s) facts

-- ---- what is known of it, where the answer fits

-- the group was shown; or it is shown now, and no number from 2^64 on is left open
abbrev pub IsShownThen : List Fact → Option Name → List Ask → Name → Type 0
IsShownThen facts there_is asks name = (is_shown_group facts name ≡ true) ⊎ ((there_is ≡ Some name) × AreBounded asks)

-- an id of which nothing is sent is at a number of the group; where a head is sent, it is one; and an overview is the only one, and that of the id
abbrev pub MayBeOf : Option OfGroup → Id × OfArticle → Type 0
MayBeOf group (id, Lacks) = ⊤
MayBeOf group (id, Exists) = MatchOption group ⊥ (λ g. MatchOption g.id ⊥ (λ e. e.1 ≡ id))
MayBeOf group (id, Sends what lines) = IsTrue (head_fits what id lines)
MayBeOf group (id, Describes overviews) = MatchOption (only overviews) ⊥ (λ o. o.id ≡ id)

-- nothing is said beside the groups that match
pub record IsAlone (s : Saying) : Type 0 where
  pub there_is : s.there_is ≡ None
  pub there_is_no : s.there_is_no ≡ None
  pub group : s.group ≡ None
  pub article : s.article ≡ None
  pub overviews : s.overviews ≡ None

-- the overviews are those of the numbers that are listed in the range, each with an id of its own, and nothing is said beside them
pub record AreOfRange (s : Saying) (asks : List Ask) (o : Range × List OverviewValue) : Type 0 where
  pub lists : asks ≡ ListsIn o.0 (overview_numbers o.1) ∷ []
  pub own : HaveOwn o.1
  pub group : MatchOption s.group ⊥ (λ g. g.id ≡ None)
  pub there_is : s.there_is ≡ None
  pub there_is_no : s.there_is_no ≡ None
  pub article : s.article ≡ None
  pub groups : s.groups ≡ None

-- an answer that fits says it behind these facts, and asks this of the numbers of the group
pub record MaySay (facts : List Fact) (s : Saying) (asks : List Ask) : Type 0 where
  pub numbers : IfSome s.group (λ g. Says g.numbers (asks ++ asked_id g.id))
  pub shown : IfSome s.group (λ g. IsShownThen facts s.there_is asks g.name)
  pub there : IfSome s.there_is (λ name. MatchOption s.group ⊥ (λ g. g.name ≡ name))
  pub placed : IfSome s.group (λ g. IfSome g.id (λ e. IsToExist s.article e.1))
  pub article : IfSome s.article (MayBeOf s.group)
  pub overviews : IfSome s.overviews (AreOfRange s asks)
  pub groups : IfSome s.groups (λ l. MayList l.0 l.1 × IsAlone s)

-- the saying tells these facts, behind those before
pub record Tells (facts : List Fact) (s : Saying) (more : List Fact) : Type 0 where
  pub asks : List Ask
  pub same : facts_told s asks ≡ more
  pub may : MaySay facts s asks

-- the saying tells these facts, and its group is the one of whose numbers they speak: it says that there is such a group, or this one is selected
pub record TellsHere (selected : Name) (facts : List Fact) (s : Saying) (more : List Fact) : Type 0 where
  pub tells : Tells facts s more
  pub group : option_map (λ g. g.name) s.group ≡ group_of more
  pub there : IfSome s.group (λ g. (s.there_is ≡ Some g.name) ⊎ (g.name ≡ selected))

-- the saying tells these facts behind all others that show the selected group, if there is one
abbrev pub TellsThere : Option Name → Saying → List Fact → Type 0
TellsThere selected s more = (facts : List Fact) → IfSome selected (λ name. is_shown_group facts name ≡ true) → TellsHere (unwrap_or selected []) facts s more

-- the selected group, if there is one, is shown
abbrev pub IsSelectedShown : Visible → List Fact → Type 0
IsSelectedShown v facts = IfSome v.selected (λ name. is_shown_group facts name ≡ true)

-- these are the groups that match and the overviews of a range, if the saying lists them
abbrev pub AreListed : Saying → Lists → Type 0
AreListed s lists = IfSome s.groups (λ l. lists.groups ≡ l.1) × IfSome s.overviews (λ o. lists.overviews ≡ o.1)

-- the numbers that an answer shows: the one that it gives, or those that it lists
abbrev pub numbers_shown : List ℕ → Response → List ℕ
numbers_shown listed (sends sent) = sent.number ∷ []
numbers_shown listed response = listed
