-- What an answer says of an id, what that has to join, and what is kept then.
use Rattle.std.specs.{Prelude.{◌≡◌, true, IsTrue, List, Option, None, Some, MatchOption, ⊤, Bool, if◌then◌else◌}, Option.{option_map_or}, List.{list_any}}
use Rattle.std.specs.{Ordering.{nat_cmp}, Cmp.Lexicographic.{slice_cmp}, FinMap.{FinMap, get}}
use Rattle.nntp_article.specs.{Article.Parts.{Id, Line}, Session.Machine.{head_fits, only, is_same}}
use Rattle.nntp_wire.specs.{declared.command.What.{What}, Listing.{OverviewValue}}
use Rattle.nntp_said.specs.Facts.{Fact}
use Rattle.nntp_theory.specs.{Inner.Together.{SaidOfArticle, said_of, said_nothing, join_said, JoinArticle}, Together.{shows_article}}
use Rattle.nntp_kept_articles.specs.Inner.Articles.{KeptArticle, said_kept, IsAddedIf, head_sent, body_sent, denied, unsent, telling, with_sent}

-- what is said of an id: that it has no article; that it has one; that a success names it, and sends these lines; or that it has an article of which this is the overview
pub data OfArticle : Type 0 where
  Lacks : OfArticle
  Exists : OfArticle
  Sends : (what : What) → (lines : Option (List Line)) → OfArticle
  Describes : (overviews : List OverviewValue) → OfArticle

-- the id is said to have an article
abbrev pub IsToExist : Option (Id × OfArticle) → Id → Type 0
IsToExist None id = ⊥
IsToExist (Some (other, Lacks)) id = ⊥
IsToExist (Some (other, said)) id = other ≡ id

-- ---- where the answer fits

-- where no more is said of an id than that it has an article, it was said before that it has
abbrev pub IsThereAlready : List Fact → Option (Id × OfArticle) → Type 0
IsThereAlready facts (Some (id, Exists)) = IsTrue (list_any (shows_article id) facts)
IsThereAlready facts article = ⊤

-- the lines are a head, where a head is sent; and the overview is the only one, and that of the id, where one is
abbrev pub MayBeSaid : Id × OfArticle → Type 0
MayBeSaid (id, Sends what lines) = IsTrue (head_fits what id lines)
MayBeSaid (id, Describes overviews) = MatchOption (only overviews) ⊥ (λ o. o.id ≡ id)
MayBeSaid a = ⊤

-- what is kept of an id of which this alone is said
abbrev pub kept_by : OfArticle → KeptArticle
kept_by Lacks = denied
kept_by Exists = unsent
kept_by (Sends what lines) = with_sent unsent (head_sent what lines) (body_sent what lines)
kept_by (Describes overviews) = telling true (option_map_or (λ o. o.told) (only overviews) None)

-- what is said of each id, where of one alone this is
abbrev pub said_alone : Id → KeptArticle → Id → SaidOfArticle
said_alone other a id = if is_same other id then said_kept (Some a) else said_nothing

-- what is said of each id, where this is said of one
abbrev pub said_in : Option (Id × OfArticle) → Id → SaidOfArticle
said_in None id = said_nothing
said_in (Some a) id = said_alone a.0 (kept_by a.1) id

-- ---- how it joins

-- what is said of ids joins what was said
abbrev pub SaidJoins : List Fact → (Id → SaidOfArticle) → Type 0
SaidJoins facts said = (id : Id) → JoinArticle (said_of facts id) (said id)

-- once it is said too, this is kept
abbrev pub IsSaidKept : List Fact → (Id → SaidOfArticle) → FinMap (slice_cmp nat_cmp) KeptArticle → Type 0
IsSaidKept facts said articles = (id : Id) → join_said (said_of facts id) (said id) ≡ said_kept (get articles id)

-- it is added, if it joins
abbrev pub IsSaidAdded : List Fact → (Id → SaidOfArticle) → FinMap (slice_cmp nat_cmp) KeptArticle → FinMap (slice_cmp nat_cmp) KeptArticle → Bool → Type 0
IsSaidAdded facts said old new does = IsAddedIf (SaidJoins facts said) (IsSaidKept facts said) old new does

-- the same of what is said of one id
abbrev pub ArticleJoins : List Fact → Option (Id × OfArticle) → Type 0
ArticleJoins facts article = SaidJoins facts (said_in article)

abbrev pub IsArticleAdded : List Fact → Option (Id × OfArticle) → FinMap (slice_cmp nat_cmp) KeptArticle → FinMap (slice_cmp nat_cmp) KeptArticle → Bool → Type 0
IsArticleAdded facts article old new does = IsSaidAdded facts (said_in article) old new does
