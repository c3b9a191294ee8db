-- What the readers of articles show.
use Rattle.std.specs.{Prelude.{◌≡◌, Bool, List, map, Option}, List.{list_any, AllByRecursion, Sorted.{IsStrictlySortedBy}}, Ordering.{nat_cmp}}
use Rattle.std.specs.{Cmp.Lexicographic.{slice_cmp}, FinMap.{FinMap, entries}}
use Rattle.nntp_article.specs.{Article.Parts.{Id, Line}, Session.Machine.{is_same}}
use Rattle.nntp_wire.specs.Listing.{Fields}
use Rattle.nntp_said.specs.Facts.{Fact}
use Rattle.nntp_theory.specs.{Given.{is_sent, first_given, head_in, fields_in, body_in}, Together.{shows_article}}
use Rattle.nntp_kept_articles.specs.Inner.Articles.{KeptArticle, articles_in}

-- what is shown of an article: whether a success names it, its head and its body, where they were sent, and what is told of four headers, by a head or an overview
pub record ShownArticle : Type 0 where
  pub id : Id
  pub is_sent : Bool
  pub head : Option (List Line)
  pub fields : Option Fields
  pub body : Option (List Line)

-- ---- that it is what the facts say

-- what is sent and told of an article is what the facts say of its id
pub record IsShownArticle (facts : List Fact) (a : ShownArticle) : Type 0 where
  pub sent : a.is_sent ≡ is_sent facts a.id
  pub head : a.head ≡ first_given (head_in a.id) facts
  pub fields : a.fields ≡ first_given (fields_in a.id) facts
  pub body : a.body ≡ first_given (body_in a.id) facts

-- the articles are those of the ids that are shown to have one, in byte order of the ids
pub record AreShownArticles (facts : List Fact) (articles : List ShownArticle) : Type 0 where
  pub ascending : IsStrictlySortedBy (slice_cmp nat_cmp) (map (λ a. a.id) articles)
  pub all : (id : Id) → list_any (λ a. is_same a.id id) articles ≡ list_any (shows_article id) facts
  pub each : AllByRecursion (IsShownArticle facts) articles

-- ---- where it is read off what is kept

-- what is shown of an article that is kept
abbrev pub shown_article : Id → KeptArticle → ShownArticle
shown_article id a = record { id = id; is_sent = a.is_sent; head = a.head; fields = a.fields; body = a.body }

-- what is shown of the articles that are kept, one after the other
abbrev pub articles_shown_in : List (Id × KeptArticle) → List ShownArticle
articles_shown_in entries = map (λ e. shown_article e.0 e.1) (articles_in entries)

-- what is shown of all articles that are kept
abbrev pub shown_articles : FinMap (slice_cmp nat_cmp) KeptArticle → List ShownArticle
shown_articles articles = articles_shown_in (entries articles)
