-- What each part of an answer has to join, and what is kept then.
use Rattle.std.specs.Prelude.{◌≡◌, ◌&&◌, ◌==◌, not, ℕ, Bool, true, false, if◌then◌else◌, List, [], ◌∷◌, ◌++◌, Option, None, Some, MatchOption, IfSome, IsTrue}
use Rattle.std.specs.{Prelude.{IsFalse}, List.{list_any}, Option.{option_or, option_map_or}, Ordering.{nat_cmp}, Cmp.Lexicographic.{slice_cmp}, FinMap.{FinMap}}
use Rattle.std.specs.FinMap.{get}
use Rattle.nntp_wire.specs.{Listing.{OverviewValue}, declared.range.Range.{Range}}
use Rattle.nntp_article.specs.{Article.Parts.{Id}, Session.{Spool.{Name}, Machine.{is_same, overview_numbers}}}
use Rattle.nntp_said.specs.{Asks.{Ask, ListsIn}, Facts.{Fact}}
use Rattle.nntp_theory.specs.{Given.{asks_of, is_shown_group, first_given, has_overview_of, fields_of_overview, fields_in}, Inner.Together.{AsksStand}}
use Rattle.nntp_theory.specs.{Inner.Together.{SaidOfArticle, AreSame}, Together.{denies_group, denies_article}}
use Rattle.nntp_numbers.specs.Inner.{Part.{Says, only_has}, Summary.{AddsNothing}}
use Rattle.nntp_kept.specs.Inner.{Saying.{OfGroup, Saying, asked_id}, Kept.{KeptGroup, Told, told, Agree, MayShow, id_of, place_of}, ListedOverviews.{HaveOwn}}
use Rattle.nntp_kept.specs.Inner.ListedOverviews.{id_listed, place_listed}
use Rattle.nntp_kept_articles.specs.Inner.{Articles.{KeptArticle, said_kept}, ArticleSaid.{said_in}}

-- ---- of a group

-- what is asked of it stands together with what was asked, and the number may have the id
abbrev pub GroupJoins : List Fact → List Ask → OfGroup → Type 0
GroupJoins facts asks g = AsksStand (asks_of g.name facts ++ (asks ++ asked_id g.id)) × MayShow (told facts g.name) g.id

-- all that is said was said before: of no id; or that a number is there, with the id that is shown there
abbrev pub HasSaid : KeptGroup → OfGroup → Type 0
HasSaid g p = MatchOption p.id (AddsNothing g.numbers p.numbers) (λ e. (p.numbers ≡ only_has e.0) × (get g.ids e.0 ≡ Some e.1))

-- what is said of names and of a group joins what was said before
pub record JoinGroups (facts : List Fact) (s : Saying) (asks : List Ask) : Type 0 where
  pub there_is : IfSome s.there_is (λ name. IsFalse (list_any (denies_group name) facts))
  pub there_is_no : IfSome s.there_is_no (λ name. IsFalse (is_shown_group facts name))
  pub group : IfSome s.group (GroupJoins facts asks)

-- these overviews may be said of numbers of the group, which is shown
pub record MayListOf (facts : List Fact) (g : OfGroup) (range : Range) (overviews : List OverviewValue) : Type 0 where
  pub shown : is_shown_group facts g.name ≡ true
  pub numbers : Says g.numbers (ListsIn range (overview_numbers overviews) ∷ [])
  pub id : g.id ≡ None
  pub own : HaveOwn overviews

-- what is told of groups, once the numbers of one have the ids of these overviews
abbrev pub with_overviews : (Name → Told) → Name → List OverviewValue → Name → Told
with_overviews tells name overviews other = if is_same name other then record {
  is_shown = true;
  asks = (tells name).asks;
  ids = λ n. option_or ((tells name).ids n) (id_listed overviews n);
  places = λ id. option_or ((tells name).places id) (place_listed overviews id);
} else tells other

-- the test whether the number of an overview may have its id beside what is told of the group, and the id isn't denied
abbrev pub may_give : Told → FinMap (slice_cmp nat_cmp) KeptArticle → OverviewValue → Bool
may_give t articles o = option_map_or (λ other. is_same other o.id) (t.ids o.number) true && option_map_or (λ other. other == o.number) (t.places o.id) true && not
    (option_map_or (λ a. a.is_denied) (get articles o.id) false)

-- it passes, and nothing else is kept of what is told of the article
abbrev pub MayBeGiven : Told → FinMap (slice_cmp nat_cmp) KeptArticle → OverviewValue → Type 0
MayBeGiven t articles o = IsTrue (may_give t articles o) × AreSame o.told (said_kept (get articles o.id)).fields

-- the number of an overview may have its id beside what is told of the group, which is shown, the id isn't denied, and nothing else was told of its article
pub record MayGive (facts : List Fact) (t : Told) (o : OverviewValue) : Type 0 where
  pub shown : t.is_shown ≡ true
  pub agree : Agree t.ids t.places (Some (o.number, o.id))
  pub may : MayShow t (Some (o.number, o.id))
  pub free : IsFalse (list_any (denies_article o.id) facts)
  pub fields : AreSame o.told (first_given (fields_in o.id) facts)

-- the id that a saying shows at a number of its group, by an overview or otherwise
abbrev pub id_said : Saying → Option (ℕ × Id) → ℕ → Option Id
id_said s id n = option_map_or (λ o. id_listed o.1 n) s.overviews (id_of id n)

-- the number at which a saying shows an id of its group
abbrev pub place_said : Saying → Option (ℕ × Id) → Id → Option ℕ
place_said s at id = option_map_or (λ o. place_listed o.1 id) s.overviews (place_of at id)

-- ---- of an id

-- the text is that of the id, where a number is said to have one
abbrev pub IsTextOf : Option Id → Option (ℕ × Id) → Type 0
IsTextOf text id = IfSome id (λ e. text ≡ Some e.1)

-- what overviews of a range say of each id: those have an article that they have, which tells the same
abbrev pub said_listed : List OverviewValue → Id → SaidOfArticle
said_listed overviews id = record {
  is_mentioned = has_overview_of id overviews;
  is_shown = has_overview_of id overviews;
  is_denied = false;
  is_sent = false;
  head = None;
  fields = first_given (fields_of_overview id) overviews;
  body = None;
}

-- what it says of an id: by overviews that it has an article, or otherwise
abbrev pub said_by : Saying → Id → SaidOfArticle
said_by s id = option_map_or (λ o. said_listed o.1 id) s.overviews (said_in s.article id)
