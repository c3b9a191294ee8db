-- What is kept of articles, and how one more fact fits in with it.
use Rattle.std.specs.{Prelude.{◌≡◌, ◌||◌, Bool, true, false, not, if◌then◌else◌, List, [], ◌∷◌, Option, None, Some, is_some, option_map}, List.{filter}}
use Rattle.std.specs.{Option.{option_or, option_map_or}, Ordering.{nat_cmp}, Cmp.Lexicographic.{slice_cmp}, FinMap.{FinMap, get, insert}}
use Rattle.nntp_wire.specs.{declared.command.What.{What, TheVariants.{Article, Head, Body}}, Listing.{Fields}}
use Rattle.nntp_article.specs.Article.{Parts.{head_part, body_part, Id, Line}, Fields.{fields_of_head}}
use Rattle.nntp_theory.specs.Inner.Together.{AreSame, SaidOfArticle, said_of, said_nothing}
use Rattle.nntp_said.specs.Facts.{Fact}

-- ---- what is kept of an id

-- what is kept of an id: whether it is denied, whether a success names it, what was sent of its article, and what was told of four headers
pub record KeptArticle : Type 0 where
  pub is_denied : Bool
  pub is_sent : Bool
  pub head : Option (List Line)
  pub fields : Option Fields
  pub body : Option (List Line)

-- what facts say of an id of which this is kept, or nothing
abbrev pub said_kept : Option KeptArticle → SaidOfArticle
said_kept None = said_nothing
said_kept (Some a) = record {
  is_mentioned = true;
  is_shown = not a.is_denied;
  is_denied = a.is_denied;
  is_sent = a.is_sent;
  head = a.head;
  fields = a.fields;
  body = a.body;
}

-- what is said of each id is kept
abbrev pub AreKeptArticles : List Fact → FinMap (slice_cmp nat_cmp) KeptArticle → Type 0
AreKeptArticles facts articles = (id : Id) → said_of facts id ≡ said_kept (get articles id)

-- ---- what is added

-- what is new has something added, if it may be added, and else is what was old
abbrev pub IsAddedIf : {K : Type 0} → Type 0 → (K → Type 0) → K → K → Bool → Type 0
IsAddedIf May Has old new true = May × Has new
IsAddedIf May Has old new false = (May → ⊥) × (new ≡ old)

-- ---- what is sent of an article

-- the head that a success sends
abbrev pub head_sent : What → Option (List Line) → Option (List Line)
head_sent Article (Some lines) = Some (head_part lines)
head_sent Head (Some lines) = Some lines
head_sent what lines = None

-- the body that a success sends
abbrev pub body_sent : What → Option (List Line) → Option (List Line)
body_sent Article (Some lines) = Some (body_part lines)
body_sent Body (Some lines) = Some lines
body_sent what lines = None

-- a head and a body may be sent of an article of which a is kept
abbrev pub MayBeSent : KeptArticle → Option (List Line) → Option (List Line) → Type 0
MayBeSent a head body = (a.is_denied ≡ false) × AreSame head a.head × AreSame (option_map fields_of_head head) a.fields × AreSame body a.body

-- fields may be told of it by an overview
abbrev pub MayBeTold : KeptArticle → Option Fields → Type 0
MayBeTold a told = (a.is_denied ≡ false) × AreSame told a.fields

-- ---- what is kept then

-- what is kept of an id that has no article
abbrev pub denied : KeptArticle
denied = record { is_denied = true; is_sent = false; head = None; fields = None; body = None }

-- what is kept of an id that has an article, of which nothing was sent and nothing told
abbrev pub unsent : KeptArticle
unsent = record { is_denied = false; is_sent = false; head = None; fields = None; body = None }

-- what is kept of an id of which an overview alone tells this, if it tells of headers: one that was asked for by itself, or of a range
abbrev pub telling : Bool → Option Fields → KeptArticle
telling is_sent told = record { is_denied = false; is_sent = is_sent; head = None; fields = told; body = None }

-- what is kept of an article after a success: of each part what was sent first
abbrev pub with_sent : KeptArticle → Option (List Line) → Option (List Line) → KeptArticle
with_sent a head body = record {
  is_denied = a.is_denied;
  is_sent = true;
  head = option_or a.head head;
  fields = option_or a.fields (option_map fields_of_head head);
  body = option_or a.body body;
}

-- what is kept of an article after an overview tells this
abbrev pub with_told : KeptArticle → Bool → Option Fields → KeptArticle
with_told a is_sent told = record a { is_sent = a.is_sent || is_sent; fields = option_or a.fields told }

-- an id of which o is kept has an article
abbrev pub is_there : Option KeptArticle → Bool
is_there o = option_map_or (λ a. not a.is_denied) o false

-- a is kept of the id, if nothing is kept of it yet
abbrev pub with_new : FinMap (slice_cmp nat_cmp) KeptArticle → Id → KeptArticle → FinMap (slice_cmp nat_cmp) KeptArticle
with_new articles id a = if is_some (get articles id) then articles else insert articles id a

-- each of the ids is denied, if nothing is kept of it yet
abbrev pub with_denied : FinMap (slice_cmp nat_cmp) KeptArticle → List Id → FinMap (slice_cmp nat_cmp) KeptArticle
with_denied articles [] = articles
with_denied articles (id ∷ ids) = with_new (with_denied articles ids) id denied

-- the ids that have articles, of all that are kept
abbrev pub articles_in : List (Id × KeptArticle) → List (Id × KeptArticle)
articles_in entries = filter (λ e. not e.1.is_denied) entries
