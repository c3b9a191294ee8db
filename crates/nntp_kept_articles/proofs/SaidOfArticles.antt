-- What facts say of ids: of two lists, one behind the other, and of single facts.
use Rattle.nntp_kept_articles.proofs.Base.{◌≡◌, true, cond, MatchOption, List, [], ◌∷◌, ◌++◌, Option, None, Some, sym, arith, true≢false, list_any-append}
use Rattle.nntp_kept_articles.proofs.Base.{or-false, OverviewValue, What, Id, Line, is_same, only, Fact, FieldsAre, SaidOfArticle, said_of, said_nothing}
use Rattle.nntp_kept_articles.proofs.Base.{join_said, JoinArticle, given_append, or_none, head_sent, body_sent, telling, Exists, Describes, said_alone}
use Rattle.nntp_kept_articles.{proofs.Base.{OfArticle, IsToExist, TextIs, head_in, body_in}, specs.Inner.ArticleSaid.{said_in}}

-- ---- one list behind the other

pub said_append : (facts more : List Fact) (id : Id) → said_of (facts ++ more) id ≡ join_said (said_of facts id) (said_of more id)
said_append facts more id = grind (arith, list_any-append, given_append)

-- where nothing more is said, what was said is
pub nothing_more : (s : SaidOfArticle) → join_said s said_nothing ≡ s
nothing_more s = grind (arith, or-false, or_none)

-- ---- facts that say nothing of ids

-- nothing joins whatever was said
pub nothing_joins : (s : SaidOfArticle) → JoinArticle s said_nothing
nothing_joins s = record { shown = λ t. absurd (true≢false (sym t)); denied = λ t. absurd (true≢false (sym t)); head = tt; fields = tt; body = tt }

-- ---- single facts

-- the head that a success sends, for its own id
pub head_of_text : (what : What) (other id : Id) (lines : Option (List Line)) → head_in id (TextIs what other lines) ≡ cond (is_same other id) (head_sent what lines) None
head_of_text what other id lines = grind arith

-- and the body
pub body_of_text : (what : What) (other id : Id) (lines : Option (List Line)) → body_in id (TextIs what other lines) ≡ cond (is_same other id) (body_sent what lines) None
body_of_text what other id lines = grind arith

-- an overview that was asked for alone tells of an article
pub overview_said : (other : Id) (os : List OverviewValue) → MatchOption (only os) ⊥ (λ o. o.id ≡ other) → (id : Id) → said_of (FieldsAre os ∷ []) id ≡ said_in (Some (other, Describes os)) id
overview_said other [] is id = absurd is
overview_said other (o ∷ []) is id = grind (arith, is, or_none)
overview_said other (o ∷ p ∷ os) is id = absurd is

-- who sends something of an article, or tells of it, needn't say that its id stands at a number
pub said_at : (other : Id) (a : OfArticle) (id : Id) → IsToExist (Some (other, a)) other
    → join_said (said_in (Some (other, a)) id) (said_in (Some (other, Exists)) id) ≡ said_in (Some (other, a)) id
said_at other a id there = grind (arith, or_none)

-- where only one overview tells, and it is that of the id, all that is said is what it tells
pub first_said : (os : List OverviewValue) (o : OverviewValue) (rest : List OverviewValue) (id : Id) → os ≡ o ∷ rest → MatchOption (only os) ⊥ (λ o. o.id ≡ id)
    → said_alone o.id (telling true o.told) ≡ said_in (Some (id, Describes os))
first_said os o rest id is one = grind (arith, is, one)
