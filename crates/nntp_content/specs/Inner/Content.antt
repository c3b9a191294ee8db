-- What is said with the words of `Content.antt`, and needn't be believed.
use Rattle.std.specs.{Prelude.{◌≡◌, ℕ, true, if◌then◌else◌, List, Option, Some, IsSome}, List.{list_all, count_by}, FinMap.{get, insert, empty, entries}}
use Rattle.nntp_wire.specs.{Decided.{is_group_name, is_message_id}, Inner.Decided.{is_asked}}
use Rattle.nntp_article.specs.{Article.Parts.{Id}, Session.{Spool.{Name, Spool, Numbers, Text, numbers, is_line}, Machine.{is_article_number}}}
use Rattle.nntp_content.specs.{Numbers.{has_id}, Content.{with_group, is_head_of}}

-- a group's numbers with one more, if its id is not among theirs
abbrev pub with_number_in : Spool → Name → ℕ → Id → Spool
with_number_in S name n id = if has_id (numbers S name) id then S else with_group S name (insert (numbers S name) n id)

abbrev pub without_articles : Spool → Spool
without_articles S = record S { articles = empty }

-- how many groups match the wildmat, or how many there are without one
abbrev pub asked_count : Spool → Option (List ℕ) → ℕ
asked_count S p = count_by (λ e. is_asked p e.0) (entries S.groups)

-- each id of a number has an article
abbrev pub IdsHaveArticles : Spool → Type 0
IdsHaveArticles S = (name : Name) (n : ℕ) (id : Id) → get (numbers S name) n ≡ Some id → IsSome (get S.articles id)

-- the numbers of a group are 1 to the limit, each with an id of its own
pub record AreNumbers (limit : ℕ) (N : Numbers) : Type 0 where
  pub each : (n : ℕ) (id : Id) → get N n ≡ Some id → (is_article_number limit n ≡ true) × (is_message_id id ≡ true)
  pub one_to_one : (n m : ℕ) (id : Id) → get N n ≡ Some id → get N m ≡ Some id → n ≡ m

-- the numbers are those of a group, and the name is a group name
pub record IsNamed (limit : ℕ) (name : Name) (N : Numbers) : Type 0 where
  pub is_name : is_group_name name ≡ true
  pub numbers : AreNumbers limit N

-- the text is that of an article of this id
pub record IsArticle (id : Id) (t : Text) : Type 0 where
  pub is_id : is_message_id id ≡ true
  pub head : is_head_of id t.head ≡ true
  pub head_lines : list_all is_line t.head ≡ true
  pub body_lines : list_all is_line t.body ≡ true

pub record IsContent (limit : ℕ) (S : Spool) : Type 0 where
  pub groups : (name : Name) (N : Numbers) → get S.groups name ≡ Some N → IsNamed limit name N
  pub articles : (id : Id) (t : Text) → get S.articles id ≡ Some t → IsArticle id t
