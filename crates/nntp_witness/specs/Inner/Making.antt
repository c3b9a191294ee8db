-- How far the given spool is made: the groups, the numbers and the articles that are left.
use Rattle.std.specs.Prelude.{◌≡◌, ◌≢◌, ℕ, ◌<◌, ◌^◌, ◌==◌, ◌⊎◌, false, if◌then◌else◌, IsTrue, IsFalse, List, [], ◌∷◌, ◌++◌, map, Option, None, Some, is_some}
use Rattle.std.specs.{Prelude.{IsSome, unwrap_or, Result, Ok, Err}, List.{AllByRecursion, flat_map, list_any, Sorted.{IsStrictlySortedBy}}, Ordering.{nat_cmp}}
use Rattle.std.specs.{Cmp.Lexicographic.{slice_cmp}, FinMap.{get}}
use Rattle.nntp_wire.specs.declared.limit.Limit.{Limit}
use Rattle.nntp_article.specs.{Article.{Parts.{Id}, Fields.{made_head}}, Session.{Machine.{is_same}, Spool.{Spool, Name, Numbers, Text, IsGroup, IsNumber}}}
use Rattle.nntp_article.specs.Session.Spool.{numbers}
use Rattle.nntp_said.specs.Facts.{Fact}
use Rattle.nntp_theory.specs.{Given.{id_shown, is_mentioned, invented, AreInvented}, Together.{shows_article}}
use Rattle.nntp_kept.specs.Inner.Readers.{ShownGroup, HasShownNumbers}
use Rattle.nntp_kept_articles.specs.Inner.Readers.{ShownArticle, IsShownArticle}
use Rattle.nntp_store.specs.{Inner.Building.{Building}, declared.value.spool_fault.SpoolFault.{SpoolFault, TheVariants.{Memory}}}

-- the outcome of making something: it is so, or memory was refused
abbrev pub Makes : {A : Type 0} → Result A SpoolFault → (A → Type 0) → Type 0
Makes (Ok made) P = P made
Makes (Err fault) P = fault ≡ Memory

-- ---- what is to be made

-- a number that isn't shown, if there is one: no id is shown for it
abbrev pub unseen_number : Option ℕ → List (ℕ × Option Id)
unseen_number None = []
unseen_number (Some n) = (n, None) ∷ []

-- the numbers that are given of a group, ascending: the least, if it isn't shown; those that are shown; and the greatest, if it is neither
abbrev pub given_numbers : ShownGroup → List (ℕ × Option Id)
given_numbers g = unseen_number g.unseen ++ (g.numbers ++ unseen_number g.unseen_high)

-- the ids of those of the numbers for which none is shown
abbrev pub unshown_at : Numbers → List (ℕ × Option Id) → List Id
unshown_at N [] = []
unshown_at N (e ∷ es) = (if is_some e.1 then [] else unwrap_or (get N e.0) [] ∷ []) ++ unshown_at N es

-- the ids of those numbers of groups for which none is shown
abbrev pub unshown_of : Spool → List ShownGroup → List Id
unshown_of G groups = flat_map (λ g. unshown_at (numbers G g.name) (given_numbers g)) groups

-- the article that is given where this is shown of it
abbrev pub given_text : ShownArticle → Text
given_text a = record { head = unwrap_or a.head (made_head a.id a.fields); body = unwrap_or a.body [] }

-- ---- what is made

-- what is made is part of the spool, and has an article for each id that it has at a number for which none is shown
pub record IsPart (facts : List Fact) (G made : Spool) : Type 0 where
  pub groups : (name : Name) → IsGroup made name → IsGroup G name
  pub articles : (id : Id) (t : Text) → get made.articles id ≡ Some t → get G.articles id ≡ Some t
  pub unshown : (name : Name) (n : ℕ) (id : Id) → get (numbers made name) n ≡ Some id → id_shown facts name n ≡ None → IsSome (get made.articles id)
  pub numbers : (name : Name) (n : ℕ) (id : Id) → get (numbers made name) n ≡ Some id → get (numbers G name) n ≡ Some id

-- a part of the spool is made, by a builder of this limit that hasn't failed, and its articles are those of ids that were invented with numbers below `next`
pub record IsBegun (limit : Limit) (facts : List Fact) (G : Spool) (builder : Building) (next : ℕ) : Type 0 where
  pub limit_is : builder.limit ≡ limit
  pub is_whole : builder.failed ≡ false
  pub part : IsPart facts G builder.spool
  pub invented_before : (id : Id) → IsSome (get builder.spool.articles id) → (k : ℕ) × (k < next) × (id ≡ invented k) × IsFalse (is_mentioned facts id)
  pub small : next < 2 ^ 64

-- these groups are left: nothing of them is made, and the others are whole
pub record GroupsLeft (limit : Limit) (facts : List Fact) (G : Spool) (left : List ShownGroup) (builder : Building) (next : ℕ) : Type 0 where
  pub begun : IsBegun limit facts G builder next
  pub to_invent : AreInvented facts next (unshown_of G left)
  pub shown : AllByRecursion (HasShownNumbers facts) left
  pub ascending : IsStrictlySortedBy (slice_cmp nat_cmp) (map (λ g. g.name) left)
  pub of_spool : AllByRecursion (λ g. IsGroup G g.name) left
  pub not_made : AllByRecursion (λ g. get builder.spool.groups g.name ≡ None) left
  pub others : (name : Name) → IsTrue (list_any (λ g. is_same g.name name) left) ⊎ (get builder.spool.groups name ≡ get G.groups name)

-- these numbers of a group are left, each with its id, where one is shown, and then these ids are to be invented; the other groups are as they were
pub record NumbersLeft (limit : Limit) (facts : List Fact) (G before : Spool) (name : Name) (behind : List Id) (left : List (ℕ × Option Id)) (builder : Building) (next : ℕ) : Type 0 where
  pub begun : IsBegun limit facts G builder next
  pub to_invent : AreInvented facts next (unshown_at (numbers G name) left ++ behind)
  pub is_group : IsGroup builder.spool name
  pub ascending : IsStrictlySortedBy nat_cmp (map (λ e. e.0) left)
  pub of_group : AllByRecursion (λ e. IsNumber (numbers G name) e.0 × (e.1 ≡ id_shown facts name e.0)) left
  pub not_made : AllByRecursion (λ e. get (numbers builder.spool name) e.0 ≡ None) left
  pub others : (n : ℕ) → IsNumber (numbers G name) n → IsTrue (list_any (λ e. e.0 == n) left) ⊎ IsNumber (numbers builder.spool name) n
  pub other_groups : (other : Name) → other ≢ name → get builder.spool.groups other ≡ get before.groups other

-- all groups are made, and these articles are left of those that are shown
pub record ArticlesLeft (limit : Limit) (facts : List Fact) (G : Spool) (left : List ShownArticle) (builder : Building) : Type 0 where
  pub limit_is : builder.limit ≡ limit
  pub is_whole : builder.failed ≡ false
  pub part : IsPart facts G builder.spool
  pub groups : builder.spool.groups ≡ G.groups
  pub shown : AllByRecursion (IsShownArticle facts) left
  pub ascending : IsStrictlySortedBy (slice_cmp nat_cmp) (map (λ a. a.id) left)
  pub of_spool : AllByRecursion (λ a. IsSome (get G.articles a.id)) left
  pub not_made : AllByRecursion (λ a. get builder.spool.articles a.id ≡ None) left
  pub others : (id : Id) → IsTrue (list_any (shows_article id) facts) → IsTrue (list_any (λ a. is_same a.id id) left) ⊎ IsSome (get builder.spool.articles id)
