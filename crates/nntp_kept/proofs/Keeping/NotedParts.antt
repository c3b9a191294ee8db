-- What is kept in all, where the parts of an answer are noted.
use Rattle.nntp_kept.proofs.Base.{◌≡◌, ℕ, Bool, List, [], ◌∷◌, Option, None, Some, sym, subst, ◌∙◌, arith, ◌↔◌, IfSome, AllByRecursion, Id, Lists, ActiveValue}
use Rattle.nntp_kept.proofs.Base.{OverviewValue, Range, Ask, Fact, OverviewsAre, GroupsAre, IsWellFormed, Together, Join, MayList, OfGroup, OfArticle, Saying}
use Rattle.nntp_kept.proofs.Base.{facts_in, AreListed, IsToExist, MayBeOf, Tells, MaySay, overviews_facts, Kept, IsTextOf, MayBeSaid, ArticleJoins}
use Rattle.nntp_kept.proofs.Keeping.OverviewsTold.{plain_told, plain_if, group_there, of_range, overviews_told, no_id_there, asks_there}
use Rattle.nntp_kept.{proofs.Keeping.PartsJoin.{parts_join}, specs.Inner.{Kept.{AreAdded}, KeptSaying.{JoinGroups, MayListOf}, Saying.{group_of_overviews}}}

-- what has the same parts is the same
pub kept_is : (a b : Kept) → a.groups ≡ b.groups → a.names ≡ b.names → a.articles ≡ b.articles → a ≡ b
kept_is a b groups names articles = λ i. record { groups = groups i; names = names i; articles = articles i }

-- what may be said of an id, with the group or without
pub may_be_said : (group : Option OfGroup) (a : Option (Id × OfArticle)) → IfSome a (MayBeOf group) → IfSome a MayBeSaid
may_be_said group a may = grind arith

-- the text of the id that a number has is that of the id that has an article
pub texts_of : (text : Option Id) (article : Option (Id × OfArticle)) (group : Option OfGroup) → ((id : Id) → IsToExist article id → text ≡ Some id)
    → IfSome group (λ g. IfSome g.id (λ e. IsToExist article e.1)) → IfSome group (λ g. IsTextOf text g.id)
texts_of text article group is placed = grind arith

-- ---- where groups are listed

-- so what is added of it is added
pub list_added : (facts more : List Fact) (s : Saying) (wildmat : Option (List ℕ)) (lines : List ActiveValue) (lists : Lists) (old new : Kept) (does : Bool) → s.groups ≡ Some (wildmat, lines)
    → AreListed s lists → Tells facts s more → AllByRecursion IsWellFormed more
    → (AllByRecursion IsWellFormed (GroupsAre wildmat lists.groups ∷ []) → MayList wildmat lists.groups → AreAdded facts (GroupsAre wildmat lists.groups ∷ []) old new does)
    → AreAdded facts more old new does
list_added facts more s wildmat lines lists old new does is listed t formed adds = grind arith

-- ---- where overviews are

-- the saying lists overviews of the group
overviews_are_of : (s : Saying) (g : OfGroup) → group_of_overviews s ≡ Some g → (o : Range × List OverviewValue) × (s.overviews ≡ Some o) × (s.group ≡ Some g)
overviews_are_of s g e = grind (arith, e)

-- or none
pub lists_none : (facts : List Fact) (s : Saying) (asks : List Ask) → MaySay facts s asks → group_of_overviews s ≡ None → s.overviews ≡ None
lists_none facts s asks may e = plain_if facts s asks may (λ o is. let g = group_there facts s asks may o is in grind (arith, e, is, g.1))

-- so what is added of them is added
pub overviews_added : (facts more : List Fact) (s : Saying) (g : OfGroup) (lists : Lists) (old new : Kept) (does : Bool) → group_of_overviews s ≡ Some g → AreListed s lists
    → Tells facts s more → AllByRecursion IsWellFormed more
    → ((range : Range) → AllByRecursion IsWellFormed (overviews_facts (Some g) (range, lists.overviews)) → MayListOf facts g range lists.overviews
    → AreAdded facts (overviews_facts (Some g) (range, lists.overviews)) old new does)
    → AreAdded facts more old new does
overviews_added facts more s g lists old new does e listed t formed adds =
    let (o, is, named) = overviews_are_of s g e in
    let of = of_range facts s t.asks t.may o is in
    let asked = asks_there facts s t.asks t.may o is g named in
    let whole : OverviewsAre g.name o.0 o.1 ∷ [] ≡ more = sym (overviews_told facts s t.asks t.may o is g named) ∙ t.same in
    let same : lists.overviews ≡ o.1 = subst (λ o. IfSome o (λ o. lists.overviews ≡ o.1)) is listed.1 in
    let id = no_id_there facts s t.asks t.may o is g named in
    let may : MayListOf facts g o.0 lists.overviews = grind (arith, t.may.shown, t.may.numbers, of, named, asked, same, id) in
    grind (arith, adds o.0, may, whole, same, formed)

-- ---- where nothing is listed

module _ (facts more : List Fact) (s : Saying) (no_list : s.groups ≡ None) (plain : s.overviews ≡ None) (t : Tells facts s more)
    (together : Together facts) (formed : AllByRecursion IsWellFormed more) where
  -- the parts tell all
  pub parts_tell : facts_in s t.asks ≡ more
  parts_tell = sym (plain_told facts s t.asks t.may plain) ∙ t.same

  -- all joins exactly if the groups do and the article does
  pub joins : Join facts more ↔ (JoinGroups facts s t.asks × ArticleJoins facts s.article)
  joins = grind (arith, parts_join facts s t.asks no_list t.may together (subst (AllByRecursion IsWellFormed) (sym parts_tell) formed), parts_tell)
