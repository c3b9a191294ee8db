-- When the parts of an answer join what was said, and what is kept then.
use Rattle.nntp_kept.proofs.Base.{◌≡◌, ℕ, true, false, cond, List, [], ◌∷◌, ◌++◌, Option, None, Some, is_some, MatchOption, refl, sym, ap, subst, ◌∙◌, arith}
use Rattle.nntp_kept.proofs.Base.{true≢false, or_left, or_right, list_any-append, ◌↔◌, IsFalse, IfSome, option_map_or, option_or, AllByRecursion, list_any}
use Rattle.nntp_kept.proofs.Base.{same_text, Id, Name, is_same, only, OverviewValue, Ask, Fact, asks_of, is_shown_group, first_given, id_in, IsWellFormed}
use Rattle.nntp_kept.proofs.Base.{AgreesWithItself, said_of, said_nothing, join_said, Together, JoinNumbers, JoinIds, JoinArticle, Join, denies_group}
use Rattle.nntp_kept.proofs.Base.{number_in, given_append, asks_append, same_itself, all_both, AreBounded, Says, OfGroup, OfArticle, Exists, Describes, Saying}
use Rattle.nntp_kept.proofs.Base.{asked_id, sent_facts, lack_facts, id_facts, group_facts, facts_in, MaySay, IsToExist, MayBeOf, told, IsUntold, AreKeptGroups}
use Rattle.nntp_kept.proofs.Base.{with_part, Changes, Agree, IsShownAt, id_of, place_of, GroupJoins, ArticleJoins, Bool, IsTrue, JoinNames, alone_agrees}
use Rattle.nntp_kept.proofs.{Base.{agree_together, shown_with_id}, Keeping.FactsOfOneGroup.{numbers_join, no_numbers_join, GiveNoIds, ids_join, told_same}}
use Rattle.nntp_kept.proofs.Keeping.{FactsOfOneGroup.{AskOf, asked_here, asked_elsewhere, GivesId, gives_joins, same_told}, KeptGroups.{Groups}}
use Rattle.nntp_kept.proofs.Keeping.FactsOfParts.{IsRead, asks_of_group, ids_in, of_articles, group_asks, shown_group, denied_group, group_gives}
use Rattle.nntp_kept.specs.Inner.KeptSaying.{JoinGroups}
use Rattle.nntp_kept_articles.{proofs.SaidOfArticles.{nothing_more, said_append, overview_said, said_at}, specs.Inner.ArticleSaid.{said_in}}

-- ---- articles

-- what facts say of an id is read off them one list behind the other
said_is_read : (id : Id) → IsRead (λ facts. said_of facts id) join_said said_nothing
said_is_read id = record { none = refl; append = λ facts more. said_append facts more id; left = λ s. refl; right = nothing_more }

-- of each id the facts of the article's part, and the id at a number, say what that part does
of_part : (a : Option (Id × OfArticle)) (name : Name) (e : Option (ℕ × Id)) → IfSome e (λ e. IsToExist a e.1) → ((other : Id) → a ≡ Some (other, Exists) → MatchOption e ⊥ (λ e. e.1 ≡ other))
    → ((other : Id) (os : List OverviewValue) → a ≡ Some (other, Describes os) → MatchOption (only os) ⊥ (λ o. o.id ≡ other)) → (id : Id)
    → join_said (said_of (sent_facts a) id) (join_said (said_of (id_facts name e) id) (said_of (lack_facts a) id)) ≡ said_in a id
of_part (Some (other, Exists)) name None placed may one id = absurd (may other refl)
of_part (Some (other, Describes os)) name d placed may one id = grind (arith, nothing_more, overview_said other os (one other os refl) id, said_at other (Describes os))
of_part s name d placed may one id = grind (arith, nothing_more, said_at)

-- an overview agrees with itself, as it is the only one
part_agrees : (group : Option OfGroup) (a : Option (Id × OfArticle)) → IfSome a (MayBeOf group) → AllByRecursion AgreesWithItself (sent_facts a)
part_agrees group (Some (id, Describes (o ∷ []))) may = (alone_agrees o, tt)
part_agrees group a may = grind arith

-- of the parts none is a list of overviews of a range
parts_agree : (s : Saying) (asks : List Ask) → IfSome s.article (MayBeOf s.group) → AllByRecursion AgreesWithItself (facts_in s asks)
parts_agree s asks may =
    all_both AgreesWithItself (sent_facts s.article) _ (part_agrees s.group s.article may) (grind (arith, of s.group asks))
  where
    of : (g : Option OfGroup) (asks : List Ask) (more : List Fact) → AllByRecursion AgreesWithItself more → AllByRecursion AgreesWithItself (group_facts g asks ++ more)
    of None asks more h = h
    of (Some g) [] more h = grind arith
    of (Some g) (ask ∷ asks) more h = (tt, of (Some g) asks more h)

-- ids and numbers of what is told agree where facts stand together
pub agree_told : (facts : List Fact) → Together facts → (name : Name) (id : Option (ℕ × Id)) → Agree (told facts name).ids (told facts name).places id
agree_told facts t name None = tt
agree_told facts t name (Some e) = agree_together facts name e.0 e.1 t.lists (t.ids_once name e.1)

-- an id that is told at a number is at a number that is shown
pub shown_told : (facts : List Fact) (name : Name) (id : Option (ℕ × Id)) → IsShownAt (told facts name) id
shown_told facts name None = tt
shown_told facts name (Some e) = λ at. shown_with_id facts name e.0 (ap is_some at)

module _ (facts : List Fact) (s : Saying) (asks : List Ask) (may : MaySay facts s asks) (g : OfGroup) (is : s.group ≡ Some g) where
  -- what is said of the group is what is asked of it
  pub says_then : Says g.numbers (asks ++ asked_id g.id)
  says_then = subst (λ o. IfSome o (λ (g : OfGroup). Says g.numbers (asks ++ asked_id g.id))) is may.numbers

  -- no number from 2^64 on is left open in a group that wasn't shown
  pub bounded_then : is_shown_group facts g.name ≡ false → AreBounded (asks ++ asked_id g.id)
  bounded_then not_shown n large = grind (arith, true≢false, list_any-append, or_left)

module _ (facts : List Fact) (s : Saying) (asks : List Ask) (no_list : s.groups ≡ None) (may : MaySay facts s asks) where
  be_of : (a : Id × OfArticle) → s.article ≡ Some a → MayBeOf s.group a
  be_of a is = subst (λ a. IfSome a (MayBeOf s.group)) is may.article

  -- of each id all facts say what the article's part does
  pub said_of_parts : (id : Id) → said_of (facts_in s asks) id ≡ said_in s.article id
  said_of_parts id =
      of_articles (λ facts. said_of facts id) join_said said_nothing (said_is_read id) s asks no_list (λ name. refl) (λ name. refl) (λ name ask. refl)
      ∙ by s.group may.placed (λ other. be_of (other, Exists))
    where
      by : (g : Option OfGroup) → IfSome g (λ g. IfSome g.id (λ e. IsToExist s.article e.1))
          → ((other : Id) → s.article ≡ Some (other, Exists) → MatchOption g ⊥ (λ g. MatchOption g.id ⊥ (λ e. e.1 ≡ other)))
          → join_said (said_of (sent_facts s.article) id) (join_said (said_of (ids_in g) id) (said_of (lack_facts s.article) id)) ≡ said_in s.article id
      by None placed at = of_part s.article [] None tt at (λ other os. be_of (other, Describes os)) id
      by (Some g) placed at = of_part s.article g.name g.id placed at (λ other os. be_of (other, Describes os)) id

  -- ---- groups

  -- what is asked, and the ids at numbers, are those of the group
  pub group_is : (g : OfGroup) → s.group ≡ Some g → AskOf g.name (asks ++ asked_id g.id) (facts_in s asks) × GivesId g.name g.id (facts_in s asks)
  group_is g is = (
    λ name. grind (arith, asks_of_group s asks no_list name, group_asks name g asks, is),
    record { ids = λ name n. grind (arith, given_append, is, (group_gives g asks).ids name n); places = λ name id. grind (arith, given_append, is, (group_gives g asks).places name id) },
  )

  -- or there are none
  pub no_group_is : s.group ≡ None → ((name : Name) → asks_of name (facts_in s asks) ≡ []) × GiveNoIds (facts_in s asks)
  no_group_is none = grind arith

  -- ---- all of it

  names_join : JoinNames facts (facts_in s asks) ↔ (IfSome s.there_is (λ name. IsFalse (list_any (denies_group name) facts)) × IfSome s.there_is_no (λ name. IsFalse (is_shown_group facts name)))
  names_join =
      let there = named s.there_is (is_shown_group (facts_in s asks)) (λ name. IsFalse (list_any (denies_group name) facts)) (shown_group s asks no_list) in
      let missing = named s.there_is_no (λ name. list_any (denies_group name) (facts_in s asks)) (λ name. IsFalse (is_shown_group facts name)) (denied_group s asks no_list) in
      (λ j. (there.0 j.groups, missing.0 j.no_groups), λ h. record { groups = there.1 h.0; no_groups = missing.1 h.1 })
    where
      named : (o : Option Name) (read : Name → Bool) (P : Name → Type 0) → ((name : Name) → read name ≡ option_map_or (λ g. is_same g name) o false)
          → ((name : Name) → IsTrue (read name) → P name) ↔ IfSome o P
      named None read P is = (λ h. tt, λ h name t. absurd (true≢false (sym t ∙ is name)))
      named (Some g) read P is = (λ h. h g (is g ∙ same_itself g), λ h name t. subst P (same_text g name (sym (sym (is name) ∙ t))) h)

  group_join : Together facts → (JoinNumbers facts (facts_in s asks) × JoinIds facts (facts_in s asks)) ↔ IfSome s.group (GroupJoins facts asks)
  group_join t = by s.group refl
    where
      by : (o : Option OfGroup) → s.group ≡ o → (JoinNumbers facts (facts_in s asks) × JoinIds facts (facts_in s asks)) ↔ IfSome o (GroupJoins facts asks)
      by None none = let says = no_group_is none in (λ j. tt, λ h. (no_numbers_join facts (facts_in s asks) t says.0, ids_join facts (facts_in s asks) says.1))
      by (Some g) is =
          let says = group_is g is in
          let all = asks ++ asked_id g.id in
          let numbers = numbers_join facts (facts_in s asks) g.name all t (asked_here g.name all (facts_in s asks) says.0) (asked_elsewhere g.name all (facts_in s asks) says.0) in
          let ids = gives_joins facts (facts_in s asks) g.name g.id says.1 in
          (λ j. (numbers.0 j.0, ids.0 j.1), λ h. (numbers.1 h.0, ids.1 h.1))

  -- all parts join exactly if each does
  pub parts_join : Together facts → AllByRecursion IsWellFormed (facts_in s asks) → Join facts (facts_in s asks) ↔ (JoinGroups facts s asks × ArticleJoins facts s.article)
  parts_join t formed = (
    λ j. (
      record { there_is = (names_join.0 j.names).0; there_is_no = (names_join.0 j.names).1; group = (group_join t).0 (j.numbers, j.ids) },
      λ id. subst (JoinArticle (said_of facts id)) (said_of_parts id) (j.articles id),
    ),
    λ h. record {
      well_formed = formed;
      lists = parts_agree s asks may.article;
      names = names_join.1 (h.0.there_is, h.0.there_is_no);
      numbers = ((group_join t).1 h.0.group).0;
      ids = ((group_join t).1 h.0.group).1;
      articles = λ id. subst (JoinArticle (said_of facts id)) (sym (said_of_parts id)) (h.1 id);
    },
  )

  -- ---- what is told of groups then

  -- of the group what is said, and of others what was told before
  pub group_changes : (g : OfGroup) → s.group ≡ Some g → Changes (told facts) (told (facts ++ facts_in s asks)) g.name (with_part (told facts g.name) (asks ++ asked_id g.id) g.id)
  group_changes g is = record {
    here = same_told _ _ shown_now (asks_append g.name facts more ∙ ap (λ more. asks_of g.name facts ++ more) (asked_here g.name all more says.0))
        (λ n. given (id_in g.name n) (id_of g.id n) (says.1.ids g.name n)) (λ id. given (number_in g.name id) (place_of g.id id) (says.1.places g.name id));
    elsewhere = λ other apart. told_same facts more other (record {
      not_shown = not_shown other apart;
      no_asks = asked_elsewhere g.name all more says.0 other apart;
      no_ids = λ n. says.1.ids other n ∙ ap (λ b. cond b (id_of g.id n) None) apart;
      no_places = λ id. says.1.places other id ∙ ap (λ b. cond b (place_of g.id id) None) apart;
    });
  }
    where
      more : List Fact
      more = facts_in s asks

      all : List Ask
      all = asks ++ asked_id g.id

      says : AskOf g.name all more × GivesId g.name g.id more
      says = group_is g is

      shown_now : is_shown_group (facts ++ more) g.name ≡ true
      shown_now = grind (arith, list_any-append, or_left, or_right, shown_group, same_itself, may.shown, is)

      given : {A : Type 0} (f : Fact → Option A) (o : Option A) → first_given f more ≡ cond (is_same g.name g.name) o None
          → first_given f (facts ++ more) ≡ option_or (first_given f facts) o
      given f o is = grind (arith, given_append, same_itself g.name)

      -- only the group that is said to be there is shown
      not_shown : (other : Name) → is_same g.name other ≡ false → is_shown_group more other ≡ false
      not_shown other apart = grind (arith, shown_group s asks no_list other, may.there, is)

  -- ---- what is kept of groups then

  -- where nothing is said of a group, what is kept is so still
  pub groups_alike : s.group ≡ None → (groups : Groups) → AreKeptGroups facts groups → AreKeptGroups (facts ++ facts_in s asks) groups
  groups_alike none groups kept name =
      let nothing : IsUntold (told (facts_in s asks) name) = grind arith in
      search told_same
