-- What holds of a spool stands together.
use Rattle.nntp_theory.proofs.Members.{if_some, at_some, first_is, In, all_at, all_front, all_back, all_both, all_from, any_in, found_in, in_map, from_map}
use Rattle.nntp_theory.proofs.{Members.{contains_in, in_contains, first_found, first_there, all_parts}, Together.ListedOverviews.{overview_at, overview_of}}
use Rattle.nntp_theory.{proofs.{Together.ListedOverviews.{told_by}, GivenNumbers.MetNumbersStand.{asks_stand}}, specs.Given.{asks_of, shows_group}}
use Rattle.nntp_theory.specs.Given.{is_shown_group, first_given, id_of_overview, id_in, id_shown, has_overview_of, head_in, fields_of_overview, fields_in}
use Rattle.nntp_theory.specs.{Given.{body_in, asks_in}, Inner.Together.{IsProperOverview, IsWellFormed, TellsOwn, AgreesWithItself, Together}}
use Rattle.nntp_theory.specs.Together.{denies_group, number_of_overview, number_in, shows_article, denies_article, GiveOne}
use Rattle.std.proofs.Common.{◌≡◌, ℕ, ◌↔◌, Bool, true, cond, IsTrue, List, ◌++◌, map, Option, None, Some, is_some, IsSome, refl, ap, subst, arith, [], ◌∷◌}
use Rattle.std.proofs.lemmas.{Bool.{true≢false, and_parts, eqb-true, eq-eqb, false_from_ne_true, not-true}, List.Elements.{recursion_from_All}}
use Rattle.std.specs.{Prelude.{IfSome, option_map}, List.{AllByRecursion, list_any}, Option.{option_map_or}, Cmp.Lexicographic.{same_text, nat_list_eq_equiv}}
use Rattle.std.specs.FinMap.{get}
use Rattle.nntp_article.specs.{Article.{Parts.{Line, Id, body_part}, Fields.{fields_of_head}}, Session.Spool.{Spool, Text, IsGroup, numbers, IsSpool, HasText}}
use Rattle.nntp_article.specs.{Session.{Spool.{text_of, is_line, Name}, Machine.{is_same, HasOverview, overview_numbers}}, Inner.Fields.{AreWords}}
use Rattle.nntp_article.proofs.ArticleLemmas.{HeadHasNoEmptyLine.{parts}, WordsOfLines.{head_has_words}}
use Rattle.nntp_wire.specs.{Listing.{Fields, ActiveValue, OverviewValue}, Wildmat.{MatchesName}, Decided.{matches_name}, Name.{IsGroupName}}
use Rattle.nntp_wire.{specs.declared.command.What.{What, TheVariants.{Article}}, proofs.DecidedLemmas.{matches_name-iff}}
use Rattle.nntp_said.specs.{Facts.{Fact, Holds, ThereIs, ThereIsNo, IdAt, TextIs, NoArticle, FieldsAre, OverviewsAre, GroupsAre}, Asks.{Ask, Meets, ListsIn}}
use Rattle.nntp_said.specs.Asks.{Has, Bounds}

-- ---- what is asked of one group

-- what is asked under the test of the name
if_same : (S : Spool) (name g : Name) (ask : Ask) → Meets (numbers S g) ask → (b : Bool) → is_same g name ≡ b → AllByRecursion (Meets (numbers S name)) (cond b (ask ∷ []) [])
if_same S name g ask h b e = grind (arith, same_text)

-- what one fact asks of a group
met_by_one : (S : Spool) (name : Name) (fact : Fact) → Holds S fact → AllByRecursion (Meets (numbers S name)) (asks_in name fact)
met_by_one S name (IdAt g n id) h = if_same S name g (Has n) (ap is_some h) (is_same g name) refl
met_by_one S name (OverviewsAre g r os) h = if_same S name g (ListsIn r (overview_numbers os)) h.0 (is_same g name) refl
met_by_one S name (GroupsAre p lines) h =
    let each = recursion_from_All _ lines h.1 in
    all_parts (Meets (numbers S name)) _ lines (λ line i. if_same S name line.name (Bounds line.low line.high) (all_at _ line lines each i) (is_same line.name name) refl)
met_by_one S name fact h = grind (arith, if_same)

-- what all that a session says asks of a group
pub met_by_facts : (S : Spool) (name : Name) (facts : List Fact) → AllByRecursion (Holds S) facts → AllByRecursion (Meets (numbers S name)) (asks_of name facts)
met_by_facts S name facts h = all_parts (Meets (numbers S name)) (asks_in name) facts (λ fact i. met_by_one S name fact (all_at (Holds S) fact facts h i))

-- ---- what facts say

-- a text is the same as itself
pub same_itself : (xs : List ℕ) → is_same xs xs ≡ true
same_itself xs = nat_list_eq_equiv.refl xs

-- a name that is in a list of groups is found there
pub listed : (name : Name) (lines : List ActiveValue) → In name (map (λ line. line.name) lines) → list_any (λ line. is_same line.name name) lines ≡ true
listed name lines i = grind (arith, from_map, any_in, same_itself)

-- and back
pub in_listed : (name : Name) (lines : List ActiveValue) → list_any (λ line. is_same line.name name) lines ≡ true → In name (map (λ line. line.name) lines)
in_listed name lines t =
    let f = found_in (λ line. is_same line.name name) lines t in
    grind (arith, same_text f.0.name name, in_map (λ line. line.name) f.0 lines f.1)

-- the group matches, if there is a wildmat
pub matching : (name : Name) (p : Option (List ℕ)) → option_map_or (λ w. matches_name w name) p true ≡ true ↔ IfSome p (λ w. MatchesName w name)
matching name p = grind (arith, matches_name-iff)

-- what facts give is one, where each of them says it of one thing
give_one : {A : Type 0} (Q : A → Type 0) → ((x y : A) → Q x → Q y → x ≡ y) → (f : Fact → Option A) (facts : List Fact)
    → ((fact : Fact) → In fact facts → (x : A) → f fact ≡ Some x → Q x) → GiveOne f facts
give_one Q one f facts says = all_from _ facts (λ fact i. if_some (f fact) (λ x. first_given f facts ≡ Some x) (first_is Q one f facts says fact i))

module _ (limit : ℕ) (S : Spool) (facts : List Fact) (spool : IsSpool limit S) (holds : AllByRecursion (Holds S) facts) where
  -- a group that a fact shows is S's
  shown_by_one : (name : Name) (fact : Fact) → Holds S fact → shows_group name fact ≡ true → IsGroup S name
  shown_by_one name (ThereIs g) h t = grind (arith, same_text g name)
  shown_by_one name fact h t = grind (arith, contains_in, in_listed)

  -- a group that is shown is S's
  pub group_in_S : (name : Name) → IsTrue (is_shown_group facts name) → IsGroup S name
  group_in_S name t = grind (arith, found_in, shown_by_one, all_at)

  -- and no group of S is denied
  denied_by_one : (name : Name) (fact : Fact) → Holds S fact → IsGroup S name → denies_group name fact ≡ true → ⊥
  denied_by_one name (ThereIsNo g) h there t = grind (arith, same_text g name)
  denied_by_one name fact h there t = grind (arith, and_parts, matching, true≢false, listed, in_contains, not-true)

  -- an id that a fact shows is S's
  id_by_one : (name : Name) (n : ℕ) (id : Id) (fact : Fact) → Holds S fact → id_in name n fact ≡ Some id → get (numbers S name) n ≡ Some id
  id_by_one name n id (IdAt g m other) h e = grind (arith, same_text g name, eqb-true)
  id_by_one name n id (OverviewsAre g r os) h e = let o = overview_at g name r os n id e in grind (arith, all_at _ o.overview os h.1 o.there)
  id_by_one name n id fact h e = cc

  -- an id that is shown is S's
  pub id_in_S : (name : Name) (n : ℕ) (id : Id) → id_shown facts name n ≡ Some id → get (numbers S name) n ≡ Some id
  id_in_S name n id e = grind (arith, first_found, id_by_one, all_at)

  -- and stands at its number
  number_by_one : (name : Name) (id : Id) (n : ℕ) (fact : Fact) → Holds S fact → number_in name id fact ≡ Some n → get (numbers S name) n ≡ Some id
  number_by_one name id n (IdAt g m other) h e = grind (arith, same_text g name, same_text other id)
  number_by_one name id n (OverviewsAre g r os) h e = let o = overview_of g name r os id n e in grind (arith, all_at _ o.overview os h.1 o.there)
  number_by_one name id n fact h e = cc

  -- what is sent of an article in S
  article_of : (what : What) (id : Id) (lines : Option (List Line)) → HasText S what id lines → (t : Text) × (get S.articles id ≡ Some t) × (text_of what t ≡ lines)
  article_of what id lines h = grind arith

  -- the article of an overview
  overview_text : (o : OverviewValue) → HasOverview S o → (t : Text) × (get S.articles o.id ≡ Some t) × IfSome o.told (λ fields. fields_of_head t.head ≡ fields)
  overview_text o h = grind (arith)

  -- the id of one of the overviews has an article
  overview_has : (id : Id) (os : List OverviewValue) → AllByRecursion (HasOverview S) os → has_overview_of id os ≡ true → IsSome (get S.articles id)
  overview_has id os h t =
      let f = found_in (λ o. is_same o.id id) os t in
      grind (arith, same_text f.0.id id, overview_text f.0 (all_at (HasOverview S) f.0 os h f.1))

  -- an id that is shown to have an article has one in S
  article_by_one : (id : Id) (fact : Fact) → Holds S fact → shows_article id fact ≡ true → IsSome (get S.articles id)
  article_by_one id (IdAt name n other) h t = grind (arith, same_text other id, spool.ids_have_articles name n other h)
  article_by_one id (TextIs what other lines) h t = grind (arith, same_text other id, article_of what other lines h)
  article_by_one id fact h t = grind (arith, overview_has, all_from, all_at)

  -- and isn't denied
  article_denied : (id : Id) (fact : Fact) → Holds S fact → IsSome (get S.articles id) → denies_article id fact ≡ true → ⊥
  article_denied id (NoArticle other) h there t = grind (arith, same_text other id)
  article_denied id fact h there t = cc

  -- S has an article of the id, with a part that is this
  HasPart : {A : Type 0} → (Text → A) → Id → A → Type 0
  HasPart part id x = (t : Text) × (get S.articles id ≡ Some t) × (part t ≡ x)

  -- and under the test of the id
  has_part : (part : Text → List Line) (id other : Id) (t : Text) (ls lines : List Line) → get S.articles other ≡ Some t
      → part t ≡ ls → (b : Bool) → is_same other id ≡ b → cond b (Some ls) None ≡ Some lines → HasPart part id lines
  unfolding HasPart
  has_part part id other t ls lines at same b is e = grind (arith, same_text)

  -- a head that one fact gives is S's
  head_by_one : (id : Id) (lines : List Line) (fact : Fact) → Holds S fact → head_in id fact ≡ Some lines → HasPart (λ t. t.head) id lines
  head_by_one id lines (TextIs Article other (Some ls)) h e = grind (arith, article_of, has_part, parts)
  head_by_one id lines fact h e = grind (arith, article_of, has_part)

  -- and a body
  body_by_one : (id : Id) (lines : List Line) (fact : Fact) → Holds S fact → body_in id fact ≡ Some lines → HasPart (λ t. t.body) id lines
  body_by_one id lines (TextIs Article other (Some ls)) h e =
      let a = article_of Article other (Some ls) h in
      has_part (λ t. t.body) id other a.0 (body_part ls) lines a.1 (grind (arith, a, parts a.0.head a.0.body)) (is_same other id) refl e
  body_by_one id lines fact h e = grind (arith, article_of, has_part)

  -- what its head tells
  abbrev fields : Text → Fields
  fields t = fields_of_head t.head

  -- what overviews tell of an id its head does
  fields_by_overviews : (id : Id) (told : Fields) (os : List OverviewValue) → AllByRecursion (HasOverview S) os → first_given (fields_of_overview id) os ≡ Some told → HasPart fields id told
  unfolding HasPart
  fields_by_overviews id told os h e = grind (arith, told_by os id told e, overview_text, all_at (HasOverview S))

  -- so does the head that is sent
  by_head : (id : Id) (told : Fields) (o : Option (List Line)) → ((lines : List Line) → o ≡ Some lines → HasPart (λ t. t.head) id lines)
      → option_map fields_of_head o ≡ Some told → HasPart fields id told
  unfolding HasPart
  by_head id told o p e = grind (arith, HasPart)

  -- and what one fact tells
  fields_by_one : (id : Id) (told : Fields) (fact : Fact) → Holds S fact → fields_in id fact ≡ Some told → HasPart fields id told
  fields_by_one id told (FieldsAre os) h e = fields_by_overviews id told os h e
  fields_by_one id told (OverviewsAre name r os) h e = grind (arith, fields_by_overviews id told os, all_from, all_at)
  fields_by_one id told fact h e = by_head id told (head_in id fact) (λ lines. head_by_one id lines fact h) e

  -- a head that is sent is S's
  pub head_in_S : (id : Id) (lines : List Line) → first_given (head_in id) facts ≡ Some lines → (t : Text) × (get S.articles id ≡ Some t) × (t.head ≡ lines)
  unfolding HasPart
  head_in_S id lines e = grind (arith, first_found, head_by_one, all_at)

  -- what is told of an id, its head in S tells
  pub fields_in_S : (id : Id) (told : Fields) → first_given (fields_in id) facts ≡ Some told → (t : Text) × (get S.articles id ≡ Some t) × (fields t ≡ told)
  unfolding HasPart
  fields_in_S id told e = grind (arith, first_found, fields_by_one, all_at)

  -- a body that is sent is S's
  pub body_in_S : (id : Id) (lines : List Line) → first_given (body_in id) facts ≡ Some lines → (t : Text) × (get S.articles id ≡ Some t) × (t.body ≡ lines)
  unfolding HasPart
  body_in_S id lines e = grind (arith, first_found, body_by_one, all_at)

  -- lines that are sent of an article are lines
  sent_lines : (what : What) (id : Id) (t : Text) (lines : Option (List Line)) → get S.articles id ≡ Some t
      → text_of what t ≡ lines → IfSome lines (λ lines. AllByRecursion (λ line. IsTrue (is_line line)) lines)
  sent_lines what id t lines e same = grind (arith, recursion_from_All (λ line. IsTrue (is_line line)) (t.head ++ t.body) (spool.heads id t e).1, all_front, all_back, all_both)

  -- the id and the words of an overview are S's
  proper : (o : OverviewValue) → HasOverview S o → IsProperOverview o
  proper o h =
      let t = overview_text o h in
      let whole = recursion_from_All (λ line. IsTrue (is_line line)) (t.0.head ++ t.0.body) (spool.heads o.id t.0 t.1).1 in
      let words = head_has_words t.0.head (all_front (λ line. IsTrue (is_line line)) t.0.head t.0.body whole) in
      (spool.ids o.id (ap is_some t.1), if_some o.told AreWords (λ fields e. subst AreWords (at_some (λ fields. fields_of_head t.0.head ≡ fields) o.told fields e t.2) words))

  -- names, ids and lines are S's
  well_formed : (fact : Fact) → Holds S fact → IsWellFormed fact
  well_formed (GroupsAre p lines) h =
      all_from (λ line. IsGroupName line.name) lines
      (λ line i. spool.names line.name ((h.0 line.name).0
      (contains_in line.name (map (λ line. line.name) lines) (in_map (λ line. line.name) line lines i))).0)
  well_formed (IdAt name n id) h = spool.ids id (spool.ids_have_articles name n id h)
  well_formed (TextIs what id lines) h = let a = article_of what id lines h in (spool.ids id (ap is_some a.1), sent_lines what id a.0 lines a.1 a.2)
  well_formed (FieldsAre os) h = all_from IsProperOverview os (λ o i. proper o (all_at (HasOverview S) o os h i))
  well_formed (OverviewsAre name r os) h = all_from IsProperOverview os (λ o i. proper o (all_at _ o os h.1 i).1)
  well_formed fact h = grind arith

  -- overviews tell of an id what its article tells
  fields_given : (os : List OverviewValue) → AllByRecursion (HasOverview S) os → (o : OverviewValue) → In o os → TellsOwn os o
  unfolding HasPart
  fields_given os h o i = grind (arith, first_there (fields_of_overview o.id) os o, same_itself, overview_text o, all_at (HasOverview S) o os h i, HasPart, fields_by_overviews)

  -- overviews agree with one another, as S has one id at a number, and one number for an id
  agrees_with_itself : (fact : Fact) → Holds S fact → AgreesWithItself fact
  agrees_with_itself (OverviewsAre name r os) h =
      all_from _ os (λ o i. (id_given o i, number_given o i, fields_given os (all_from (HasOverview S) os (λ o i. (all_at _ o os h.1 i).1)) o i))
    where
      in_S : (o : OverviewValue) → In o os → get (numbers S name) o.number ≡ Some o.id
      in_S o i = (all_at _ o os h.1 i).0

      id_given : (o : OverviewValue) → In o os → first_given (id_of_overview o.number) os ≡ Some o.id
      id_given o i = first_is (λ id. get (numbers S name) o.number ≡ Some id) (λ x y e f. cc) (id_of_overview o.number) os
          (λ p j id e. grind (arith, in_S p j, eqb-true)) o i o.id (grind (arith, eq-eqb))

      number_given : (o : OverviewValue) → In o os → first_given (number_of_overview o.id) os ≡ Some o.number
      number_given o i = first_is (λ n. get (numbers S name) n ≡ Some o.id) (λ n m e f. spool.one_to_one name n m o.id e f) (number_of_overview o.id) os
          (λ p j n e. grind (arith, in_S p j, same_text p.id o.id)) o i o.number (grind (arith, same_itself))
  agrees_with_itself fact h = grind (arith, all_from, fields_given)

  -- what is said stands together
  pub stand : Together facts
  unfolding HasPart
  stand =
      record {
        well_formed = all_from IsWellFormed facts (λ fact i. well_formed fact (all_at (Holds S) fact facts holds i));
        lists = all_from AgreesWithItself facts (λ fact i. agrees_with_itself fact (all_at (Holds S) fact facts holds i));
        groups = λ name t. false_from_ne_true _ (λ d. let f = found_in (denies_group name) facts d in denied_by_one name f.0 (all_at (Holds S) f.0 facts holds f.1) (group_in_S name t) f.2);
        numbers = λ name. asks_stand (asks_of name facts) (numbers S name) (met_by_facts S name facts holds) (λ n j. (spool.numbers_in_limit name n j).0);
        ids = λ name n. give_one (λ id. get (numbers S name) n ≡ Some id) (λ x y e f. grind arith) (id_in name n) facts (grind (arith, id_by_one, all_at));
        ids_once = λ name id. give_one (λ n. get (numbers S name) n ≡ Some id) (grind (arith, spool.one_to_one)) (number_in name id) facts (grind (arith, number_by_one, all_at));
        articles = grind (arith, false_from_ne_true, found_in, article_denied, all_at, article_by_one);
        heads = λ id. give_one (HasPart (λ t. t.head) id) (λ x y h g. grind arith) (head_in id) facts (λ fact i lines e. head_by_one id lines fact (all_at (Holds S) fact facts holds i) e);
        fields = λ id. give_one (HasPart fields id) (λ x y h g. grind arith) (fields_in id) facts (λ fact i told e. fields_by_one id told fact (all_at (Holds S) fact facts holds i) e);
        bodies = λ id. give_one (HasPart (λ t. t.body) id) (λ x y h g. grind arith) (body_in id) facts (λ fact i lines e. body_by_one id lines fact (all_at (Holds S) fact facts holds i) e);
      }
