-- What stands together holds of the spool that is given for it.
use Rattle.std.proofs.Common.{◌≡◌, ℕ, ◌+◌, ◌<◌, ◌⊎◌, true, false, IsTrue, List, [], ◌∷◌, ◌++◌, map, length, Option, None, Some, inl, inr, refl, sym, ap, subst}
use Rattle.std.proofs.{Common.{◌∙◌, arith}, lemmas.{Bool.{true≢false, false_from_ne_true, eqb-true}, List.Elements.{All-from_recursion}}}
use Rattle.std.specs.{Prelude.{IsFalse, IfSome, IsSome, unwrap_or}, List.{AllByRecursion, list_any}, FinMap.{get, empty, entries, get-entries, get-empty}}
use Rattle.std.specs.FinMap.{nat_cmp-IsAntisymmetric, slice_cmp-IsAntisymmetric}
use Rattle.nntp_article.specs.{declared.session.profile.Profile.{Profile}, Article.{Fields.{fields_of_head}, Parts.{head_part, body_part, is_empty, Id, Line}}}
use Rattle.nntp_article.specs.Session.{Machine.{overview_numbers, head_fits, active_fits, ActivesAgree, HasOverview}, Spool.{Spool, Text, Numbers, IsNumber}}
use Rattle.nntp_article.{specs.{Session.Spool.{IsGroup, numbers, text_of, Lists, Name}, Inner.Fields.{AreWords}}, proofs.ArticleLemmas.FieldLemmas.{made_tells}}
use Rattle.nntp_wire.specs.{Listing.{Fields, ActiveValue, OverviewValue}, declared.{range.Range.{Range}, command.What.{What}, marks.Marks.{Marks}}}
use Rattle.nntp_wire.{specs.{Name.{IsMessageId}, Wildmat.{MatchesName}}, proofs.OptionLemmas.{none_of, some_is}}
use Rattle.nntp_said.specs.{Asks.{Meets, Bounds}, Facts.{Fact, Holds, ThereIs, ThereIsNo, Asks, IdAt, TextIs, NoArticle, FieldsAre, OverviewsAre, GroupsAre}}
use Rattle.nntp_theory.proofs.{GivenNumbers.{GivenNumbersMeet.{given_meet}, MetNumbersStand.{not_number}}, Ids.InventedIds.{invented_number}}
use Rattle.nntp_theory.proofs.Ids.NumbersOfInventedIds.{Numbered, numbered, of_numbered, part_numbered, unshown_there, unshown_apart, mentioned}
use Rattle.nntp_theory.proofs.{Maps.{entry_in}, Members.{In, all_at, all_part, all_from, any_in, found_in, in_map, from_map, contains_in, in_contains}}
use Rattle.nntp_theory.proofs.{Members.{first_found}, Session.{FittingFacts.{IsFitting}, NumbersOfShownGroups.{IsSelectable, Placed}}}
use Rattle.nntp_theory.{proofs.Together.{FactsOfASpoolStand.{same_itself, in_listed, matching}, ListedOverviews.{overview_at}}, specs.Given.{asks_in, asks_of}}
use Rattle.nntp_theory.specs.Given.{shows_group, id_in, id_shown, first_given, mentions, is_mentioned, gives_article, head_in, fields_of_overview, fields_in}
use Rattle.nntp_theory.specs.{Given.{body_in, invented, unshown_in, unshown_ids, IsGiven}, Inner.Together.{IsProperOverview, IsWellFormed, TellsOwn}}
use Rattle.nntp_theory.specs.{Inner.Together.{AgreesWithItself, Together}, Together.{denies_group, number_in, shows_article, denies_article, GiveOne}}

-- an id at a number is one of the entries
pub entry_of_number : (N : Numbers) (n : ℕ) (id : Id) → get N n ≡ Some id → In (n, id) (entries N)
entry_of_number N n id e = entry_in nat_cmp-IsAntisymmetric n id (entries N) (sym (get-entries N n) ∙ e)

-- a number of a name is one of a group
pub group_of_number : (S : Spool) (name : Name) (n : ℕ) → IsNumber (numbers S name) n → (N : Numbers) × (get S.groups name ≡ Some N) × (numbers S name ≡ N)
group_of_number S name n i = let N = some_is (get S.groups name) (grind (arith, not_number, get-empty)) in (N.0, N.1, ap (λ o. unwrap_or o empty) N.1)

-- where there is an empty line, the parts make the whole
pub parts_joined : (lines : List Line) → list_any is_empty lines ≡ true → lines ≡ head_part lines ++ [] ∷ body_part lines
parts_joined ((c ∷ cs) ∷ lines) t = ap (λ ls. (c ∷ cs) ∷ ls) (parts_joined lines t)
parts_joined lines t = cc

-- what one of the facts gives is what the first gives
pub one_given : {A : Type 0} (f : Fact → Option A) (facts : List Fact) → GiveOne f facts → (fact : Fact) → In fact facts → (x : A) → f fact ≡ Some x → first_given f facts ≡ Some x
one_given f facts one fact i x e = subst (λ o. IfSome o (λ x. first_given f facts ≡ Some x)) e (all_at _ fact facts one i)

-- the fact that shows the id for the number
pub record ShownAt (facts : List Fact) (name : Name) (n : ℕ) (id : Id) : Type 0 where
  pub fact : Fact
  pub there : In fact facts
  pub number : number_in name id fact ≡ Some n
  pub article : shows_article id fact ≡ true
  pub mentioned : mentions id fact ≡ true
  pub formed : IsWellFormed fact → IsMessageId id

-- what is said stands together and fits, and G is given for it
pub record Setting (profile : Profile) (B : ℕ) (G : Spool) (facts : List Fact) : Type 0 where
  pub small : (i : ℕ) → i < B → invented_number (invented i) ≡ i
  pub ids : (i : ℕ) → i < B → IsMessageId (invented i)
  pub fitting : AllByRecursion (IsFitting profile) facts
  pub how : Marks
  pub placed : AllByRecursion (Placed how facts) facts
  pub together : Together facts
  pub given : IsGiven facts G
  pub few : length (mentioned facts) + length (unshown_ids facts G) < B

module _ (profile : Profile) (B : ℕ) (G : Spool) (facts : List Fact) (s : Setting profile B G facts) where
  -- a group that a 211 selected is one of G
  group_there : (name : Name) → IsSelectable s.how facts name → IsGroup G name
  group_there name h = (s.given.groups name).1 (any_in (shows_group name) (ThereIs name) facts h.there (same_itself name))

  -- the numbers of a group of G meet what a fact asks of them
  asked : (name : Name) (fact : Fact) → In fact facts → IsGroup G name → AllByRecursion (Meets (numbers G name)) (asks_in name fact)
  asked name fact i group = all_part (Meets (numbers G name)) (asks_in name) fact facts i
      (given_meet (asks_of name facts) (numbers G name) (s.together.numbers name) (s.given.numbers_given name group))

  -- the invented ids of a group are numbered
  part_of : (name : Name) (N : Numbers) → get G.groups name ≡ Some N → (k : ℕ) × Numbered B s.small facts k (unshown_in facts name (entries N))
  part_of name N e =
      part_numbered B s.small facts (λ (g : Name × Numbers). unshown_in facts g.0 (entries g.1)) 0 (name, N) (entries G.groups)
      (numbered B s.small facts (unshown_ids facts G) s.few s.given.ids_invented)
      (entry_in (slice_cmp-IsAntisymmetric nat_cmp-IsAntisymmetric) name N (entries G.groups) (sym (get-entries G.groups name) ∙ e))

  -- and stands at one number of a group
  pub unshown_once : (name : Name) (n m : ℕ) (id : Id) → get (numbers G name) n ≡ Some id → get (numbers G name) m ≡ Some id → id_shown facts name n ≡ None → id_shown facts name m ≡ None → n ≡ m
  unshown_once name n m id e f none none' = grind (arith, group_of_number, part_of, entry_of_number, unshown_apart B s.small facts name)

  -- an id at a number of G is shown, or an invented one that isn't mentioned
  pub id_cases : (name : Name) (n : ℕ) (id : Id) → get (numbers G name) n ≡ Some id
      → (id_shown facts name n ≡ Some id) ⊎ ((id_shown facts name n ≡ None) × ((j : ℕ) × (j < B) × (id ≡ invented j) × IsFalse (is_mentioned facts id)))
  id_cases name n id e = grind (arith, group_of_number, part_of, entry_of_number, of_numbered B s.small facts, unshown_there B s.small facts name n id, s.given.ids_shown name n)

  -- an id that is shown is that of one of the facts
  pub shown_at : (name : Name) (n : ℕ) (id : Id) → id_shown facts name n ≡ Some id → ShownAt facts name n id
  shown_at name n id e = grind (arith, first_found, overview_at, all_at, any_in, same_itself, eqb-true)

  -- what is told of an id, the head of its article in G tells
  fields_are : (id : Id) (u : Text) (fields : Fields) → get G.articles id ≡ Some u → first_given (fields_in id) facts ≡ Some fields → AreWords fields → fields_of_head u.head ≡ fields
  fields_are id u fields at told words = elim (first_given (head_in id) facts) as (λ o. first_given (head_in id) facts ≡ o → fields_of_head u.head ≡ fields) [
    | None ↦ λ e. grind (arith, s.given.heads id u at, told, made_tells fields words id)
    | Some lines ↦ λ e.
        let f = first_found (head_in id) facts lines e in
        grind (arith, s.given.heads id u at, one_given (fields_in id) facts (s.together.fields id) f.0 f.1)
  ] refl

  -- an id that a fact shows to have an article isn't denied
  not_denied : (id : Id) (fact : Fact) → In fact facts → shows_article id fact ≡ true → In (NoArticle id) facts → ⊥
  not_denied id fact i t j = true≢false (sym (any_in (denies_article id) (NoArticle id) facts j (same_itself id)) ∙ s.together.articles id (any_in (shows_article id) fact facts i t))

  -- an article of G whose head is sent has that head
  head_is : (id : Id) (u : Text) (lines : List Line) (fact : Fact) → In fact facts → get G.articles id ≡ Some u → head_in id fact ≡ Some lines → u.head ≡ lines
  head_is id u lines fact i there e = grind (arith, s.given.heads id u there, one_given (head_in id) facts, s.together.heads id)

  -- and that body
  body_is : (id : Id) (u : Text) (lines : List Line) (fact : Fact) → In fact facts → get G.articles id ≡ Some u → body_in id fact ≡ Some lines → u.body ≡ lines
  body_is id u lines fact i there e = s.given.bodies id u there ∙ ap (λ o. unwrap_or o []) (one_given (body_in id) facts (s.together.bodies id) fact i lines e)

  -- what was sent of an article is what G has of it
  text_is : (what : What) (id : Id) (lines : Option (List Line)) (u : Text) → In (TextIs what id lines) facts → head_fits what id lines ≡ true → get G.articles id ≡ Some u → text_of what u ≡ lines
  text_is what id (Some ls) u i f at = grind (arith, head_is id u ls, head_is id u (head_part ls), body_is id u ls, body_is id u (body_part ls), same_itself, parts_joined)
  text_is what id None u i f at = grind arith

  -- a group of G isn't denied
  not_denied_group : (name : Name) (fact : Fact) → In fact facts → IsGroup G name → denies_group name fact ≡ false
  not_denied_group name fact i g = false_from_ne_true _ (λ t. true≢false (sym (any_in (denies_group name) fact facts i t) ∙ s.together.groups name ((s.given.groups name).0 g)))

  -- a list of groups that was sent is G's
  lines_hold : (p : Option (List ℕ)) (lines : List ActiveValue) → In (GroupsAre p lines) facts → AllByRecursion (λ line. IsTrue (active_fits profile p line)) lines → ActivesAgree G p lines
  lines_hold p lines i fit =
      let listed : (line : ActiveValue) → In line lines → IsGroup G line.name = λ line j. grind (arith, s.given.groups line.name, any_in, same_itself) in
      let matches : (line : ActiveValue) → In line lines → IfSome p (λ w. MatchesName w line.name) = λ line j. (matching line.name p).0
      (grind (arith, all_at (λ line. IsTrue (active_fits profile p line)) line lines fit j)) in (
        λ name. (
          λ c. grind (arith, from_map (λ line. line.name) name lines (in_contains name (map (λ line. line.name) lines) c), listed, matches),
          λ g. grind (arith, contains_in, in_listed, not_denied_group name (GroupsAre p lines) i, matching name p),
        ),
        All-from_recursion (λ line. Meets (numbers G line.name) (Bounds line.low line.high)) lines (all_from _ lines (λ line j.
            grind (arith, all_part (Meets (numbers G line.name)) _ line lines j (asked line.name (GroupsAre p lines) i (listed line j)), same_itself line.name))),
      )

  -- an article of G is as an overview tells
  overview_tells : (os : List OverviewValue) (fact : Fact) → In fact facts → ((id : Id) → fields_in id fact ≡ first_given (fields_of_overview id) os) → AllByRecursion (TellsOwn os) os
      → AllByRecursion IsProperOverview os → (o : OverviewValue) → In o os → IsSome (get G.articles o.id) → HasOverview G o
  overview_tells os fact i is own proper o j there =
      grind (arith, some_is, all_at (TellsOwn os) o os, all_at IsProperOverview o os, one_given (fields_in o.id) facts (s.together.fields o.id) fact i, is o.id, fields_are o.id)

  -- an overview that was sent is G's, where its number is one
  overview_holds : (name : Name) (r : Range) (os : List OverviewValue) → In (OverviewsAre name r os) facts → Lists (numbers G name) r (overview_numbers os)
      → (o : OverviewValue) → In o os → get (numbers G name) o.number ≡ Some o.id
  overview_holds name r os i met o j =
      let own = all_at _ o os (all_at AgreesWithItself (OverviewsAre name r os) facts s.together.lists i) j in
      let one = one_given (id_in name o.number) facts (s.together.ids name o.number) (OverviewsAre name r os) i in
      grind (arith, own, contains_in, in_map (λ (o : OverviewValue). o.number) o os j, s.given.ids_shown name, one, same_itself)

  -- what was said holds of G
  fact_holds : (fact : Fact) → In fact facts → IsFitting profile fact → Placed s.how facts fact → Holds G fact
  fact_holds (ThereIsNo name) i f p = none_of (get G.groups name) (λ g. true≢false (sym (same_itself name) ∙ not_denied_group name (ThereIsNo name) i g))
  fact_holds (Asks name ask) i f p = grind (arith, asked name (Asks name ask) i (group_there name p), same_itself name)
  fact_holds (IdAt name n id) i f p =
      grind (arith, asked name (IdAt name n id) i (group_there name p), s.given.ids_shown name n id, one_given (id_in name n) facts (s.together.ids name n) _ i id, same_itself)
  fact_holds (FieldsAre os) i f p = grind (arith, all_from, overview_tells os (FieldsAre os) i, all_at, any_in, same_itself)
  fact_holds (NoArticle id) i f p = none_of (get G.articles id) (λ g.
      elim ((s.given.articles id).0 g) [
        | inl used ↦ grind (arith, id_cases, shown_at used.0 used.1 id, not_denied, any_in (mentions id) (NoArticle id) facts i (same_itself id))
        | inr sent ↦ (let f = found_in (gives_article id) facts sent in not_denied id f.0 f.1 (grind (arith, f.2)) i)
      ])
  fact_holds (OverviewsAre name r os) i f p =
      let met : Lists (numbers G name) r (overview_numbers os) = grind (arith, asked name (OverviewsAre name r os) i (group_there name p), same_itself name) in
      let held = overview_holds name r os i met in
      let own = all_at AgreesWithItself (OverviewsAre name r os) facts s.together.lists i in
      let tells = overview_tells os (OverviewsAre name r os) i (λ id. refl) (all_from (TellsOwn os) os (λ o j. (all_at _ o os own j).2)) in
      (met, all_from _ os (λ o j. (held o j, tells (all_at IsWellFormed (OverviewsAre name r os) facts s.together.well_formed i) o j ((s.given.articles o.id).1 (inl (name, o.number, held o j))))))
  fact_holds fact i f p = grind (arith, some_is, any_in, same_itself, text_is, lines_hold, s.given.groups)

  -- all that is said holds of G
  pub all_hold : AllByRecursion (Holds G) facts
  all_hold = grind (arith, all_from, fact_holds, all_at)
