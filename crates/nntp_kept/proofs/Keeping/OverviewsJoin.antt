-- When overviews join what was said, and what is kept then.
use Rattle.nntp_kept.proofs.Base.{◌≡◌, Bool, true, false, cond, IsTrue, List, [], ◌∷◌, ◌++◌, Option, None, Some, refl, sym, ap, subst, ◌∙◌, append-nil, arith}
use Rattle.nntp_kept.proofs.Base.{true≢false, or_left, eqb-true, eq-eqb, list_any-append, or-false, ◌↔◌, IfSome, IsFalse, AllByRecursion, list_any, option_or}
use Rattle.nntp_kept.proofs.Base.{same_text, get, OverviewValue, Range, Id, Name, is_same, overview_numbers, Ask, ListsIn, Fact, OverviewsAre, asks_of}
use Rattle.nntp_kept.proofs.Base.{shows_group, is_shown_group, first_given, id_in, fields_of_overview, fields_in, number_in, denies_article, AsksStand}
use Rattle.nntp_kept.proofs.Base.{IsWellFormed, JoinNumbers, JoinIds, Together, Join, said_of, AreSame, join_said, In, all_at, all_from, all_back, any_in}
use Rattle.nntp_kept.proofs.Base.{found_in, same_itself, asks_append, given_append, given_silent, or_none, any_silent, Kept, IsKept, Told, told, AreKept}
use Rattle.nntp_kept.proofs.Base.{AreKeptNames, AreKeptArticles, with_part, Changes, MayShow, said_kept, IsSaidKept, IsSaidAdded, MayGive, with_overviews}
use Rattle.nntp_kept.proofs.Base.{said_alone, said_listed, HaveOwn, OverviewJoins, id_listed, place_listed, telling, SaidOfArticle, Fields, id_of_overview}
use Rattle.nntp_kept.proofs.{Base.{number_of_overview, overview_at, overview_of, told_by}, Keeping.{KeptNames.{names_kept}, ListedOverviews.{listed_asks}}}
use Rattle.nntp_kept.proofs.Keeping.{ListedOverviews.{listed_ids, listed_places, listed_said, own_agree, none_in_front}, FactsOfOneGroup.{asked_here}}
use Rattle.nntp_kept.proofs.Keeping.{FactsOfOneGroup.{asked_elsewhere, numbers_join, told_same, same_told}, PartsJoin.{agree_told}}
use Rattle.nntp_kept.specs.Inner.KeptSaying.{MayBeGiven}
use Rattle.nntp_kept_articles.proofs.{KeptArticles.{Articles, MayKeep, article_joins, denied_kept}, SaidOfArticles.{said_append}}

-- what is told of a group, once its numbers have the ids of these overviews
abbrev pub with_listed : Told → List OverviewValue → Told
with_listed t os = record { is_shown = true; asks = t.asks; ids = λ n. option_or (t.ids n) (id_listed os n); places = λ id. option_or (t.places id) (place_listed os id) }

-- what is told of groups, where this is told of one
abbrev pub put : (Name → Told) → Name → Told → Name → Told
put tells name t other = cond (is_same name other) t (tells other)

-- there it is told
pub put_there : (tells : Name → Told) (name : Name) (t : Told) → put tells name t name ≡ t
put_there tells name t = ap (λ b. cond b t (tells name)) (same_itself name)

-- of others the same is told
pub put_changes : (tells before : Name → Told) (name : Name) (t u : Told) → ((other : Name) → is_same name other ≡ false → before other ≡ tells other) → t ≡ u
    → Changes before (put tells name t) name u
put_changes tells before name t u same is = record { here = put_there tells name t ∙ is; elsewhere = λ other apart. ap (λ b. cond b t (tells other)) apart ∙ sym (same other apart) }

-- these overviews are told and kept
abbrev pub AreGiven : List Fact → (Name → Told) → Name → List OverviewValue → Kept → Type 0
AreGiven facts tells name os k = AreKept (with_overviews tells name os) k.groups × ((id : Id) → join_said (said_of facts id) (said_listed os id) ≡ said_kept (get k.articles id))

-- what holds of what is given, if anything is, holds where nothing else is
given_or : {A : Type 0} {P : A → Type 0} (o : Option A) → ((x : A) → o ≡ Some x → P x) → IfSome (option_or o None) P
given_or o h = grind arith

module _ (facts : List Fact) (name : Name) (r : Range) (os : List OverviewValue) where
  -- the overviews as a fact, and as an ask
  abbrev pub more : List Fact
  more = OverviewsAre name r os ∷ []

  abbrev pub asks : List Ask
  asks = ListsIn r (overview_numbers os) ∷ []

  -- ids join where the number of each overview may have its id
  ids_from : ((o : OverviewValue) → In o os → MayShow (told facts name) (Some (o.number, o.id))) → JoinIds facts more
  ids_from may = record {
    ids = λ other n. given_or _ (λ id e. let h = overview_at name other r os n id e in grind (arith, h.same_group, h.same_number, h.same_id, may h.overview h.there));
    ids_once = λ other id. given_or _ (λ n e. let h = overview_of name other r os id n e in grind (arith, h.same_group, h.same_number, h.same_id, may h.overview h.there));
  }

  pub overviews_join : Together facts → AllByRecursion IsWellFormed more → HaveOwn os → Join facts more ↔ (AsksStand (asks_of name facts ++ asks) × AllByRecursion (OverviewJoins facts name) os)
  overviews_join t formed own = (
    λ j. (
      numbers.0 j.numbers,
      all_from (OverviewJoins facts name) os (λ o i. let all = all_at _ o os (own_agree name r os own) i in record {
        id = grind (arith, same_itself name, all.0, all.1, j.ids.ids name o.number, j.ids.ids_once name o.id);
        free = (j.articles o.id).shown (or_left _ false (any_in (λ (v : OverviewValue). is_same v.id o.id) o os i (same_itself o.id)));
        fields = let same = (j.articles o.id).fields in grind (arith, or_none, all.2, same);
      }),
    ),
    λ h. record {
      well_formed = formed;
      lists = (own_agree name r os own, tt);
      names = record { groups = λ other s. absurd (true≢false (sym s)); no_groups = λ other d. absurd (true≢false (sym d)) };
      numbers = numbers.1 h.0;
      ids = ids_from (λ o i. (all_at (OverviewJoins facts name) o os h.1 i).id);
      articles = λ id. record { shown = λ t. free h.1 id (sym (or-false _) ∙ t); denied = λ t. absurd (true≢false (sym t)); head = tt; fields = told h.1 id; body = tt };
    },
  )
    where
      numbers : JoinNumbers facts more ↔ AsksStand (asks_of name facts ++ asks)
      numbers = numbers_join facts more name asks t (asked_here name asks more (listed_asks name r os)) (asked_elsewhere name asks more (listed_asks name r os))

      -- what they tell of an id is what one of them tells
      told : AllByRecursion (OverviewJoins facts name) os → (id : Id) → AreSame (option_or (first_given (fields_of_overview id) os) None) (first_given (fields_in id) facts)
      told all id = given_or _ (λ fields e.
          let f = told_by os id fields e in
          let j = all_at (OverviewJoins facts name) f.overview os all f.there in grind (arith, f.told, f.same_id, j.fields))

      free : AllByRecursion (OverviewJoins facts name) os → (id : Id) → IsTrue (list_any (λ o. is_same o.id id) os) → IsFalse (list_any (denies_article id) facts)
      free all id e =
          let f = found_in (λ (o : OverviewValue). is_same o.id id) os e in
          subst (λ id. IsFalse (list_any (denies_article id) facts)) (same_text f.0.id id (sym f.2)) (all_at (OverviewJoins facts name) f.0 os all f.1).free

  -- ---- what is told of groups then

  -- what is told of the group with the asks
  abbrev pub asked_told : Told
  asked_told = with_part (told facts name) asks None

  -- beside it each overview's id may be given
  pub all_given : Together facts → HaveOwn os → Join facts more → AllByRecursion (MayGive facts asked_told) os
  all_given t own j = all_from (MayGive facts asked_told) os (λ o i.
      let h = all_at (OverviewJoins facts name) o os ((overviews_join t j.well_formed own).0 j).1 i in
      let agree = agree_told facts t name (Some (o.number, o.id)) in
      record { shown = refl; agree = grind (arith, or_none, agree); may = grind (arith, or_none, h.id); free = h.free; fields = h.fields })

  -- with the ids this is all that is told then
  all_told : is_shown_group facts name ≡ true → (other : Name) → with_overviews (put (told facts) name asked_told) name os other ≡ told (facts ++ more) other
  all_told shown other = by (is_same name other) refl
    where
      given : {A : Type 0} (f : Fact → Option A) (o : Option A) → first_given f more ≡ o → option_or (option_or (first_given f facts) None) o ≡ first_given f (facts ++ more)
      given f o is = grind (arith, given_append, or_none)

      by : (b : Bool) → is_same name other ≡ b
          → cond b (with_listed (put (told facts) name asked_told name) os) (put (told facts) name asked_told other) ≡ told (facts ++ more) other
      by true e = ap (λ t. with_listed t os) (put_there (told facts) name asked_told) ∙ (λ i. record {
        is_shown = sym (any_silent (shows_group name) facts more refl ∙ shown) i;
        asks = sym (asks_append name facts more ∙ ap (λ more. asks_of name facts ++ more) (asked_here name asks more (listed_asks name r os))) i;
        ids = λ n. given (id_in name n) (id_listed os n) (listed_ids name r os name n ∙ ap (λ b. cond b (id_listed os n) None) (same_itself name)) i;
        places = λ id. given (number_in name id) (place_listed os id) (listed_places name r os name id ∙ ap (λ b. cond b (place_listed os id) None) (same_itself name)) i;
      }) ∙ ap (told (facts ++ more)) (same_text name other (sym e))
      by false e = ap (λ b. cond b asked_told (told facts other)) e ∙ sym (told_same facts more other (grind (arith, e)))

  -- all is kept where the groups and articles are kept with the overviews, and of names what was
  pub overviews_kept : is_shown_group facts name ≡ true → (old new : Kept) → IsKept facts old → new.names ≡ old.names → AreGiven facts (put (told facts) name asked_told) name os new
      → IsKept (facts ++ more) new
  overviews_kept shown old new kept names given = record {
    groups = subst (λ tells. AreKept tells new.groups) (λ i other. all_told shown other i) given.0;
    names = subst (AreKeptNames (facts ++ more)) (sym names) (names_kept facts more old.names (λ other. refl) kept.names);
    articles = λ id. said_append facts more id ∙ ap (join_said (said_of facts id)) (listed_said name r os id) ∙ given.1 id;
  }

-- ---- one overview after the other

-- before the first overview nothing more is told
pub none_yet : (tells : Name → Told) (name : Name) → (tells name).is_shown ≡ true → (other : Name) → with_overviews tells name [] other ≡ tells other
none_yet tells name shown other = by (is_same name other) refl
  where
    by : (b : Bool) → is_same name other ≡ b → cond b (with_listed (tells name) []) (tells other) ≡ tells other
    by true e =
        same_told (with_listed (tells name) []) (tells name) (sym shown) refl (λ n. or_none ((tells name).ids n)) (λ id. or_none ((tells name).places id))
        ∙ ap tells (same_text name other (sym e))
    by false e = refl

module _ (facts : List Fact) (tells : Name → Told) (name : Name) (front : List OverviewValue) (o : OverviewValue) where
  -- one more is told as a part is
  pub one_more_given : Changes (with_overviews tells name front) (with_overviews tells name (front ++ o ∷ [])) name (with_part (with_overviews tells name front name) [] (Some (o.number, o.id)))
  one_more_given =
      put_changes tells (with_overviews tells name front) name (with_listed (tells name) (front ++ o ∷ [])) (with_part (with_overviews tells name front name) [] (Some (o.number, o.id)))
      (λ other apart. ap (λ b. cond b (with_listed (tells name) front) (tells other)) apart)
      (same_told (with_listed (tells name) (front ++ o ∷ [])) (with_part (with_listed (tells name) front) [] (Some (o.number, o.id))) refl (sym (append-nil (tells name).asks))
      (λ n. next (id_of_overview n) ((tells name).ids n)) (λ id. next (number_of_overview id) ((tells name).places id))
      ∙ ap (λ t. with_part t [] (Some (o.number, o.id))) (sym (put_there tells name (with_listed (tells name) front))))
    where
      next : {A : Type 0} (f : OverviewValue → Option A) (before : Option A) → option_or before (first_given f (front ++ o ∷ [])) ≡ option_or (option_or before (first_given f front)) (f o)
      next f before = grind (arith, given_append)

  -- the facts with the overviews in front, of any range
  abbrev all_numbers : Range
  all_numbers = record { first = 0; last = None }

  abbrev pub so_far : List Fact
  so_far = facts ++ OverviewsAre name all_numbers front ∷ []

  -- what they say of ids
  pub said_so_far : (id : Id) → said_of so_far id ≡ join_said (said_of facts id) (said_listed front id)
  said_so_far id = said_append facts (OverviewsAre name all_numbers front ∷ []) id ∙ ap (join_said (said_of facts id)) (listed_said name all_numbers front id)

  -- the article of one more is said
  pub said_next : (id : Id) → join_said (said_of facts id) (said_listed (front ++ o ∷ []) id) ≡ join_said (said_of so_far id) (said_alone o.id (telling false o.told) id)
  said_next id =
      grind (arith, said_so_far id, list_any-append, given_append (fields_of_overview id) front (o ∷ []), or-false, or_none)

  -- what may be given of the next one beside what was told before, may be given beside those in front too
  pub may_give_next : (rest : List OverviewValue) → HaveOwn (front ++ o ∷ rest) → AllByRecursion (MayGive facts (tells name)) (front ++ o ∷ rest)
      → MayGive so_far (with_overviews tells name front name) o
  may_give_next rest own may =
      let g = (all_back (MayGive facts (tells name)) front (o ∷ rest) may).0 in
      let none = none_in_front front o rest own in
      subst (λ t. MayGive so_far t o) (sym (put_there tells name (with_listed (tells name) front))) (record {
        shown = refl;
        agree = grind (arith, or_none, none.0, none.1, g.agree);
        may = grind (arith, or_none, none.0, none.1, g.may);
        free = any_silent (denies_article o.id) facts _ refl ∙ g.free;
        fields = subst (AreSame o.told) (sym (given_silent (fields_in o.id) facts _ (or_none _ ∙ none.2))) g.fields;
      })

-- an id that isn't denied is added, with what an overview tells of it, if nothing else was told
pub surely_added : (facts : List Fact) (id : Id) (told : Option Fields) (old new : Articles) (does : Bool) → AreKeptArticles facts old → IsFalse (list_any (denies_article id) facts)
    → AreSame told (first_given (fields_in id) facts) → IsSaidAdded facts (said_alone id (telling false told)) old new does
    → (does ≡ true) × IsSaidKept facts (said_alone id (telling false told)) new
surely_added facts id told old new true kept free same added = (refl, added.1)
surely_added facts id told old new false kept free same added =
    let may : MayKeep (get old id) (telling false told) = grind (arith, denied_kept facts old id kept, kept id) in
    absurd (added.0 ((article_joins facts old id (telling false told) kept).1 may))

-- an overview joins where it may be given
pub gives_joins : (facts : List Fact) (name : Name) (k : Kept) (o : OverviewValue) → IsKept facts k → MayBeGiven (told facts name) k.articles o ↔ OverviewJoins facts name o
gives_joins facts name k o kept =
    let denied = denied_kept facts k.articles o.id kept.articles in
    let same = ap (λ (s : SaidOfArticle). s.fields) (kept.articles o.id) in
    let text : (y : Id) → is_same y o.id ≡ true → y ≡ o.id = λ y e. same_text y o.id (sym e) in (
      λ t. record { id = grind (arith, t.0, text, eqb-true); free = grind (arith, t.0, denied); fields = subst (AreSame o.told) (sym same) t.1 },
      λ j. (grind (arith, j.id, j.free, denied, same_itself o.id, eq-eqb), subst (AreSame o.told) same j.fields),
    )
