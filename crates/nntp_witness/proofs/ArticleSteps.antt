-- The articles of the given spool that are shown, one after the other.
use Rattle.std.proofs.Common.{arith, ◌≡◌, ℕ, true, false, List, [], ◌∷◌, map, None, Some, is_some, IsSome, IsTrue, Result, inl, inr, refl, sym, ap, ◌∙◌}
use Rattle.std.{proofs.lemmas.Bool.{true≢false, false≢true, or_cases}, specs.List.{AllByRecursion, list_any, Sorted.{IsStrictlySortedBy}}}
use Rattle.std.specs.{declared.cmp.Ordering.TheVariants.{Less}, Ordering.{nat_cmp}, Cmp.Lexicographic.{slice_cmp, nat_list_cmp_total, same_text}}
use Rattle.std.specs.FinMap.{FinMap, get, insert, get-insert, same_map}
use Rattle.nntp_wire.{proofs.OptionLemmas.{none_of, some_is}, specs.declared.limit.Limit.{Limit}}
use Rattle.nntp_article.specs.{Article.Parts.{Id}, Session.{Machine.{is_same}, Spool.{Spool, Text}}}
use Rattle.nntp_said.specs.Facts.{Fact, IdAt, OverviewsAre, Holds}
use Rattle.nntp_theory.{specs.{Given.{IsGiven, mentions, is_mentioned}, Together.{shows_article}}, proofs.{Given.ConstructedSpool.{names_apart}, Members.{In}}}
use Rattle.nntp_theory.proofs.{Members.{all_at, all_from, any_in, found_in}, Together.FactsOfASpoolStand.{same_itself}}
use Rattle.nntp_kept_articles.specs.Inner.Readers.{ShownArticle, IsShownArticle, AreShownArticles}
use Rattle.nntp_content.{specs.Content.{with_article}, proofs.MapEntries.{apart, got_more}}
use Rattle.nntp_store.specs.{Inner.Building.{Building, Builds, article_fault}, declared.value.spool_fault.SpoolFault.{SpoolFault}}
use Rattle.nntp_witness.specs.Inner.{Witness.{IsGivenSpool}, Making.{Makes, IsPart, IsBegun, GroupsLeft, ArticlesLeft, given_text}}
use Rattle.nntp_witness.proofs.{BuilderCalls.{called}, FaultsNone.{article_fits}, MoreMade.{got_here, got_still}}

-- ---- what facts show

-- an id that a fact shows to have an article is mentioned by it
shown_mentions : (id : Id) (fact : Fact) → shows_article id fact ≡ true → mentions id fact ≡ true
shown_mentions id fact t = grind arith

-- an id that facts show to have an article is mentioned
shown_is_mentioned : (id : Id) (facts : List Fact) → IsTrue (list_any (shows_article id) facts) → IsTrue (is_mentioned facts id)
shown_is_mentioned id facts t = let f = found_in (shows_article id) facts t in any_in (mentions id) f.0 facts f.1 (shown_mentions id f.0 f.2)

-- it has an article in the given spool, where what is said holds of that
shown_has_article : (facts : List Fact) (G : Spool) → IsGiven facts G → AllByRecursion (Holds G) facts → (id : Id) → IsTrue (list_any (shows_article id) facts) → IsSome (get G.articles id)
shown_has_article facts G given holds id t = let f = found_in (shows_article id) facts t in by f.0 f.1 f.2 (all_at (Holds G) f.0 facts holds f.1)
  where
    by : (fact : Fact) → In fact facts → shows_article id fact ≡ true → Holds G fact → IsSome (get G.articles id)
    by (IdAt name n other) i t at = (given.articles id).1 (inl (name, n, at ∙ ap Some (same_text other id (sym t))))
    by (OverviewsAre name r os) i t held =
        let f = found_in (λ o. is_same o.id id) os t in
        (given.articles id).1 (inl (name, f.0.number, (all_at _ f.0 os held.1 f.1).0 ∙ ap Some (same_text f.0.id id (sym f.2))))
    by fact i t at = grind (arith, any_in)

-- ---- before the first

-- the articles that are made so far are of no id that is shown
none_is_made : (limit : Limit) (facts : List Fact) (G : Spool) (b : Building) (next : ℕ) → IsBegun limit facts G b next
    → (id : Id) → IsTrue (list_any (shows_article id) facts) → get b.spool.articles id ≡ None
none_is_made limit facts G b next begun id t = none_of (get b.spool.articles id) (λ i. true≢false (sym (shown_is_mentioned id facts t) ∙ (begun.invented_before id i).3))

-- where no groups are left, those that are made are the given ones
groups_are : (limit : Limit) (facts : List Fact) (G : Spool) (b : Building) (next : ℕ) → GroupsLeft limit facts G [] b next → b.spool.groups ≡ G.groups
groups_are limit facts G b next left = same_map nat_list_cmp_total names_apart b.spool.groups G.groups (λ name. elim (left.others name) [ inl none ↦ absurd (false≢true none) | inr same ↦ same ])

-- all articles that are shown are left where no groups are
pub articles_start : (limit : Limit) (said : List Fact) (G : Spool) (articles : List ShownArticle)
    (b : Building) (next : ℕ) → IsGivenSpool limit said G → AreShownArticles said articles
    → GroupsLeft limit said G [] b next
    → ArticlesLeft limit said G articles b
articles_start limit said G articles b next witness shown left = record {
  limit_is = left.begun.limit_is;
  is_whole = left.begun.is_whole;
  part = left.begun.part;
  groups = groups_are limit said G b next left;
  shown = shown.each;
  ascending = shown.ascending;
  of_spool = all_from (λ a. IsSome (get G.articles a.id)) articles (λ a i. shown_has_article said G witness.given witness.holds a.id (told a i));
  not_made = all_from (λ a. get b.spool.articles a.id ≡ None) articles (λ a i. none_is_made limit said G b next left.begun a.id (told a i));
  others = λ id t. inl (shown.all id ∙ t);
}
  where
    told : (a : ShownArticle) → In a articles → IsTrue (list_any (shows_article a.id) said)
    told a i = sym (shown.all a.id) ∙ any_in (λ b. is_same b.id a.id) a articles i (same_itself a.id)

-- ---- one more

-- the given spool has this text of an article that is shown
text_is_given : (facts : List Fact) (G : Spool) (a : ShownArticle) → IsGiven facts G → IsShownArticle facts a → IsSome (get G.articles a.id) → get G.articles a.id ≡ Some (given_text a)
text_is_given facts G a given shown there = grind (arith, some_is)

-- an article that is shown is added without a fault
pub article_has_no_fault : (limit : Limit) (said : List Fact) (G : Spool) (a : ShownArticle)
    (left : List ShownArticle) (b : Building) → IsGivenSpool limit said G
    → ArticlesLeft limit said G (a ∷ left) b
    → article_fault b.spool a.id (given_text a) ≡ None
article_has_no_fault limit said G a left b witness l = search (article_fits, text_is_given)

-- an article of a greater id than the one that is added isn't there yet
absent_above : (m : FinMap (slice_cmp nat_cmp) Text) (id q : Id) (t : Text) → slice_cmp nat_cmp id q ≡ Less → get m q ≡ None → get (insert m id t) q ≡ None
absent_above m id q t less absent = grind (arith, apart, nat_list_cmp_total, get-insert)

-- nor are all those behind it
absent_behind : (m : FinMap (slice_cmp nat_cmp) Text) (id : Id) (t : Text) (left : List ShownArticle) → AllByRecursion (λ q. slice_cmp nat_cmp id q ≡ Less) (map (λ a. a.id) left)
    → AllByRecursion (λ a. get m a.id ≡ None) left → AllByRecursion (λ a. get (insert m id t) a.id ≡ None) left
absent_behind m id t [] above absent = tt
absent_behind m id t (a ∷ left) above absent = (absent_above m id a.id t above.0 absent.0, absent_behind m id t left above.1 absent.1)

-- an article of the spool makes more of a part of it
part_with_article : (facts : List Fact) (G S : Spool) (id : Id) (t : Text) → IsPart facts G S → get G.articles id ≡ Some t → IsPart facts G (with_article S id t)
part_with_article facts G S id t part at = grind (arith, got_more, nat_list_cmp_total, names_apart, got_still)

-- the builder once an article was added
abbrev pub one_article_more : Building → ShownArticle → Building
one_article_more b a = record { limit = b.limit; spool = with_article b.spool a.id (given_text a); failed = false }

-- one article less is left
pub one_article_less : (limit : Limit) (said : List Fact) (G : Spool) (a : ShownArticle)
    (left : List ShownArticle) (b : Building) → IsGivenSpool limit said G
    → ArticlesLeft limit said G (a ∷ left) b
    → ArticlesLeft limit said G left (one_article_more b a)
unfolding IsStrictlySortedBy
one_article_less limit said G a left b witness l = record {
  limit_is = l.limit_is;
  is_whole = refl;
  part = part_with_article said G b.spool a.id (given_text a) l.part (text_is_given said G a witness.given l.shown.0 l.of_spool.0);
  groups = l.groups;
  shown = l.shown.1;
  ascending = l.ascending.1;
  of_spool = l.of_spool.1;
  not_made = absent_behind b.spool.articles a.id (given_text a) left l.ascending.0 l.not_made.1;
  others = λ id t. elim (l.others id t) [
    | inl among ↦ elim (or_cases (is_same a.id id) (list_any (λ a. is_same a.id id) left) among) [
      | inl here ↦ inr (ap (λ q. is_some (get (insert b.spool.articles a.id (given_text a)) q))
          (sym (same_text a.id id (sym here))) ∙ ap is_some (got_here nat_list_cmp_total b.spool.articles a.id (given_text a)))
      | inr behind ↦ inl behind
    ]
    | inr made ↦ inr (got_still nat_list_cmp_total names_apart b.spool.articles a.id (given_text a) id made)
  ];
}

-- the call that adds an article does so, or memory is refused
pub article_added : (limit : Limit) (said : List Fact) (G : Spool) (a : ShownArticle)
    (left : List ShownArticle) (b new : Building) (id : Id) (t : Text) (r : Result (Unit {0}) SpoolFault)
    → IsGivenSpool limit said G → ArticlesLeft limit said G (a ∷ left) b
    → id ≡ a.id → t ≡ given_text a → Builds (article_fault b.spool id t) (with_article b.spool id t) r b new → Makes r (λ _. ArticlesLeft limit said G left new)
article_added limit said G a left b new id t r witness l is text call = grind (arith, called, article_has_no_fault, one_article_less)
