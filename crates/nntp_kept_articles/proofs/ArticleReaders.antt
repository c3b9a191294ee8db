-- What is shown of the articles that are kept.
use Rattle.nntp_kept_articles.proofs.Base.{◌≡◌, Bool, not, IsTrue, List, [], ◌∷◌, map, Some, refl, sym, ap, subst, ◌∙◌, arith, true≢false, list_any, filter}
use Rattle.nntp_kept_articles.proofs.Base.{AllByRecursion, Ordering, nat_cmp, slice_cmp, same_text, FinMap, get, entries, Id, is_same, Fact, shows_article}
use Rattle.nntp_kept_articles.proofs.Base.{said_of, sorted_keys, in_map, from_map, any_in, found_in, same_itself, KeptArticle, said_kept, AreKeptArticles}
use Rattle.nntp_kept_articles.proofs.{Base.{articles_in}, KeptArticles.{shown_kept, listed}, MadeLists.{read_off, all_along}}
use Rattle.nntp_kept_articles.specs.Inner.Readers.{shown_article, shown_articles, ShownArticle, IsShownArticle, AreShownArticles}
use Rattle.std.specs.{FinMap.{entries_sorted}, declared.cmp.Ordering.TheVariants.{Less}, Cmp.{both_ways}, List.Sorted.{IsStrictlySortedBy}}

-- ---- order

module _ {K X : Type 0} (R : K → K → Ordering) (p : K × X → Bool) where
  -- what is below all keys is below those that are left
  below_left : (k : K) (es : List (K × X)) → AllByRecursion (λ y. R k y ≡ Less) (map (λ e. e.0) es) → AllByRecursion (λ y. R k y ≡ Less) (map (λ e. e.0) (filter p es))
  below_left k [] h = tt
  below_left k (e ∷ es) h = grind (arith, below_left k es h.1)

  -- keys that are left are in order
  sorted_left : (es : List (K × X)) → IsStrictlySortedBy R (map (λ e. e.0) es) → IsStrictlySortedBy R (map (λ e. e.0) (filter p es))
  unfolding IsStrictlySortedBy
  sorted_left [] h = tt
  sorted_left (e ∷ es) h = grind (arith, below_left e.0 es h.0, sorted_left es h.1)

-- ---- the articles

-- what is shown of the articles that are kept is what the facts say
pub articles_shown : (facts : List Fact) (articles : FinMap (slice_cmp nat_cmp) KeptArticle) → AreKeptArticles facts articles → AreShownArticles facts (shown_articles articles)
articles_shown facts articles kept = record {
  ascending = subst (IsStrictlySortedBy (slice_cmp nat_cmp)) (sym (read_off one (λ a. a.id) (λ e. e.0) there (λ e. refl)))
      (sorted_left (slice_cmp nat_cmp) (λ e. not e.1.is_denied) (entries articles) (sorted_keys (slice_cmp nat_cmp) (entries articles) (entries_sorted articles)));
  all = λ id. both_ways _ _ (shown id) (back id);
  each = all_along (IsShownArticle facts) one there (λ e i.
      let is : said_of facts e.0 ≡ said_kept (Some e.1) = kept e.0 ∙ ap said_kept ((listed facts articles e.0 e.1 kept).0 i).0 in grind (arith, is));
}
  where
    one : Id × KeptArticle → ShownArticle
    one e = shown_article e.0 e.1

    there : List (Id × KeptArticle)
    there = articles_in (entries articles)

    shown : (id : Id) → IsTrue (list_any (λ a. is_same a.id id) (map one there)) → IsTrue (list_any (shows_article id) facts)
    shown id t =
        let f = found_in (λ a. is_same a.id id) (map one there) t in
        let e = from_map one f.0 there f.1 in
        grind (arith, e.2, same_text f.0.id id, listed facts articles e.0.0 e.0.1 kept)

    back : (id : Id) → IsTrue (list_any (shows_article id) facts) → IsTrue (list_any (λ a. is_same a.id id) (map one there))
    back id t =
        let at : (a : KeptArticle) → get articles id ≡ Some a → IsTrue (list_any (λ a. is_same a.id id) (map one there)) = λ a e.
        any_in (λ a. is_same a.id id) (one (id, a)) (map one there) (in_map one (id, a) there ((listed facts articles id a kept).1 (e, t))) (same_itself id) in
        grind (arith, at, shown_kept facts articles id kept, true≢false)
