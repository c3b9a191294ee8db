-- Where nothing is left, the spool that is made is the given one.
use Rattle.std.proofs.Common.{arith, ◌≡◌, ℕ, true, false, List, [], Option, None, Some, is_some, IsSome, IsTrue, Ok, inl, inr, refl, sym, ap, ◌∙◌}
use Rattle.std.{proofs.lemmas.Bool.{true≢false, false≢true}, specs.{Prelude.{unwrap_or}, List.{list_any}, Cmp.Lexicographic.{nat_list_cmp_total}, FinMap.{get}}}
use Rattle.std.specs.FinMap.{empty, same_map}
use Rattle.nntp_wire.specs.declared.limit.Limit.{Limit}
use Rattle.nntp_article.specs.{Article.Parts.{Id}, Session.{Spool.{Spool, Name, numbers}, Machine.{is_same}}}
use Rattle.nntp_said.specs.Facts.{Fact, OverviewsAre}
use Rattle.nntp_theory.{specs.{Given.{IsGiven, id_in, id_shown, is_sent, gives_article}, Together.{shows_article}}, proofs.Given.ConstructedSpool.{names_apart}}
use Rattle.nntp_theory.proofs.{Members.{any_in, found_in, first_found}, Together.{ListedOverviews.{overview_at}, FactsOfASpoolStand.{same_itself}}}
use Rattle.nntp_content.{specs.Content.{ids_have_articles}, proofs.ShownMaps.{spool_is}}
use Rattle.nntp_store.{specs.Inner.Building.{Building, finished}, proofs.WholeSpools.{spool_knows}}
use Rattle.nntp_witness.specs.Inner.{Witness.{IsGivenSpool}, Making.{ArticlesLeft}}

-- ---- what facts show

-- an id that a success names is shown to have an article
sent_shows : (id : Id) (fact : Fact) → gives_article id fact ≡ true → shows_article id fact ≡ true
sent_shows id fact t = grind arith

-- where one of the facts is such a success
sent_is_shown : (id : Id) (facts : List Fact) → IsTrue (is_sent facts id) → IsTrue (list_any (shows_article id) facts)
sent_is_shown id facts t = let f = found_in (gives_article id) facts t in any_in (shows_article id) f.0 facts f.1 (sent_shows id f.0 f.2)

-- and so is one that a fact shows for a number
id_shows : (name : Name) (n : ℕ) (id : Id) (fact : Fact) → id_in name n fact ≡ Some id → shows_article id fact ≡ true
id_shows name n id (OverviewsAre g r os) e =
    let o = overview_at g name r os n id e in
    any_in (λ o. is_same o.id id) o.overview os o.there (ap (λ other. is_same other id) o.same_id ∙ same_itself id)
id_shows name n id fact e = grind (arith, same_itself)

-- where one of the facts does
id_is_shown : (facts : List Fact) (name : Name) (n : ℕ) (id : Id) → id_shown facts name n ≡ Some id → IsTrue (list_any (shows_article id) facts)
id_is_shown facts name n id e = let f = first_found (id_in name n) facts id e in any_in (shows_article id) f.0 facts f.1 (id_shows name n id f.0 f.2)

-- ---- the articles

module _ (limit : Limit) (facts : List Fact) (G : Spool) (b : Building) (given : IsGiven facts G) (left : ArticlesLeft limit facts G [] b) where
  -- an id that is shown has its article
  shown_is_made : (id : Id) → IsTrue (list_any (shows_article id) facts) → IsSome (get b.spool.articles id)
  shown_is_made id t = elim (left.others id t) [ inl none ↦ absurd (false≢true none) | inr made ↦ made ]

  -- and so has one that stands at a number
  used_is_made : (name : Name) (n : ℕ) (id : Id) → get (numbers G name) n ≡ Some id → IsSome (get b.spool.articles id)
  used_is_made name n id at = by (id_shown facts name n) refl
    where
      by : (o : Option Id) → id_shown facts name n ≡ o → IsSome (get b.spool.articles id)
      by None e = left.part.unshown name n id (ap (λ groups. get (unwrap_or (get groups name) empty) n) left.groups ∙ at) e
      by (Some other) e =
          let same : Some other ≡ Some id = sym (given.ids_shown name n other (ap is_some at) e) ∙ at in
          shown_is_made id (id_is_shown facts name n id (e ∙ same))

  -- so each article of the spool is made
  all_made : (id : Id) → IsSome (get G.articles id) → IsSome (get b.spool.articles id)
  all_made id i = elim ((given.articles id).0 i) [
    | inl used ↦ used_is_made used.0 used.1 id used.2
    | inr sent ↦ shown_is_made id (sent_is_shown id facts sent)
  ]

  -- and what is made of an id is the given article
  same_article : (id : Id) → get b.spool.articles id ≡ get G.articles id
  same_article id = grind (arith, true≢false, all_made)

  -- the spool that is made is the given one
  made_is_given : b.spool ≡ G
  made_is_given = spool_is b.spool G left.groups (same_map nat_list_cmp_total names_apart b.spool.articles G.articles same_article)

-- ---- the spool

-- a builder that hasn't failed hands out its spool, where each id has an article
finished_is : (limit : Limit) (b : Building) (G : Spool) → b.limit ≡ limit → b.failed ≡ false → b.spool ≡ G → ids_have_articles G ≡ true → finished b ≡ Ok (record { limit = limit; spool = G })
finished_is limit b G is whole same knows = cc

-- where no article is left the builder hands out the given spool
pub finished_is_given : (limit : Limit) (said : List Fact) (G : Spool) (b : Building)
    → IsGivenSpool limit said G → ArticlesLeft limit said G [] b
    → finished b ≡ Ok (record { limit = limit; spool = G })
finished_is_given limit said G b witness left = search (finished_is, made_is_given, spool_knows)
