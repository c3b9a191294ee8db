-- The names that most proofs cite, of this crate and of others, passed on from one place. Declares nothing.
pub use Rattle.std.proofs.Common.{◌≡◌, Bool, not, IsTrue, List, [], ◌∷◌, map, Some, refl, sym, ap, subst, ◌∙◌, arith, ℕ, true, false, Option, None, ◌++◌}
pub use Rattle.std.proofs.{Common.{MatchOption, ◌&&◌, is_some, cond, ◌||◌, rules}, Math.Bool.{or-false}, lemmas.Bool.{true≢false, false_from_ne_true, not-true}}
pub use Rattle.std.{proofs.lemmas.{Bool.{not-false}, List.Folds.{list_any-append}}, specs.{BTreeMap.{insert_entry}, Cmp.{eq_by_cmp_equiv}}}
pub use Rattle.std.specs.{Cmp.Lexicographic.{slice_cmp, same_text, nat_list_eq_equiv, nat_list_cmp_total, texts_ties}, FinMap.{FinMap, get, entries, insert}}
pub use Rattle.std.specs.{FinMap.{get-insert, slice_cmp-IsAntisymmetric, nat_cmp-IsAntisymmetric}, List.{list_any, filter, AllByRecursion}}
pub use Rattle.std.specs.{Option.{option_map_or, option_or}, Ordering.{nat_cmp, eq_by_cmp, is_eq}, Prelude.{◌↔◌, option_map, ⊤, unwrap_or}, Rc.{rc_str_bytes}}
pub use Rattle.std.specs.declared.cmp.Ordering.{Ordering, TheVariants.{Equal}}
pub use Rattle.nntp_article.proofs.{SessionLemmas.SetKeys.{any-insert_key}, ShownMaps.{insert-same, octet_keys, get-shown, replaced, insert-shown}}
pub use Rattle.nntp_article.{proofs.ShownMaps.{entries-shown}, specs.{Article.Parts.{Id, Line}, Session.Machine.{is_same, only}}}
pub use Rattle.nntp_kept_articles.specs.Inner.{ArticleView.{known_article, is_added}, Articles.{articles_in, with_new, head_sent, body_sent, unsent, telling}}
pub use Rattle.nntp_kept_articles.specs.Inner.Articles.{MayBeSent, MayBeTold, with_sent, KeptArticle, said_kept, AreKeptArticles, IsAddedIf}
pub use Rattle.nntp_kept_articles.specs.Inner.ArticleSaid.{said_alone, IsSaidKept, kept_by, IsSaidAdded, IsArticleAdded, IsThereAlready, SaidJoins, Sends}
pub use Rattle.nntp_kept_articles.specs.Inner.{ArticleSaid.{OfArticle, IsToExist, Exists, Describes, Lacks}, PartView.{article_said}}
pub use Rattle.nntp_kept_articles.specs.declared.known.KnownArticle.TheVariants.{Unsent}
pub use Rattle.nntp_said.specs.Facts.{Fact, FieldsAre, TextIs}
pub use Rattle.nntp_theory.proofs.{Maps.{sorted_keys, in_get, get_in}, Members.{in_map, from_map, any_in, found_in, In, all_from}, OkResults.{if_ok}}
pub use Rattle.nntp_theory.{proofs.Together.{FactsOfASpoolStand.{same_itself}, TwoListsOfFacts.{given_append, or_none}}, specs.Given.{is_mentioned, head_in}}
pub use Rattle.nntp_theory.specs.{Given.{body_in}, Inner.Together.{said_of, join_said, AreSame, JoinArticle, said_nothing, SaidOfArticle}}
pub use Rattle.nntp_theory.specs.Together.{shows_article, denies_article}
pub use Rattle.nntp_wire.specs.{Inner.View.{overview_value}, Listing.{Fields, OverviewValue, overviews_of}, declared.command.What.{What}}
