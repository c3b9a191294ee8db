-- The names that most proofs cite, of this crate and of others, passed on from one place. Declares nothing.
pub use Rattle.std.proofs.Common.{◌≡◌, Bool, not, IsTrue, List, [], ◌∷◌, map, Some, refl, sym, ap, subst, ◌∙◌, arith, ◌+◌, ◌^◌, ◌<◌, ◌≤◌, ℕ, true, false}
pub use Rattle.std.proofs.Common.{Option, None, inl, inr, ◌++◌, length, append-nil, append_assoc, take, get_or, MatchOption, ◌&&◌, is_some, ◌==◌, cond, ◌||◌}
pub use Rattle.std.proofs.{Common.{rules, take_all, drop, Bor}, Math.Bool.{or-false}, lemmas.Bool.{true≢false, and_from, cases_lt, and_parts, eqb-true, eq-eqb}}
pub use Rattle.std.proofs.lemmas.Bool.{or_left, false_from_ne_true, true_from_ne_false, not-true, or_right, leb-true, or_from, ltb-true, Decides.{Decides-eqb}}
pub use Rattle.std.proofs.lemmas.{Grind.{flat_map-append}, List.{length-map, Folds.{list_any-append}}, Result.{IfOk-weaker}}
pub use Rattle.std.proofs.lemmas.{Iterator.Consumers.{nth_from_yields_List, YieldsList-from_first}, Map.Views.{any-filter_same}}
pub use Rattle.std.specs.{BTreeMap.{insert_entry, keys}, Cmp.{nat_cmp_total, Lexicographic.{slice_cmp, same_text, nat_list_eq_equiv, nat_list_cmp_total}}}
pub use Rattle.std.specs.{Cmp.Lexicographic.{texts_ties}, FinMap.{FinMap, get, entries, insert, get-insert, slice_cmp-IsAntisymmetric, nat_cmp-IsAntisymmetric}}
pub use Rattle.std.specs.{FinMap.{get-empty, empty, len}, List.{list_any, filter, AllByRecursion, list_all}, Option.{option_map_or, option_or}}
pub use Rattle.std.specs.{Option.{option_copied_mut}, Ordering.{nat_cmp, eq_by_cmp, is_eq}, Prelude.{◌↔◌, IsFalse, option_map, slice_get, ⊤, unwrap_or, IfSome}}
pub use Rattle.std.specs.{Prelude.{if◌then◌else◌, ◌≢◌, nat_le}, Rc.{rc_str_bytes}, declared.cmp.Ordering.{Ordering, TheVariants.{Equal}}}
pub use Rattle.nntp_article.proofs.{SessionLemmas.{LinesLeft.{one_more, next_left, none_left, between}, SetKeys.{any-insert_key}}, ShownMaps.{insert-same}}
pub use Rattle.nntp_article.proofs.ShownMaps.{octet_keys, get-shown, replaced, insert-shown, entries-shown, option_map_id, is_some-option_map, missing}
pub use Rattle.nntp_article.specs.{Article.{Parts.{Id, Line}, Fields.{words_in}}, Inner.{Fields.{TellsWords}, Listed.{Lists, lists_of, lists}}}
pub use Rattle.nntp_article.specs.{Inner.{Misfit.{numbers_of}, ShownMap.{shown, shown_entry}}, Session.Machine.{is_same, is_ascending, group_names}}
pub use Rattle.nntp_article.specs.Session.{Machine.{names_differ, overview_numbers, start, fits, Visible, only, is_article_number, active_fits}, Spool.{Name}}
pub use Rattle.nntp_article.specs.declared.{session.profile.Profile.{Profile}, article.field.Field.{Field}}
pub use Rattle.nntp_kept_articles.specs.Inner.{ArticleView.{is_added}, Articles.{head_sent, telling, said_kept, AreKeptArticles}, ArticleSaid.{said_alone}}
pub use Rattle.nntp_kept_articles.specs.Inner.ArticleSaid.{IsSaidKept, kept_by, IsSaidAdded, IsArticleAdded, MayBeSaid, ArticleJoins, IsThereAlready, Sends}
pub use Rattle.nntp_kept_articles.specs.Inner.{ArticleSaid.{OfArticle, IsToExist, Exists, Describes, Lacks}, PartView.{article_said}}
pub use Rattle.nntp_kept.specs.Inner.Kept.{Kept, told, AreKeptGroups, MayShow, id_of, place_of, KeptGroup, Told, IsUntold, AreKept, IsKept, ids_with}
pub use Rattle.nntp_kept.specs.Inner.Kept.{places_with, with_part, Changes, Agree, MayHave, AreKeptNames, IsShownAt, KeptNames, WasAnswered}
pub use Rattle.nntp_kept.specs.Inner.{KeptSaying.{said_listed, IsTextOf, MayGive, with_overviews, GroupJoins}, ListedGroups.{MayList, WereListed, is_listed}}
pub use Rattle.nntp_kept.specs.Inner.{ListedGroups.{shown_lines, NoneIsMissing, LineJoins}, ListedOverviews.{HaveOwn, id_listed, place_listed, OverviewJoins}}
pub use Rattle.nntp_kept.specs.Inner.Saying.{OfGroup, Saying, asked_id, sent_facts, lack_facts, id_facts, group_facts, facts_in, Tells, AreListed, MayBeOf}
pub use Rattle.nntp_kept.specs.Inner.{Saying.{MaySay, overviews_facts, nothing, saying_by}, SayingView.{id_at, of_group, saying_of}}
pub use Rattle.nntp_kept.specs.declared.joins.Joins.TheVariants.{Again}
pub use Rattle.nntp_numbers.{specs.Inner.{Part.{Says}, Summary.{IsSummary, AreBounded}}, proofs.UnseenNumbers.{are_unseen}}
pub use Rattle.nntp_said.specs.{Asks.{Ask, Bounds, ListsIn, Estimates}, Facts.{Fact, GroupsAre, ThereIs, Asks, OverviewsAre, facts_of, group_of, FieldsAre}}
pub use Rattle.nntp_said.specs.{Facts.{here, ThereIsNo}, Inner.FactView.{fact_of}, declared.position.Position.{Position}}
pub use Rattle.nntp_theory.proofs.{Given.ShownNames.{shown_named}, Maps.{sorted_keys, in_get}, Members.{in_map, from_map, any_in, found_in, In, all_at}}
pub use Rattle.nntp_theory.proofs.Members.{all_from, in_front, in_back, contains_in, in_contains, each_of, all_both, all_back, first_found, any_back}
pub use Rattle.nntp_theory.proofs.{OkResults.{if_ok, on_ok, on_both}, Together.FactsJoin.{asks_append, together_more, none_agrees}}
pub use Rattle.nntp_theory.proofs.Together.{FactsOfASpoolStand.{same_itself}, TwoListsOfFacts.{any_silent, given_silent, given_append, or_none, any_more}}
pub use Rattle.nntp_theory.proofs.{Together.ListedOverviews.{apart_agree, overview_at, overview_of, told_by, alone_agrees}, Ids.OnePlaceOfAnId.{agree_together}}
pub use Rattle.nntp_theory.{proofs.Ids.OnePlaceOfAnId.{shown_with_id}, specs.Given.{shows_group, is_shown_group, asks_of, first_given, id_in}}
pub use Rattle.nntp_theory.specs.Given.{fields_of_overview, fields_in, is_denied, demand, IsGivenNumber, id_of_overview, denies, head_in, body_in}
pub use Rattle.nntp_theory.specs.Inner.Together.{said_of, Together, JoinIds, AsksStand, JoinNumbers, join_said, AreSame, JoinArticle, said_nothing}
pub use Rattle.nntp_theory.specs.{Inner.Together.{SaidOfArticle, IsWellFormed, Join, AgreesWithItself, JoinNames}, Together.{shows_article, denies_group}}
pub use Rattle.nntp_theory.specs.Together.{number_in, denies_article, is_possible, number_of_overview}
pub use Rattle.nntp_wire.{proofs.DecidedLemmas.{group_name-iff}, specs.{Answer.{Asked, Response}, Decided.{matches_name, is_group_name}}}
pub use Rattle.nntp_wire.specs.{Inner.{Decided.{is_asked}, View.{overview_value, active_value, asked}, AnswerView.{response}}, Listing.{ActiveValue, Fields}}
pub use Rattle.nntp_wire.specs.{Listing.{OverviewValue, active_groups, overviews_of}, Name.{IsGroupName}, declared.{command.What.{What}, marks.Marks.{Marks}}}
pub use Rattle.nntp_wire.specs.{declared.range.Range.{Range}, Wildmat.{is_wildmat}}
pub use borrow.Author.Tests.{tests}
pub use mir.Val.{bool_byte}
pub use Rattle.nntp_intervals.specs.Inner.Intervals.{holds}
