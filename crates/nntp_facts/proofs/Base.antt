-- The names that most proofs cite, of this crate and of others, passed on from one place. Declares nothing.
pub use Rattle.nntp_kept.proofs.Base.{◌≡◌, Bool, not, IsTrue, List, [], ◌∷◌, map, Some, refl, sym, ap, subst, ◌∙◌, arith, ◌+◌, ◌^◌, ◌<◌, ◌≤◌, ℕ, true, false}
pub use Rattle.nntp_kept.proofs.Base.{Option, None, inl, inr, ◌++◌, length, append-nil, append_assoc, take, get_or, MatchOption, ◌&&◌, is_some, ◌==◌, cond, ◌||◌}
pub use Rattle.nntp_kept.proofs.Base.{rules, or-false, true≢false, and_from, cases_lt, and_parts, eqb-true, eq-eqb, or_left, false_from_ne_true, not-true, or_right}
pub use Rattle.nntp_kept.proofs.Base.{flat_map-append, length-map, list_any-append, nth_from_yields_List, YieldsList-from_first, same_text, get, list_any}
pub use Rattle.nntp_kept.proofs.Base.{AllByRecursion, list_all, option_map_or, ◌↔◌, IsFalse, option_map, slice_get, ⊤, unwrap_or, IfSome, if◌then◌else◌, ◌≢◌}
pub use Rattle.nntp_kept.proofs.Base.{option_map_id, Id, Line, words_in, Lists, lists_of, numbers_of, is_same, is_ascending, start, fits, Visible, only, Name}
pub use Rattle.nntp_kept.proofs.Base.{Profile, Field, head_sent, said_kept, AreKeptArticles, Kept, told, AreKeptGroups, Told, AreKept, IsKept, kept_by, said_listed}
pub use Rattle.nntp_kept.proofs.Base.{MayList, is_listed, NoneIsMissing, OfGroup, Saying, asked_id, facts_in, Sends, Tells, OfArticle, AreListed, MayBeOf, Exists}
pub use Rattle.nntp_kept.proofs.Base.{Describes, Lacks, article_said, id_at, of_group, saying_of, Says, IsSummary, AreBounded, Ask, Bounds, Estimates, Fact}
pub use Rattle.nntp_kept.proofs.Base.{GroupsAre, ThereIs, Asks, OverviewsAre, facts_of, group_of, here, Position, shown_named, any_in, found_in, In, all_at}
pub use Rattle.nntp_kept.proofs.Base.{all_from, in_front, in_back, contains_in, in_contains, each_of, all_both, all_back, first_found, any_back, if_ok, asks_append}
pub use Rattle.nntp_kept.proofs.Base.{together_more, same_itself, or_none, apart_agree, told_by, shows_group, is_shown_group, asks_of, first_given, id_in}
pub use Rattle.nntp_kept.proofs.Base.{fields_of_overview, fields_in, is_denied, demand, IsGivenNumber, denies, head_in, body_in, said_of, Together, AreSame}
pub use Rattle.nntp_kept.proofs.Base.{said_nothing, SaidOfArticle, IsWellFormed, Join, AgreesWithItself, shows_article, denies_group, number_in, denies_article}
pub use Rattle.nntp_kept.proofs.Base.{is_possible, Asked, Response, matches_name, asked, response, ActiveValue, Fields, OverviewValue, active_groups, overviews_of}
pub use Rattle.nntp_kept.{proofs.Base.{IsGroupName, What, Marks, Range}, specs.Inner.SayingView.{overviews_said}}
pub use Rattle.std.proofs.{Common.{zero, suc, length-append, ap₂, ◌⊎◌, ◌-◌}, lemmas.{Bool.{cases_Bool, Decides.{nat_tests}}, List.{map-append, get_or-map}}}
pub use Rattle.std.{proofs.lemmas.{List.{take_more}, Option.{slice_get-get_or}}, specs.{Prelude.{nat_lt, is_none}, Bool.{then_some}}}
pub use Rattle.nntp_article.{proofs.SessionLemmas.Misfits.{fits_by_reason}, specs.{Article.Fields.{fields_of_head}, Session.Limit.{profile_of}}}
pub use Rattle.nntp_article.specs.Session.Machine.{visible_after, Run, head_fits}
pub use Rattle.nntp_facts.specs.Inner.{Noted.{FactsKept, IsNotedBehind}, PointView.{point_of}, Points.{AreHeld, IsPointOf, NoneBefore}}
pub use Rattle.nntp_facts.specs.{Inner.StatementView.{statement_of, rank_of_numbers}, Standing.{stands_of}, declared.points.NumbersKind.{NumbersKind}}
pub use Rattle.nntp_pair.specs.{Inner.Pairing.{lines_in, IsSpelled}, Pairing.{Paired, asked_at, asked_of, responses_of}}
pub use Rattle.nntp_said.specs.{Asks.{position_after}, Facts.{Holds, facts_from}, Inner.Facts.{FitsAll}, declared.position.Position.TheVariants.{Nowhere}}
pub use Rattle.nntp_theory.proofs.Given.{FirstBadAnswer.{size-append, none_permitted}, SessionsByFacts.{stand_each, permits_alone}, SessionsGoOn.{facts_behind}}
pub use Rattle.nntp_theory.proofs.{Given.SessionsGoOn.{small_behind}, Members.{in_cases, all_front, if_some, none_there, part_first}, OkResults.{if_two}}
pub use Rattle.nntp_theory.proofs.Session.PairsGoOn.{facts_next, as_many, ends, MayFollow, of_these, permitted_next, visible_next, position_next, with_pair}
pub use Rattle.nntp_theory.proofs.{Session.NumbersOfShownGroups.{Among, HasNoted, still_stands}, Together.TwoListsOfFacts.{apart_both, give_one_both}}
pub use Rattle.nntp_theory.proofs.{Together.{TwoListsOfFacts.{give_same_of_both}, WellFormed.{spelled_formed}}, Conflicts.{core_start, at_point}}
pub use Rattle.nntp_theory.proofs.{PointsByRank.{of_rank}, Reading.JudgedSession.{one_more_in_session, accepted_one_more, index_in_session}}
pub use Rattle.nntp_theory.specs.{Answered.{facts_of_all, Answered, SomePermitsEach, PermitsEach}, Conflict.{Placed, told_with, SomeHas, below, IsFound, the_group}}
pub use Rattle.nntp_theory.specs.Conflict.{said, Article, widest, Point, Step, Group, Number, Count, First, rank, ConflictAt, AreTooMany, placed_behind, a_group}
pub use Rattle.nntp_theory.specs.{Conflict.{IdOf, PlaceOf, places_of, HeadOf, BodyOf, words_told}, Given.{facts_of_session, is_known}, Inner.Conflict.{FitsThere}}
pub use Rattle.nntp_theory.specs.Inner.{Conflict.{IsPartOfCore, AreApart}, Exchanged.{said_behind, AreFew, said_by}, Given.{size}, Together.{GiveSame}}
pub use Rattle.nntp_theory.specs.{Permitted.{exchanged, ArePermittedBehind}, Together.{MeetsDemand, GiveOne}, declared.noted.Noted.TheVariants.{Contradiction}}
pub use Rattle.nntp_theory.specs.{declared.noted.Noted.TheVariants.{Consistent, OutOfPlace}, Classes.{visible_from, position_from}}
pub use Rattle.nntp_wire.specs.{declared.{marks.Marks.TheVariants.{Lenient}, limit.Limit.{Limit}}, Session.{ClientStream}, Limit.{greatest}}
