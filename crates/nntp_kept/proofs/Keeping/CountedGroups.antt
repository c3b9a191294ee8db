-- How many groups that are listed are shown already: as many as are shown and match exactly if none is missing.
use Rattle.nntp_kept.proofs.Base.{◌≡◌, ℕ, Bool, true, ◌&&◌, not, IsTrue, is_some, List, [], ◌∷◌, ◌++◌, length, Option, refl, sym, ap, subst, ◌∙◌, arith}
use Rattle.nntp_kept.proofs.Base.{true≢false, and_parts, and_from, ◌↔◌, IsFalse, AllByRecursion, list_any, list_all, filter, option_map_or, get, same_text}
use Rattle.nntp_kept.proofs.Base.{nat_list_eq_equiv, matches_name, is_asked, ActiveValue, Name, is_same, group_names, names_differ, Fact, GroupsAre}
use Rattle.nntp_kept.proofs.Base.{shows_group, is_shown_group, denies_group, Together, In, in_contains, contains_in, in_front, all_at, any_in, found_in}
use Rattle.nntp_kept.proofs.Base.{shown_named, told, AreKeptGroups, MayList, WereListed, is_listed, shown_lines, NoneIsMissing, any-filter_same, is_group_name}
use Rattle.nntp_kept.{proofs.{Base.{group_name-iff}, Keeping.KeptGroups.{Groups, shown_kept}}, specs.Inner.Kept.{asked_count}}
use Rattle.nntp_article.proofs.SessionLemmas.MatchingGroups.{as_many, each_listed}

-- groups that were listed are so behind more facts
pub listed_still : (facts more : List Fact) (p : Option (List ℕ)) (count : ℕ) → WereListed facts p count → WereListed (facts ++ more) p count
listed_still facts more p count were = grind (arith, contains_in, in_front, in_contains)

-- ---- some of the lines

-- what holds of each name holds of those of the lines that pass a test
all_filtered : (test : ActiveValue → Bool) (p : Name → Bool) (lines : List ActiveValue) → list_all p (group_names lines) ≡ true → list_all p (group_names (filter test lines)) ≡ true
all_filtered test p [] e = refl
all_filtered test p (line ∷ lines) e = let both = and_parts (p line.name) (list_all p (group_names lines)) e in
    grind (arith, all_filtered test p lines both.1)

-- where no group is listed twice, none is in those
still_differ : (test : ActiveValue → Bool) (lines : List ActiveValue) → names_differ lines ≡ true → names_differ (filter test lines) ≡ true
still_differ test [] e = refl
still_differ test (line ∷ lines) e =
    let other = λ (word : Name). not (is_same line.name word) in
    let both = and_parts (list_all other (group_names lines)) (names_differ lines) e in
    grind (arith, all_filtered, still_differ test lines both.1)

-- the names of the lines are compared the other way round
listed_by : (lines : List ActiveValue) (name : Name) → list_any (λ line. is_same name line.name) lines ≡ is_listed lines name
listed_by lines name = λ i. list_any (λ line. nat_list_eq_equiv.symm name line.name i) lines

-- ---- what was listed

module _ (facts : List Fact) (p : Option (List ℕ)) (t : Together facts) (before : List ActiveValue) (said : In (GroupsAre p before) facts) where
  -- a name that matches and isn't denied was listed
  was_listed : (name : Name) → option_map_or (λ w. matches_name w name) p true ≡ true → IsFalse (list_any (denies_group name) facts) → is_listed before name ≡ true
  was_listed name matching free = grind (arith, and_from, true≢false, any_in)

-- a name that is listed matches, if each line does
listed_matches : (p : Option (List ℕ)) (lines : List ActiveValue) → AllByRecursion (λ line. IsTrue (option_map_or (λ w. matches_name w line.name) p true)) lines
    → (name : Name) → is_listed lines name ≡ true → option_map_or (λ w. matches_name w name) p true ≡ true
listed_matches p lines matching name there =
    let f = found_in (λ line. is_same line.name name) lines there in
    subst (λ name. option_map_or (λ w. matches_name w name) p true ≡ true) (same_text f.0.name name (sym f.2))
    (all_at (λ line. IsTrue (option_map_or (λ w. matches_name w line.name) p true)) f.0 lines matching f.1)

-- ---- groups that are shown and match

module _ (facts : List Fact) (groups : Groups) (kept : AreKeptGroups facts groups) (t : Together facts) (p : Option (List ℕ)) where
  is_kept : (name : Name) → is_some (get groups name) ≡ is_shown_group facts name
  is_kept name = shown_kept (told facts) groups name kept

  -- there is no wildmat, or the name matches it
  abbrev is_matched : Name → Bool
  is_matched name = option_map_or (λ w. matches_name w name) p true

  asked : (name : Name) → is_shown_group facts name ≡ true → is_matched name ≡ true → is_asked p name ≡ true
  asked name shown matching = and_from (is_group_name name) (is_matched name) ((group_name-iff name).1 (shown_named facts name t.well_formed shown)) matching

  module _ (lines : List ActiveValue) (differ : names_differ lines ≡ true) (are : (name : Name) → is_listed lines name ≡ true → (is_shown_group facts name ≡ true) × (is_matched name ≡ true)) where
    are_asked : (name : Name) → list_any (λ line. is_same name line.name) lines ≡ true → (is_some (get groups name) ≡ true) × (is_asked p name ≡ true)
    are_asked name e = let a = are name (sym (listed_by lines name) ∙ e) in (is_kept name ∙ a.0, asked name a.0 a.1)

    -- where each of them is listed, as many are listed
    as_many_listed : ((name : Name) → is_shown_group facts name ≡ true → is_matched name ≡ true → is_listed lines name ≡ true) → asked_count groups p ≡ length lines
    as_many_listed each = as_many groups (is_asked p) lines differ are_asked
        (λ name here passes. listed_by lines name ∙ each name (sym (is_kept name) ∙ here) (and_parts (is_group_name name) (is_matched name) passes).1)

    -- and the other way round
    all_listed : asked_count groups p ≡ length lines → (name : Name) → is_shown_group facts name ≡ true → is_matched name ≡ true → is_listed lines name ≡ true
    all_listed count name shown matching =
        sym (listed_by lines name) ∙ each_listed groups (is_asked p) lines differ are_asked count name (is_kept name ∙ shown) (asked name shown matching)

  -- as many were listed for the wildmat
  pub were_asked : (count : ℕ) → WereListed facts p count → count ≡ asked_count groups p
  were_asked count were =
      let said = in_contains (GroupsAre p were.lines) facts were.said in
      sym were.counted
      ∙ sym (as_many_listed were.lines were.may.differ
      (λ name there. (any_in (shows_group name) (GroupsAre p were.lines) facts said there, listed_matches p were.lines were.may.matching name there))
      (λ name shown matching. was_listed facts p t were.lines said name matching (t.groups name shown)))

  -- as many that are listed are shown, exactly if none is missing
  pub as_many_shown : (lines : List ActiveValue) → MayList p lines → (length (shown_lines facts lines) ≡ asked_count groups p) ↔ NoneIsMissing facts p lines
  as_many_shown lines may = (
    λ count name shown matching. (of_shown name (all_listed (shown_lines facts lines) differ are (sym count) name shown matching)).1,
    λ none. sym (as_many_listed (shown_lines facts lines) differ are (λ name shown matching.
        listed_if_shown name ∙ and_from (is_shown_group facts name) (is_listed lines name) shown (none name shown matching))),
  )
    where
      differ : names_differ (shown_lines facts lines) ≡ true
      differ = still_differ (λ line. is_shown_group facts line.name) lines may.differ

      listed_if_shown : (name : Name) → is_listed (shown_lines facts lines) name ≡ (is_shown_group facts name && is_listed lines name)
      listed_if_shown name = any-filter_same (λ line. is_same line.name name) (λ line. is_shown_group facts line.name) (is_shown_group facts name)
          (λ line e. ap (is_shown_group facts) (same_text line.name name (sym e))) lines

      of_shown : (name : Name) → is_listed (shown_lines facts lines) name ≡ true → (is_shown_group facts name ≡ true) × (is_listed lines name ≡ true)
      of_shown name e = and_parts (is_shown_group facts name) (is_listed lines name) (sym (listed_if_shown name) ∙ e)

      are : (name : Name) → is_listed (shown_lines facts lines) name ≡ true → (is_shown_group facts name ≡ true) × (is_matched name ≡ true)
      are name e = let both = of_shown name e in (both.0, listed_matches p lines may.matching name both.1)
