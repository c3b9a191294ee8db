-- An answer fits exactly if there is no reason why it doesn't.
use Rattle.std.proofs.Common.{◌≡◌, ℕ, ◌↔◌, Bool, true, false, not, ◌&&◌, ◌||◌, ◌==◌, IsTrue, Option, None, Some, List, [], ◌∷◌, refl, sym, ap, ◌∙◌, arith}
use Rattle.std.{proofs.lemmas.Cmp.{nat_list_eq_equiv}, specs.{Prelude.{nat_lt, is_none, is_some}, List.{list_any, list_all}, Option.{option_map_or, option_or}}}
use Rattle.nntp_wire.specs.{Answer.{Asked, Response, to, numbers_are, sends, active_are, overviews_are, plain, success_code}, declared.range.Range.{Range}}
use Rattle.nntp_wire.specs.{declared.{water_marks.WaterMarks.{WaterMarks}, command.{What.{What}, OverviewKeyword.{OverviewKeyword}}}, Listing.{ActiveValue}}
use Rattle.nntp_wire.specs.{Listing.{OverviewValue, listed_numbers, active_groups, overviews_of}, Command.{Target, by_id, current, Overviewed, the_id}}
use Rattle.nntp_wire.{specs.{Command.{in_range, the_current, list_group, retrieve, list_active, over}, Reason.{unless}}, proofs.Reasons.{none_unless, none_two}}
use Rattle.nntp_wire.proofs.Reasons.{none_three, none_four, none_five, none_each, none_by_test, and_true}
use Rattle.nntp_article.specs.{Article.Parts.{Line, Id}, Session.{Spool.{Name}, Machine.{Visible, is_same, is_article_number, is_in_range, marks_fit}}}
use Rattle.nntp_article.specs.Session.Machine.{head_fits, active_fits, all_differ, group_names, number_fits, overview_numbers, overview_ids, only, may_list}
use Rattle.nntp_article.specs.Session.{Machine.{overviews_fit, fits}, Misfit.{Misfit, wrong_lines, name_misfit, marks_misfit, overview_misfit}}
use Rattle.nntp_article.specs.Session.Misfit.{overviews_misfit, step_misfit, order_misfit, listed_misfit, target_misfit, head_misfit, active_misfit}
use Rattle.nntp_article.specs.{Session.Misfit.{twice_misfit, code_misfit, misfit}, Inner.{Ascending.{ascends_from}, MisfitView.{why_if}}}
use Rattle.nntp_article.specs.declared.session.{misfit.Misfit.{Misfit as Reason}, profile.Profile.{Profile}}
use Rattle.nntp_article.proofs.SessionLemmas.AscendingNumbers.{ascends-ascending}

-- ---- rows

none_marks : (profile : Profile) (v : Visible) (name : Name) (m : WaterMarks) → is_none (marks_misfit profile v name m) ≡ marks_fit profile v name m
none_marks profile v name m = grind arith

none_step : (before : Option ℕ) (n : ℕ) → is_none (step_misfit before n) ≡ option_map_or (λ m. nat_lt m n) before true
none_step before n = grind arith

none_order : (before : Option ℕ) (ns : List ℕ) → is_none (order_misfit before ns) ≡ ascends_from before ns
none_order before [] = refl
none_order before (n ∷ ns) = none_two _ _ _ _ (none_step before n) (none_order (Some n) ns)

none_listed : (limit : ℕ) (range : Range) (n : ℕ) → is_none (listed_misfit limit range n) ≡ (is_article_number limit n && is_in_range range n)
none_listed limit range n = none_two _ _ _ _ (none_unless (is_article_number limit n) _) (none_unless (is_in_range range n) _)

none_name : (why : Misfit) (asked : Option Name) (name : Name) → is_none (name_misfit why asked name) ≡ option_map_or (is_same name) asked false
none_name why asked name = grind arith

none_target : (profile : Profile) (v : Visible) (why : Misfit) (which : Target) (number : ℕ) (id : Id)
    → is_none (target_misfit profile v why which number id) ≡ number_fits profile v which number id
none_target profile v why which number id = grind arith

none_head : (what : What) (id : Id) (lines : Option (List Line)) → is_none (head_misfit what id lines) ≡ head_fits what id lines
none_head what id lines = search arith

none_active : (profile : Profile) (p : Option (List ℕ)) (line : ActiveValue) → is_none (active_misfit profile p line) ≡ active_fits profile p line
none_active profile p line = grind arith

-- ---- words that are listed twice

-- none of the words is among these
abbrev are_others : List (List ℕ) → List (List ℕ) → Bool
are_others before words = list_all (λ word. not (list_any (is_same word) before)) words

others_than_none : (words : List (List ℕ)) → are_others [] words ≡ true
others_than_none [] = refl
others_than_none (word ∷ words) = others_than_none words

others_than_more : (other : List ℕ) (before words : List (List ℕ))
    → are_others (other ∷ before) words ≡ (list_all (λ word. not (is_same other word)) words && are_others before words)
others_than_more other before [] = refl
others_than_more other before (word ∷ words) =
    ap (λ b. not (b || list_any (is_same word) before) && are_others (other ∷ before) words) (nat_list_eq_equiv.symm word other)
    ∙ ap (λ b. not (is_same other word || list_any (is_same word) before) && b) (others_than_more other before words)
    ∙ mixed (is_same other word) (list_any (is_same word) before) _ _
  where
    mixed : (a b c d : Bool) → (not (a || b) && (c && d)) ≡ ((not a && c) && (not b && d))
    mixed a b c d = grind arith

none_before : (before words : List (List ℕ)) → is_none (twice_misfit before words) ≡ (all_differ words && are_others before words)
none_before before [] = refl
none_before before (word ∷ words) = grind (arith, others_than_more, none_before (word ∷ before) words)

none_twice : (words : List (List ℕ)) → is_none (twice_misfit [] words) ≡ all_differ words
none_twice words = none_before [] words ∙ ap (λ b. all_differ words && b) (others_than_none words) ∙ and_true (all_differ words)

-- ---- overviews

none_overview : (profile : Profile) (v : Visible) (why : Misfit) (which : Target) (o : Option OverviewValue)
    → is_none (overview_misfit profile v why which o) ≡ option_map_or (λ o. number_fits profile v which o.number o.id) o false
none_overview profile v why which None = refl
none_overview profile v why which (Some o) = none_target profile v why which o.number o.id

none_overviews : (profile : Profile) (v : Visible) (why : Misfit) (keyword : OverviewKeyword) (which : Overviewed) (overviews : List OverviewValue)
    → is_none (overviews_misfit profile v why keyword which overviews) ≡ overviews_fit profile v keyword which overviews
none_overviews profile v why keyword (in_range range) overviews =
    none_five _ _ _ _ _ _ _ _ _ _ (none_unless (is_some v.selected) why) (none_unless (may_list keyword overviews) wrong_lines)
    (none_order None (overview_numbers overviews) ∙ ascends-ascending (overview_numbers overviews))
    (none_each (listed_misfit profile.limit range) (λ n. is_article_number profile.limit n && is_in_range range n) (none_listed profile.limit range) (overview_numbers overviews))
    (none_twice (overview_ids overviews))
none_overviews profile v why keyword (the_id word) overviews = none_overview profile v why (by_id word) (only overviews)
none_overviews profile v why keyword the_current overviews =
    none_two _ _ _ _ (none_unless (is_some v.selected) why) (none_overview profile v why current (only overviews)) ∙ selected_once (only overviews)
  where
    selected_once : (o : Option OverviewValue) → (is_some v.selected && option_map_or (λ o. number_fits profile v current o.number o.id) o false)
        ≡ option_map_or (λ o. number_fits profile v current o.number o.id) o false
    selected_once o = grind arith

-- ---- answers

none_misfit : (profile : Profile) (v : Visible) (asked : Asked) (response : Response) → is_none (misfit profile v asked response) ≡ fits profile v asked response
none_misfit profile v (to (list_group word range)) (numbers_are m name lines) =
    none_four _ _ _ _ _ _ _ _ (none_name _ (option_or word v.selected) name) (none_marks profile v name m)
    (none_order None (listed_numbers lines) ∙ ascends-ascending (listed_numbers lines))
    (none_each (listed_misfit profile.limit range) (λ n. is_article_number profile.limit n && is_in_range range n) (none_listed profile.limit range) (listed_numbers lines))
none_misfit profile v (to (retrieve what which)) (sends sent) =
    none_three _ _ _ _ _ _ (none_unless (sent.code == success_code what) _) (none_target profile v _ which sent.number sent.id) (none_head what sent.id sent.block)
none_misfit profile v (to (list_active p)) (active_are lines) =
    none_two _ _ _ _ (none_each (active_misfit profile p) (active_fits profile p) (none_active profile p) (active_groups lines))
    (none_twice (group_names (active_groups lines)))
none_misfit profile v (to (over keyword which)) (overviews_are lines) = none_overviews profile v _ keyword which (overviews_of lines)
none_misfit profile v asked response = search arith

pub fits_without_reason : (profile : Profile) (v : Visible) (asked : Asked) (response : Response)
    → IsTrue (fits profile v asked response) ↔ (misfit profile v asked response ≡ None)
fits_without_reason profile v asked response = (
  λ h. none_by_test (misfit profile v asked response) (none_misfit profile v asked response ∙ h),
  λ e. sym (none_misfit profile v asked response) ∙ ap is_none e,
)

pub fits_by_reason : (profile : Profile) (v : Visible) (asked : Asked) (response : Response) (reason : Option Reason)
    → why_if reason ≡ misfit profile v asked response → is_none reason ≡ fits profile v asked response
fits_by_reason profile v asked response None e = ap is_none e ∙ none_misfit profile v asked response
fits_by_reason profile v asked response (Some reason) e = ap is_none e ∙ none_misfit profile v asked response

-- ---- loops that end at the first reason

-- the first of two reasons
pub why_or : (a b : Option Reason) → why_if (option_or a b) ≡ option_or (why_if a) (why_if b)
why_or a b = grind arith

pub plain_alone : (profile : Profile) (v : Visible) (asked : Asked) (code : ℕ)
    → misfit profile v asked (plain code) ≡ unless (fits profile v asked (plain code)) (code_misfit v asked code)
plain_alone profile v asked code = grind arith

-- no more is asked of words than which there are
pub twice_by_words : (before others words : List (List ℕ)) → ((word : List ℕ) → list_any (is_same word) before ≡ list_any (is_same word) others)
    → twice_misfit before words ≡ twice_misfit others words
twice_by_words before others [] e = refl
twice_by_words before others (word ∷ words) e =
    grind (arith, twice_by_words (word ∷ before) (word ∷ others) words (λ other. ap (λ b. is_same other word || b) (e other)))
