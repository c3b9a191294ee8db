-- Why an answer doesn't fit the visible state: the condition of `fits` that fails first (RFC 3977, sections 3.2.1, 5, 6 and 7.6).
use Rattle.std.specs.Prelude.{ℕ, ◌+◌, ◌-◌, Bool, true, false, ◌&&◌, ◌||◌, ◌==◌, nat_lt, nat_le, if◌then◌else◌, List, [], ◌∷◌, map, Option, None, Some, is_some}
use Rattle.std.specs.{Prelude.{unwrap_or}, List.{list_any}, Option.{option_map_or, option_or}, FinMap.{get}}
use Rattle.nntp_wire.specs.Command.{Target, by_id, by_number, current, Request, capabilities, mode_reader, next, last, quit, opaque, ill_formed, group}
use Rattle.nntp_wire.specs.{Command.{Overviewed, the_id, in_range, the_current, list_group, retrieve, list_active, over}, Answer.{Asked, greeting, to, Success}}
use Rattle.nntp_wire.specs.Answer.{Response, group_is, numbers_are, sends, active_are, overviews_are, plain, success_code, overview_code}
use Rattle.nntp_wire.specs.declared.{water_marks.WaterMarks.{WaterMarks}, range.Range.{Range}, command.What.{What, TheVariants.{Article, Head, Body, Stat}}}
use Rattle.nntp_wire.specs.{declared.command.OverviewKeyword.{OverviewKeyword}, Listing.{ActiveValue, OverviewValue, listed_numbers, active_groups}}
use Rattle.nntp_wire.specs.{Listing.{overviews_of}, Decided.{matches_name}, Reason.{unless, first}}
use Rattle.nntp_article.specs.{Article.Parts.{Line, Id, is_empty, is_head, said_id, head_part}, Session.{Spool.{Name}, Machine.{Visible, is_same, is_generic}}}
use Rattle.nntp_article.specs.Session.Machine.{is_greeting, is_article_number, are_zeros, is_in_range, code_fits, group_names, overview_numbers, overview_ids}
use Rattle.nntp_article.specs.{Session.Machine.{only, may_list, none_in_range}, declared.session.profile.Profile.{Profile}}

-- why an answer doesn't fit
pub data Misfit : Type 0 where
  wrong_code : (code : ℕ) → (allowed : List ℕ) → Misfit  -- the code of the answer, and the codes that fit here, generic failures aside (section 3.2)
  wrong_name : (name : Name) → Misfit  -- the name in the answer, which isn't that of the group that was asked for (section 6.1)
  wrong_number : (number : ℕ) → Misfit  -- the number in the answer, which isn't the one that was asked for, or with which no group is selected (sections 6.2.1 and 8.3)
  wrong_id : (id : Id) → Misfit  -- the id in the answer, which isn't the one that was asked for (sections 6.2.1 and 8.3)
  below_low : (low : ℕ) → Misfit  -- an earlier low mark of the group, which is greater than the one in the answer (section 6.1.1.2)
  wrong_marks : (name : Name) → Misfit  -- the group whose marks begin below 1, are in no order, or leave no room for the estimate (sections 6.1.1.2 and 7.6.3)
  beyond_limit : (number : ℕ) → Misfit  -- a number that is 0, or greater than the greatest article number (section 6)
  not_above : (before number : ℕ) → Misfit  -- a listed number, and the next, which isn't greater (sections 6.1.2 and 8.3)
  beyond_range : (number : ℕ) → Misfit  -- a listed number outside the range that was asked for (sections 6.1.2 and 8.3)
  unmatched : (name : Name) → Misfit  -- a listed group whose name the wildmat doesn't match (section 7.6.3)
  listed_twice : (word : List ℕ) → Misfit  -- a group, or an id, that an earlier line lists too (sections 7.6.3 and 8.3)
  wrong_lines : Misfit  -- a wrong number of lines: none of a range that OVER lists, or not just one of an id or of the current article (section 8.3)
  no_head : Misfit  -- what is sent hasn't the parts that were asked for: no head stands where one is due (section 3.6)
  other_id : (said : Id) → Misfit  -- the id that the head says, which isn't the one in the answer (section 6.2.1)

-- ---- codes (section 3.2)

-- 412 where no group is selected, and else these codes (section 6.1.2)
abbrev pub codes_if_selected : Bool → List ℕ → List ℕ
codes_if_selected true codes = codes
codes_if_selected false codes = 412 ∷ []

-- the codes that fit ARTICLE, HEAD, BODY and STAT (section 6.2): a word of more than 16 digits names no article
abbrev pub retrieve_codes : Bool → What → Target → List ℕ
retrieve_codes is_selected what (by_id word) = success_code what ∷ 430 ∷ []
retrieve_codes is_selected what (by_number None) = codes_if_selected is_selected (423 ∷ [])
retrieve_codes is_selected what (by_number (Some n)) = codes_if_selected is_selected (success_code what ∷ 423 ∷ [])
retrieve_codes is_selected what current = codes_if_selected is_selected (success_code what ∷ 420 ∷ [])

-- the codes that fit OVER, XOVER, HDR and XHDR (sections 8.3 and 8.5; RFC 2980, sections 2.6 and 2.8)
abbrev pub over_codes : Bool → OverviewKeyword → Overviewed → List ℕ
over_codes is_selected keyword (the_id word) = overview_code keyword ∷ 430 ∷ []
over_codes is_selected keyword (in_range range) = codes_if_selected is_selected (overview_code keyword ∷ none_in_range keyword)
over_codes is_selected keyword the_current = codes_if_selected is_selected (overview_code keyword ∷ 420 ∷ [])

-- the codes that fit a command, successes and others: of a command that isn't understood only that of 300 to 399, where all others fit
abbrev pub command_codes : Bool → Request → List ℕ
command_codes is_selected capabilities = 101 ∷ []
command_codes is_selected mode_reader = 200 ∷ 201 ∷ []
command_codes is_selected quit = 205 ∷ []
command_codes is_selected (group word) = 211 ∷ 411 ∷ []
command_codes is_selected (list_group None range) = codes_if_selected is_selected (211 ∷ [])
command_codes is_selected (list_group (Some word) range) = 211 ∷ 411 ∷ []
command_codes is_selected next = codes_if_selected is_selected (223 ∷ 420 ∷ 421 ∷ [])
command_codes is_selected last = codes_if_selected is_selected (223 ∷ 420 ∷ 422 ∷ [])
command_codes is_selected (retrieve what which) = retrieve_codes is_selected what which
command_codes is_selected (list_active p) = 215 ∷ []
command_codes is_selected (over keyword which) = over_codes is_selected keyword which
command_codes is_selected opaque = 381 ∷ []
command_codes is_selected ill_formed = []

-- the codes that fit a prompt: of a greeting all four (section 5.1)
abbrev pub allowed_codes : Visible → Asked → List ℕ
allowed_codes v greeting = 200 ∷ 201 ∷ 400 ∷ 502 ∷ []
allowed_codes v (to command) = command_codes (is_some v.selected) command

-- the code by which overviews are listed
abbrev pub listing_code : Asked → ℕ
listing_code (to (over keyword which)) = overview_code keyword
listing_code asked = 224

-- the code of an answer
abbrev pub answered_code : Asked → Response → ℕ
answered_code asked (group_is m name) = 211
answered_code asked (numbers_are m name lines) = 211
answered_code asked (sends sent) = sent.code
answered_code asked (active_are lines) = 215
answered_code asked (overviews_are lines) = listing_code asked
answered_code asked (plain code) = code

-- the code of the answer is at fault
abbrev pub code_misfit : Visible → Asked → ℕ → Misfit
code_misfit v asked code = wrong_code code (allowed_codes v asked)

-- ---- groups and marks (sections 6.1.1 and 6.1.2)

-- the group that was asked for is named, where the code is at fault if there is none
abbrev pub name_misfit : Misfit → Option Name → Name → Option Misfit
name_misfit code_why None name = Some code_why
name_misfit code_why (Some word) name = unless (is_same name word) (wrong_name name)

-- marks of a 211
abbrev pub marks_misfit : Profile → Visible → Name → WaterMarks → Option Misfit
marks_misfit profile v name m = if are_zeros m then None else first (
    unless (nat_le 1 m.low) (wrong_marks name)
    ∷ unless (nat_le m.high profile.limit) (beyond_limit m.high)
    ∷ unless (nat_le m.low (m.high + 1) && nat_le m.estimate (m.high + 1 - m.low)) (wrong_marks name)
    ∷ unless (nat_le (unwrap_or (get v.lows name) 0) m.low) (below_low (unwrap_or (get v.lows name) 0))
    ∷ [])

-- a number isn't greater than the one before it, if there is one
abbrev pub step_misfit : Option ℕ → ℕ → Option Misfit
step_misfit None n = None
step_misfit (Some before) n = unless (nat_lt before n) (not_above before n)

-- the first number that isn't greater than the one before it
abbrev pub order_misfit : Option ℕ → List ℕ → Option Misfit
order_misfit before [] = None
order_misfit before (n ∷ ns) = first (step_misfit before n ∷ order_misfit (Some n) ns ∷ [])

-- a listed number
abbrev pub listed_misfit : ℕ → Range → ℕ → Option Misfit
listed_misfit limit range n = first (unless (is_article_number limit n) (beyond_limit n) ∷ unless (is_in_range range n) (beyond_range n) ∷ [])

-- ---- articles (section 6.2)

-- the number of an article of the selected group, where the code is at fault if there is no such group
abbrev pub selected_misfit : Profile → Visible → Misfit → ℕ → Option Misfit
selected_misfit profile v code_why number = first (unless (is_some v.selected) code_why ∷ unless (is_article_number profile.limit number) (beyond_limit number) ∷ [])

-- the number and the id of a success that was asked for by an id: the number is 0, or that of an article of the selected group
abbrev pub id_misfit : Profile → Visible → Id → ℕ → Id → Option Misfit
id_misfit profile v word number id = first (
    unless (is_same id word) (wrong_id id)
    ∷ unless (number == 0 || is_some v.selected) (wrong_number number)
    ∷ unless (number == 0 || is_article_number profile.limit number) (beyond_limit number)
    ∷ [])

-- the number and the id of a success, by what was asked
abbrev pub target_misfit : Profile → Visible → Misfit → Target → ℕ → Id → Option Misfit
target_misfit profile v code_why (by_id word) number id = id_misfit profile v word number id
target_misfit profile v code_why (by_number None) number id = Some code_why
target_misfit profile v code_why (by_number (Some n)) number id =
    first (unless (is_some v.selected) code_why ∷ unless (number == n) (wrong_number number) ∷ unless (is_article_number profile.limit n) (beyond_limit n) ∷ [])
target_misfit profile v code_why current number id = selected_misfit profile v code_why number

-- the id that a head says, if it says one
abbrev pub said_misfit : Id → Option Id → Option Misfit
said_misfit id None = None
said_misfit id (Some said) = unless (is_same said id) (other_id said)

-- what is sent
abbrev pub head_misfit : What → Id → Option (List Line) → Option Misfit
head_misfit Article id (Some lines) =
    first (unless (list_any is_empty lines && is_head (head_part lines)) no_head ∷ said_misfit id (said_id (head_part lines)) ∷ [])
head_misfit Head id (Some lines) = first (unless (is_head lines) no_head ∷ said_misfit id (said_id lines) ∷ [])
head_misfit Body id (Some lines) = None
head_misfit Stat id None = None
head_misfit what id lines = Some no_head

-- a success of NEXT or LAST (sections 6.1.3 and 6.1.4)
abbrev pub step_sent_misfit : Profile → Visible → Misfit → Success → Option Misfit
step_sent_misfit profile v code_why sent = first (unless (sent.code == 223) code_why ∷ selected_misfit profile v code_why sent.number ∷ [])

-- a success of ARTICLE, HEAD, BODY or STAT
abbrev pub sent_misfit : Profile → Visible → Misfit → What → Target → Success → Option Misfit
sent_misfit profile v code_why what which sent = first (
    unless (sent.code == success_code what) code_why
    ∷ target_misfit profile v code_why which sent.number sent.id
    ∷ head_misfit what sent.id sent.block
    ∷ [])

-- ---- words that are listed twice (sections 7.6.3 and 8.3)

-- the first that stands before it too, where these words stand before all
abbrev pub twice_misfit : List (List ℕ) → List (List ℕ) → Option Misfit
twice_misfit before [] = None
twice_misfit before (word ∷ words) = if list_any (is_same word) before then Some (listed_twice word) else twice_misfit (word ∷ before) words

-- ---- lists of groups (section 7.6.3)

-- marks of a listed group
abbrev pub active_marks_misfit : Profile → ActiveValue → Option Misfit
active_marks_misfit profile line = if line.low == 0 && line.high == 0 then None else first (
    unless (nat_le 1 line.low && nat_le line.low (line.high + 1)) (wrong_marks line.name)
    ∷ unless (nat_le line.high profile.limit) (beyond_limit line.high)
    ∷ [])

-- a listed group
abbrev pub active_misfit : Profile → Option (List ℕ) → ActiveValue → Option Misfit
active_misfit profile p line =
    first (active_marks_misfit profile line ∷ unless (option_map_or (λ w. matches_name w line.name) p true) (unmatched line.name) ∷ [])

-- ---- overviews (section 8.3)

-- the overview of one article
abbrev pub overview_misfit : Profile → Visible → Misfit → Target → Option OverviewValue → Option Misfit
overview_misfit profile v code_why which None = Some wrong_lines
overview_misfit profile v code_why which (Some o) = target_misfit profile v code_why which o.number o.id

-- the lines of OVER or XOVER, by what was asked, where the code is at fault if a group has to be selected and none is
abbrev pub overviews_misfit : Profile → Visible → Misfit → OverviewKeyword → Overviewed → List OverviewValue → Option Misfit
overviews_misfit profile v code_why keyword (in_range range) overviews = first (
    unless (is_some v.selected) code_why
    ∷ unless (may_list keyword overviews) wrong_lines
    ∷ order_misfit None (overview_numbers overviews)
    ∷ first (map (listed_misfit profile.limit range) (overview_numbers overviews))
    ∷ twice_misfit [] (overview_ids overviews)
    ∷ [])
overviews_misfit profile v code_why keyword (the_id word) overviews = overview_misfit profile v code_why (by_id word) (only overviews)
overviews_misfit profile v code_why keyword the_current overviews =
    first (unless (is_some v.selected) code_why ∷ overview_misfit profile v code_why current (only overviews) ∷ [])

-- ---- answers

-- why the answer doesn't fit, if it doesn't
abbrev pub misfit : Profile → Visible → Asked → Response → Option Misfit
misfit profile v greeting (plain code) = unless (is_greeting code) (code_misfit v greeting code)
misfit profile v (to command) (plain code) = unless (is_generic code || code_fits v command code) (code_misfit v (to command) code)
misfit profile v (to (group word)) (group_is m name) = first (unless (is_same name word) (wrong_name name) ∷ marks_misfit profile v name m ∷ [])
misfit profile v (to (list_group word range)) (numbers_are m name lines) = first (
    name_misfit (code_misfit v (to (list_group word range)) 211) (option_or word v.selected) name
    ∷ marks_misfit profile v name m
    ∷ order_misfit None (listed_numbers lines)
    ∷ first (map (listed_misfit profile.limit range) (listed_numbers lines))
    ∷ [])
misfit profile v (to next) (sends sent) = step_sent_misfit profile v (code_misfit v (to next) sent.code) sent
misfit profile v (to last) (sends sent) = step_sent_misfit profile v (code_misfit v (to last) sent.code) sent
misfit profile v (to (retrieve what which)) (sends sent) = sent_misfit profile v (code_misfit v (to (retrieve what which)) sent.code) what which sent
misfit profile v (to (list_active p)) (active_are lines) =
    first (first (map (active_misfit profile p) (active_groups lines)) ∷ twice_misfit [] (group_names (active_groups lines)) ∷ [])
misfit profile v (to (over keyword which)) (overviews_are lines) =
    overviews_misfit profile v (code_misfit v (to (over keyword which)) (overview_code keyword)) keyword which (overviews_of lines)
misfit profile v asked response = Some (code_misfit v asked (answered_code asked response))
