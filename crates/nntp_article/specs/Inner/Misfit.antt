-- What is said with the words of `Misfit.antt`, and needn't be believed.
use Rattle.std.specs.Prelude.{ℕ, ◌≡◌, ◌<◌, ◌+◌, ◌-◌, ◌++◌, Bool, true, false, not, ◌&&◌, ◌||◌, ◌==◌, nat_le, List, [], ◌∷◌, Option, None, Some, option_map}
use Rattle.std.specs.{Prelude.{is_none}, List.{list_any}, Option.{option_or}, FinMap.{get}}
use Rattle.nntp_wire.specs.Command.{by_id, by_number, next, last, group, list_group, retrieve, list_active, over, Overviewed, the_id, in_range}
use Rattle.nntp_wire.specs.Answer.{Asked, to, Success, Response, group_is, numbers_are, sends, active_are, overviews_are, success_code, overview_code}
use Rattle.nntp_wire.specs.declared.{water_marks.WaterMarks.{WaterMarks}, command.What.{What, TheVariants.{Article, Head, Body, Stat}}}
use Rattle.nntp_wire.specs.{declared.command.OverviewKeyword.{OverviewKeyword}, Listing.{ActiveValue, OverviewValue, listed_numbers, active_groups}}
use Rattle.nntp_wire.specs.{Listing.{overviews_of}, Decided.{matches_name}}
use Rattle.nntp_article.specs.{Article.Parts.{Line, Id, is_empty, is_head, head_part}, Session.{Spool.{Name}, Machine.{Visible, is_same, are_zeros}}}
use Rattle.nntp_article.specs.Session.Machine.{is_in_range, group_names, overview_numbers, overview_ids, only, may_list}

-- ---- codes (section 3.2)

-- the code by which a command succeeds with an answer that says more than its code (sections 6 and 7.6.3)
abbrev pub is_success : Asked → ℕ → Bool
is_success (to (group word)) code = code == 211
is_success (to (list_group word range)) code = code == 211
is_success (to next) code = code == 223
is_success (to last) code = code == 223
is_success (to (retrieve what which)) code = code == success_code what
is_success (to (list_active p)) code = code == 215
is_success (to (over keyword which)) code = code == overview_code keyword
is_success asked code = false

-- ---- what the answer and the prompt hold that a reason speaks of

-- the group that a 211 names, and its marks (section 6.1.1)
abbrev pub marked_by : Response → Option (Name × WaterMarks)
marked_by (group_is m name) = Some (name, m)
marked_by (numbers_are m name lines) = Some (name, m)
marked_by response = None

-- the group that was asked for: where LISTGROUP names none, the selected one (section 6.1.2)
abbrev pub asked_group : Visible → Asked → Option Name
asked_group v (to (group word)) = Some word
asked_group v (to (list_group word range)) = option_or word v.selected
asked_group v asked = None

-- the number that was asked for (section 6.2)
abbrev pub asked_number : Asked → Option ℕ
asked_number (to (retrieve what (by_number number))) = number
asked_number asked = None

-- the id that was asked for (sections 6.2 and 8.3)
abbrev pub asked_id : Asked → Option Id
asked_id (to (retrieve what (by_id word))) = Some word
asked_id (to (over keyword (the_id word))) = Some word
asked_id asked = None

-- the article that is answered (section 6.2)
abbrev pub sent_by : Response → Option Success
sent_by (sends sent) = Some sent
sent_by response = None

-- the number of the article that is answered, or of the only overview (sections 6.2 and 8.3)
abbrev pub answered_number : Response → Option ℕ
answered_number (sends sent) = Some sent.number
answered_number (overviews_are lines) = option_map (λ o. o.number) (only (overviews_of lines))
answered_number response = None

-- its id
abbrev pub answered_id : Response → Option Id
answered_id (sends sent) = Some sent.id
answered_id (overviews_are lines) = option_map (λ o. o.id) (only (overviews_of lines))
answered_id response = None

-- the head in what is sent (section 6.2)
abbrev pub sent_head : Asked → Response → Option (List Line)
sent_head (to (retrieve Article which)) (sends sent) = option_map head_part sent.block
sent_head (to (retrieve Head which)) (sends sent) = sent.block
sent_head asked response = None

-- the groups that the answer lists (section 7.6.3)
abbrev pub groups_of : Response → List ActiveValue
groups_of (active_are lines) = active_groups lines
groups_of response = []

-- the numbers that the answer lists, by themselves or with overviews (sections 6.1.2 and 8.3)
abbrev pub numbers_of : Response → List ℕ
numbers_of (numbers_are m name lines) = listed_numbers lines
numbers_of (overviews_are lines) = overview_numbers (overviews_of lines)
numbers_of response = []

-- the overviews that the answer lists (section 8.3)
abbrev pub overviews_in : Response → List OverviewValue
overviews_in (overviews_are lines) = overviews_of lines
overviews_in response = []

-- the names of the groups, or the ids, that the answer lists (sections 7.6.3 and 8.3)
abbrev pub listed_words : Response → List (List ℕ)
listed_words (active_are lines) = group_names (active_groups lines)
listed_words (overviews_are lines) = overview_ids (overviews_of lines)
listed_words response = []

-- the number is outside the range that was asked for, if one was (sections 6.1.2 and 8.3)
abbrev pub is_outside : Asked → ℕ → Bool
is_outside (to (list_group word range)) n = not (is_in_range range n)
is_outside (to (over keyword (in_range range))) n = not (is_in_range range n)
is_outside asked n = false

-- the wildmat doesn't match the name, if one was given (section 7.6.3)
abbrev pub is_unmatched : Asked → Name → Bool
is_unmatched (to (list_active (Some w))) name = not (matches_name w name)
is_unmatched asked name = false

-- the marks begin below 1, or are in no order (section 7.6.3)
abbrev pub are_out_of_order : ℕ → ℕ → Bool
are_out_of_order low high = not (nat_le 1 low && nat_le low (high + 1))

-- the marks of a 211 are, or leave no room for the estimate (section 6.1.1.2)
abbrev pub have_no_room : WaterMarks → Bool
have_no_room m = not (are_zeros m) && (are_out_of_order m.low m.high || not (nat_le m.estimate (m.high + 1 - m.low)))

-- a listed group has such marks (section 7.6.3)
abbrev pub is_out_of_order : Name → ActiveValue → Bool
is_out_of_order name line = is_same line.name name && not (line.low == 0 && line.high == 0) && are_out_of_order line.low line.high

-- the answer gives the group such marks
abbrev pub has_wrong_marks : Response → Name → Bool
has_wrong_marks (group_is m given) name = is_same given name && have_no_room m
has_wrong_marks (numbers_are m given lines) name = is_same given name && have_no_room m
has_wrong_marks (active_are lines) name = list_any (is_out_of_order name) (active_groups lines)
has_wrong_marks response name = false

-- what is sent has the parts that were asked for (section 6.2)
abbrev pub has_parts : What → Option (List Line) → Bool
has_parts Article (Some lines) = list_any is_empty lines && is_head (head_part lines)
has_parts Head (Some lines) = is_head lines
has_parts Body (Some lines) = true
has_parts Stat None = true
has_parts what lines = false

-- the article that is answered lacks them
abbrev pub lacks_parts : Asked → Response → Bool
lacks_parts (to (retrieve what which)) (sends sent) = not (has_parts what sent.block)
lacks_parts asked response = false

-- these are none of a range that OVER or HDR lists, or not just one where one is due (section 8.3)
abbrev pub are_wrong_lines : OverviewKeyword → Overviewed → List OverviewValue → Bool
are_wrong_lines keyword (in_range range) overviews = not (may_list keyword overviews)
are_wrong_lines keyword which overviews = is_none (only overviews)

-- the answer lists so many
abbrev pub has_wrong_lines : Asked → Response → Bool
has_wrong_lines (to (over keyword which)) (overviews_are lines) = are_wrong_lines keyword which (overviews_of lines)
has_wrong_lines asked response = false

-- the two numbers stand in the list, one after the other
pub record AreNeighbours (numbers : List ℕ) (before next : ℕ) : Type 0 where
  pub front : List ℕ
  pub behind : List ℕ
  pub whole : numbers ≡ front ++ before ∷ next ∷ behind

-- the low mark was reported for the group that the answer names, and the answer's is below it (section 6.1.1.2)
abbrev pub IsAbove : Visible → ℕ → Name × WaterMarks → Type 0
IsAbove v low marked = (get v.lows marked.0 ≡ Some low) × (marked.1.low < low)

-- the word stands in the list twice
pub record IsTwice (words : List (List ℕ)) (word : List ℕ) : Type 0 where
  pub front : List (List ℕ)
  pub between : List (List ℕ)
  pub behind : List (List ℕ)
  pub whole : words ≡ front ++ word ∷ (between ++ word ∷ behind)
