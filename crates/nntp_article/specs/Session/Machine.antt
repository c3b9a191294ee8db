-- The machine over one spool: states, what may be answered in a state, and runs (RFC 3977, sections 3.2.1, 5, 6 and 7.6).
use Rattle.std.specs.Prelude.{◌≡◌, ℕ, ◌+◌, ◌-◌, ◌≤◌, ◌↔◌, Bool, true, false, not, ◌&&◌, ◌||◌, ◌==◌, nat_lt, nat_le, if◌then◌else◌, cond, IsTrue, IsFalse, List}
use Rattle.std.specs.{Prelude.{[], ◌∷◌, Option, None, Some, is_some, is_none, MatchOption, IfSome, unwrap_or, Contains, All, map, ⊤}, List.{AllByRecursion}}
use Rattle.std.specs.{List.{list_any, list_all}, Option.{option_map_or, option_or}, Cmp.Lexicographic.{slice_cmp, pointwise}, Ordering.{nat_cmp}}
use Rattle.std.specs.FinMap.{FinMap, get, insert, len, empty}
use Rattle.nntp_wire.specs.Command.{Target, by_id, by_number, current, Request, capabilities, mode_reader, next, last, quit, opaque, ill_formed, group}
use Rattle.nntp_wire.specs.{Command.{Overviewed, the_id, in_range, the_current, list_group, retrieve, list_active, over}, Answer.{Asked, greeting, to, Success}}
use Rattle.nntp_wire.specs.Answer.{Response, group_is, numbers_are, sends, active_are, overviews_are, plain, success_code}
use Rattle.nntp_wire.specs.declared.{water_marks.WaterMarks.{WaterMarks}, marks.Marks.{Marks, TheVariants.{Lenient, Strict}}, range.Range.{Range}}
use Rattle.nntp_wire.specs.declared.command.{What.{What, TheVariants.{Article, Head, Body, Stat}}, OverviewKeyword.{OverviewKeyword, TheVariants.{Over, Xover}}}
use Rattle.nntp_wire.specs.{declared.command.OverviewKeyword.TheVariants.{Hdr, Xhdr}, Session.{closes}, Listing.{ActiveValue, OverviewValue, listed_numbers}}
use Rattle.nntp_wire.specs.{Listing.{active_groups, overviews_of}, Wildmat.{MatchesName}, Decided.{matches_name}}
use Rattle.nntp_article.specs.{Article.{Parts.{Line, Id, is_empty, is_head, said_id, head_part}, Fields.{fields_of_head}}, Session.Spool.{Name, Spool, Numbers}}
use Rattle.nntp_article.specs.Session.Spool.{IsGroup, IsNumber, numbers, least, IsNextAbove, IsNextBelow, NoneAbove, NoneBelow, Lists, HasText}
use Rattle.nntp_article.specs.declared.session.profile.Profile.{Profile}

-- what a session shows of its state, whatever the spool
pub record Visible : Type 0 where
  pub closed : Bool  -- the server closed the connection
  pub selected : Option Name  -- the selected group
  pub lows : FinMap (slice_cmp nat_cmp) ℕ  -- the greatest low mark of each name so far

-- the state of a session: the current article is a number of the selected group, or none
pub record State : Type 0 where
  pub visible : Visible
  pub current : Option ℕ

-- before the greeting
abbrev pub start : State
start = record { visible = record { closed = false; selected = None; lows = empty }; current = None }

-- ---- the visible condition

-- the same octets
abbrev pub is_same : List ℕ → List ℕ → Bool
is_same xs ys = pointwise (λ a b. a == b) xs ys

-- the code is one of these
abbrev pub is_one_of : List ℕ → ℕ → Bool
is_one_of codes code = list_any (λ c. c == code) codes

-- the generic failures, which any command may be answered with
abbrev pub is_generic : ℕ → Bool
is_generic code = is_one_of (400 ∷ 401 ∷ 403 ∷ 480 ∷ 483 ∷ 500 ∷ 501 ∷ 502 ∷ 503 ∷ 504 ∷ []) code

-- the codes of a greeting
abbrev pub is_greeting : ℕ → Bool
is_greeting code = is_one_of (200 ∷ 201 ∷ 400 ∷ 502 ∷ []) code

-- the codes by which a command that isn't understood may be answered
abbrev pub is_opaque : ℕ → Bool
is_opaque code = code == 381 || nat_lt code 300 || nat_le 400 code

-- an article number, where this is the greatest (RFC 3977, section 6)
abbrev pub is_article_number : ℕ → ℕ → Bool
is_article_number limit n = nat_le 1 n && nat_le n limit

-- the marks of an empty group that say nothing more
abbrev pub are_zeros : WaterMarks → Bool
are_zeros m = m.estimate == 0 && (m.low == 0 && m.high == 0)

-- marks of a 211: all zero; or from 1 to the limit, with room for the estimate, and the low one not below an earlier low mark of the name
abbrev pub marks_fit : Profile → Visible → Name → WaterMarks → Bool
marks_fit profile v name m =
    are_zeros m
    || (nat_le 1 m.low && nat_le m.high profile.limit && nat_le m.low (m.high + 1) && nat_le m.estimate (m.high + 1 - m.low)
    && nat_le (unwrap_or (get v.lows name) 0) m.low)

-- the range has the number
abbrev pub is_in_range : Range → ℕ → Bool
is_in_range r n = nat_le r.first n && option_map_or (λ greatest. nat_le n greatest) r.last true

-- each number is greater than all before it
abbrev pub is_ascending : List ℕ → Bool
is_ascending [] = true
is_ascending (n ∷ ns) = list_all (λ m. nat_lt n m) ns && is_ascending ns

-- the head says this id, or none
abbrev pub says_own_id : Id → List Line → Bool
says_own_id id head = option_map_or (λ said. is_same said id) (said_id head) true

-- what is sent has the parts that were asked for, and its head says the answered id, or none
abbrev pub head_fits : What → Id → Option (List Line) → Bool
head_fits Article id (Some lines) = list_any is_empty lines && is_head (head_part lines) && says_own_id id (head_part lines)
head_fits Head id (Some lines) = is_head lines && says_own_id id lines
head_fits Body id (Some lines) = true
head_fits Stat id None = true
head_fits what id lines = false

-- marks of a listed group: both zero, or from 1 to the limit; and its name matches the wildmat, if one was given
abbrev pub active_fits : Profile → Option (List ℕ) → ActiveValue → Bool
active_fits profile p line =
    ((line.low == 0 && line.high == 0) || (nat_le 1 line.low && nat_le line.low (line.high + 1) && nat_le line.high profile.limit))
    && option_map_or (λ w. matches_name w line.name) p true

-- no two of them are the same octets
abbrev pub all_differ : List (List ℕ) → Bool
all_differ [] = true
all_differ (word ∷ words) = list_all (λ other. not (is_same word other)) words && all_differ words

-- the names of listed groups
abbrev pub group_names : List ActiveValue → List Name
group_names lines = map (λ line. line.name) lines

-- no group is listed twice
abbrev pub names_differ : List ActiveValue → Bool
names_differ lines = all_differ (group_names lines)

-- the number and the id of a success, by what was asked
abbrev pub number_fits : Profile → Visible → Target → ℕ → Id → Bool
number_fits profile v (by_id word) number id = is_same id word && (number == 0 || (is_some v.selected && is_article_number profile.limit number))
number_fits profile v (by_number None) number id = false
number_fits profile v (by_number (Some n)) number id = is_some v.selected && number == n && is_article_number profile.limit n
number_fits profile v current number id = is_some v.selected && is_article_number profile.limit number

-- the numbers of overviews
abbrev pub overview_numbers : List OverviewValue → List ℕ
overview_numbers overviews = map (λ o. o.number) overviews

-- their ids
abbrev pub overview_ids : List OverviewValue → List Id
overview_ids overviews = map (λ o. o.id) overviews

-- the one of a list that has no other
abbrev pub only : {A : Type 0} → List A → Option A
only (x ∷ []) = Some x
only xs = None

-- of a range OVER and HDR list one overview at least, XOVER and XHDR perhaps none (sections 8.3 and 8.5; RFC 2980, sections 2.6 and 2.8)
abbrev pub may_list : OverviewKeyword → List OverviewValue → Bool
may_list Over [] = false
may_list Hdr [] = false
may_list keyword overviews = true

-- the lines of OVER or XOVER, by what was asked
abbrev pub overviews_fit : Profile → Visible → OverviewKeyword → Overviewed → List OverviewValue → Bool
overviews_fit profile v keyword (in_range range) overviews =
    is_some v.selected && may_list keyword overviews && is_ascending (overview_numbers overviews)
    && list_all (λ n. is_article_number profile.limit n && is_in_range range n) (overview_numbers overviews) && all_differ (overview_ids overviews)
overviews_fit profile v keyword (the_id word) overviews = option_map_or (λ o. number_fits profile v (by_id word) o.number o.id) (only overviews) false
overviews_fit profile v keyword the_current overviews = option_map_or (λ o. number_fits profile v current o.number o.id) (only overviews) false

-- the codes that tell that a range has no article: to XOVER 420 is one too (RFC 2980, section 2.8)
abbrev pub none_in_range : OverviewKeyword → List ℕ
none_in_range Over = 423 ∷ []
none_in_range Xover = 420 ∷ 423 ∷ []
none_in_range Hdr = 423 ∷ []
none_in_range Xhdr = 420 ∷ 423 ∷ []

-- an answer of a code alone, other than a generic failure
abbrev pub code_fits : Visible → Request → ℕ → Bool
code_fits v capabilities code = code == 101
code_fits v mode_reader code = is_one_of (200 ∷ 201 ∷ []) code
code_fits v quit code = code == 205
code_fits v (group word) code = code == 411
code_fits v (list_group None range) code = code == 412 && is_none v.selected
code_fits v (list_group (Some word) range) code = code == 411
code_fits v next code = (code == 412 && is_none v.selected) || (is_one_of (420 ∷ 421 ∷ []) code && is_some v.selected)
code_fits v last code = (code == 412 && is_none v.selected) || (is_one_of (420 ∷ 422 ∷ []) code && is_some v.selected)
code_fits v (retrieve what (by_id word)) code = code == 430
code_fits v (retrieve what (by_number n)) code = (code == 412 && is_none v.selected) || (code == 423 && is_some v.selected)
code_fits v (retrieve what current) code = (code == 412 && is_none v.selected) || (code == 420 && is_some v.selected)
code_fits v (list_active p) code = false
code_fits v (over keyword (the_id word)) code = code == 430
code_fits v (over keyword (in_range range)) code = (code == 412 && is_none v.selected) || (is_one_of (none_in_range keyword) code && is_some v.selected)
code_fits v (over keyword the_current) code = (code == 412 && is_none v.selected) || (code == 420 && is_some v.selected)
code_fits v opaque code = is_opaque code
code_fits v ill_formed code = false

-- the visible condition over an open state
abbrev pub fits : Profile → Visible → Asked → Response → Bool
fits profile v greeting (plain code) = is_greeting code
fits profile v (to command) (plain code) = is_generic code || code_fits v command code
fits profile v (to (group word)) (group_is m name) = is_same name word && marks_fit profile v name m
fits profile v (to (list_group word range)) (numbers_are m name lines) =
    option_map_or (is_same name) (option_or word v.selected) false && marks_fit profile v name m
    && is_ascending (listed_numbers lines) && list_all (λ n. is_article_number profile.limit n && is_in_range range n) (listed_numbers lines)
fits profile v (to next) (sends sent) = sent.code == 223 && is_some v.selected && is_article_number profile.limit sent.number
fits profile v (to last) (sends sent) = sent.code == 223 && is_some v.selected && is_article_number profile.limit sent.number
fits profile v (to (retrieve what which)) (sends sent) =
    sent.code == success_code what && number_fits profile v which sent.number sent.id && head_fits what sent.id sent.block
fits profile v (to (list_active p)) (active_are lines) = list_all (active_fits profile p) (active_groups lines) && names_differ (active_groups lines)
fits profile v (to (over keyword which)) (overviews_are lines) = overviews_fit profile v keyword which (overviews_of lines)
fits profile v asked response = false

-- ---- the condition over the spool

-- the numbers of the selected group. Where none is selected this reads the empty name, which names no group
abbrev pub selected_numbers : Spool → Visible → Numbers
selected_numbers S v = numbers S (unwrap_or v.selected [])

-- where marks are strict, and there is a number, both marks are numbers
abbrev pub AreEnds : Marks → Numbers → WaterMarks → Type 0
AreEnds Lenient N m = ⊤
AreEnds Strict N m = (n : ℕ) → IsNumber N n → IsNumber N m.low × IsNumber N m.high

-- there are at most as many numbers as estimated, all between the marks; so strict marks are the least and the greatest
abbrev pub Bound : Marks → Numbers → WaterMarks → Type 0
Bound marks N m = (len N ≤ m.estimate) × ((n : ℕ) → IsNumber N n → (m.low ≤ n) × (n ≤ m.high)) × AreEnds marks N m

-- what a code alone says of the spool, other than a generic failure: by the command, and by the code where several fit
abbrev pub CodeAgrees : Spool → State → Request → ℕ → Type 0
CodeAgrees S s capabilities code = ⊤
CodeAgrees S s mode_reader code = ⊤
CodeAgrees S s quit code = ⊤
CodeAgrees S s (group word) code = get S.groups word ≡ None
CodeAgrees S s (list_group word range) code = IfSome word (λ name. get S.groups name ≡ None)
CodeAgrees S s next code =
    cond (code == 412) ⊤ (cond (code == 420) (s.current ≡ None) (MatchOption s.current ⊥ (NoneAbove (selected_numbers S s.visible))))
CodeAgrees S s last code =
    cond (code == 412) ⊤ (cond (code == 420) (s.current ≡ None) (MatchOption s.current ⊥ (NoneBelow (selected_numbers S s.visible))))
CodeAgrees S s (retrieve what (by_id word)) code = get S.articles word ≡ None
CodeAgrees S s (retrieve what (by_number n)) code = cond (code == 412) ⊤ (IfSome n (λ n. get (selected_numbers S s.visible) n ≡ None))
CodeAgrees S s (retrieve what current) code = cond (code == 412) ⊤ (s.current ≡ None)
CodeAgrees S s (over keyword (the_id word)) code = get S.articles word ≡ None
CodeAgrees S s (over keyword (in_range range)) code = cond (code == 412) ⊤ (Lists (selected_numbers S s.visible) range [])
CodeAgrees S s (over keyword the_current) code = cond (code == 412) ⊤ (s.current ≡ None)
CodeAgrees S s opaque code = ⊤
CodeAgrees S s command code = ⊥

-- the number that is answered is one of the selected group, with the id
abbrev pub NumberAgrees : Spool → State → Target → ℕ → Id → Type 0
NumberAgrees S s (by_id word) number id = IsFalse (number == 0) → get (selected_numbers S s.visible) number ≡ Some id
NumberAgrees S s (by_number n) number id = get (selected_numbers S s.visible) number ≡ Some id
NumberAgrees S s current number id = (s.current ≡ Some number) × (get (selected_numbers S s.visible) number ≡ Some id)

-- of the article this is sent, and its number has the id
abbrev pub ArticleAgrees : Spool → State → What → Target → Success → Type 0
ArticleAgrees S s what which sent = HasText S what sent.id sent.block × NumberAgrees S s which sent.number sent.id

-- exactly the matching groups are listed, and the marks bound their numbers
abbrev pub ActivesAgree : Spool → Option (List ℕ) → List ActiveValue → Type 0
ActivesAgree S p lines =
    ((name : Name) → Contains (map (λ line. line.name) lines) name ↔ (IsGroup S name × IfSome p (λ w. MatchesName w name)))
    × All (λ line. (n : ℕ) → IsNumber (numbers S line.name) n → (line.low ≤ n) × (n ≤ line.high)) lines

-- the id of the overview has an article, whose head tells the same, if headers are told
abbrev pub HasOverview : Spool → OverviewValue → Type 0
HasOverview S o = MatchOption (get S.articles o.id) ⊥ (λ t. IfSome o.told (λ fields. fields_of_head t.head ≡ fields))

-- the overviews are of all numbers in the range, each has the id at its number, and its article tells the same
abbrev pub ListsOverviews : Spool → Numbers → Range → List OverviewValue → Type 0
ListsOverviews S N range overviews =
    Lists N range (overview_numbers overviews) × AllByRecursion (λ o. (get N o.number ≡ Some o.id) × HasOverview S o) overviews

-- an overview agrees, and its number has the id
abbrev pub OverviewAgrees : Spool → State → Target → OverviewValue → Type 0
OverviewAgrees S s which o = HasOverview S o × NumberAgrees S s which o.number o.id

-- the overviews of a range are those that the selected group has in it; the only one of another command is that of its article
abbrev pub OverviewsAgree : Spool → State → Overviewed → List OverviewValue → Type 0
OverviewsAgree S s (in_range range) overviews = ListsOverviews S (selected_numbers S s.visible) range overviews
OverviewsAgree S s (the_id word) overviews = MatchOption (only overviews) ⊥ (OverviewAgrees S s (by_id word))
OverviewsAgree S s the_current overviews = MatchOption (only overviews) ⊥ (OverviewAgrees S s current)

-- the condition over the spool of an answer that fits, a row each: what no row names agrees with no spool
abbrev pub Agrees : Marks → Spool → State → Asked → Response → Type 0
Agrees marks S s greeting (plain code) = ⊤
Agrees marks S s (to command) (plain code) = cond (is_generic code) ⊤ (CodeAgrees S s command code)
Agrees marks S s (to (group word)) (group_is m name) = IsGroup S name × Bound marks (numbers S name) m
Agrees marks S s (to (list_group word range)) (numbers_are m name lines) = IsGroup S name × Bound marks (numbers S name) m × Lists (numbers S name) range (listed_numbers lines)
Agrees marks S s (to next) (sends sent) =
    MatchOption s.current ⊥ (λ c. IsNextAbove (selected_numbers S s.visible) c sent.number) × (get (selected_numbers S s.visible) sent.number ≡ Some sent.id)
Agrees marks S s (to last) (sends sent) =
    MatchOption s.current ⊥ (λ c. IsNextBelow (selected_numbers S s.visible) c sent.number) × (get (selected_numbers S s.visible) sent.number ≡ Some sent.id)
Agrees marks S s (to (retrieve what which)) (sends sent) = ArticleAgrees S s what which sent
Agrees marks S s (to (list_active p)) (active_are lines) = ActivesAgree S p (active_groups lines)
Agrees marks S s (to (over keyword which)) (overviews_are lines) = OverviewsAgree S s which (overviews_of lines)
Agrees marks S s asked response = ⊥

-- ---- the new state

-- the group is selected, and its low mark kept, unless all three numbers are zero
abbrev pub selects : Visible → WaterMarks → Name → Visible
selects v m name = record v { selected = Some name; lows = if are_zeros m then v.lows else insert v.lows name m.low }

-- what the answer leaves of the visible state
abbrev pub visible_after : Visible → Asked → Response → Visible
visible_after v asked (group_is m name) = selects v m name
visible_after v asked (numbers_are m name lines) = selects v m name
visible_after v asked response = record v { closed = v.closed || closes asked response }

-- the current article: the first of a group that was selected, the one that a step or a number named, else as before
abbrev pub current_after : Spool → State → Asked → Response → Option ℕ
current_after S s asked (group_is m name) = least (numbers S name)
current_after S s asked (numbers_are m name lines) = least (numbers S name)
current_after S s (to next) (sends sent) = Some sent.number
current_after S s (to last) (sends sent) = Some sent.number
current_after S s (to (retrieve what (by_number n))) (sends sent) = Some sent.number
current_after S s asked response = s.current

-- the state that the answer leaves
abbrev pub after : Spool → State → Asked → Response → State
after S s asked response = record { visible = visible_after s.visible asked response; current = current_after S s asked response }

-- ---- steps and runs

-- the answer is permitted in the state
pub record MayAnswer (profile : Profile) (S : Spool) (s : State) (asked : Asked) (response : Response) : Type 0 where
  pub is_open : s.visible.closed ≡ false
  pub fits_visible : IsTrue (fits profile s.visible asked response)
  pub agrees : Agrees profile.marks S s asked response

-- the answer is permitted, and leads to the new state
pub record Permits (profile : Profile) (S : Spool) (s : State) (asked : Asked) (response : Response) (new : State) : Type 0 where
  pub may : MayAnswer profile S s asked response
  pub leads : new ≡ after S s asked response

-- each answer is permitted for the prompt at its place, in the state that the one before left
abbrev pub Run : Profile → Spool → State → List Asked → List Response → Type 0
Run profile S s ps [] = ⊤
Run profile S s [] (response ∷ more) = ⊥
Run profile S s (asked ∷ ps) (response ∷ more) = (new : State) × Permits profile S s asked response new × Run profile S new ps more
