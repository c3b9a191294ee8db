-- Which answers fit the visible state of a session, and why the others don't.
use Rattle.std.{proofs.Common.{◌≡◌, ℕ, Bool, true, false, List, [], ◌∷◌, Option, None, Some, refl, ap}, specs.Prelude.{codes, unwrap_or, nat_le}}
use Rattle.std.specs.{Cmp.Lexicographic.{slice_cmp}, Ordering.{nat_cmp}, FinMap.{FinMap, empty, get, insert}, Char.{encode_utf8}, Str.{chars, is_utf8}}
use Rattle.nntp_wire.specs.{Limit.{greatest}, Reason.{unless, first}, Command.{Target, by_id, by_number, current, group, list_group, retrieve, list_active}}
use Rattle.nntp_wire.specs.{Command.{next, quit, over, the_id, in_range, the_current}, Answer.{Asked, greeting, to, Response, group_is, numbers_are, sends}}
use Rattle.nntp_wire.specs.{Answer.{active_are, overviews_are, plain}, declared.command.OverviewKeyword.{OverviewKeyword, TheVariants.{Over, Xover, Hdr, Xhdr}}}
use Rattle.nntp_wire.specs.declared.{command.What.TheVariants.{Head, Stat}, limit.Limit.{Limit, TheVariants.{Narrow, Wide}}, marks.Marks.TheVariants.{Lenient}}
use Rattle.nntp_article.specs.{Article.Parts.{Line}, declared.session.profile.Profile.{Profile}, Session.Machine.{Visible, start, is_article_number}}
use Rattle.nntp_article.specs.Session.{Machine.{visible_after}, Misfit.{Misfit, wrong_code, wrong_name, wrong_number, wrong_id, below_low, wrong_marks}}
use Rattle.nntp_article.specs.Session.Misfit.{beyond_limit, not_above, beyond_range, unmatched, listed_twice, wrong_lines, no_head, other_id, misfit}
use Rattle.nntp_unit_tests.proofs.Rows.{Makes}

abbrev within : Limit → Profile
within limit = record { limit = greatest limit; marks = Lenient }

abbrev Lows : Type 0
Lows = FinMap (slice_cmp nat_cmp) ℕ

-- no group is selected
abbrev none_selected : Visible
none_selected = start.visible

-- g is selected, and these are the greatest low marks
abbrev selected : Lows → Visible
selected lows = record { closed = false; selected = Some (codes "g"); lows = lows }

-- the greatest low mark of g
abbrev LowIs : Lows → Option ℕ → Type 0
LowIs lows low = get lows (codes "g") ≡ low

-- what is asked
abbrev g : Asked
g = to (group (codes "g"))

abbrev stat : Target → Asked
stat target = to (retrieve Stat target)

abbrev head_7 : Asked
head_7 = to (retrieve Head (by_number (Some 7)))

abbrev numbers_of_g : ℕ → Option ℕ → Asked
numbers_of_g first_number last_number = to (list_group (Some (codes "g")) (record { first = first_number; last = last_number }))

-- what is answered
abbrev marks_are : ℕ → ℕ → ℕ → List ℕ → Response
marks_are estimate low high name = group_is (record { estimate = estimate; low = low; high = high }) name

abbrev lists : ℕ → ℕ → ℕ → List Line → Response
lists estimate low high lines = numbers_are (record { estimate = estimate; low = low; high = high }) (codes "g") lines

abbrev found : ℕ → List ℕ → Response
found number id = sends (record { code = 223; number = number; id = id; block = None })

abbrev sends_head : List Line → Response
sends_head lines = sends (record { code = 221; number = 7; id = codes "<a@b>"; block = Some lines })

-- ---- which numbers are those of articles

abbrev numbers : List ((ℕ × ℕ) × Bool)
numbers =
    ((2147483647, 0), false)
    ∷ ((2147483647, 1), true)
    ∷ ((2147483647, 2147483647), true)
    ∷ ((2147483647, 2147483648), false)
    ∷ ((9999999999999999, 9999999999999999), true)
    ∷ ((9999999999999999, 10000000000000000), false)
    ∷ []

article_numbers : Makes (λ row. is_article_number row.0 row.1) numbers
article_numbers = refl

-- ---- answers that are judged without the low marks

-- what is asked and answered, and why the answer doesn't fit, if it doesn't
abbrev Rows : Type 0
Rows = List ((Asked × Response) × Option Misfit)

abbrev before_a_group : Rows
before_a_group =
    ((stat current, plain 412), None)
    ∷ ((stat current, plain 420), Some (wrong_code 420 (412 ∷ [])))
    ∷ ((to next, plain 420), Some (wrong_code 420 (412 ∷ [])))
    ∷ ((g, plain 480), None)
    ∷ ((g, marks_are 2 5 9 (codes "h")), Some (wrong_name (codes "h")))
    ∷ []

none_is_selected : Makes (λ row. misfit (within Narrow) none_selected row.0 row.1) before_a_group
none_is_selected = refl

abbrev in_a_group : Rows
in_a_group =
    ((to next, found 4 (codes "<b@x>")), None)
    ∷ ((to next, plain 423), Some (wrong_code 423 (223 ∷ 420 ∷ 421 ∷ [])))
    ∷ ((to next, found 2147483648 (codes "<a@b>")), Some (beyond_limit 2147483648))
    ∷ ((stat current, plain 412), Some (wrong_code 412 (223 ∷ 420 ∷ [])))
    ∷ ((stat current, found 2147483647 (codes "<a@b>")), None)
    ∷ ((stat current, found 2147483648 (codes "<a@b>")), Some (beyond_limit 2147483648))
    ∷ ((stat (by_number (Some 7)), found 8 (codes "<a@b>")), Some (wrong_number 8))
    ∷ ((stat (by_id (codes "<a@b>")), found 0 (codes "<c@b>")), Some (wrong_id (codes "<c@b>")))
    ∷ ((head_7, plain 430), Some (wrong_code 430 (221 ∷ 423 ∷ [])))
    ∷ ((head_7, sends_head (codes "no header" ∷ [])), Some no_head)
    ∷ ((head_7, sends_head (codes "Message-ID: <c@d>" ∷ [])), Some (other_id (codes "<c@d>")))
    ∷ ((g, marks_are 0 0 0 (codes "g")), None)
    ∷ ((g, marks_are 6 5 9 (codes "g")), Some (wrong_marks (codes "g")))
    ∷ ((g, marks_are 1 1 2147483648 (codes "g")), Some (beyond_limit 2147483648))
    ∷ []

g_is_selected : (lows : Lows) → Makes (λ row. misfit (within Narrow) (selected lows) row.0 row.1) in_a_group
g_is_selected lows = refl

abbrev in_a_wide_group : Rows
in_a_wide_group =
    ((stat current, found 0 (codes "<a@b>")), Some (beyond_limit 0))
    ∷ ((stat current, found 2147483648 (codes "<a@b>")), None)
    ∷ ((stat current, found 9999999999999999 (codes "<a@b>")), None)
    ∷ []

g_is_wide : (lows : Lows) → Makes (λ row. misfit (within Wide) (selected lows) row.0 row.1) in_a_wide_group
g_is_wide lows = refl

abbrev lists_of_groups : List ((Option (List ℕ) × List Line) × Option Misfit)
lists_of_groups =
    ((None, codes "g 5 1 y" ∷ codes "h 0 0 n" ∷ []), None)
    ∷ ((None, codes "g 5 1 y" ∷ codes "g 5 1 y" ∷ []), Some (listed_twice (codes "g")))
    ∷ ((None, codes "a 9 5 y" ∷ codes "b 9 5 y" ∷ codes "b 9 5 y" ∷ codes "a 9 5 y" ∷ []), Some (listed_twice (codes "b")))
    ∷ ((Some (codes "g*"), codes "g 9 5 y" ∷ codes "h 9 5 y" ∷ []), Some (unmatched (codes "h")))
    ∷ []

groups_are_listed : Makes (λ row. misfit (within Narrow) none_selected (to (list_active row.0)) (active_are row.1)) lists_of_groups
unfolding chars is_utf8 encode_utf8
groups_are_listed = refl

-- ---- overviews

-- what is asked: of a range, of an id, or of the current article
abbrev of_range : OverviewKeyword → ℕ → ℕ → Asked
of_range keyword first_number last_number = to (over keyword (in_range (record { first = first_number; last = Some last_number })))

abbrev of_a : Asked
of_a = to (over Over (the_id (codes "<a@x>")))

abbrev of_current : Asked
of_current = to (over Xover the_current)

-- what is answered
abbrev one_is_a : Line
one_is_a = codes "1\ts\tf\td\t<a@x>\tr\t9\t1"

abbrev three_is_c : Line
three_is_c = codes "3\ts\tf\td\t<c@x>\tr\t9\t1"

abbrev ranges_in_a_group : Rows
ranges_in_a_group =
    ((of_range Over 1 3, overviews_are (one_is_a ∷ three_is_c ∷ [])), None)
    ∷ ((of_range Over 1 5, overviews_are []), Some wrong_lines)
    ∷ ((of_range Xover 1 5, overviews_are []), None)
    ∷ ((of_range Over 2 4, plain 423), None)
    ∷ ((of_range Over 2 4, plain 420), Some (wrong_code 420 (224 ∷ 423 ∷ [])))
    ∷ ((of_range Over 2 4, plain 503), None)
    ∷ ((of_range Over 2 4, plain 381), Some (wrong_code 381 (224 ∷ 423 ∷ [])))
    ∷ ((of_range Xover 2 4, plain 423), None)
    ∷ ((of_range Xover 2 4, plain 420), None)
    ∷ ((of_range Xover 2 4, plain 412), Some (wrong_code 412 (224 ∷ 420 ∷ 423 ∷ [])))
    ∷ ((of_range Xover 5 3, overviews_are (codes "5\t\t\t\t<a@x>" ∷ [])), Some (beyond_range 5))
    ∷ ((of_range Xover 1 2, overviews_are (one_is_a ∷ codes "2\t\t\t\t<a@x>" ∷ [])), Some (listed_twice (codes "<a@x>")))
    ∷ ((of_range Xover 1 3, overviews_are (three_is_c ∷ one_is_a ∷ [])), Some (not_above 3 1))
    ∷ ((of_range Xover 1 3, overviews_are (one_is_a ∷ codes "01\t\t\t\t<b@x>" ∷ [])), Some (not_above 1 1))
    ∷ ((of_range Xover 0 3, overviews_are (codes "0\t\t\t\t<b@x>" ∷ one_is_a ∷ [])), Some (beyond_limit 0))
    ∷ ((to next, overviews_are (one_is_a ∷ [])), Some (wrong_code 224 (223 ∷ 420 ∷ 421 ∷ [])))
    ∷ []

ranges_of_g : (lows : Lows) → Makes (λ row. misfit (within Narrow) (selected lows) row.0 row.1) ranges_in_a_group
ranges_of_g lows = refl

-- lines of HDR and XHDR
abbrev id_of_one : Line
id_of_one = codes "1 <a@x>"

abbrev id_of_three : Line
id_of_three = codes "3 <c@x>"

abbrev ids_in_a_group : Rows
ids_in_a_group =
    ((of_range Hdr 1 3, overviews_are (id_of_one ∷ id_of_three ∷ [])), None)
    ∷ ((of_range Xhdr 1 3, overviews_are (id_of_one ∷ id_of_three ∷ [])), None)
    ∷ ((of_range Hdr 1 5, overviews_are []), Some wrong_lines)
    ∷ ((of_range Xhdr 1 5, overviews_are []), None)
    ∷ ((of_range Hdr 2 4, plain 423), None)
    ∷ ((of_range Hdr 2 4, plain 420), Some (wrong_code 420 (225 ∷ 423 ∷ [])))
    ∷ ((of_range Hdr 2 4, plain 430), Some (wrong_code 430 (225 ∷ 423 ∷ [])))
    ∷ ((of_range Hdr 2 4, plain 503), None)
    ∷ ((of_range Hdr 2 4, plain 381), Some (wrong_code 381 (225 ∷ 423 ∷ [])))
    ∷ ((of_range Hdr 2 4, plain 221), Some (wrong_code 221 (225 ∷ 423 ∷ [])))
    ∷ ((of_range Hdr 2 4, plain 224), Some (wrong_code 224 (225 ∷ 423 ∷ [])))
    ∷ ((of_range Xhdr 2 4, plain 423), None)
    ∷ ((of_range Xhdr 2 4, plain 420), None)
    ∷ ((of_range Xhdr 2 4, plain 502), None)
    ∷ ((of_range Xhdr 2 4, plain 412), Some (wrong_code 412 (221 ∷ 420 ∷ 423 ∷ [])))
    ∷ ((of_range Xhdr 2 4, plain 225), Some (wrong_code 225 (221 ∷ 420 ∷ 423 ∷ [])))
    ∷ ((of_range Hdr 5 3, overviews_are (codes "5 <a@x>" ∷ [])), Some (beyond_range 5))
    ∷ ((of_range Hdr 2 4, overviews_are (id_of_one ∷ [])), Some (beyond_range 1))
    ∷ ((of_range Xhdr 1 2, overviews_are (id_of_one ∷ codes "2 <a@x>" ∷ [])), Some (listed_twice (codes "<a@x>")))
    ∷ ((of_range Xhdr 1 3, overviews_are (id_of_three ∷ id_of_one ∷ [])), Some (not_above 3 1))
    ∷ ((of_range Hdr 1 3, overviews_are (id_of_one ∷ codes "01 <b@x>" ∷ [])), Some (not_above 1 1))
    ∷ ((of_range Hdr 0 3, overviews_are (codes "0 <b@x>" ∷ id_of_one ∷ [])), Some (beyond_limit 0))
    ∷ ((of_range Xhdr 1 9999999999999999, overviews_are (codes "2147483648 <a@x>" ∷ [])), Some (beyond_limit 2147483648))
    ∷ []

ids_of_g : (lows : Lows) → Makes (λ row. misfit (within Narrow) (selected lows) row.0 row.1) ids_in_a_group
ids_of_g lows = refl

abbrev single_in_a_group : Rows
single_in_a_group =
    ((of_current, overviews_are (one_is_a ∷ [])), None)
    ∷ ((of_current, overviews_are []), Some wrong_lines)
    ∷ ((of_current, overviews_are (one_is_a ∷ three_is_c ∷ [])), Some wrong_lines)
    ∷ ((of_current, overviews_are (codes "0\t\t\t\t<a@x>" ∷ [])), Some (beyond_limit 0))
    ∷ ((of_current, plain 420), None)
    ∷ ((of_current, plain 423), Some (wrong_code 423 (224 ∷ 420 ∷ [])))
    ∷ ((of_a, overviews_are (one_is_a ∷ [])), None)
    ∷ ((of_a, overviews_are (codes "0\t\t\t\t<a@x>" ∷ [])), None)
    ∷ ((of_a, overviews_are (codes "2147483648\t\t\t\t<a@x>" ∷ [])), Some (beyond_limit 2147483648))
    ∷ ((of_a, overviews_are (three_is_c ∷ [])), Some (wrong_id (codes "<c@x>")))
    ∷ ((of_a, overviews_are (one_is_a ∷ three_is_c ∷ [])), Some wrong_lines)
    ∷ ((of_a, overviews_are []), Some wrong_lines)
    ∷ ((of_a, plain 430), None)
    ∷ ((of_a, plain 423), Some (wrong_code 423 (224 ∷ 430 ∷ [])))
    ∷ []

single_of_g : (lows : Lows) → Makes (λ row. misfit (within Narrow) (selected lows) row.0 row.1) single_in_a_group
single_of_g lows = refl

abbrev overviews_before_a_group : Rows
overviews_before_a_group =
    ((of_range Over 1 3, overviews_are (one_is_a ∷ [])), Some (wrong_code 224 (412 ∷ [])))
    ∷ ((of_range Over 1 3, plain 412), None)
    ∷ ((of_range Over 1 3, plain 423), Some (wrong_code 423 (412 ∷ [])))
    ∷ ((of_range Hdr 1 3, overviews_are (id_of_one ∷ [])), Some (wrong_code 225 (412 ∷ [])))
    ∷ ((of_range Hdr 1 3, plain 412), None)
    ∷ ((of_range Xhdr 1 3, overviews_are []), Some (wrong_code 221 (412 ∷ [])))
    ∷ ((of_range Xhdr 1 3, plain 420), Some (wrong_code 420 (412 ∷ [])))
    ∷ ((of_current, overviews_are (one_is_a ∷ three_is_c ∷ [])), Some (wrong_code 224 (412 ∷ [])))
    ∷ ((of_current, plain 412), None)
    ∷ ((of_a, overviews_are (codes "0\t\t\t\t<a@x>" ∷ [])), None)
    ∷ ((of_a, overviews_are (one_is_a ∷ [])), Some (wrong_number 1))
    ∷ ((of_a, plain 430), None)
    ∷ ((of_a, plain 412), Some (wrong_code 412 (224 ∷ 430 ∷ [])))
    ∷ []

no_overviews_yet : Makes (λ row. misfit (within Narrow) none_selected row.0 row.1) overviews_before_a_group
no_overviews_yet = refl

-- ---- marks, and the greatest low mark of g before them

-- why a low mark doesn't fit
abbrev low_misfit : ℕ → Option ℕ → Option Misfit
low_misfit low earlier = first (unless (nat_le (unwrap_or earlier 0) low) (below_low (unwrap_or earlier 0)) ∷ [])

first_marks : (lows : Lows) → LowIs lows None → misfit (within Narrow) (selected lows) g (marks_are 2 5 9 (codes "g")) ≡ None
first_marks lows e = ap (λ low. first (low_misfit 5 low ∷ [])) e

same_low_mark : (lows : Lows) → LowIs lows (Some 5) → misfit (within Narrow) (selected lows) g (marks_are 2 5 9 (codes "g")) ≡ None
same_low_mark lows e = ap (λ low. first (low_misfit 5 low ∷ [])) e

lower_mark : (lows : Lows) → LowIs lows (Some 5) → misfit (within Narrow) (selected lows) g (marks_are 2 4 9 (codes "g")) ≡ Some (below_low 5)
lower_mark lows e = ap (λ low. first (low_misfit 4 low ∷ [])) e

high_mark_of_31_bits : (lows : Lows) → LowIs lows None → misfit (within Narrow) (selected lows) g (marks_are 1 1 2147483647 (codes "g")) ≡ None
high_mark_of_31_bits lows e = ap (λ low. first (low_misfit 1 low ∷ [])) e

high_mark_of_16_digits : (lows : Lows) → LowIs lows None → misfit (within Wide) (selected lows) g (marks_are 1 1 9999999999999999 (codes "g")) ≡ None
high_mark_of_16_digits lows e = ap (λ low. first (low_misfit 1 low ∷ [])) e

-- ---- lists of numbers, where g has no low mark before

-- why a list doesn't fit that begins at 1, by the order of its numbers and their range
abbrev list_misfit : Option Misfit → Option Misfit → Option ℕ → Option Misfit
list_misfit order range low = first (low_misfit 1 low ∷ order ∷ range ∷ [])

numbers_ascend : (lows : Lows) → LowIs lows None → misfit (within Narrow) (selected lows) (numbers_of_g 2 (Some 4)) (lists 3 1 5 (codes "2" ∷ codes "4" ∷ [])) ≡ None
numbers_ascend lows e = ap (list_misfit None None) e

numbers_descend : (lows : Lows) → LowIs lows None → misfit (within Narrow) (selected lows) (numbers_of_g 2 (Some 4)) (lists 3 1 5 (codes "4" ∷ codes "2" ∷ [])) ≡ Some (not_above 4 2)
numbers_descend lows e = ap (list_misfit (Some (not_above 4 2)) None) e

number_twice : (lows : Lows) → LowIs lows None → misfit (within Narrow) (selected lows) (numbers_of_g 1 None) (lists 3 1 9 (codes "5" ∷ codes "7" ∷ codes "7" ∷ [])) ≡ Some (not_above 7 7)
number_twice lows e = ap (list_misfit (Some (not_above 7 7)) None) e

past_the_range : (lows : Lows) → LowIs lows None → misfit (within Narrow) (selected lows) (numbers_of_g 2 (Some 4)) (lists 3 1 5 (codes "5" ∷ [])) ≡ Some (beyond_range 5)
past_the_range lows e = ap (list_misfit None (Some (beyond_range 5))) e

before_the_range : (lows : Lows) → LowIs lows None → misfit (within Narrow) (selected lows) (numbers_of_g 6 None) (lists 3 1 9 (codes "5" ∷ codes "7" ∷ [])) ≡ Some (beyond_range 5)
before_the_range lows e = ap (list_misfit None (Some (beyond_range 5))) e

number_of_16_digits : (lows : Lows) → LowIs lows None → misfit (within Wide) (selected lows) (numbers_of_g 1 None) (lists 1 1 9999999999999999 (codes "9999999999999999" ∷ [])) ≡ None
number_of_16_digits lows e = ap (list_misfit None None) e

-- ---- what an answer leaves

greeting_leaves_open : (visible_after none_selected greeting (plain 200)).closed ≡ false
greeting_leaves_open = refl

quit_closes : visible_after none_selected (to quit) (plain 205) ≡ record none_selected { closed = true }
quit_closes = refl

group_is_selected : (visible_after none_selected g (marks_are 3 1 5 (codes "g"))).selected ≡ Some (codes "g")
group_is_selected = refl

low_mark_is_kept : (visible_after none_selected g (marks_are 3 1 5 (codes "g"))).lows ≡ insert empty (codes "g") 1
low_mark_is_kept = refl

zeros_leave_the_low_mark : (lows : Lows) → (visible_after (selected lows) g (marks_are 0 0 0 (codes "g"))).lows ≡ lows
zeros_leave_the_low_mark lows = refl

overviews_move_nothing : (lows : Lows) → visible_after (selected lows) (of_range Over 1 3) (overviews_are (one_is_a ∷ [])) ≡ selected lows
overviews_move_nothing lows = refl

ids_move_nothing : (lows : Lows) → visible_after (selected lows) (of_range Hdr 1 3) (overviews_are (id_of_one ∷ [])) ≡ selected lows
ids_move_nothing lows = refl
