-- Answers of small sessions: which of them fit, and what they leave of the visible state.
use Rattle.std.{proofs.Common.{◌≡◌, ℕ, arith, Bool, true, false, List, [], ◌∷◌, Option, None, Some, refl}, specs.Prelude.{codes}}
use Rattle.std.specs.{Cmp.Lexicographic.{slice_cmp}, Ordering.{nat_cmp}, FinMap.{FinMap, empty, get, insert}, Char.{encode_utf8}, Str.{chars, is_utf8}}
use Rattle.nntp_wire.specs.Command.{by_id, by_number, current, quit, opaque, ill_formed, group, list_group, retrieve, list_active, mode_reader, next, from_one}
use Rattle.nntp_wire.specs.Answer.{Asked, greeting, to, Response, group_is, numbers_are, sends, active_are, plain}
use Rattle.nntp_wire.specs.{declared.{command.What.TheVariants.{Article, Head, Body, Stat}, marks.Marks.TheVariants.{Lenient}}, Decided.{matches_name}}
use Rattle.nntp_article.specs.{Article.Parts.{Line}, declared.session.profile.Profile.{Profile}, Session.Machine.{Visible, start, fits, visible_after}}

abbrev reader : Profile
reader = record { limit = 2147483647; marks = Lenient }

abbrev at_start : Visible
at_start = start.visible

abbrev in_group : Visible
in_group = record { closed = false; selected = Some (codes "g"); lows = empty }

abbrev group_of_marks : ℕ → ℕ → ℕ → Response
group_of_marks estimate low high = group_is (record { estimate = estimate; low = low; high = high }) (codes "g")

abbrev success : ℕ → ℕ → List ℕ → Option (List Line) → Response
success code number id block = sends (record { code = code; number = number; id = id; block = block })

-- ---- greetings and codes alone

record Alone : Type 0 where
  greeting_200 : fits reader at_start greeting (plain 200) ≡ true
  greeting_203 : fits reader at_start greeting (plain 203) ≡ false
  greeting_400_closes : (visible_after at_start greeting (plain 400)).closed ≡ true
  quit_closes : (visible_after at_start (to quit) (plain 205)).closed ≡ true
  mode_reader_refused_closes : (visible_after at_start (to mode_reader) (plain 502)).closed ≡ true
  group_refused_stays_open : (visible_after at_start (to (group (codes "g"))) (plain 502)).closed ≡ false
  posting_is_refused : fits reader at_start (to opaque) (plain 340) ≡ false
  password_is_asked_for : fits reader at_start (to opaque) (plain 381) ≡ true
  opaque_is_answered : fits reader at_start (to opaque) (plain 224) ≡ true
  ill_formed_fails : fits reader at_start (to ill_formed) (plain 501) ≡ true
  ill_formed_does_not_succeed : fits reader at_start (to ill_formed) (plain 205) ≡ false
  none_selected : fits reader at_start (to next) (plain 412) ≡ true
  none_selected_only_then : fits reader in_group (to next) (plain 412) ≡ false
  unnamed_listgroup_is_not_411 : fits reader at_start (to (list_group None from_one)) (plain 411) ≡ false

alone : Alone
alone = assumption

-- ---- marks

-- marks that are seen after the low mark 5 of the same group
abbrev after_low : FinMap (slice_cmp nat_cmp) ℕ → Visible
after_low lows = record { closed = false; selected = Some (codes "g"); lows = lows }

abbrev low_is : FinMap (slice_cmp nat_cmp) ℕ → ℕ → Type 0
low_is lows n = get lows (codes "g") ≡ Some n

record OfMarks : Type 0 where
  other_name : fits reader at_start (to (group (codes "h"))) (group_of_marks 3 1 5) ≡ false
  zeros_fit : fits reader at_start (to (group (codes "g"))) (group_of_marks 0 0 0) ≡ true
  high_past_the_limit : fits reader at_start (to (group (codes "g"))) (group_of_marks 1 1 2147483648) ≡ false
  estimate_past_the_marks : fits reader at_start (to (group (codes "g"))) (group_of_marks 6 1 5) ≡ false
  low_two_above_high : fits reader at_start (to (group (codes "g"))) (group_of_marks 0 7 5) ≡ false
  selects_the_group : (visible_after at_start (to (group (codes "g"))) (group_of_marks 3 1 5)).selected ≡ Some (codes "g")
  zeros_leave_the_marks : (visible_after at_start (to (group (codes "g"))) (group_of_marks 0 0 0)).lows ≡ empty
  low_mark_is_kept : (visible_after at_start (to (group (codes "g"))) (group_of_marks 2 5 6)).lows ≡ insert empty (codes "g") 5

of_marks : OfMarks
of_marks = assumption

record AfterLow (lows : FinMap (slice_cmp nat_cmp) ℕ) : Type 0 where
  low_below_an_earlier_one : fits reader (after_low lows) (to (group (codes "g"))) (group_of_marks 2 4 6) ≡ false
  low_equal_to_an_earlier_one : fits reader (after_low lows) (to (group (codes "g"))) (group_of_marks 2 5 6) ≡ true
  empty_group_above_its_high_mark : fits reader (after_low lows) (to (group (codes "g"))) (group_of_marks 0 6 5) ≡ true

after_five : (lows : FinMap (slice_cmp nat_cmp) ℕ) → low_is lows 5 → AfterLow lows
after_five lows e = grind arith

zeros_after_a_low_mark : (lows : FinMap (slice_cmp nat_cmp) ℕ) → fits reader (after_low lows) (to (group (codes "g"))) (group_of_marks 0 0 0) ≡ true
zeros_after_a_low_mark lows = refl

-- ---- numbers of LISTGROUP

abbrev lists : List Line → Response
lists lines = numbers_are (record { estimate = 3; low = 2; high = 4 }) (codes "g") lines

abbrev listgroup : Option (List ℕ) → ℕ → Option ℕ → Asked
listgroup name first last_number = to (list_group name (record { first = first; last = last_number }))

-- the marks fit where no low mark above 2 was seen
abbrev unseen : FinMap (slice_cmp nat_cmp) ℕ → Type 0
unseen lows = get lows (codes "g") ≡ None

unnamed_and_none_selected : fits reader at_start (listgroup None 1 None) (lists []) ≡ false
unnamed_and_none_selected = refl

record OfUnseen (lows : FinMap (slice_cmp nat_cmp) ℕ) : Type 0 where
  numbers_in_order : fits reader (after_low lows) (listgroup None 2 (Some 9)) (lists (codes "2" ∷ codes "004" ∷ [])) ≡ true
  numbers_descend : fits reader (after_low lows) (listgroup None 2 (Some 9)) (lists (codes "4" ∷ codes "2" ∷ [])) ≡ false
  number_twice : fits reader (after_low lows) (listgroup None 2 (Some 9)) (lists (codes "4" ∷ codes "04" ∷ [])) ≡ false
  number_out_of_range : fits reader (after_low lows) (listgroup None 3 None) (lists (codes "2" ∷ codes "4" ∷ [])) ≡ false
  empty_range : fits reader (after_low lows) (listgroup (Some (codes "g")) 2 (Some 1)) (lists []) ≡ true

of_unseen : (lows : FinMap (slice_cmp nat_cmp) ℕ) → unseen lows → OfUnseen lows
of_unseen lows e = grind arith

-- ---- articles

record OfArticles : Type 0 where
  with_number_where_none_is_selected : fits reader at_start (to (retrieve Stat (by_id (codes "<a@b>")))) (success 223 7 (codes "<a@b>") None) ≡ false
  with_number_zero : fits reader at_start (to (retrieve Stat (by_id (codes "<a@b>")))) (success 223 0 (codes "<a@b>") None) ≡ true
  other_id : fits reader at_start (to (retrieve Stat (by_id (codes "<a@b>")))) (success 223 0 (codes "<b@b>") None) ≡ false
  current_past_the_limit : fits reader in_group (to (retrieve Stat current)) (success 223 2147483648 (codes "<a@b>") None) ≡ false
  current_is_not_zero : fits reader in_group (to (retrieve Stat current)) (success 223 0 (codes "<a@b>") None) ≡ false
  other_number : fits reader in_group (to (retrieve Stat (by_number (Some 5)))) (success 223 6 (codes "<a@b>") None) ≡ false
  long_number_names_no_article : fits reader in_group (to (retrieve Stat (by_number None))) (success 223 6 (codes "<a@b>") None) ≡ false
  long_number_is_not_there : fits reader in_group (to (retrieve Stat (by_number None))) (plain 423) ≡ true
  head_says_its_own_id : fits reader at_start (to (retrieve Head (by_id (codes "<a@b>")))) (success 221 0 (codes "<a@b>") (Some (codes "message-id:<a@b>" ∷ []))) ≡ true
  head_says_another_id : fits reader at_start (to (retrieve Head (by_id (codes "<a@b>")))) (success 221 0 (codes "<a@b>") (Some (codes "Message-ID: <b@b>" ∷ []))) ≡ false
  head_of_no_line : fits reader at_start (to (retrieve Head (by_id (codes "<a@b>")))) (success 221 0 (codes "<a@b>") (Some [])) ≡ false
  article_without_empty_line : fits reader at_start (to (retrieve Article (by_id (codes "<a@b>")))) (success 220 0 (codes "<a@b>") (Some (codes "Subject: one" ∷ []))) ≡ false
  article_of_head_and_body : fits reader at_start (to (retrieve Article (by_id (codes "<a@b>")))) (success 220 0 (codes "<a@b>") (Some (codes "Subject: one" ∷ [] ∷ codes "text" ∷ [] ∷ []))) ≡ true
  body_of_no_line : fits reader at_start (to (retrieve Body (by_id (codes "<a@b>")))) (success 222 0 (codes "<a@b>") (Some [])) ≡ true

of_articles : OfArticles
of_articles = assumption

-- ---- LIST ACTIVE

abbrev list : Option (List ℕ) → List Line → Bool
list wildmat lines = fits reader at_start (to (list_active wildmat)) (active_are lines)

record OfActive : Type 0 where
  no_group_listed : list None [] ≡ true
  empty_group_listed : list None (codes "g 0 1 y" ∷ codes "h 0 0 n" ∷ []) ≡ true
  low_past_high : list None (codes "g 3 5 y" ∷ []) ≡ false
  zero_low_alone : list None (codes "g 3 0 y" ∷ []) ≡ false
  group_listed_twice : list None (codes "g 5 1 y" ∷ codes "g 6 1 y" ∷ []) ≡ false
  matching_group_listed : list (Some (codes "a*,!ab")) (codes "ac 5 1 y" ∷ []) ≡ true
  other_group_listed : list (Some (codes "a*,!ab")) (codes "ab 5 1 y" ∷ []) ≡ false
  last_pattern_decides : matches_name (codes "a*,!ab,*b") (codes "ab") ≡ true
  star_matches_every_name : matches_name (codes "*") (codes "comp.lang.c") ≡ true
  question_takes_one_character : matches_name (codes "?") (0xC3 ∷ 0xA9 ∷ []) ≡ true

of_active : OfActive
unfolding chars is_utf8 encode_utf8
of_active = assumption
