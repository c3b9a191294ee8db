-- What the definitions say of the session of docs/EXAMPLE.md: the facts of its answers, and what these ask of the numbers.
use Rattle.std.{proofs.Common.{◌≡◌, ℕ, true, false, List, [], ◌∷◌, ◌++◌, Option, None, Some, refl}, specs.{Prelude.{codes}, Cmp.Lexicographic.{slice_cmp}}}
use Rattle.std.specs.{Ordering.{nat_cmp}, FinMap.{FinMap}}
use Rattle.nntp_wire.specs.{Command.{by_number, current, group, next, retrieve, quit}, Answer.{Asked, greeting, to, Response, group_is, sends, plain}}
use Rattle.nntp_wire.specs.declared.{command.What.TheVariants.{Head, Stat}, marks.Marks.TheVariants.{Lenient}, water_marks.WaterMarks.{WaterMarks}}
use Rattle.nntp_article.specs.{Article.Parts.{Id, Line}, Session.{Spool.{Name}, Machine.{Visible, start}}}
use Rattle.nntp_said.specs.{declared.position.Position.TheVariants.{Nowhere, First, Known}, Asks.{Ask, Estimates, Lacks, StandsAt, StepsUp}, Facts.{Fact}}
use Rattle.nntp_said.specs.Facts.{ThereIs, Asks, IdAt, TextIs, facts_of}
use Rattle.nntp_theory.specs.{declared.demand.Demand.TheVariants.{SecondIs}, Given.{asks_of, demand, wants, is_shown, is_denied}}

abbrev misc_test : Name
misc_test = codes "misc.test"

abbrev two : Id
two = codes "<a@x>"

abbrev head_lines : List Line
head_lines = codes "Subject: two" ∷ codes "Message-ID: <a@x>" ∷ []

abbrev marks : WaterMarks
marks = record { estimate = 3; low = 1; high = 9 }

-- a success with the number 2
abbrev success : ℕ → Option (List Line) → Response
success code lines = sends (record { code = code; number = 2; id = two; block = lines })

abbrev stat_1 : Asked
stat_1 = to (retrieve Stat (by_number (Some 1)))

-- the group is selected, whatever its greatest low mark is
abbrev Lows : Type 0
Lows = FinMap (slice_cmp nat_cmp) ℕ

abbrev in_group : Lows → Visible
in_group lows = record { closed = false; selected = Some misc_test; lows = lows }

-- ---- what each answer says

abbrev of_group : List Fact
of_group = ThereIs misc_test ∷ Asks misc_test (Estimates Lenient marks) ∷ []

abbrev of_next : List Fact
of_next = Asks misc_test (StepsUp First 2) ∷ IdAt misc_test 2 two ∷ []

abbrev of_head : List Fact
of_head = TextIs Head two (Some head_lines) ∷ Asks misc_test (StandsAt (Known 2) 2) ∷ IdAt misc_test 2 two ∷ []

abbrev of_stat : List Fact
of_stat = Asks misc_test (Lacks 1) ∷ []

answer_0 : facts_of Lenient start.visible Nowhere greeting (plain 200) ≡ []
answer_0 = refl

answer_1 : facts_of Lenient start.visible Nowhere (to (group misc_test)) (group_is marks misc_test) ≡ of_group
answer_1 = refl

answer_2 : (lows : Lows) → facts_of Lenient (in_group lows) First (to next) (success 223 None) ≡ of_next
answer_2 lows = refl

answer_3 : (lows : Lows) → facts_of Lenient (in_group lows) (Known 2) (to (retrieve Head current)) (success 221 (Some head_lines)) ≡ of_head
answer_3 lows = refl

answer_4 : (lows : Lows) → facts_of Lenient (in_group lows) (Known 2) stat_1 (plain 423) ≡ of_stat
answer_4 lows = refl

answer_5 : (lows : Lows) → facts_of Lenient (in_group lows) (Known 2) (to quit) (plain 205) ≡ []
answer_5 lows = refl

-- ---- what they ask of the numbers

-- by the answers that are accepted
abbrev asks : List Ask
asks = asks_of misc_test (of_group ++ of_next ++ of_head)

-- the first number is the only one below 2
demanded : demand asks ≡ SecondIs 2
demanded = refl

-- 2 is shown, and isn't wanted below itself
two_shown : (is_shown asks 2 ≡ true) × (wants (demand asks) 2 ≡ false)
two_shown = (refl, refl)

-- 1 is free, and would do
one_free : (is_shown asks 1 ≡ false) × (is_denied asks 1 ≡ false) × (wants (demand asks) 1 ≡ true)
one_free = (refl, refl, refl)

-- 0 and 10 are denied
outside : (is_denied asks 0 ≡ true) × (is_denied asks 10 ≡ true)
outside = (refl, refl)

-- with answer 4, which demands nothing more, 1 is denied
one_denied : (demand (asks ++ asks_of misc_test of_stat) ≡ SecondIs 2) × (is_denied (asks ++ asks_of misc_test of_stat) 1 ≡ true)
one_denied = (refl, refl)
