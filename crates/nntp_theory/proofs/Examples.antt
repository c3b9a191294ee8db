-- Small sessions: what they say, and which numbers they show, deny and need.
use Rattle.nntp_wire.specs.declared.{marks.Marks.TheVariants.{Lenient}, water_marks.WaterMarks.{WaterMarks}, command.What.TheVariants.{Stat}}
use Rattle.nntp_wire.specs.{Answer.{Response, greeting, to, group_is, numbers_are, sends, plain}, Command.{Request, by_id, by_number, current, group}}
use Rattle.nntp_wire.specs.Command.{list_group, from_one, next, last, retrieve}
use Rattle.std.proofs.{Common.{◌≡◌, ℕ, ◌<◌, true, false, List, [], ◌∷◌, None, Some, map, refl, arith}, lemmas.Bool.{le-ltb, or_cases, false≢true, true≢false}}
use Rattle.std.{proofs.lemmas.Fmt.{decimal_digit}, specs.Prelude.{codes}}
use Rattle.nntp_said.specs.{Asks.{Ask, Estimates, StepsUp, StepsDown, StandsAt, IsTop, IsBottom, Has, Lacks}, declared.position.Position.TheVariants.{First}}
use Rattle.nntp_said.specs.{declared.position.Position.TheVariants.{Known}, Facts.{Fact, ThereIs, Asks, IdAt}}
use Rattle.nntp_theory.specs.{Inner.Together.{AsksStand, Together}, Given.{asks_of, is_shown, is_denied, demand, IsOneMore, AreInvented, invented}}
use Rattle.nntp_theory.specs.{Given.{facts_of_session, is_mentioned, id_shown}, declared.demand.Demand.TheVariants.{NotEmpty, SecondIs}}

-- a session after its greeting
abbrev session : List Request → List Response → List Fact
session commands answers = facts_of_session Lenient (greeting ∷ map (λ command. to command) commands) (plain 200 ∷ answers)

-- what it asks of the numbers of g
abbrev asks : List Request → List Response → List Ask
asks commands answers = asks_of (codes "g") (session commands answers)

abbrev stat : ℕ → Request
stat n = retrieve Stat (by_number (Some n))

abbrev found : ℕ → List ℕ → Response
found n id = sends (record { code = 223; number = n; id = id; block = None })

abbrev marks : ℕ → ℕ → ℕ → WaterMarks
marks estimate low high = record { estimate = estimate; low = low; high = high }

abbrev selected : ℕ → ℕ → ℕ → Response
selected estimate low high = group_is (marks estimate low high) (codes "g")

-- ---- the sessions

-- NEXT leads from the first number, which isn't seen, to 4
abbrev stepped : List Fact
stepped = session (group (codes "g") ∷ next ∷ []) (selected 3 1 5 ∷ found 4 (codes "<b@x>") ∷ [])

-- then 1 and 2 are denied
abbrev denied : List Ask
denied = asks (group (codes "g") ∷ next ∷ stat 1 ∷ stat 2 ∷ []) (selected 3 1 5 ∷ found 4 (codes "<b@x>") ∷ plain 423 ∷ plain 423 ∷ [])

-- a first number that is seen, and none below it
abbrev seen : List Ask
seen = asks (group (codes "g") ∷ retrieve Stat current ∷ last ∷ []) (selected 5 1 5 ∷ found 3 (codes "<a@b>") ∷ plain 422 ∷ [])

-- one number that is denied, and then one below it
abbrev emptied : List Ask
emptied = asks (group (codes "g") ∷ stat 5 ∷ last ∷ []) (selected 1 5 5 ∷ plain 423 ∷ plain 422 ∷ [])

-- numbers of LISTGROUP
abbrev listed : List Ask
listed = asks (list_group (Some (codes "g")) from_one ∷ []) (numbers_are (marks 3 2 4) (codes "g") (codes "2" ∷ codes "4" ∷ []) ∷ [])

abbrev none_listed : List Ask
none_listed = asks (list_group (Some (codes "g")) (record { first = 2; last = Some 1 }) ∷ []) (numbers_are (marks 1 2 4) (codes "g") [] ∷ [])

-- an id that is denied is mentioned, and so isn't invented
abbrev absent : List Fact
absent = session (retrieve Stat (by_id (codes "<w0@invented.invalid>")) ∷ group (codes "g") ∷ next ∷ []) (plain 430 ∷ selected 3 1 5 ∷ found 4 (codes "<b@x>") ∷ [])

-- one id at two numbers of a group is what no spool has
abbrev repeated : List Fact
repeated = session (group (codes "g") ∷ stat 1 ∷ stat 2 ∷ []) (selected 2 1 2 ∷ found 1 (codes "<a@b>") ∷ found 2 (codes "<a@b>") ∷ [])

-- the last number
abbrev at_limit : List Ask
at_limit = asks (group (codes "g") ∷ stat 2147483647 ∷ next ∷ []) (selected 1 2147483647 2147483647 ∷ found 2147483647 (codes "<m@x>") ∷ plain 421 ∷ [])

-- NEXT from the unseen first number, and LAST back to it
abbrev returned : List Ask
returned = asks (group (codes "g") ∷ next ∷ last ∷ []) (selected 3 1 5 ∷ found 4 (codes "<b@x>") ∷ found 2 (codes "<a@x>") ∷ [])

-- ---- what is computed of them

record Computed : Type 0 where
  stepped_says : stepped ≡ ThereIs (codes "g") ∷ Asks (codes "g") (Estimates Lenient (marks 3 1 5)) ∷ Asks (codes "g") (StepsUp First 4) ∷ IdAt (codes "g") 4 (codes "<b@x>") ∷ []
  stepped_asks : asks_of (codes "g") stepped ≡ Estimates Lenient (marks 3 1 5) ∷ StepsUp First 4 ∷ Has 4 ∷ []
  -- so one more is needed below 4
  stepped_demands : demand (asks_of (codes "g") stepped) ≡ SecondIs 4
  two_is_denied : is_denied denied 2 ≡ true
  six_is_denied : is_denied denied 6 ≡ true
  -- where 3 is denied too, no number is left below 4
  all_denied : is_denied (asks (group (codes "g") ∷ next ∷ stat 1 ∷ stat 2 ∷ stat 3 ∷ []) (selected 3 1 5 ∷ found 4 (codes "<b@x>") ∷ plain 423 ∷ plain 423 ∷ plain 423 ∷ [])) 3 ≡ true
  seen_asks : seen ≡ Estimates Lenient (marks 5 1 5) ∷ StandsAt First 3 ∷ Has 3 ∷ IsBottom (Known 3) ∷ []
  seen_denies_below : is_denied seen 2 ≡ true
  seen_leaves_above : is_denied seen 4 ≡ false
  emptied_asks : emptied ≡ Estimates Lenient (marks 1 5 5) ∷ Lacks 5 ∷ IsBottom First ∷ []
  emptied_needs_one : demand emptied ≡ NotEmpty
  five_is_denied : is_denied emptied 5 ≡ true
  four_is_denied : is_denied emptied 4 ≡ true
  two_is_shown : is_shown listed 2 ≡ true
  three_is_a_gap : is_denied listed 3 ≡ true
  empty_range_denies_none : is_denied none_listed 3 ≡ false
  absent_is_mentioned : is_mentioned absent (codes "<w0@invented.invalid>") ≡ true
  same_id : id_shown repeated (codes "g") 1 ≡ id_shown repeated (codes "g") 2
  at_limit_asks : at_limit ≡ Estimates Lenient (marks 1 2147483647 2147483647) ∷ Has 2147483647 ∷ IsTop (Known 2147483647) ∷ []
  returned_asks : returned ≡ Estimates Lenient (marks 3 1 5) ∷ StepsUp First 4 ∷ Has 4 ∷ StepsDown (Known 4) 2 ∷ Has 2 ∷ []
  step_is_a_gap : is_denied returned 3 ≡ true
  one_is_free : is_denied returned 1 ≡ false

computed : Computed
computed = assumption

-- ---- which number is given more, and what falls

record Given : Type 0 where
  -- as no number below 4 is known, the marks being lenient
  stepped_is_given_1 : IsOneMore (asks_of (codes "g") stepped) 1
  denied_is_given_3 : IsOneMore denied 3
  seen_needs_none : (n : ℕ) → IsOneMore seen n → ⊥
  -- no number is left
  emptied_falls : AsksStand emptied → ⊥
  -- before LAST was answered no number was needed: the group has none
  unasked_needs_none : (n : ℕ) → IsOneMore (asks (group (codes "g") ∷ stat 5 ∷ []) (selected 1 5 5 ∷ plain 423 ∷ [])) n → ⊥
  one_is_invented : AreInvented absent 0 (codes "<w1@invented.invalid>" ∷ [])
  repeated_falls : Together repeated → ⊥
  -- 2 is shown below 4
  returned_needs_none : (n : ℕ) → IsOneMore returned n → ⊥

given : Given
given = record {
  stepped_is_given_1 = record { needed = λ n t. le-ltb n 4 (grind (arith, or_cases)); wanted = refl; first = (omega arith, refl, λ m some low. absurd (omega arith)) };
  denied_is_given_3 = record { needed = λ n t. le-ltb n 4 (grind (arith, or_cases)); wanted = refl; first = (omega arith, refl, λ m some low. grind arith) };
  seen_needs_none = λ n x. false≢true x.wanted;
  emptied_falls = λ h. grind arith;
  unasked_needs_none = λ n x. false≢true x.wanted;
  one_is_invented = grind (arith, decimal_digit);
  repeated_falls = λ h. grind (arith, (h.ids_once (codes "g") (codes "<a@b>")).1.1.1.1.1.0);
  returned_needs_none = λ n x. true≢false (x.needed 2 refl);
}
