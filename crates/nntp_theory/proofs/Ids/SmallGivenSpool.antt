-- A session that says little is given a small spool.
use Rattle.nntp_theory.proofs.{GivenNumbers.MetNumbersStand.{known_or_more}, Members.{In, any_in, found_in, to_flat, from_flat, flat_none, parts_few}}
use Rattle.nntp_theory.proofs.{Ids.NumbersOfInventedIds.{mentioned}, Maps.{sorted_keys, keys_among, in_get}, Together.FactsOfASpoolStand.{same_itself, listed}}
use Rattle.nntp_theory.{proofs.Together.FactsOfASpoolStand.{in_listed}, specs.Given.{HasGivenNumbers, asks_in, asks_of, shows_group, is_shown_group}}
use Rattle.nntp_theory.specs.{Given.{unshown_in, unshown_ids, is_known}, Inner.Given.{size_in, size}}
use Rattle.nntp_wire.specs.{declared.marks.Marks.TheVariants.{Strict}, Listing.{ActiveValue, OverviewValue}}
use Rattle.std.proofs.Common.{◌≡◌, ℕ, ◌+◌, ◌<◌, ◌≤◌, ◌^◌, true, false, cond, IsTrue, List, [], ◌∷◌, ◌++◌, map, length, inl, inr, refl, sym, ap, arith}
use Rattle.std.proofs.{Common.{length-append}, lemmas.{Bool.{eqb-true, or_cases, and_parts}, List.{length-map, Folds.{flat_map-map}}}}
use Rattle.std.{proofs.lemmas.Map.{Keys.{IsDistinct-from_sorted}, Text.{is_eq-slice_cmp}}, specs.List.{AllByRecursion, flat_map, IsDistinct}}
use Rattle.std.specs.{Ordering.{nat_cmp, eq_by_cmp}, Cmp.{nat_cmp_total, Lexicographic.{slice_cmp, same_text, nat_list_cmp_total}}, FinMap.{keys, entries}}
use Rattle.std.specs.FinMap.{entries_sorted, nat_cmp-IsAntisymmetric, slice_cmp-IsAntisymmetric}
use Rattle.nntp_article.specs.{Session.{Spool.{Spool, Numbers, IsGroup, numbers, Name}, Machine.{is_same, overview_numbers}}, Article.Parts.{Id}}
use Rattle.nntp_said.specs.{Asks.{Ask, Estimates, Bounds, ListsIn, Has, StandsAt, StepsUp, StepsDown}, declared.position.Position.TheVariants.{First}}
use Rattle.nntp_said.specs.Facts.{Fact, ThereIs, Asks, IdAt, OverviewsAre, GroupsAre}

-- ---- the names and numbers that are shown, as lists

-- the groups that a fact shows
abbrev names_in : Fact → List Name
names_in (ThereIs name) = name ∷ []
names_in (GroupsAre p lines) = map (λ line. line.name) lines
names_in fact = []

-- the groups that are shown
pub names_of : List Fact → List Name
names_of facts = flat_map names_in facts

-- the numbers that an ask shows, and its strict marks
abbrev pub named_by : Ask → List ℕ
named_by (Estimates Strict m) = m.low ∷ m.high ∷ []
named_by (ListsIn r ns) = ns
named_by (Has m) = m ∷ []
named_by (StandsAt First m) = m ∷ []
named_by (StepsUp at m) = m ∷ []
named_by (StepsDown at m) = m ∷ []
named_by ask = []

-- the numbers of a group that a fact shows
abbrev pub numbers_in : Name → Fact → List ℕ
numbers_in name fact = flat_map named_by (asks_in name fact)

-- the numbers of a group that are shown
abbrev pub shown_numbers : Name → List Fact → List ℕ
shown_numbers name facts = flat_map (numbers_in name) facts

-- a group that is shown is one of the names
pub shown_name : (facts : List Fact) (name : Name) → IsTrue (is_shown_group facts name) → In name (names_of facts)
unfolding names_of
shown_name facts name t = let f = found_in (shows_group name) facts t in to_flat names_in f.0 name facts f.1 (grind (arith, same_text, in_listed, f.2))

-- one of the names is shown
pub name_shown : (facts : List Fact) (name : Name) → In name (names_of facts) → IsTrue (is_shown_group facts name)
unfolding names_of
name_shown facts name i = grind (arith, from_flat, any_in, same_itself, listed)

-- a number that is known is one of an ask's
pub known_named : (asks : List Ask) (n : ℕ) → IsTrue (is_known asks n) → (ask : Ask) × In ask asks × In n (named_by ask)
known_named asks n t = grind (arith, or_cases, found_in, and_parts, eqb-true)

-- and of the numbers
pub known_number : (name : Name) (facts : List Fact) (n : ℕ) → IsTrue (is_known (asks_of name facts) n) → In n (shown_numbers name facts)
known_number name facts n t =
    let f = known_named (asks_of name facts) n t in
    let g = from_flat (asks_in name) f.0 facts f.1 in
    to_flat (numbers_in name) g.0 n facts g.1 (to_flat named_by f.0 n (asks_in name g.0) g.2 f.2)

-- ---- how many there are

-- there are few names
names_few : (facts : List Fact) → length (names_of facts) ≤ size facts
unfolding names_of
names_few [] = omega arith
names_few (fact ∷ facts) = grind (arith, length-append, length-map, names_few facts)

-- marks show no number
no_number : (name : Name) (lines : List ActiveValue) → flat_map named_by (flat_map (λ line. cond (is_same line.name name) (Bounds line.low line.high ∷ []) []) lines) ≡ []
no_number name [] = refl
no_number name (line ∷ lines) = grind (arith, no_number name lines)

-- ---- over several groups

-- an ask shows numbers of one group: no other has the same name
none_left : (g : Name) (ask : Ask) (name : Name) (names : List Name) → is_same g name ≡ true → AllByRecursion (λ other. eq_by_cmp (slice_cmp nat_cmp) name other ≡ false) names
    → length (flat_map (λ n. flat_map named_by (cond (is_same g n) (ask ∷ []) [])) names) ≡ 0
none_left g ask name [] same apart = refl
none_left g ask name (other ∷ names) same apart = grind (arith, same_text g name (sym same), is_eq-slice_cmp name other, none_left g ask name names same apart.1)

-- what an ask shows of several groups is no more than its size
ask_few : (g : Name) (ask : Ask) (names : List Name) → IsDistinct (eq_by_cmp (slice_cmp nat_cmp)) names
    → length (flat_map (λ n. flat_map named_by (cond (is_same g n) (ask ∷ []) [])) names) ≤ size_in (Asks g ask)
unfolding IsDistinct
ask_few g ask [] d = omega arith
ask_few g ask (name ∷ names) d = grind (arith, none_left, length-append, ask_few g ask names d.1)

-- and so a fact
one_few : (fact : Fact) (names : List Name) → IsDistinct (eq_by_cmp (slice_cmp nat_cmp)) names → length (flat_map (λ name. numbers_in name fact) names) ≤ size_in fact
one_few (Asks g ask) names d = ask_few g ask names d
one_few (IdAt g n id) names d = ask_few g (Has n) names d
one_few (OverviewsAre g r os) names d = let count = ask_few g (ListsIn r (overview_numbers os)) names d in omega (arith, length-map os (λ (o : OverviewValue). o.number))
one_few (GroupsAre p lines) names d = omega (arith, ap length (flat_none (λ name. numbers_in name (GroupsAre p lines)) names (λ name i. no_number name lines)))
one_few fact names d = omega (arith, ap length (flat_none {B = ℕ} (λ (name : Name). []) names (λ name i. refl)))

-- two parts for each group
both_parts : (f h : Name → List ℕ) (names : List Name) → length (flat_map (λ name. f name ++ h name) names) ≡ length (flat_map f names) + length (flat_map h names)
both_parts f h [] = refl
both_parts f h (name ∷ names) = grind (arith, length-append, both_parts f h names)

-- there are few numbers, over all groups
numbers_few : (facts : List Fact) (names : List Name) → IsDistinct (eq_by_cmp (slice_cmp nat_cmp)) names → length (flat_map (λ name. shown_numbers name facts) names) ≤ size facts
numbers_few [] names d = omega (arith, ap length (flat_none {B = ℕ} (λ (name : Name). []) names (λ name i. refl)))
numbers_few (fact ∷ facts) names d = grind (arith, both_parts (λ name. numbers_in name fact) (λ name. shown_numbers name facts) names, one_few, numbers_few facts names d)

-- no more ids are mentioned than the size
mentioned_few : (facts : List Fact) → length (mentioned facts) ≤ size facts
mentioned_few [] = omega arith
mentioned_few (fact ∷ facts) = grind (arith, length-append, length-map, mentioned_few facts)

-- ---- the spool that is given

-- there is one number more than are known, at most
pub given_few : (name : Name) (facts : List Fact) (N : Numbers) → HasGivenNumbers (asks_of name facts) N → length (entries N) ≤ 1 + length (shown_numbers name facts)
given_few name facts N given = elim (known_or_more (asks_of name facts) N given) [
  | inl known ↦ (let le = keys_among nat_cmp_total N (shown_numbers name facts) (λ n i. known_number name facts n (known n i)) in omega arith)
  | inr (e, there, x) ↦
      let le = keys_among nat_cmp_total N (e ∷ shown_numbers name facts)
      (λ n i. grind (arith, known_number name facts n, given n)) in
      omega arith
]

-- ids for which none is shown are no more than the numbers
unshown_few : (facts : List Fact) (name : Name) (es : List (ℕ × Id)) → length (unshown_in facts name es) ≤ length es
unshown_few facts name [] = omega arith
unshown_few facts name (e ∷ es) = grind (arith, unshown_few facts name es)

-- the ids for which none is shown are few
pub unshown_ids_few : (facts : List Fact) (G : Spool) → ((name : Name) → IsGroup G name → IsTrue (is_shown_group facts name))
    → ((name : Name) → IsGroup G name → HasGivenNumbers (asks_of name facts) (numbers G name)) → length (unshown_ids facts G) ≤ size facts + size facts
unshown_ids_few facts G groups given =
    let each : (g : Name × Numbers) → In g (entries G.groups) → length (unshown_in facts g.0 (entries g.1)) ≤ 1 + length (shown_numbers g.0 facts) = λ g i.
    grind (arith, in_get nat_list_cmp_total (slice_cmp-IsAntisymmetric nat_cmp-IsAntisymmetric) G.groups g.0 g.1 i, given g.0, unshown_few facts g.0 (entries g.1), given_few g.0 facts g.1) in
    let all = parts_few (λ (g : Name × Numbers). unshown_in facts g.0 (entries g.1)) (λ (g : Name × Numbers). shown_numbers g.0 facts) (entries G.groups) each in
    let names = keys_among nat_list_cmp_total G.groups (names_of facts) (λ name i. shown_name facts name (groups name i)) in
    let same = ap length (flat_map-map (λ name. shown_numbers name facts) (λ (g : Name × Numbers). g.0) (entries G.groups)) in
    let total = numbers_few facts (keys G.groups) (IsDistinct-from_sorted (slice_cmp nat_cmp) (keys G.groups) (sorted_keys (slice_cmp nat_cmp) (entries G.groups) (entries_sorted G.groups))) in
    omega (arith, names_few facts)

-- fewer ids than invented ids can number
pub few_enough : (facts : List Fact) (n : ℕ) → size facts < 2 ^ 210 → n ≤ size facts + size facts → length (mentioned facts) + n < 10 ^ 64
few_enough facts n small le = let count = mentioned_few facts in omega arith
