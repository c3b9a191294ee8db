-- Whether a spool permits a session can be decided.
use Rattle.std.proofs.Common.{◌≡◌, ℕ, ◌↔◌, ◌≤◌, Bool, true, false, ◌&&◌, ◌||◌, IsTrue, Option, None, Some, is_some, IsSome, List, [], ◌∷◌, map, inl, inr, arith}
use Rattle.std.proofs.{Common.{sym, ◌∙◌}, lemmas.Bool.{and_parts, and_from, or_cases, or_left, or_right, cases_lt, cases_eq, true≢false, cases_Bool}}
use Rattle.std.proofs.lemmas.{Bool.Decides.{nat_tests}, Map.{Views.{Contains-from_any, list_any-from_Contains, tells_apart}, Lookups.{exact_unsigned}}}
use Rattle.std.{proofs.lemmas.{Map.Lookups.{exact_bytes, CmpEqualImpliesEq}, List.Elements.{recursion_from_All, All-from_recursion}}, specs.Prelude.{nat_le}}
use Rattle.std.specs.{Prelude.{IfSome, Contains, option_map, MatchOption}, List.{list_any, list_all}, Ordering.{eq_by_cmp}, Cmp.{IsTotalOrder, nat_cmp_total}}
use Rattle.std.specs.{Cmp.{eq_by_cmp_equiv, Lexicographic.{nat_list_cmp_total}}, FinMap.{FinMap, get, len, IsAntisymmetric, nat_cmp-IsAntisymmetric}}
use Rattle.std.specs.{FinMap.{slice_cmp-IsAntisymmetric}, declared.cmp.Ordering.{Ordering}}
use Rattle.nntp_article.specs.Session.{Spool.{Spool, Numbers, IsNumber, numbers, Lists, IsInRange, text_of}, Machine.{HasOverview, Visible, State}}
use Rattle.nntp_article.specs.{Session.Machine.{ActivesAgree, Run, fits, visible_after}, declared.session.profile.Profile.{Profile}}
use Rattle.nntp_article.specs.Article.Fields.{fields_of_head}
use Rattle.nntp_wire.specs.{Listing.{Fields, ActiveValue, OverviewValue}, Answer.{Asked, Response}, declared.range.Range.{Range}, Wildmat.{MatchesName}}
use Rattle.nntp_wire.{specs.Decided.{matches_name}, proofs.{DecidedLemmas.{matches_name-iff}, OptionLemmas.{none_of}}}
use Rattle.nntp_said.specs.Asks.{Ask, Meets, Bounds, Estimates, ListsIn, Has, Lacks, StandsAt, StandsNowhere, StepsUp, StepsDown, IsTop, IsBottom, current_in}
use Rattle.nntp_said.specs.{declared.position.Position.{Position, TheVariants.{Nowhere, Known}}, Inner.{Asks.{state_at}, Facts.{FitsAll}}, Facts.{Fact}}
use Rattle.nntp_said.specs.Facts.{ThereIs, ThereIsNo, Asks, IdAt, TextIs, NoArticle, FieldsAre, OverviewsAre, GroupsAre, Holds, facts_from}
use Rattle.nntp_said.proofs.{CurrentArticle.{read_off, run_from}, FactsHold.{permits_by_facts}, FiniteMapsDecided.{Dec, dec_true, dec_le, dec_both, dec_by}}
use Rattle.nntp_said.proofs.FiniteMapsDecided.{dec_none, each_key, dec_some, dec_option, dec_lists, dec_to, passes, fails, dec_all, dec_texts, dec_if_some}

each_number : (N : Numbers) (p : ℕ → Bool) → Dec ((n : ℕ) → IsNumber N n → IsTrue (p n))
each_number N p = each_key nat_cmp_total nat_cmp-IsAntisymmetric p N

dec_between : (N : Numbers) (low high : ℕ) → Dec ((n : ℕ) → IsNumber N n → (low ≤ n) × (n ≤ high))
dec_between N low high = grind (arith, nat_tests, and_parts, and_from, each_number N (λ n. nat_le low n && nat_le n high))

abbrev test_of : {P : Type 0} → Dec P → Bool
test_of (inl p) = true
test_of (inr p) = false

from_test : {P : Type 0} (d : Dec P) → IsTrue (test_of d) → P
from_test d h = grind arith

module _ {K : Type 0} {R : K → K → Ordering} (o : IsTotalOrder R) (exact : CmpEqualImpliesEq R) where
  among : (ns : List K) (n : K) → Dec (Contains ns n)
  among ns n = grind (arith, cases_Bool (list_any (eq_by_cmp R n) ns), Contains-from_any (tells_apart exact) n ns, list_any-from_Contains (eq_by_cmp_equiv o) n ns, true≢false)

  -- each of the listed passes the test, or one doesn't
  each_listed : IsAntisymmetric R → (ns : List K) (p : K → Bool) → Dec ((n : K) → Contains ns n → IsTrue (p n))
  each_listed same ns p = elim (cases_Bool (list_all p ns)) [
    | inl all ↦ inl (λ n h. passes o same p ns n all (list_any-from_Contains (eq_by_cmp_equiv o) n ns h))
    | inr some ↦ inr (λ h. let f = fails o same p ns some in true≢false (sym (h f.0 (Contains-from_any (tells_apart exact) f.0 ns f.2)) ∙ f.1))
  ]

-- the listed keys are those that have the property: the keys of the map that pass the test
dec_same_keys : {K X : Type 0} {R : K → K → Ordering} (o : IsTotalOrder R) (same : IsAntisymmetric R)
    (exact : CmpEqualImpliesEq R) (m : FinMap R X) (P : K → Type 0) → ((q : K) → Dec (P q)) → (ks : List K) → Dec ((q : K) → Contains ks q ↔ (IsSome (get m q) × P q))
dec_same_keys o same exact m P d ks =
    dec_by
    (λ h q. (λ c. from_test (dec_both (dec_true (is_some (get m q))) (d q)) (h.0 q c), λ i. from_test (dec_to (d q) (among o exact ks q)) (h.1 q i.0) i.1))
    (λ h. (λ q c. grind arith, λ q i. grind arith))
    (dec_both (each_listed o exact same ks (λ q. test_of (dec_both (dec_true (is_some (get m q))) (d q)))) (each_key o same (λ q. test_of (dec_to (d q) (among o exact ks q))) m))

dec_listing : (N : Numbers) (r : Range) (ns : List ℕ) → Dec (Lists N r ns)
dec_listing N r ns = dec_same_keys nat_cmp_total nat_cmp-IsAntisymmetric exact_unsigned N (IsInRange r) (λ n. grind (arith, cases_lt)) ns

dec_match : {A : Type 0} (o : Option A) (Q : A → Type 0) → ((x : A) → Dec (Q x)) → Dec (MatchOption o ⊥ Q)
dec_match o Q d = grind arith

dec_matched : (p : Option (List ℕ)) (name : List ℕ) → Dec (IfSome p (λ w. MatchesName w name))
dec_matched p name = dec_if_some p (λ w. let iff = matches_name-iff w name in dec_by iff.0 iff.1 (dec_true (matches_name w name)))

dec_actives : (S : Spool) (p : Option (List ℕ)) (lines : List ActiveValue) → Dec (ActivesAgree S p lines)
dec_actives S p lines =
    dec_both
    (dec_same_keys nat_list_cmp_total (slice_cmp-IsAntisymmetric nat_cmp-IsAntisymmetric) exact_bytes S.groups _ (dec_matched p) (map (λ line. line.name) lines))
    (dec_by (All-from_recursion _ lines) (recursion_from_All _ lines) (dec_all _ (λ line. dec_between (numbers S line.name) line.low line.high) lines))

-- whether numbers meet what is asked of them
dec_meets : (N : Numbers) (ask : Ask) → Dec (Meets N ask)
dec_meets N (Estimates how m) = grind (arith, dec_between N m.low m.high, dec_le (len N) m.estimate, and_parts, and_from, each_number N (λ n. is_some (get N m.low) && is_some (get N m.high)))
dec_meets N (Bounds low high) = dec_between N low high
dec_meets N (ListsIn r ns) = dec_listing N r ns
dec_meets N (Has n) = dec_true (is_some (get N n))
dec_meets N (Lacks n) = dec_none (get N n)
dec_meets N (StandsAt at n) = dec_some cases_eq (current_in N at) n
dec_meets N (StandsNowhere at) = dec_none (current_in N at)
dec_meets N (StepsUp at n) =
    dec_match (current_in N at) _ (λ c. grind (arith, nat_tests, or_cases, or_left, or_right, dec_true (is_some (get N n)), cases_lt, each_number N (λ m. nat_le m c || nat_le n m)))
dec_meets N (StepsDown at n) =
    dec_match (current_in N at) _ (λ c. grind (arith, nat_tests, or_cases, or_left, or_right, dec_true (is_some (get N n)), cases_lt, each_number N (λ m. nat_le c m || nat_le m n)))
dec_meets N (IsTop at) = dec_match (current_in N at) _ (λ c. grind (arith, nat_tests, none_of, each_number N (λ m. nat_le m c)))
dec_meets N (IsBottom at) = dec_match (current_in N at) _ (λ c. grind (arith, nat_tests, none_of, each_number N (λ m. nat_le c m)))

-- whether two heads tell the same
dec_fields : (x y : Fields) → Dec (x ≡ y)
dec_fields x y =
    dec_by
    (λ (h : ((x.subject ≡ y.subject) × (x.from ≡ y.from)) × ((x.date ≡ y.date) × (x.references ≡ y.references))).
    λ i. record { subject = h.0.0 i; from = h.0.1 i; date = h.1.0 i; references = h.1.1 i })
    (λ e. grind arith) (dec_both (dec_both (dec_lists x.subject y.subject) (dec_lists x.from y.from)) (dec_both (dec_lists x.date y.date) (dec_lists x.references y.references)))

-- whether an overview is that of its article
dec_overview : (S : Spool) (o : OverviewValue) → Dec (HasOverview S o)
dec_overview S o = dec_match (get S.articles o.id) _ (λ t. dec_if_some o.told (dec_fields (fields_of_head t.head)))

-- whether a fact holds of a spool
dec_holds : (S : Spool) (fact : Fact) → Dec (Holds S fact)
dec_holds S (ThereIs name) = dec_true (is_some (get S.groups name))
dec_holds S (ThereIsNo name) = dec_none (get S.groups name)
dec_holds S (Asks name ask) = dec_meets (numbers S name) ask
dec_holds S (IdAt name n id) = dec_some dec_texts (get (numbers S name) n) id
dec_holds S (TextIs what id lines) = dec_some (dec_option dec_lists) (option_map (text_of what) (get S.articles id)) lines
dec_holds S (NoArticle id) = dec_none (get S.articles id)
dec_holds S (FieldsAre os) = dec_all _ (dec_overview S) os
dec_holds S (OverviewsAre name r os) = search (arith, dec_both, dec_listing, dec_all, dec_some, dec_texts, dec_overview)
dec_holds S (GroupsAre p lines) = dec_actives S p lines

-- whether the visible condition holds at each place
dec_fits_all : (profile : Profile) (v : Visible) (ps : List Asked) (answers : List Response) → Dec (FitsAll profile v ps answers)
dec_fits_all profile v (p ∷ ps) (a ∷ more) = grind (arith, cases_Bool v.closed, cases_Bool (fits profile v p a), dec_fits_all profile (visible_after v p a) ps more)
dec_fits_all profile v ps [] = inl tt
dec_fits_all profile v ps answers = inr (λ h. h)

-- whether a spool permits answers from a position on: by what they say
dec_run_at : (profile : Profile) (S : Spool) (v : Visible) (at : Position) (ps : List Asked) (answers : List Response) → Dec (Run profile S (state_at S v at) ps answers)
dec_run_at profile S v at ps answers =
    let both = dec_both (dec_fits_all profile v ps answers) (dec_all (Holds S) (dec_holds S) (facts_from profile.marks v at ps answers)) in
    grind (arith, both, permits_by_facts profile S v at ps answers, read_off profile S v at ps answers, run_from profile S v at ps answers)

-- whether a spool permits answers from a state on, since each state is one at a position
pub dec_run : (profile : Profile) (S : Spool) (s : State) (ps : List Asked) (answers : List Response) → Dec (Run profile S s ps answers)
dec_run profile S s ps answers = by s.current
  where
    by : (current : Option ℕ) → Dec (Run profile S (record { visible = s.visible; current = current }) ps answers)
    by None = dec_run_at profile S s.visible Nowhere ps answers
    by (Some n) = dec_run_at profile S s.visible (Known n) ps answers
