-- Several sessions have one outcome, and it is a yes exactly if some spool explains them all.
use Rattle.std.proofs.Common.{◌≡◌, ◌↔◌, ℕ, zero, suc, ◌<◌, ◌^◌, IsTrue, List, [], ◌∷◌, take, inl, inr, refl, sym, ap, subst, append-nil, arith}
use Rattle.std.{proofs.lemmas.Bool.{true≢false}, specs.Prelude.{MatchOption}}
use Rattle.nntp_article.specs.{Session.{Spool.{Spool}, Explains.{Explains}}, declared.session.profile.Profile.{Profile}}
use Rattle.nntp_wire.specs.Session.{prompts_of}
use Rattle.nntp_said.specs.Facts.{Fact}
use Rattle.nntp_theory.specs.{Given.{IsGiven, HasAtLeast, facts_of_session}, Inner.Given.{size}, Classes.{HasClass}, Outcome.{Outcome, Yes, No}}
use Rattle.nntp_theory.{specs.{Outcome.{IsLeastExplanation, IsOutcome}, Answered.{PermitsEach, facts_of_all}}, proofs.Given.OneGivenSpool.{given_once}}
use Rattle.nntp_theory.proofs.Given.SessionsByFacts.{stand_each, made_for_all, given_exists_of_all, given_permits_all, least_of_all}
use Rattle.nntp_theory.proofs.Streams.OneClass.{before_bad, class_there, one_class}
use Rattle.nntp_pair.specs.declared.class.Class.{Class}
use Rattle.nntp_several.specs.{Sessions.{Recorded, ExplainsEach, ExplainsAll, BadOfAll, answered_by, counts_of}, Inner.Sessions.{octets_of}}
use Rattle.nntp_several.specs.{Inner.Outcome.{is_yes_of_all, of_one}, Outcome.{OutcomeOfAll, YesOfAll, NoOfAll, IsLeastOfAll, HasClassThere, IsOutcomeOfAll}}
use Rattle.nntp_several.proofs.ExplainedSessions.{same_each, runs_each, explains_each, size_by_all_octets, bad_there, explained_or_bad_of_all}
use Rattle.nntp_several.proofs.ExplainedSessions.{explained_not_bad_of_all, bad_once_of_all}

-- ---- yes

-- where some spool explains sessions, the given one of all that they say is their least explanation
pub given_explains_all : (profile : Profile) (S G : Spool) (sessions : List Recorded) (x : ExplainsAll profile S sessions)
    → size (facts_of_all profile.marks (answered_by profile S sessions x.1)) < 2 ^ 210
    → IsGiven (facts_of_all profile.marks (answered_by profile S sessions x.1)) G
    → IsLeastOfAll profile sessions G (counts_of (answered_by profile S sessions x.1))
given_explains_all profile S G sessions x small given =
    let s = stand_each profile S (answered_by profile S sessions x.1) x.0 (runs_each profile S sessions x.1) in
    let g = given_permits_all profile G (answered_by profile S sessions x.1) s.0 s.1 small given in
    let e = explains_each profile S sessions x.1 G g.0 g.1 in
    let same = same_each profile S G sessions x.1 e in
    let here : IsGiven (facts_of_all profile.marks (answered_by profile G sessions e)) G = subst (λ answered. IsGiven (facts_of_all profile.marks answered) G) same given in
    record {
      explains = (g.0, e);
      count = ap counts_of same;
      given = here;
      least = λ T y. least_of_all profile T G (answered_by profile G sessions e) y.0
          (subst (PermitsEach profile T) (same_each profile T G sessions y.1 e) (runs_each profile T sessions y.1)) here;
    }

-- ---- no

-- a bad answer of several has a class
some_class_there : (profile : Profile) (sessions : List Recorded) (j k : ℕ) → BadOfAll profile sessions j k → (class : Class) × HasClassThere profile sessions j k class
some_class_there profile sessions j k h =
    let b = bad_there profile sessions j k h in
    let c = class_there profile b.session.client b.session.server k (before_bad (λ S. ExplainsEach profile S (take j sessions)) profile b.session.client b.session.server k b.bad) in
    (c.0, subst (λ o. MatchOption o ⊥ (λ session. HasClass profile session.client session.server k c.0)) (sym b.place) c.1)

-- and one only
one_class_there : (profile : Profile) (sessions : List Recorded) (j k : ℕ) (c d : Class) → HasClassThere profile sessions j k c → HasClassThere profile sessions j k d → c ≡ d
one_class_there profile sessions j k c d = grind (arith, one_class)

-- ---- one outcome

pub one_outcome_of_all : (profile : Profile) (sessions : List Recorded) (h k : OutcomeOfAll) → IsOutcomeOfAll profile sessions h → IsOutcomeOfAll profile sessions k → h ≡ k
one_outcome_of_all profile sessions (YesOfAll S ns) (YesOfAll T ms) x y = grind (arith, same_each, given_once)
one_outcome_of_all profile sessions (YesOfAll S ns) (NoOfAll j k class) x y = absurd (explained_not_bad_of_all profile S sessions j k x.explains.1 y.0)
one_outcome_of_all profile sessions (NoOfAll j k class) (YesOfAll S ns) x y = absurd (explained_not_bad_of_all profile S sessions j k y.explains.1 x.0)
one_outcome_of_all profile sessions (NoOfAll j k c) (NoOfAll i l d) x y = grind (arith, bad_once_of_all, one_class_there)

pub some_outcome_of_all : (profile : Profile) (sessions : List Recorded) → octets_of sessions < 2 ^ 210 → (h : OutcomeOfAll) × IsOutcomeOfAll profile sessions h
some_outcome_of_all profile sessions small = elim (explained_or_bad_of_all profile sessions small) [
  | inl (S, x) ↦
      let answered = answered_by profile S sessions x.1 in
      let bound = size_by_all_octets profile S sessions x.1 in
      let few : size (facts_of_all profile.marks answered) < 2 ^ 210 = omega arith in
      let fits = (stand_each profile S answered x.0 (runs_each profile S sessions x.1)).0 in
      let G = made_for_all profile answered in
      (YesOfAll G (counts_of answered), given_explains_all profile S G sessions x few (given_exists_of_all profile answered fits few))
  | inr (j, k, is_bad) ↦ let c = some_class_there profile sessions j k is_bad in (NoOfAll j k c.0, (is_bad, c.1))
]

pub yes_explained_of_all : (profile : Profile) (sessions : List Recorded) (h : OutcomeOfAll) → IsOutcomeOfAll profile sessions h
    → IsTrue (is_yes_of_all h) ↔ ((S : Spool) × ExplainsAll profile S sessions)
yes_explained_of_all profile sessions (YesOfAll S ns) x = (λ t. (S, x.explains), λ e. refl)
yes_explained_of_all profile sessions (NoOfAll j k class) x = (λ t. absurd (true≢false (sym t)), λ e. absurd (explained_not_bad_of_all profile e.0 sessions j k e.1.1 x.0))

-- ---- one session

-- what is explained of one session is what is explained of its streams
pub one_explained : (profile : Profile) (S : Spool) (s : Recorded) → ExplainsAll profile S (s ∷ []) ↔ ((n : ℕ) × Explains profile S s.client s.server n)
one_explained profile S s = (λ h. h.1.0, λ x. (x.1.is_spool, (x, tt)))

-- the outcome of one session is that of its streams
pub one_session_outcome : (profile : Profile) (s : Recorded) (h : Outcome) → IsOutcomeOfAll profile (s ∷ []) (of_one h) ↔ IsOutcome profile s.client s.server h
one_session_outcome profile s (No k class) = (λ h. h, λ h. h)
one_session_outcome profile s (Yes S n) = (to, back)
  where
    facts : (T : Spool) (m : ℕ) → Explains profile T s.client s.server m → List Fact
    facts T m x = facts_of_session profile.marks (prompts_of s.client) x.answers

    to : IsLeastOfAll profile (s ∷ []) S (n ∷ []) → IsLeastExplanation profile s.client s.server S n
    to h =
        let x = h.explains.1.0 in
        let count : n ≡ x.0 = (let e = h.count in let f = x.1.count in cc) in
        let same = append-nil (facts S x.0 x.1) in
        subst (IsLeastExplanation profile s.client s.server S) (sym count)
        (record {
          explains = x.1;
          given = subst (λ facts. IsGiven facts S) same h.given;
          least = λ T m y. subst (λ facts. HasAtLeast facts S T) same (h.least T (y.is_spool, ((m, y), tt)));
        })

    back : IsLeastExplanation profile s.client s.server S n → IsLeastOfAll profile (s ∷ []) S (n ∷ [])
    back h =
        let same = append-nil (facts S n h.explains) in
        record {
          explains = (h.explains.is_spool, ((n, h.explains), tt));
          count = ap (λ n. n ∷ []) (sym h.explains.count);
          given = subst (λ facts. IsGiven facts S) (sym same) h.given;
          least = λ T y. subst (λ facts. HasAtLeast facts S T) (sym same) (h.least T y.1.0.0 y.1.0.1);
        }

-- and there is no other
pub one_session_only : (profile : Profile) (s : Recorded) (h : OutcomeOfAll) → IsOutcomeOfAll profile (s ∷ []) h → (o : Outcome) × (h ≡ of_one o)
one_session_only profile s (YesOfAll S ns) x = (Yes S _, ap (YesOfAll S) x.count)
one_session_only profile s (NoOfAll zero k class) x = (No k class, refl)
one_session_only profile s (NoOfAll (suc j) k class) x = absurd x.0
