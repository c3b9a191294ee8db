-- What is bad of several sessions for good stays so, and one answer is told.
use Rattle.std.proofs.Common.{◌≡◌, ◌⊎◌, ℕ, suc, ◌<◌, ◌≤◌, List, [], ◌∷◌, ◌++◌, length, take, Option, None, Some, slice_get, inl, inr, refl, sym, ap, subst, ◌∙◌}
use Rattle.std.{proofs.{Common.{arith}, lemmas.Bool.{cases_lt}}, specs.Prelude.{MatchOption}}
use Rattle.nntp_article.specs.declared.session.profile.Profile.{Profile}
use Rattle.nntp_pair.specs.declared.class.Class.{Class}
use Rattle.nntp_theory.{specs.Classes.{HasClass, IsSettled}, proofs.Streams.OneClass.{bad_stays, class_stays}}
use Rattle.nntp_several.specs.{Told.{with_more, IsBadForGoodOfAll, IsToldBadOfAll}, Outcome.{NoOfAll, IsOutcomeOfAll}, Sessions.{Recorded, BadBehind}}
use Rattle.nntp_several.proofs.{ExplainedSessions.{there}, OneOutcomeOfAll.{one_outcome_of_all}, SessionsRead.{outcome_at}}

-- a settled answer that is bad stays so whatever octets of its session and whatever sessions follow
pub settled_of_all : (profile : Profile) (before : List Recorded) (s : Recorded) (more_client more_server : List ℕ) (more : List Recorded) (k : ℕ) (class : Class)
    → BadBehind profile before s k → HasClass profile s.client s.server k class → IsSettled s.client s.server k class
    → IsOutcomeOfAll profile (before ++ with_more s more_client more_server ∷ more) (NoOfAll (length before) k class)
settled_of_all profile before s more_client more_server more k class b h settled = search (arith, outcome_at, bad_stays, class_stays)

-- what stands before the end of sessions stands there whatever follows them
front_place : (before xs : List Recorded) (j : ℕ) → j < length before → (slice_get (before ++ xs) j ≡ slice_get before j) × (take j (before ++ xs) ≡ take j before)
front_place (b ∷ before) xs (suc j) l = let r = front_place before xs j (omega arith) in (r.0, ap (λ zs. b ∷ zs) r.1)
front_place before xs j l = grind arith

-- the outcome at an earlier session stays, whatever follows
front_stays : (profile : Profile) (before xs ys : List Recorded) (j k : ℕ) (class : Class) → j < length before → IsOutcomeOfAll profile (before ++ xs) (NoOfAll j k class)
    → IsOutcomeOfAll profile (before ++ ys) (NoOfAll j k class)
front_stays profile before xs ys j k class less (is_bad, has) =
    let p = front_place before xs j less in
    let q = front_place before ys j less in
    let place = p.0 ∙ sym q.0 in
    let front = p.1 ∙ sym q.1 in (
      subst (λ o. MatchOption o ⊥ (λ session. BadBehind profile (take j (before ++ ys)) session k)) place
          (subst (λ taken. MatchOption (slice_get (before ++ xs) j) ⊥ (λ session. BadBehind profile taken session k)) front is_bad),
      subst (λ o. MatchOption o ⊥ (λ session. HasClass profile session.client session.server k class)) place has,
    )

-- there is no session behind the last
no_place : (before : List Recorded) (s : Recorded) (j : ℕ) → length before < j → slice_get (before ++ s ∷ []) j ≡ None
no_place (b ∷ before) s (suc j) l = no_place before s j (omega arith)
no_place before s j l = grind arith

-- an answer that is bad for good is so whatever octets and sessions follow
pub bad_for_good_stays_of_all : (profile : Profile) (before : List Recorded) (s : Recorded) (more_client more_server : List ℕ) (more : List Recorded) (j k : ℕ) (class : Class)
    → IsBadForGoodOfAll profile before s j k class → IsOutcomeOfAll profile (before ++ with_more s more_client more_server ∷ more) (NoOfAll j k class)
bad_for_good_stays_of_all profile before s more_client more_server more j k class (outcome, settled) = elim (cases_lt j (length before)) [
  | inl less ↦ front_stays profile before (s ∷ []) (with_more s more_client more_server ∷ more) j k class less outcome
  | inr le ↦ last le settled
]
  where
    at_last : length before ≤ j → j ≡ length before
    at_last le = grind (arith, cases_lt, no_place)

    last : length before ≤ j → (j < length before) ⊎ IsSettled s.client s.server k class → IsOutcomeOfAll profile (before ++ with_more s more_client more_server ∷ more) (NoOfAll j k class)
    last le (inl less) = absurd (omega (arith, le, less))
    last le (inr settled) =
        let same = at_last le in
        let here = subst (λ j. IsOutcomeOfAll profile (before ++ s ∷ []) (NoOfAll j k class)) same outcome in
        let r = there before s [] (length before) refl in
        let is_bad : BadBehind profile before s k =
        subst (λ front. BadBehind profile front s k) r.1 (subst (λ o. MatchOption o ⊥ (λ session. BadBehind profile (take (length before) (before ++ s ∷ [])) session k)) r.0 here.0) in
        let has : HasClass profile s.client s.server k class = subst (λ o. MatchOption o ⊥ (λ session. HasClass profile session.client session.server k class)) r.0 here.1 in
        subst (λ j. IsOutcomeOfAll profile (before ++ with_more s more_client more_server ∷ more) (NoOfAll j k class)) (sym same)
        (settled_of_all profile before s more_client more_server more k class is_bad has settled)

-- one answer is told
pub one_told_of_all : (profile : Profile) (before : List Recorded) (s : Recorded) (told other : Option (ℕ × ℕ × Class)) → IsToldBadOfAll profile before s told → IsToldBadOfAll profile before s other
    → told ≡ other
one_told_of_all profile before s (Some bad) (Some also) h g =
    let e = one_outcome_of_all profile (before ++ s ∷ []) (NoOfAll bad.0 bad.1 bad.2) (NoOfAll also.0 also.1 also.2) h.0 g.0 in
    grind arith
one_told_of_all profile before s told other h g = grind arith
