-- Some spool explains several sessions, or exactly one answer is bad.
use Rattle.std.proofs.Common.{◌≡◌, ℕ, zero, suc, ◌+◌, ◌<◌, ◌≤◌, ◌^◌, ◌⊎◌, List, [], ◌∷◌, ◌++◌, length, take, Some, slice_get, inl, inr, refl, sym, ap, subst}
use Rattle.std.{proofs.{Common.{◌∙◌, arith, length-append, append_assoc, append-nil}, lemmas.Bool.{cases_order}}, specs.Prelude.{MatchOption}}
use Rattle.std.specs.List.{AllByRecursion}
use Rattle.nntp_wire.specs.{Answer.{Response}, Session.{prompts_of}, declared.marks.Marks.{Marks}}
use Rattle.nntp_article.specs.{Session.{Spool.{Spool, IsSpool}, Machine.{Run, start}}, declared.session.profile.Profile.{Profile}}
use Rattle.nntp_theory.{specs.{Inner.Given.{size}, Answered.{Answered, PermitsEach, facts_in, facts_of_all}}, proofs.Members.{all_both, all_front, all_back}}
use Rattle.nntp_theory.proofs.Given.{FirstBadAnswer.{size-append, none_permitted}, SessionsByFacts.{some_or_none_of_all}}
use Rattle.nntp_theory.proofs.{Session.OneMoreAnswer.{size_by_octets}, Streams.ExplainedOrBad.{bad_once, explained_not_bad_among, explained_or_bad_among}}
use Rattle.nntp_theory.proofs.Streams.{ExplainedOrBad.{IsDecided}, OneOutcome.{same_answers}}
use Rattle.nntp_several.specs.{Sessions.{Recorded, ExplainsIt, ExplainsEach, ExplainsAll, BadBehind, BadOfAll, answered_by}, Inner.Sessions.{octets_of}}

-- ---- explained sessions and their answers

-- explanations of the same sessions have the same answers
pub same_each : (profile : Profile) (S T : Spool) (sessions : List Recorded) (x : ExplainsEach profile S sessions) (y : ExplainsEach profile T sessions)
    → answered_by profile S sessions x ≡ answered_by profile T sessions y
same_each profile S T [] x y = refl
same_each profile S T (s ∷ more) x y =
    let one = same_answers profile S T s.client s.server x.0.0 y.0.0 x.0.1 y.0.1 in
    grind (arith, same_each profile S T more x.1 y.1)

-- who explains sessions permits their answers
pub runs_each : (profile : Profile) (S : Spool) (sessions : List Recorded) (x : ExplainsEach profile S sessions) → PermitsEach profile S (answered_by profile S sessions x)
runs_each profile S [] x = tt
runs_each profile S (s ∷ more) x = (x.0.1.run, runs_each profile S more x.1)

-- and who permits their answers explains them
pub explains_each : (profile : Profile) (S : Spool) (sessions : List Recorded) (x : ExplainsEach profile S sessions) (T : Spool) → IsSpool profile.limit T
    → PermitsEach profile T (answered_by profile S sessions x) → ExplainsEach profile T sessions
explains_each profile S [] x T spool h = tt
explains_each profile S (s ∷ more) x T spool h = grind (arith, explains_each profile S more x.1 T spool h.1)

-- ---- sizes

pub size_of_both : (how : Marks) (xs ys : List Answered) → size (facts_of_all how (xs ++ ys)) ≡ size (facts_of_all how xs) + size (facts_of_all how ys)
size_of_both how [] ys = omega arith
size_of_both how (s ∷ xs) ys = grind (arith, size-append, size_of_both how xs ys)

-- what explained sessions say is bounded by their octets
pub size_by_all_octets : (profile : Profile) (S : Spool) (sessions : List Recorded) (x : ExplainsEach profile S sessions)
    → size (facts_of_all profile.marks (answered_by profile S sessions x)) ≤ octets_of sessions
size_by_all_octets profile S [] x = omega arith
size_by_all_octets profile S (s ∷ more) x =
    let e = x.0.1 in
    let own : Answered = record { prompts = prompts_of s.client; answers = e.answers } in
    let both = size-append (facts_in profile.marks own) (facts_of_all profile.marks (answered_by profile S more x.1)) in
    let here = size_by_octets profile.marks (prompts_of s.client) e.answers e.octets e.spelled in
    grind (arith, length-append, size_by_all_octets profile S more x.1)

pub octets_of_both : (xs ys : List Recorded) → octets_of (xs ++ ys) ≡ octets_of xs + octets_of ys
octets_of_both [] ys = omega arith
octets_of_both (s ∷ xs) ys = let rest = octets_of_both xs ys in omega arith

-- ---- one session more

module _ (profile : Profile) (before : List Recorded) (base : (S : Spool) × ExplainsAll profile S before) (s : Recorded)
    (small : octets_of before + length s.server < 2 ^ 210) where
  -- the sessions before, as they are answered
  abbrev past : List Answered
  past = answered_by profile base.0 before base.1.1

  -- with these answers of one more
  abbrev with_answers : List Response → List Answered
  with_answers answers = past ++ record { prompts = prompts_of s.client; answers = answers } ∷ []

  -- whether some spool that explains those before permits answers of this one is decided
  decided : IsDecided (λ S. ExplainsEach profile S before) profile s.client s.server
  decided answers octets rest spelled whole = elim (some_or_none_of_all profile (with_answers answers) few) [
    | inl h ↦ inl (
      h.0,
      h.1,
      explains_each profile base.0 before base.1.1 h.0 h.1 (all_front (λ (a : Answered). Run profile h.0 start a.prompts a.answers) past (own ∷ []) h.2),
      (all_back (λ (a : Answered). Run profile h.0 start a.prompts a.answers) past (own ∷ []) h.2).0,
    )
    | inr none ↦ inr (λ h. none (
      h.0,
      h.1,
      all_both (λ (a : Answered). Run profile h.0 start a.prompts a.answers) past (own ∷ [])
          (subst (PermitsEach profile h.0) (same_each profile h.0 base.0 before h.2 base.1.1) (runs_each profile h.0 before h.2)) (h.3, tt),
    ))
  ]
    where
      own : Answered
      own = record { prompts = prompts_of s.client; answers = answers }

      few : size (facts_of_all profile.marks (with_answers answers)) < 2 ^ 210
      few =
          let both = size_of_both profile.marks past (own ∷ []) in
          let one = size-append (facts_in profile.marks own) [] in
          let here = size_by_octets profile.marks (prompts_of s.client) answers octets spelled in
          let long = ap length whole ∙ length-append octets rest in
          grind (arith, size_by_all_octets)

  -- so some spool explains this one too, or an answer of it is bad
  pub next_or_bad : ((S : Spool) × ExplainsAll profile S (before ++ s ∷ [])) ⊎ ((k : ℕ) × BadBehind profile before s k)
  next_or_bad = elim (explained_or_bad_among (λ S. ExplainsEach profile S before) profile s.client s.server (base.0, base.1.0, base.1.1, tt) decided) [
    | inl x ↦ inl (x.0, (x.3.is_spool, all_both (ExplainsIt profile x.0) before (s ∷ []) x.2 ((x.1, x.3), tt)))
    | inr bad ↦ inr bad
  ]

-- ---- places

-- the element behind some is at their number, and those are taken
pub there : {A : Type 0} (xs : List A) (x : A) (ys : List A) (n : ℕ) → n ≡ length xs → (slice_get (xs ++ x ∷ ys) n ≡ Some x) × (take n (xs ++ x ∷ ys) ≡ xs)
there (y ∷ xs) x ys (suc n) e = let r = there xs x ys n (omega arith) in (r.0, ap (λ zs. y ∷ zs) r.1)
there xs x ys n e = grind arith

-- what holds of each of a list holds of the one at a place, and of those before it
pub each_to : {A : Type 0} (P : A → Type 0) (xs : List A) (n : ℕ) (x : A) → AllByRecursion P xs → slice_get xs n ≡ Some x → P x × AllByRecursion P (take n xs)
each_to P (y ∷ xs) (suc n) x h e = let r = each_to P xs n x h.1 e in (r.0, (h.0, r.1))
each_to P xs n x h e = grind arith

-- and so of those before a later place
pub taken_to : {A : Type 0} (xs : List A) (n m : ℕ) (x : A) → n < m → slice_get xs n ≡ Some x → (slice_get (take m xs) n ≡ Some x) × (take n (take m xs) ≡ take n xs)
taken_to [] n m x l e = cc
taken_to (y ∷ xs) n zero x l e = absurd (omega arith)
taken_to (y ∷ xs) zero (suc m) x l e = (e, refl)
taken_to (y ∷ xs) (suc n) (suc m) x l e = let r = taken_to xs n m x (omega arith) e in (r.0, ap (λ zs. y ∷ zs) r.1)

-- the session at which an answer is bad
pub record BadThere (profile : Profile) (sessions : List Recorded) (j k : ℕ) : Type 0 where
  pub session : Recorded
  pub place : slice_get sessions j ≡ Some session
  pub bad : BadBehind profile (take j sessions) session k

pub bad_there : (profile : Profile) (sessions : List Recorded) (j k : ℕ) → BadOfAll profile sessions j k → BadThere profile sessions j k
bad_there profile sessions j k h = grind arith

pub bad_at : (profile : Profile) (before : List Recorded) (s : Recorded) (more : List Recorded) (k : ℕ) → BadBehind profile before s k → BadOfAll profile (before ++ s ∷ more) (length before) k
bad_at profile before s more k h =
    let r = there before s more (length before) refl in
    subst (λ o. MatchOption o ⊥ (λ session. BadBehind profile (take (length before) (before ++ s ∷ more)) session k)) (sym r.0) (subst (λ front. BadBehind profile front s k) (sym r.1) h)

-- ---- all sessions

-- one after the other
from_here : (profile : Profile) (before more : List Recorded) → (S : Spool) × ExplainsAll profile S before → octets_of (before ++ more) < 2 ^ 210
    → ((S : Spool) × ExplainsAll profile S (before ++ more)) ⊎ ((j : ℕ) × (k : ℕ) × BadOfAll profile (before ++ more) j k)
from_here profile before [] base small = inl (subst (λ all. (S : Spool) × ExplainsAll profile S all) (sym (append-nil before)) base)
from_here profile before (s ∷ more) base small =
    let sum = octets_of_both before (s ∷ more) in
    let same : (before ++ s ∷ []) ++ more ≡ before ++ s ∷ more = append_assoc before (s ∷ []) more in
    elim (next_or_bad profile before base s (omega arith)) [
      | inl next ↦ subst (λ all. ((S : Spool) × ExplainsAll profile S all) ⊎ ((j : ℕ) × (k : ℕ) × BadOfAll profile all j k)) same
          (from_here profile (before ++ s ∷ []) more next (subst (λ all. octets_of all < 2 ^ 210) (sym same) small))
      | inr bad ↦ inr (length before, bad.0, bad_at profile before s more bad.0 bad.1)
    ]

-- some spool explains no session
nothing_explained : (profile : Profile) → (S : Spool) × ExplainsAll profile S []
nothing_explained profile = let some = none_permitted profile [] [] in (some.0, (some.1, tt))

-- some spool explains all sessions, or an answer is bad
pub explained_or_bad_of_all : (profile : Profile) (sessions : List Recorded) → octets_of sessions < 2 ^ 210
    → ((S : Spool) × ExplainsAll profile S sessions) ⊎ ((j : ℕ) × (k : ℕ) × BadOfAll profile sessions j k)
explained_or_bad_of_all profile sessions small = from_here profile [] sessions (nothing_explained profile) small

-- where a spool explains all, none is bad
pub explained_not_bad_of_all : (profile : Profile) (S : Spool) (sessions : List Recorded) (j k : ℕ) → ExplainsEach profile S sessions → BadOfAll profile sessions j k → ⊥
explained_not_bad_of_all profile S sessions j k x h =
    let b = bad_there profile sessions j k h in
    let r = each_to (ExplainsIt profile S) sessions j b.session x b.place in
    explained_not_bad_among (λ S. ExplainsEach profile S (take j sessions)) profile b.session.client b.session.server S r.0.0 k r.1 r.0.1 b.bad

-- where an answer of a later session is bad, none is of an earlier one
not_before : (profile : Profile) (sessions : List Recorded) (j i k l : ℕ) → j < i → BadOfAll profile sessions j k → BadOfAll profile sessions i l → ⊥
not_before profile sessions j i k l less h g =
    let b = bad_there profile sessions j k h in
    let c = bad_there profile sessions i l g in
    let r = taken_to sessions j i b.session less b.place in
    explained_not_bad_of_all profile c.bad.0.0 (take i sessions) j k c.bad.0.2
    (subst (λ o. MatchOption o ⊥ (λ session. BadBehind profile (take j (take i sessions)) session k)) (sym r.0) (subst (λ front. BadBehind profile front b.session k) (sym r.1) b.bad))

-- one answer is bad at most
pub bad_once_of_all : (profile : Profile) (sessions : List Recorded) (j i k l : ℕ) → BadOfAll profile sessions j k → BadOfAll profile sessions i l → (j ≡ i) × (k ≡ l)
bad_once_of_all profile sessions j i k l h g = elim (cases_order j i) [
  | inl same ↦
      let b = bad_there profile sessions i k (subst (λ j. BadOfAll profile sessions j k) same h) in
      let c = bad_there profile sessions i l g in
      let session : b.session ≡ c.session = (let e = sym b.place ∙ c.place in cc) in (
        same,
        bad_once (λ S. ExplainsEach profile S (take i sessions)) profile c.session.client c.session.server k l
            (subst (λ s. BadBehind profile (take i sessions) s k) session b.bad) c.bad,
      )
  | inr (inl less) ↦ absurd (not_before profile sessions j i k l less h g)
  | inr (inr more) ↦ absurd (not_before profile sessions i j l k more g h)
]
