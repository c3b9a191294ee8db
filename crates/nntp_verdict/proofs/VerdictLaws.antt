-- Sessions have one verdict, and it is a yes exactly if some spool explains them; that of one session is that of its two streams.
use Rattle.std.proofs.Common.{arith, ◌++◌, refl, ◌≡◌, ◌∙◌, ◌↔◌, sym, ap, subst, ℕ, zero, suc, IsTrue, List, [], ◌∷◌, length, Option, None, ◌<◌, ◌^◌, map, Ok}
use Rattle.std.specs.Prelude.{MatchOption}
use Rattle.nntp_wire.specs.{declared.{limit.Limit.{Limit}, marks.Marks.{Marks}}, Session.{ClientStream}}
use Rattle.nntp_article.specs.Session.{Explains.{Explains}, Limit.{profile_of}, Spool.{Spool}}
use Rattle.nntp_pair.specs.{Pairing.{Paired}, declared.class.Class.{Class}}
use Rattle.nntp_theory.specs.{Outcome.{Yes}, Given.{IsGiven}, Inner.Given.{size}, Answered.{SomePermitsEach, facts_of_all}, Permitted.{exchanged}}
use Rattle.nntp_store.specs.{Limited.{LimitedSpool}, Reading.{spool_at}, Text.{spool_text}}
use Rattle.nntp_spool.specs.{Verifying.{IsVerified}, declared.verification.verified.Verified.{Verified, TheVariants.{Permits, Refuses}}}
use Rattle.nntp_several.specs.{Verifying.{VerifiedOfAll, PermitsAll, RefusesOne, IsVerifiedOfAll}, Sessions.{Recorded, ExplainsAll, OfEach}}
use Rattle.nntp_several.{specs.{Outcome.{OutcomeOfAll, YesOfAll, NoOfAll, IsOutcomeOfAll}, Inner.Paired.{ArePaired}}, proofs.ExplainedSessions.{there}}
use Rattle.nntp_several.proofs.{SessionsVerified.{permits_alone}, WaysToOutcome.{outcome_at_all_ends}, OneOutcomeOfAll.{one_outcome_of_all}}
use Rattle.nntp_several.proofs.OneOutcomeOfAll.{yes_explained_of_all, one_explained, one_session_outcome}
use Rattle.nntp_verdict.specs.{Judging.{StopsAt, IsVerdict, IsVerdictOfAll, IsAnsweredThroughout}, Verdict.{Judgement, consistent, bad, JudgementOfAll}}
use Rattle.nntp_verdict.specs.{Verdict.{consistent_of_all, bad_of_all, is_consistent_of_all}, Inner.Verdict.{is_consistent, verdict_of_one, verdict_of_last}}
use Rattle.nntp_verdict.proofs.ShownPlaces.{one-place}

-- ---- one verdict

-- a verdict is one by its limit, its outcome, and by what is shown at its place
abbrev with_place : Limit → OutcomeOfAll → Option (List ℕ) → List ℕ → JudgementOfAll
with_place limit (YesOfAll S ns) command reply = consistent_of_all (record { limit = limit; spool = S }) ns
with_place limit (NoOfAll j k class) command reply = bad_of_all j k class command reply

-- a yes with the limit that it has
own_limit : (limit : Limit) (L : LimitedSpool) (ns : List ℕ) → L.limit ≡ limit → consistent_of_all L ns ≡ with_place limit (YesOfAll L.spool ns) None []
own_limit limit L ns is = ap (λ l. consistent_of_all (record { limit = l; spool = L.spool }) ns) is

pub one_verdict_of_all : (limit : Limit) (marks : Marks) (sessions : List Recorded) (j l : JudgementOfAll) → IsVerdictOfAll limit marks sessions j → IsVerdictOfAll limit marks sessions l → j ≡ l
one_verdict_of_all limit marks sessions (consistent_of_all K ns) (consistent_of_all L ms) x y =
    own_limit limit K ns x.limit_is ∙ ap (λ h. with_place limit h None [])
    (one_outcome_of_all (profile_of limit marks) sessions (YesOfAll K.spool ns) (YesOfAll L.spool ms) x.outcome y.outcome)
    ∙ sym (own_limit limit L ms y.limit_is)
one_verdict_of_all limit marks sessions (consistent_of_all L ns) (bad_of_all j k class command reply) x y =
    let e = one_outcome_of_all (profile_of limit marks) sessions (YesOfAll L.spool ns) (NoOfAll j k class) x.outcome y.outcome in cc
one_verdict_of_all limit marks sessions (bad_of_all j k class command reply) (consistent_of_all L ns) x y =
    let e = one_outcome_of_all (profile_of limit marks) sessions (NoOfAll j k class) (YesOfAll L.spool ns) x.outcome y.outcome in cc
one_verdict_of_all limit marks sessions (bad_of_all j k c command reply) (bad_of_all i l d also again) x y =
    let e = one_outcome_of_all (profile_of limit marks) sessions (NoOfAll j k c) (NoOfAll i l d) x.outcome y.outcome in
    grind (arith, by)
  where
    by : (o : Option Recorded) → MatchOption o ⊥ (λ s. StopsAt s.client s.server l c command reply) → MatchOption o ⊥ (λ s. StopsAt s.client s.server l d also again)
        → (command ≡ also) × (reply ≡ again)
    by o h g = grind (arith, one-place)

pub yes_if_explained_of_all : (limit : Limit) (marks : Marks) (sessions : List Recorded) (j : JudgementOfAll) → IsVerdictOfAll limit marks sessions j
    → IsTrue (is_consistent_of_all j) ↔ ((S : Spool) × ExplainsAll (profile_of limit marks) S sessions)
yes_if_explained_of_all limit marks sessions (consistent_of_all L ns) x = yes_explained_of_all (profile_of limit marks) sessions (YesOfAll L.spool ns) x.outcome
yes_if_explained_of_all limit marks sessions (bad_of_all j k class command reply) x = yes_explained_of_all (profile_of limit marks) sessions (NoOfAll j k class) x.outcome

-- ---- one session

pub one_session_verdict : (limit : Limit) (marks : Marks) (s : Recorded) (j : Judgement)
    → IsVerdictOfAll limit marks (s ∷ []) (verdict_of_one j) ↔ IsVerdict limit marks s.client s.server j
one_session_verdict limit marks s (consistent L n) = let o = one_session_outcome (profile_of limit marks) s (Yes L.spool n) in (
  λ x. record { limit_is = x.limit_is; outcome = o.0 x.outcome; throughout = x.throughout.0; read_back = x.read_back; permits = λ v. to x.permits v },
  λ x. record { limit_is = x.limit_is; outcome = o.1 x.outcome; throughout = (x.throughout, tt); read_back = x.read_back; permits = λ v. back x.permits v },
)
  where
    to : ((v : VerifiedOfAll) → IsVerifiedOfAll (profile_of limit marks) L.spool (s ∷ []) v → v ≡ PermitsAll (n ∷ []))
        → (v : Verified) → IsVerified (profile_of limit marks) L.spool s.client s.server v → v ≡ Permits n
    to h (Permits m) x = let e = h (PermitsAll (m ∷ [])) (x, tt) in cc
    to h (Refuses k) x = let e = h (RefusesOne 0 k) (tt, x) in cc

    back : ((v : Verified) → IsVerified (profile_of limit marks) L.spool s.client s.server v → v ≡ Permits n)
        → (v : VerifiedOfAll) → IsVerifiedOfAll (profile_of limit marks) L.spool (s ∷ []) v → v ≡ PermitsAll (n ∷ [])
    back h (PermitsAll []) x = absurd x
    back h (PermitsAll (m ∷ [])) x = let e = h (Permits m) x.0 in cc
    back h (PermitsAll (m ∷ l ∷ ms)) x = absurd x.1
    back h (RefusesOne zero k) x = let e = h (Refuses k) x.1 in cc
    back h (RefusesOne (suc j) k) x = absurd x
one_session_verdict limit marks s (bad k class command reply) = grind (arith, one_session_outcome)

-- so two streams have one verdict
pub one-verdict : (limit : Limit) (marks : Marks) (client : ClientStream) (server : List ℕ) (j l : Judgement) → IsVerdict limit marks client server j → IsVerdict limit marks client server l → j ≡ l
one-verdict limit marks client server j l x y =
    let s : Recorded = record { client = client; server = server } in
    sym (same j) ∙ ap verdict_of_last
    (one_verdict_of_all limit marks (s ∷ []) (verdict_of_one j) (verdict_of_one l) ((one_session_verdict limit marks s j).1 x) ((one_session_verdict limit marks s l).1 y)) ∙ same l
  where
    same : (j : Judgement) → verdict_of_last (verdict_of_one j) ≡ j
    same j = grind arith

-- and it is a yes exactly if some spool explains them
pub yes-if-explained : (limit : Limit) (marks : Marks) (client : ClientStream) (server : List ℕ) (j : Judgement)
    → IsVerdict limit marks client server j → IsTrue (is_consistent j)
    ↔ ((S : Spool) × (n : ℕ) × Explains (profile_of limit marks) S client server n)
yes-if-explained limit marks client server j x =
    let s : Recorded = record { client = client; server = server } in
    let all = yes_if_explained_of_all limit marks (s ∷ []) (verdict_of_one j) ((one_session_verdict limit marks s j).1 x) in (
      λ yes.
          let e = all.0 (subst IsTrue (sym (same j)) yes) in
          let x = (one_explained (profile_of limit marks) e.0 s).0 e.1 in
          (e.0, x.0, x.1),
      λ e. subst IsTrue (same j) (all.1 (e.0, (one_explained (profile_of limit marks) e.0 s).1 (e.1, e.2))),
    )
  where
    same : (j : Judgement) → is_consistent_of_all (verdict_of_one j) ≡ is_consistent j
    same j = grind arith

-- ---- the ways to it

-- the pairings of sessions end with no octet left
ended_throughout : (sessions : List Recorded) (exchanges : List (List Paired)) → ArePaired sessions exchanges → OfEach (λ s n. IsAnsweredThroughout s.client s.server n) sessions (map length exchanges)
ended_throughout [] [] p = tt
ended_throughout [] (pairs ∷ exchanges) p = absurd p
ended_throughout (s ∷ more) [] p = absurd p
ended_throughout (s ∷ more) (pairs ∷ exchanges) p = (record { pairs = pairs; unanswered = p.0.0; pairing = p.0.1; count = refl }, ended_throughout more exchanges p.1)

-- at the ends of all sessions
pub verdict_at_ends : (limit : Limit) (marks : Marks) (sessions : List Recorded) (exchanges : List (List Paired)) (L : LimitedSpool)
    → L.limit ≡ limit → spool_at (spool_text L) ≡ Ok L → ArePaired sessions exchanges → SomePermitsEach (profile_of limit marks) (map exchanged exchanges)
    → size (facts_of_all (profile_of limit marks).marks (map exchanged exchanges)) < 2 ^ 210 → IsGiven (facts_of_all (profile_of limit marks).marks (map exchanged exchanges)) L.spool
    → IsVerdictOfAll limit marks sessions (consistent_of_all L (map length exchanges))
verdict_at_ends limit marks sessions exchanges L is read_back paired permitted small given =
    let outcome = outcome_at_all_ends (profile_of limit marks) sessions exchanges L.spool small paired permitted given in
    grind (arith, ended_throughout, permits_alone)

-- within a session
pub verdict_within : (limit : Limit) (marks : Marks) (before : List Recorded) (s : Recorded) (more : List Recorded) (k : ℕ) (class : Class) (command : Option (List ℕ)) (reply : List ℕ)
    → IsOutcomeOfAll (profile_of limit marks) (before ++ s ∷ more) (NoOfAll (length before) k class) → StopsAt s.client s.server k class command reply
    → IsVerdictOfAll limit marks (before ++ s ∷ more) (bad_of_all (length before) k class command reply)
verdict_within limit marks before s more k class command reply outcome place = grind (arith, there)
