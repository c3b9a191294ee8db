-- The first bad answer of a reading is that of the outcome; a reading without one is explained by some spool.
use Rattle.std.proofs.Common.{arith, ◌≡◌, ◌⊎◌, ℕ, List, [], ◌∷◌, ◌++◌, length, map, Some, inl, inr, refl, ap, subst}
use Rattle.nntp_article.specs.{declared.session.profile.Profile.{Profile}, Session.{Spool.{Spool}, Explains.{Explains}}}
use Rattle.nntp_pair.specs.{declared.class.{PairClass.{PairClass, TheVariants.{Malformed as PairMalformed}}, Class.{Class}}, Pairing.{Paired, Ending, end, bad}}
use Rattle.nntp_pair.{specs.{Pairing.{IsPairing, streams}, Classes.{class_of}}, proofs.PassedLemmas.{passed-ends}}
use Rattle.nntp_theory.specs.{Permitted.{exchanged, ArePermitted}, Outcome.{No, IsOutcome}, Reading.{Judged, Accepted, Refused, Unspelled, accepted_of}}
use Rattle.nntp_theory.{specs.Reading.{class_behind, IsReading}, proofs.{Given.SessionsByFacts.{permits_alone}, Session.OneMoreAnswer.{pairs_permitted}}}
use Rattle.nntp_theory.proofs.Streams.{ExplainedOrBad.{explained_not_bad}, OneOutcome.{outcome_at_octets, outcome_at_response}, PairedStreams.{explained_end}}
use Rattle.nntp_theory.proofs.Reading.{JudgedAnswers.{accepted_first, all_paired}, JudgedSession.{none_accepted}}
use Rattle.nntp_wire.specs.Session.{ClientStream}

-- ---- the first bad answer

module _ (profile : Profile) (client : ClientStream) (server : List ℕ) where
  pub first_bad : (pairs : List Paired) (answer : Judged) (more : List Judged) (ending : Ending) (class : Class)
      → IsReading profile client server (map Accepted pairs ++ answer ∷ more) ending → class_behind profile pairs answer ≡ Some class → IsOutcome profile client server (No (length pairs) class)
  first_bad pairs (Accepted pair) more ending class reading e = cc
  first_bad pairs (Refused pair) more ending class reading e =
      let r = accepted_first (ArePermitted profile) [] (streams client server) reading.left pairs (Refused pair ∷ more) (none_accepted profile) reading.judged in
      grind (
        arith,
        outcome_at_response profile client server pairs pair r.between r.rest.0 r.paired r.rest.1.0 ((permits_alone profile (exchanged pairs)).0 r.stand)
            (λ h. r.rest.1.1 ((permits_alone profile (exchanged (pairs ++ pair ∷ []))).1 h)),
      )
  first_bad pairs (Unspelled index place initial block) more ending class reading e =
      let r = accepted_first (ArePermitted profile) [] (streams client server) reading.left pairs (Unspelled index place initial block ∷ more) (none_accepted profile) reading.judged in
      let pairing : IsPairing client server pairs (bad PairMalformed) = record { left = r.between; paired = r.paired; ends = passed-ends r.between r.rest.0 place initial block r.rest.1.1 } in
      grind (arith, outcome_at_octets profile client server pairs PairMalformed pairing ((permits_alone profile (exchanged pairs)).0 r.stand))

  -- where all are accepted, octets that answer nothing are the first bad answer
  pub bad_at_octets : (pairs : List Paired) (class : PairClass)
      → IsReading profile client server (map Accepted pairs) (bad class) → IsOutcome profile client server (No (length pairs) (class_of class))
  bad_at_octets pairs class reading =
      let all = all_paired (ArePermitted profile) client server pairs (bad class) (none_accepted profile) reading in
      outcome_at_octets profile client server pairs class all.0 ((permits_alone profile (exchanged pairs)).0 all.1)

-- ---- whether there is one

pub accepted_all : (pairs : List Paired) → accepted_of (map Accepted pairs) ≡ pairs
accepted_all [] = refl
accepted_all (pair ∷ pairs) = ap (λ pairs. pair ∷ pairs) (accepted_all pairs)

-- the first of the answers that isn't accepted
pub record FirstBad (answers : List Judged) : Type 0 where
  pub pairs : List Paired
  pub answer : Judged
  pub more : List Judged
  pub whole : answers ≡ map Accepted pairs ++ answer ∷ more
  pub is_bad : (profile : Profile) (past : List Paired) → (class : Class) × (class_behind profile past answer ≡ Some class)

pub accepted_or_bad : (answers : List Judged) → ((pairs : List Paired) × (answers ≡ map Accepted pairs)) ⊎ FirstBad answers
accepted_or_bad [] = inl ([], refl)
accepted_or_bad (Accepted pair ∷ answers) = elim (accepted_or_bad answers) [
  | inl (pairs, all) ↦ inl (pair ∷ pairs, ap (λ answers. Accepted pair ∷ answers) all)
  | inr first ↦ inr (record { pairs = pair ∷ first.pairs; answer = first.answer; more = first.more; whole = ap (λ answers. Accepted pair ∷ answers) first.whole; is_bad = first.is_bad })
]
accepted_or_bad (answer ∷ answers) = inr (record { pairs = []; answer = answer; more = answers; whole = refl; is_bad = λ profile past. (_, refl) })

-- all answers are accepted, and no octet is left
abbrev IsGood : List Judged → Ending → Type 0
IsGood answers ending = (answers ≡ map Accepted (accepted_of answers)) × (unanswered : ℕ) × (ending ≡ end unanswered)

abbrev HasExplanation : Profile → ClientStream → List ℕ → Type 0
HasExplanation profile client server = (S : Spool) × (n : ℕ) × Explains profile S client server n

pub good_explained : (profile : Profile) (client : ClientStream) (server : List ℕ) (answers : List Judged) (ending : Ending) → IsReading profile client server answers ending
    → IsGood answers ending → HasExplanation profile client server
good_explained profile client server answers ending reading (all, unanswered, ends) =
    let pairs = accepted_of answers in
    let both = all_paired (ArePermitted profile) client server pairs (end unanswered) (none_accepted profile) (grind arith) in
    let p = (pairs_permitted profile client server pairs both.0.left both.0.paired).1 ((permits_alone profile (exchanged pairs)).0 both.1) in
    (p.0, length pairs, explained_end profile p.0 client server pairs unanswered both.0 p.1 p.2)

-- where some spool explains the streams, no outcome is a no
never_no : (profile : Profile) (client : ClientStream) (server : List ℕ) (k : ℕ) (class : Class) → HasExplanation profile client server → IsOutcome profile client server (No k class) → ⊥
never_no profile client server k class (S, n, x) outcome = explained_not_bad profile S client server n k x outcome.0

pub explained_good : (profile : Profile) (client : ClientStream) (server : List ℕ) (answers : List Judged) (ending : Ending) → IsReading profile client server answers ending
    → HasExplanation profile client server → IsGood answers ending
explained_good profile client server answers ending reading explained = elim (accepted_or_bad answers) [
  | inl (pairs, all) ↦
      let last = by pairs ending (subst (λ answers. IsReading profile client server answers ending) all reading) in
      (grind (arith, all, accepted_all pairs), last.0, last.1)
  | inr first ↦
      let c = first.is_bad profile first.pairs in
      absurd (never_no profile client server (length first.pairs) c.0 explained
      (first_bad profile client server first.pairs first.answer first.more ending c.0 (subst (λ answers. IsReading profile client server answers ending) first.whole reading) c.1))
]
  where
    by : (pairs : List Paired) (ending : Ending) → IsReading profile client server (map Accepted pairs) ending → (unanswered : ℕ) × (ending ≡ end unanswered)
    by pairs (end unanswered) reading = (unanswered, refl)
    by pairs (bad class) reading = absurd (never_no profile client server (length pairs) (class_of class) explained (bad_at_octets profile client server pairs class reading))
