-- What a checker tells as bad: an answer of a session that has ended, or the one at the end of the pairing, if that end stays.
use Rattle.std.proofs.Common.{◌≡◌, ◌⊎◌, ◌∙◌, sym, subst, ℕ, zero, ◌<◌, List, [], ◌∷◌, ◌++◌, length, Option, None, Some, inl, inr, arith}
use Rattle.std.specs.Prelude.{IsTrue, is_some}
use Rattle.nntp_wire.specs.{declared.{limit.Limit.{Limit}, marks.Marks.{Marks}}, Session.{ClientStream, further}}
use Rattle.nntp_article.specs.{Session.Limit.{profile_of}, declared.session.profile.Profile.{Profile}}
use Rattle.nntp_pair.specs.{declared.{class.{PairClass.{PairClass}, Class.{Class}}, octet_counts.OctetCounts.{OctetCounts}}, Pairing.{Unpaired, Ends, Ending}}
use Rattle.nntp_pair.specs.{Pairing.{end, bad as pair_end, HasNext}, Inner.{Pairing.{IsLasting}, Feeding.{EndsForGood}}, Classes.{class_of}}
use Rattle.nntp_pair.proofs.{NextDecided.{next-or-end}, PairingLemmas.{index-counts}}
use Rattle.nntp_theory.{specs.{Classes.{IsSettled}, Outcome.{No}}, proofs.Streams.OneClass.{bad_stays as answer_stays, class_stays, settled_stays}}
use Rattle.nntp_theory.proofs.Streams.ClassAtTheEnd.{settled_lasts}
use Rattle.nntp_facts.specs.Inner.Noted.{FactsKept}
use Rattle.nntp_several.specs.{Outcome.{NoOfAll}, Inner.Passing.{PassedOfAll}, Sessions.{Recorded}, Told.{IsBadForGoodOfAll, IsToldBadOfAll}}
use Rattle.nntp_several.proofs.{BadForGood.{one_told_of_all}, ExplainedSessions.{explained_not_bad_of_all}, OneOutcomeOfAll.{one_outcome_of_all}}
use Rattle.nntp_several.proofs.{OneOutcomeOfAll.{one_session_outcome}, PassingSessions.{paired_push}, SessionsRead.{earlier_then}, WaysToOutcome.{follows}}
use Rattle.nntp_verdict.specs.{Inner.{Judging.{is_whole}, Checking.{StandsForAll, decided, told_bad, without_session}}, Verdict.{JudgementOfAll}}
use Rattle.nntp_verdict.{specs.{Verdict.{consistent_of_all, bad_of_all}, Checking.{IsBadForGood, IsToldBad}}, proofs.CheckerLemmas.{decided-verdict}}
use Rattle.nntp_verdict.proofs.JudgeLemmas.{octets-right}

module _ (profile : Profile) (before : List Recorded) (session : Recorded) (facts : FactsKept) (left : Unpaired) (p : PassedOfAll profile before session facts left) where
  -- an end that stays is bad for good
  pub told : (class : PairClass) → EndsForGood class left → (j : ℕ) → j ≡ length before → (index : ℕ) → index ≡ left.index → (of : Class) → of ≡ class_of class
      → IsBadForGoodOfAll profile before session j index of
  told class ends j is index at of of-is = subst (λ j. IsBadForGoodOfAll profile before session j index of) (sym is) (
    octets-right profile before session [] facts left class p ends.0 index at of of-is,
    inr (subst (λ (x : ℕ × Class). IsSettled session.client session.server x.0 x.1) (λ i. (sym (at ∙ index-counts session.client session.server p.pairs left p.next) i, sym of-is i))
        ((settled_lasts session.client session.server p.pairs left class p.next).1 ends.1)),
  )

  -- where all answers are explained none is bad
  no-bad-explained : (unanswered : ℕ) → Ends left (end unanswered) → (j answer : ℕ) (class : Class) → IsBadForGoodOfAll profile before session j answer class → ⊥
  no-bad-explained unanswered ends j answer class is_bad =
      let some = earlier_then profile p.earlier p.pairs p.stands.permitted in
      let paired = paired_push before p.earlier session p.pairs p.ended (unanswered, record { left = left; paired = p.next; ends = ends }) in
      explained_not_bad_of_all profile some.0 (before ++ session ∷ []) j answer
      ((follows profile (before ++ session ∷ []) (p.earlier ++ p.pairs ∷ []) paired some.0 some.1).0 some.2) is_bad.0.0

  -- and what is bad for good is at an end that stays
  stays : (class : PairClass) → Ends left (pair_end class) → (j answer : ℕ) (of : Class) → IsBadForGoodOfAll profile before session j answer of → EndsForGood class left
  stays class ends j answer of (outcome, settled) = (ends, by settled)
    where
      same : NoOfAll j answer of ≡ NoOfAll (length before) left.index (class_of class)
      same = search (one_outcome_of_all, octets-right)

      by : (j < length before) ⊎ IsSettled session.client session.server answer of → IsLasting class left
      by (inl less) = let place : j ≡ length before = (let e = same in cc) in absurd (omega (arith, less, place))
      by (inr settled) =
          let place : answer ≡ length p.pairs = (let at : answer ≡ left.index = (let e = same in cc) in at) ∙ index-counts session.client session.server p.pairs left p.next in
          let class-is : of ≡ class_of class = (let e = same in cc) in
          grind (arith, settled_lasts)

  -- so where none stays, nothing is bad for good
  pub untold : (HasNext left → ⊥) → ((class : PairClass) → EndsForGood class left → ⊥) → (j answer : ℕ) (class : Class) → IsBadForGoodOfAll profile before session j answer class → ⊥
  untold no_next no_end j answer class is_bad = by (next-or-end left)
    where
      by : HasNext left ⊎ ((e : Ending) × Ends left e) → ⊥
      by (inl next) = no_next next
      by (inr (end unanswered, ends)) = no-bad-explained unanswered ends j answer class is_bad
      by (inr (pair_end c, ends)) = no_end c (stays c ends j answer class is_bad)

-- a no at a whole answer is settled
settled-whole : (client : ClientStream) (server : List ℕ) (answer : ℕ) (c : Class) → IsTrue (is_whole c) → IsSettled client server answer c
settled-whole client server answer c whole = grind arith

-- what is decided is told as bad
pub decided-told : (limit : Limit) (marks : Marks) (j : JudgementOfAll) (counts : OctetCounts) (before : List Recorded) (session : Recorded)
    → StandsForAll limit marks (decided j counts) before session
    → IsToldBadOfAll (profile_of limit marks) before session (told_bad j)
decided-told limit marks (consistent_of_all L answers) counts before session stands = absurd stands.0.for_good
decided-told limit marks (bad_of_all j k class command reply) counts before session stands =
    ((decided-verdict limit marks (bad_of_all j k class command reply) counts before session stands).outcome, settled stands.0.for_good)
  where
    settled : (j < length before) ⊎ IsTrue (is_whole class) → (j < length before) ⊎ IsSettled session.client session.server k class
    settled x = grind (arith, settled-whole)

-- ---- of one session

-- an answer of one session is bad for good as it is of the only one
bad-alone : (profile : Profile) (client : ClientStream) (server : List ℕ) (k : ℕ) (c : Class) → IsBadForGood profile client server k c
    → IsBadForGoodOfAll profile [] (record { client = client; server = server }) 0 k c
bad-alone profile client server k c (outcome, settled) = ((one_session_outcome profile (record { client = client; server = server }) (No k c)).1 outcome, inr settled)

only-bad : (profile : Profile) (client : ClientStream) (server : List ℕ) (j k : ℕ) (c : Class) → IsBadForGoodOfAll profile [] (record { client = client; server = server }) j k c
    → IsBadForGood profile client server k c
only-bad profile client server zero k c (outcome, inl less) = absurd (omega (arith, less))
only-bad profile client server j k c x = grind (arith, one_session_outcome)

-- and is told so
pub told-alone : (profile : Profile) (client : ClientStream) (server : List ℕ) (told : Option (ℕ × ℕ × Class)) → IsToldBadOfAll profile [] (record { client = client; server = server }) told
    → IsToldBad profile client server (without_session told)
told-alone profile client server None told = λ k c is_bad. told 0 k c (bad-alone profile client server k c is_bad)
told-alone profile client server (Some bad) told = only-bad profile client server bad.0 bad.1 bad.2 told

-- ---- laws

-- what is bad for good stays so
pub bad-stays : (profile : Profile) (client : ClientStream) (server client_more server_more : List ℕ) (answer : ℕ) (c : Class)
    → IsBadForGood profile client server answer c → IsBadForGood profile (further client client_more) (server ++ server_more) answer c
bad-stays profile client server client_more server_more answer c (outcome, settled) = search (answer_stays, class_stays, settled_stays)

-- one thing is told
pub one-told : (profile : Profile) (client : ClientStream) (server : List ℕ) (x y : Option (ℕ × Class)) → IsToldBad profile client server x → IsToldBad profile client server y → x ≡ y
one-told profile client server x y p q = grind (arith, back, one_told_of_all, there, as-all)
  where
    there : Option (ℕ × Class) → Option (ℕ × ℕ × Class)
    there None = None
    there (Some bad) = Some (0, bad.0, bad.1)

    back : (x : Option (ℕ × Class)) → without_session (there x) ≡ x
    back x = grind arith

    as-all : (x : Option (ℕ × Class)) → IsToldBad profile client server x → IsToldBadOfAll profile [] (record { client = client; server = server }) (there x)
    as-all x p = grind (arith, only-bad, bad-alone)

-- and it stays
pub told-stays : (profile : Profile) (client : ClientStream) (server client_more server_more : List ℕ) (x y : Option (ℕ × Class))
    → IsTrue (is_some x) → IsToldBad profile client server x
    → IsToldBad profile (further client client_more) (server ++ server_more) y → y ≡ x
told-stays profile client server client_more server_more None y some p q = cc
told-stays profile client server client_more server_more (Some x) y some p q = search (one-told, bad-stays)
