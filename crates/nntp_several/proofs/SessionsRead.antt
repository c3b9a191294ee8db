-- Several sessions have one reading; its first bad answer is that of the outcome; and all is accepted exactly if some spool explains them.
use Rattle.std.proofs.Common.{◌≡◌, ◌⊎◌, ◌↔◌, ℕ, ◌+◌, ◌<◌, ◌≤◌, ◌^◌, List, [], ◌∷◌, ◌++◌, length, map, Some, inl, inr, refl, sym, ap, subst, ◌∙◌, arith}
use Rattle.std.{proofs.{Common.{append_assoc, append-nil, length-append}, lemmas.List.{map-append}}, specs.List.{AllByRecursion}}
use Rattle.nntp_wire.specs.{Session.{prompts_of}, declared.marks.Marks.{Marks}}
use Rattle.nntp_article.specs.{Session.{Spool.{Spool, IsSpool}, Machine.{Run, start, fits}}, declared.session.profile.Profile.{Profile}}
use Rattle.nntp_pair.specs.{declared.class.{PairClass.{PairClass, TheVariants.{Malformed as PairMalformed}}, Class.{Class}}, Pairing.{Paired, Unpaired, IsNext}}
use Rattle.nntp_pair.specs.{Pairing.{AreNext, Ending, end, bad, IsPairing, asked_at, asked_of, responses_of, streams}, Classes.{class_of}}
use Rattle.nntp_pair.proofs.PassedLemmas.{passed-ends}
use Rattle.nntp_theory.specs.{Classes.{visible_from, HasClass, class_by}, Inner.Given.{size, weight}, Reading.{Judged, Accepted, Refused, Unspelled}}
use Rattle.nntp_theory.specs.{Reading.{accepted_of, IsReadingBy, IsReading, class_behind}, Answered.{PermitsEach, SomePermitsEach, facts_of_all}}
use Rattle.nntp_theory.{specs.Permitted.{exchanged, ArePermittedBehind}, proofs.{Members.{all_both, all_front, all_back}, Given.FirstBadAnswer.{size-append}}}
use Rattle.nntp_theory.proofs.Given.{FirstBadAnswer.{none_permitted}, SessionsByFacts.{some_or_none_of_all}, SessionsGoOn.{facts_behind}}
use Rattle.nntp_theory.proofs.{Ids.SizeOfASession.{session_size}, Session.{OneMoreAnswer.{pairs_run}, PairsGoOn.{Runs}}, Streams.ExplainedPairs.{by_all_pairs}}
use Rattle.nntp_theory.proofs.{Streams.{OneOutcome.{bad_response}, PairedStreams.{explained_end, bad_end}}, Reading.FirstBadOfAReading.{accepted_all}}
use Rattle.nntp_theory.proofs.Reading.{FirstBadOfAReading.{accepted_or_bad}, JudgedAnswers.{accepted_light, accepted_first, all_paired}}
use Rattle.nntp_theory.proofs.Reading.OneReading.{one_reading, some_reading_by}
use Rattle.nntp_several.specs.{Outcome.{NoOfAll, IsOutcomeOfAll}, Reading.{ReadSession, AreReadings, IsReadingOfAll}, Inner.Reading.{IsGood, IsFirstBad}}
use Rattle.nntp_several.specs.{Inner.Sessions.{octets_of}, Sessions.{Recorded, ExplainsIt, ExplainsEach, ExplainsAll, BadBehind}}
use Rattle.nntp_several.proofs.ExplainedSessions.{there, bad_at, explained_not_bad_of_all}

-- ---- one reading

-- sessions have one reading
pub one_reading_from : (profile : Profile) (earlier : List (List Paired)) (sessions : List Recorded) (rs qs : List ReadSession)
    → AreReadings profile earlier sessions rs → AreReadings profile earlier sessions qs → rs ≡ qs
one_reading_from profile earlier (s ∷ more) (r ∷ rs) (q ∷ qs) x y =
    let one = one_reading (ArePermittedBehind profile earlier) s.client s.server r.answers q.answers r.ending q.ending x.0 y.0 in
    let here = subst (λ answers. AreReadings profile (earlier ++ accepted_of answers ∷ []) more rs) one.0 x.1 in
    let rest = one_reading_from profile (earlier ++ accepted_of q.answers ∷ []) more rs qs here y.1 in
    λ i. record { answers = one.0 i; ending = one.1 i } ∷ rest i
one_reading_from profile earlier sessions rs qs x y = grind arith

-- ---- and one at least

-- what the exchanges of sessions weigh
abbrev pub weight_of_all : List (List Paired) → ℕ
weight_of_all [] = 0
weight_of_all (pairs ∷ more) = weight (responses_of pairs) + weight_of_all more

weight_of_both : (xs ys : List (List Paired)) → weight_of_all (xs ++ ys) ≡ weight_of_all xs + weight_of_all ys
weight_of_both [] ys = omega arith
weight_of_both (pairs ∷ xs) ys = let rest = weight_of_both xs ys in omega (arith, rest)

-- what they say is bounded by it
size_by_weight : (how : Marks) (earlier : List (List Paired)) → size (facts_of_all how (map exchanged earlier)) ≤ weight_of_all earlier
size_by_weight how [] = omega arith
size_by_weight how (pairs ∷ earlier) = grind (arith, size-append, session_size, size_by_weight how earlier)

-- so it is decided whether some spool permits exchanges behind them
decided_behind : (profile : Profile) (earlier : List (List Paired)) (most : ℕ) → weight_of_all earlier + most < 2 ^ 210 → (past : List Paired) → weight (responses_of past) ≤ most
    → ArePermittedBehind profile earlier past ⊎ (ArePermittedBehind profile earlier past → ⊥)
decided_behind profile earlier most small past light =
    let whole = ap size (facts_behind profile.marks (map exchanged earlier) (exchanged past)) in
    grind (arith, size-append, session_size, size_by_weight, some_or_none_of_all)

-- sessions have a reading
pub some_reading_from : (profile : Profile) (earlier : List (List Paired)) (sessions : List Recorded) → weight_of_all earlier + octets_of sessions < 2 ^ 210
    → (readings : List ReadSession) × AreReadings profile earlier sessions readings
some_reading_from profile earlier [] small = ([], tt)
some_reading_from profile earlier (s ∷ more) small =
    let r = some_reading_by (ArePermittedBehind profile earlier) (length s.server) (decided_behind profile earlier (length s.server) (omega (arith, small))) s.client s.server (omega arith) in
    let light = accepted_light (ArePermittedBehind profile earlier) s.client s.server r.0 r.2.left r.2.judged in
    let both = weight_of_both earlier (accepted_of r.0 ∷ []) in
    let alone = one (accepted_of r.0) in
    let rest = some_reading_from profile (earlier ++ accepted_of r.0 ∷ []) more (omega (arith, small, light, both, alone)) in
    (record { answers = r.0; ending = r.1 } ∷ rest.0, (r.2, rest.1))
  where
    one : (pairs : List Paired) → weight_of_all (pairs ∷ []) ≡ weight (responses_of pairs)
    one pairs = omega arith

-- ---- earlier exchanges and the sessions that they are of

-- to permit these exchanges is to explain these sessions
abbrev pub Follows : Profile → List (List Paired) → List Recorded → Type 0
Follows profile earlier before = (S : Spool) → IsSpool profile.limit S → PermitsEach profile S (map exchanged earlier) ↔ ExplainsEach profile S before

-- a session whose pairing comes to the end
follows_more : (profile : Profile) (earlier : List (List Paired)) (before : List Recorded) (s : Recorded) (pairs : List Paired) (unanswered : ℕ) → Follows profile earlier before
    → IsPairing s.client s.server pairs (end unanswered) → Follows profile (earlier ++ pairs ∷ []) (before ++ s ∷ [])
follows_more profile earlier before s pairs unanswered f pairing S spool = (to, back)
  where
    same : map exchanged (earlier ++ pairs ∷ []) ≡ map exchanged earlier ++ exchanged pairs ∷ []
    same = map-append exchanged earlier (pairs ∷ [])

    runs : Run profile S start (prompts_of s.client) (responses_of pairs) ↔ Run profile S start (asked_of pairs) (responses_of pairs)
    runs = pairs_run profile S s.client s.server pairs pairing.left pairing.paired

    to : PermitsEach profile S (map exchanged (earlier ++ pairs ∷ [])) → ExplainsEach profile S (before ++ s ∷ [])
    to h =
        let g = subst (PermitsEach profile S) same h in
        let run = runs.1 (all_back (Runs profile S) (map exchanged earlier) (exchanged pairs ∷ []) g).0 in
        all_both (ExplainsIt profile S) before (s ∷ []) ((f S spool).0 (all_front (Runs profile S) (map exchanged earlier) (exchanged pairs ∷ []) g))
        ((length pairs, explained_end profile S s.client s.server pairs unanswered pairing spool run), tt)

    back : ExplainsEach profile S (before ++ s ∷ []) → PermitsEach profile S (map exchanged (earlier ++ pairs ∷ []))
    back x =
        let e = (all_back (ExplainsIt profile S) before (s ∷ []) x).0 in
        let answers = (by_all_pairs profile S s.client s.server e.0 pairs (end unanswered) pairing e.1).0 in
        grind (arith, runs, same, all_both, all_front)

-- no exchanges of the next session
none_behind : (profile : Profile) (earlier : List (List Paired)) → SomePermitsEach profile (map exchanged earlier) → ArePermittedBehind profile earlier []
none_behind profile earlier h = (h.0, h.1, all_both (Runs profile h.0) (map exchanged earlier) (exchanged [] ∷ []) h.2 (tt, tt))

-- those of it are earlier ones then
pub earlier_then : (profile : Profile) (earlier : List (List Paired)) (pairs : List Paired) → ArePermittedBehind profile earlier pairs → SomePermitsEach profile (map exchanged (earlier ++ pairs ∷ []))
earlier_then profile earlier pairs h = subst (SomePermitsEach profile) (sym (map-append exchanged earlier (pairs ∷ []))) h

-- ---- a session behind earlier ones

module _ (profile : Profile) (earlier : List (List Paired)) (before : List Recorded) (f : Follows profile earlier before) (h : SomePermitsEach profile (map exchanged earlier)) (s : Recorded) where
  -- what stands behind them
  abbrev pub Stand : List Paired → Type 0
  Stand pairs = ArePermittedBehind profile earlier pairs

  -- of this, the bad answer behind the sessions before
  abbrev pub IsBadHere : ℕ → Class → Type 0
  IsBadHere k class = BadBehind profile before s k × HasClass profile s.client s.server k class

  -- a good one
  pub good_here : (r : ReadSession) → IsReadingBy Stand s.client s.server r.answers r.ending → IsGood r
      → (unanswered : ℕ) × IsPairing s.client s.server (accepted_of r.answers) (end unanswered) × Stand (accepted_of r.answers)
  good_here r reading (all, unanswered, ends) =
      let pairs = accepted_of r.answers in
      let same : IsReadingBy Stand s.client s.server (map Accepted pairs) (end unanswered) =
      subst (λ (t : List Judged × Ending). IsReadingBy Stand s.client s.server t.0 t.1) (λ i. (all i, ends i)) reading in
      let both = all_paired Stand s.client s.server pairs (end unanswered) (none_behind profile earlier h) same in
      (unanswered, both.0, both.1)

  -- octets behind exchanges that stand
  pub octets_here : (pairs : List Paired) (class : PairClass) → IsPairing s.client s.server pairs (bad class) → Stand pairs → IsBadHere (length pairs) (class_of class)
  octets_here pairs class pairing (S, spool, g) =
      let run = (pairs_run profile S s.client s.server pairs pairing.left pairing.paired).1 (all_back (Runs profile S) (map exchanged earlier) (exchanged pairs ∷ []) g).0 in
      let p = (f S spool).0 (all_front (Runs profile S) (map exchanged earlier) (exchanged pairs ∷ []) g) in
      bad_end (λ S. ExplainsEach profile S before) profile s.client s.server pairs class pairing S spool p run

  -- a pair that doesn't stand behind those that do
  pub pair_here : (pairs : List Paired) (pair : Paired) (between after : Unpaired) → AreNext (streams s.client s.server) pairs between → IsNext between pair after
      → Stand pairs → (Stand (pairs ++ pair ∷ []) → ⊥)
      → IsBadHere (length pairs) (class_by (fits profile (visible_from start.visible (asked_of pairs) (responses_of pairs)) (asked_at pair.place) pair.response))
  pair_here pairs pair between after paired next (S, spool, g) none =
      bad_response profile s.client s.server pairs pair between after paired next (λ S. ExplainsEach profile S before) S spool
      ((f S spool).0 (all_front (Runs profile S) (map exchanged earlier) (exchanged pairs ∷ []) g)) (all_back (Runs profile S) (map exchanged earlier) (exchanged pairs ∷ []) g).0
      (λ T sp p run. none (T, sp, all_both (Runs profile T) (map exchanged earlier) (exchanged (pairs ++ pair ∷ []) ∷ []) ((f T sp).1 p) (run, tt)))

  -- the first answer of a reading that isn't accepted
  answer_here : (pairs : List Paired) (answer : Judged) (more : List Judged) (ending : Ending) (class : Class)
      → IsReadingBy Stand s.client s.server (map Accepted pairs ++ answer ∷ more) ending → class_behind profile pairs answer ≡ Some class → IsBadHere (length pairs) class
  answer_here pairs (Accepted pair) more ending class reading e = cc
  answer_here pairs (Refused pair) more ending class reading e =
      let r = accepted_first Stand [] (streams s.client s.server) reading.left pairs (Refused pair ∷ more) (none_behind profile earlier h) reading.judged in
      let first = r.rest.1 in
      let same : _ ≡ class = cc in
      subst (λ class. IsBadHere (length pairs) class) same (pair_here pairs pair r.between r.rest.0 r.paired first.0 r.stand first.1)
  answer_here pairs (Unspelled index place initial block) more ending class reading e =
      let r = accepted_first Stand [] (streams s.client s.server) reading.left pairs (Unspelled index place initial block ∷ more) (none_behind profile earlier h) reading.judged in
      let first = r.rest.1 in
      let pairing : IsPairing s.client s.server pairs (bad PairMalformed) = record { left = r.between; paired = r.paired; ends = passed-ends r.between r.rest.0 place initial block first.1 } in
      let same : class_of PairMalformed ≡ class = cc in
      subst (λ class. IsBadHere (length pairs) class) same (octets_here pairs PairMalformed pairing r.stand)

  -- the first bad answer of a reading is the bad one behind the sessions before
  pub first_bad_here : (r : ReadSession) (k : ℕ) (class : Class) → IsReadingBy Stand s.client s.server r.answers r.ending → IsFirstBad profile r k class → IsBadHere k class
  first_bad_here r k class reading b = subst (λ k. IsBadHere k class) (sym b.place) (elim b.is_bad [
    | inl a ↦ answer_here b.pairs a.answer a.more r.ending class (subst (λ answers. IsReadingBy Stand s.client s.server answers r.ending) a.answers reading) a.class_is
    | inr o ↦
        let same : IsReadingBy Stand s.client s.server (map Accepted b.pairs) (bad o.pair_class) =
        subst (λ (t : List Judged × Ending). IsReadingBy Stand s.client s.server t.0 t.1) (λ i. (o.answers i, o.ending i)) reading in
        let both = all_paired Stand s.client s.server b.pairs (bad o.pair_class) (none_behind profile earlier h) same in
        subst (λ class. IsBadHere (length b.pairs) class) (sym o.class_is) (octets_here b.pairs o.pair_class both.0 both.1)
  ])

-- ---- all sessions

-- what is bad of one is the outcome of all
pub outcome_at : (profile : Profile) (before : List Recorded) (s : Recorded) (more : List Recorded) (k : ℕ) (class : Class) → BadBehind profile before s k
    → HasClass profile s.client s.server k class → IsOutcomeOfAll profile (before ++ s ∷ more) (NoOfAll (length before) k class)
outcome_at profile before s more k class bad_one has = grind (arith, bad_at, there)

-- the first session that isn't good
first_bad_from : (profile : Profile) (earlier : List (List Paired)) (before sessions : List Recorded) (front : List ReadSession) (r : ReadSession) (rest : List ReadSession) (k : ℕ) (class : Class)
    → Follows profile earlier before → SomePermitsEach profile (map exchanged earlier) → AreReadings profile earlier sessions (front ++ r ∷ rest)
    → AllByRecursion IsGood front → IsFirstBad profile r k class → IsOutcomeOfAll profile (before ++ sessions) (NoOfAll (length before + length front) k class)
first_bad_from profile earlier before [] [] r rest k class f h x good b = absurd x
first_bad_from profile earlier before [] (q ∷ front) r rest k class f h x good b = absurd x
first_bad_from profile earlier before (s ∷ more) [] r rest k class f h x good b =
    let is = first_bad_here profile earlier before f h s r k class x.0 b in
    let same : length before ≡ length before + length {A = ReadSession} [] = omega arith in
    subst (λ j. IsOutcomeOfAll profile (before ++ s ∷ more) (NoOfAll j k class)) same (outcome_at profile before s more k class is.0 is.1)
first_bad_from profile earlier before (s ∷ more) (q ∷ front) r rest k class f h x good b =
    let g = good_here profile earlier before f h s q x.0 good.0 in
    let pairs = accepted_of q.answers in
    let next = first_bad_from profile (earlier ++ pairs ∷ []) (before ++ s ∷ []) more front r rest k class
    (follows_more profile earlier before s pairs g.0 f g.1) (earlier_then profile earlier pairs g.2) x.1 good.1 b in
    grind (arith, append_assoc, length-append)

-- where all are good, some spool explains them
good_from : (profile : Profile) (earlier : List (List Paired)) (before sessions : List Recorded) (rs : List ReadSession)
    → Follows profile earlier before → SomePermitsEach profile (map exchanged earlier) → AreReadings profile earlier sessions rs
    → AllByRecursion IsGood rs → (S : Spool) × ExplainsAll profile S (before ++ sessions)
good_from profile earlier before [] [] f h x good = (h.0, (h.1, subst (ExplainsEach profile h.0) (sym (append-nil before)) ((f h.0 h.1).0 h.2)))
good_from profile earlier before [] (q ∷ rs) f h x good = absurd x
good_from profile earlier before (s ∷ more) [] f h x good = absurd x
good_from profile earlier before (s ∷ more) (q ∷ rs) f h x good =
    let g = good_here profile earlier before f h s q x.0 good.0 in
    let pairs = accepted_of q.answers in
    subst (λ sessions. (S : Spool) × ExplainsAll profile S sessions) (append_assoc before (s ∷ []) more)
    (good_from profile (earlier ++ pairs ∷ []) (before ++ s ∷ []) more rs (follows_more profile earlier before s pairs g.0 f g.1) (earlier_then profile earlier pairs g.2) x.1 good.1)

-- ---- whether all are good

-- a session is good, or has a first bad answer
good_or_bad : (profile : Profile) (r : ReadSession) → IsGood r ⊎ ((k : ℕ) × (class : Class) × IsFirstBad profile r k class)
good_or_bad profile r = elim (accepted_or_bad r.answers) [
  | inl (pairs, all) ↦ by pairs all r.ending refl
  | inr first ↦
      let c = first.is_bad profile first.pairs in
      inr (length first.pairs, c.0, record { pairs = first.pairs; place = refl; is_bad = inl (record { answer = first.answer; more = first.more; answers = first.whole; class_is = c.1 }) })
]
  where
    by : (pairs : List Paired) → r.answers ≡ map Accepted pairs → (ending : Ending) → r.ending ≡ ending → IsGood r ⊎ ((k : ℕ) × (class : Class) × IsFirstBad profile r k class)
    by pairs all (end unanswered) e = inl (all ∙ ap (map Accepted) (sym (accepted_all pairs)) ∙ sym (ap (λ answers. map Accepted (accepted_of answers)) all), unanswered, e)
    by pairs all (bad class) e = inr
        (length pairs, class_of class, record { pairs = pairs; place = refl; is_bad = inr (record { pair_class = class; answers = all; ending = e; class_is = refl }) })

-- all sessions are good, or there is a first one that isn't
all_or_first : (profile : Profile) (rs : List ReadSession) → AllByRecursion IsGood rs ⊎ ((front : List ReadSession) × (r : ReadSession) × (rest : List ReadSession) × (rs ≡ front ++ r ∷ rest)
    × AllByRecursion IsGood front × ((k : ℕ) × (class : Class) × IsFirstBad profile r k class))
all_or_first profile [] = inl tt
all_or_first profile (r ∷ rs) = elim (good_or_bad profile r) [
  | inr b ↦ inr ([], r, rs, refl, tt, b)
  | inl good ↦ elim (all_or_first profile rs) [
    | inl all ↦ inl (good, all)
    | inr (front, q, rest, whole, goods, b) ↦ inr (r ∷ front, q, rest, ap (λ rs. r ∷ rs) whole, (good, goods), b)
  ]
]

-- ---- the laws

-- nothing is earlier than the first session
nothing_permitted : (profile : Profile) → SomePermitsEach profile (map exchanged [])
nothing_permitted profile = let some = none_permitted profile [] [] in (some.0, some.1, tt)

follows_none : (profile : Profile) → Follows profile [] []
follows_none profile S spool = (λ h. tt, λ h. tt)

pub first_bad_of_all : (profile : Profile) (sessions : List Recorded) (front : List ReadSession) (r : ReadSession) (rest : List ReadSession) (k : ℕ) (class : Class)
    → IsReadingOfAll profile sessions (front ++ r ∷ rest) → AllByRecursion IsGood front → IsFirstBad profile r k class → IsOutcomeOfAll profile sessions (NoOfAll (length front) k class)
first_bad_of_all profile sessions front r rest k class x good b =
    subst (λ j. IsOutcomeOfAll profile sessions (NoOfAll j k class)) (omega arith)
    (first_bad_from profile [] [] sessions front r rest k class (follows_none profile) (nothing_permitted profile) x good b)

pub good_exactly_of_all : (profile : Profile) (sessions : List Recorded) (rs : List ReadSession) → IsReadingOfAll profile sessions rs
    → AllByRecursion IsGood rs ↔ ((S : Spool) × ExplainsAll profile S sessions)
good_exactly_of_all profile sessions rs x = (
  λ good. good_from profile [] [] sessions rs (follows_none profile) (nothing_permitted profile) x good,
  λ e. elim (all_or_first profile rs) [
    | inl all ↦ all
    | inr (front, r, rest, whole, good, b) ↦
        let no = first_bad_of_all profile sessions front r rest b.0 b.1 (subst (IsReadingOfAll profile sessions) whole x) good b.2 in
        absurd (explained_not_bad_of_all profile e.0 sessions (length front) b.0 e.1.1 no.0)
  ],
)

pub some_reading_of_all : (profile : Profile) (sessions : List Recorded) → octets_of sessions < 2 ^ 210 → (readings : List ReadSession) × IsReadingOfAll profile sessions readings
some_reading_of_all profile sessions small = some_reading_from profile [] sessions (omega (arith, small))

pub one_reading_of_all : (profile : Profile) (sessions : List Recorded) (rs qs : List ReadSession) → IsReadingOfAll profile sessions rs → IsReadingOfAll profile sessions qs → rs ≡ qs
one_reading_of_all profile sessions rs qs x y = one_reading_from profile [] sessions rs qs x y

-- ---- one session

-- the reading of one session is that of its streams
pub one_session_reading : (profile : Profile) (s : Recorded) (r : ReadSession) → IsReadingOfAll profile (s ∷ []) (r ∷ []) ↔ IsReading profile s.client s.server r.answers r.ending
one_session_reading profile s r = (λ x. x.0, λ x. (x, tt))
