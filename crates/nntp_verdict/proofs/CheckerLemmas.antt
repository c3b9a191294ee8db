-- What a checker holds, as octets and sessions come.
use Rattle.std.proofs.Common.{◌≡◌, ◌≢◌, ◌∙◌, refl, sym, ap, subst, ℕ, ◌+◌, ◌<◌, ◌^◌, false, List, [], ◌∷◌, ◌++◌, length, take, Option, None, Some, slice_get}
use Rattle.std.proofs.{Common.{inl, arith, append_assoc, append-nil, length-append, Result, MatchResult, OnOk, IfErr}, lemmas.Bool.{false≢true, true≢false}}
use Rattle.std.{proofs.lemmas.Option.{slice_get_within}, specs.Prelude.{MatchOption, ⊤}}
use Rattle.nntp_article.specs.{Session.Limit.{profile_of}, declared.session.profile.Profile.{Profile}}
use Rattle.nntp_wire.specs.{declared.{limit.Limit.{Limit}, marks.Marks.{Marks}, overviews.Overviews.{Overviews}}, Session.{ClientStream, taken}}
use Rattle.nntp_pair.specs.{Pairing.{Paired, Unpaired, IsNext, bad as pair_end, HasNext}, declared.class.PairClass.{PairClass}}
use Rattle.nntp_pair.specs.declared.{octet_counts.OctetCounts.{OctetCounts}, peek.Peek.{Peek}, side.Side.{Side, TheVariants.{Client, Server}}}
use Rattle.nntp_pair.specs.{declared.pair_error.PairError.{PairError}, Inner.Feeding.{Fed, IsFed, IsTaken, IsPeek, EndsForGood, left_of, unfed, with_octets}}
use Rattle.nntp_pair.{specs.Inner.Sides.{given, counted, count_of}, proofs.{FedLaws.{fed-paired}, NextLemmas.{next-no-end, next-shorter}}}
use Rattle.nntp_facts.specs.Inner.Noted.{FactsKept, IsDue, profile_kept}
use Rattle.nntp_several.{specs.{Sessions.{Recorded, BadBehind}, Told.{with_more}}, proofs.SessionsVerified.{as_many_counts}}
use Rattle.nntp_verdict.specs.{Judging.{IsAnsweredThroughout, IsVerdictOfAll}, Inner.Judging.{IsVerdictFrom, IsNoForGood, IsNoAtWholeAnswer, HaveEnded, Passed}}
use Rattle.nntp_verdict.specs.Inner.{Verdict.{verdict_of_last}, Checking.{Checked, judging, decided, failed, Keeps, HasPassed, IsHeld, StandsForAll, HasBegun}}
use Rattle.nntp_verdict.specs.Inner.Checking.{IsFinished, IsFinishedOfAll, has_failed, counts_of, unrecorded, IsTaken as IsTakenBy, IsUntaken}
use Rattle.nntp_verdict.specs.{Inner.CheckerView.{settled, HasJudged, HasEnded}, Verdict.{JudgementOfAll, consistent_of_all, bad_of_all}}
use Rattle.nntp_verdict.{specs.{Verdict.{sessions_verdict_shown}, declared.sessions_verdict.SessionsVerdict.{SessionsVerdict}}, proofs.JudgeLemmas.{is-due}}
use Rattle.nntp_verdict.proofs.JudgeLemmas.{alone}
use Rattle.nntp_pair.specs.declared.peek.Peek.TheVariants as peek
use Rattle.nntp_pair.specs.declared.pair_error.PairError.TheVariants as errors

module _ (profile : Profile) (before : List Recorded) (session : Recorded) (facts : FactsKept) (answers : List ℕ) (fed : Fed) (k : Keeps profile before session facts answers fed) where
  -- the exchanges have passed
  abbrev pub passed-now : Passed profile before session facts answers (left_of fed)
  passed-now = record {
    passed = record { earlier = k.earlier; ended = k.ended; pairs = k.pairs; next = (fed-paired fed session.client session.server k.pairs k.fed_is).0; stands = k.stands };
    answers_are = k.answers_are;
  }

  -- whatever follows
  abbrev pub passed-longer : (client server : List ℕ) → Passed profile before (with_more session client server) facts answers (left_of (with_octets client server fed))
  passed-longer client server = record {
    passed = record { earlier = k.earlier; ended = k.ended; pairs = k.pairs; next = k.fed_is.paired client server; stands = k.stands };
    answers_are = k.answers_are;
  }

  -- the next one is due
  pub next-due : (x : Paired) (behind : Unpaired) → IsNext (left_of fed) x behind → IsDue facts x
  next-due x behind next = is-due profile before session facts answers (left_of fed) behind x passed-now next

  -- and one more passes
  pub keeps-one-more : (new : FactsKept) (counts : List ℕ) (then : Fed) (x : Paired) (behind : Unpaired) → IsNext (left_of fed) x behind
      → (now : Passed profile before session new counts behind) → now.passed.pairs ≡ k.pairs ++ x ∷ []
      → ((client : ClientStream) (server : List ℕ) (pairs : List Paired) (pair : Paired) (behind : Unpaired) → IsFed fed client server pairs
      → IsNext (left_of fed) pair behind → IsFed then client server (pairs ++ pair ∷ [])) → Keeps profile before session new counts then
  keeps-one-more new counts then x behind next now pairs advanced = record {
    earlier = now.passed.earlier;
    ended = now.passed.ended;
    answers_are = now.answers_are;
    pairs = now.passed.pairs;
    fed_is = subst (IsFed then session.client session.server) (sym pairs) (advanced session.client session.server k.pairs x behind k.fed_is next);
    stands = now.passed.stands;
  }

  -- a no for good decides
  pub decides : (limit : Limit) (marks : Marks) (j : JudgementOfAll) → IsNoForGood before j
      → ((client server : List ℕ) → IsVerdictFrom limit marks before (with_more session client server) j) → StandsForAll limit marks (decided j fed.counts) before session
  decides limit marks j for_good verdict = (record { for_good = for_good; verdict = verdict }, k.fed_is.client_came, k.fed_is.server_came)

-- what has passed is held
pub held : (profile : Profile) (before : List Recorded) (session : Recorded) (facts : FactsKept) (answers : List ℕ) (fed : Fed) → HasPassed profile before session facts answers fed → fed.has_failed
    ≡ false
    → IsHeld facts answers fed
held profile before session facts answers fed p whole = grind arith

-- where nothing has come, nothing is next
pub nothing-next : (overviews : Overviews) (fed : Fed) → fed ≡ unfed overviews → ¬ (HasNext (left_of fed))
nothing-next overviews fed none (x, behind, next) = grind (arith, next-shorter)

-- a session begins behind those that have ended
pub session-begins : (profile : Profile) (before : List Recorded) (overviews : Overviews) (facts : FactsKept) (answers : List ℕ) (fed : Fed) → fed ≡ unfed overviews
    → IsFed fed (taken overviews []) [] []
    → HaveEnded profile before facts answers
    → HasPassed profile before (unrecorded overviews) facts answers fed
session-begins profile before overviews facts answers fed is fed_is e = search nothing-next

-- what is held is kept, with octets of a side that are taken
pub keeps-taken : (profile : Profile) (before : List Recorded) (session : Recorded) (facts : FactsKept) (answers : List ℕ) (fed then : Fed) (side : Side) (octets : List ℕ)
    → HasPassed profile before session facts answers fed → IsTaken side octets fed then
    → Keeps profile before (with_more session (given Client side octets) (given Server side octets)) facts answers then
keeps-taken profile before session facts answers fed then side octets p taken = record {
  earlier = p.keeps.earlier;
  ended = p.keeps.ended;
  answers_are = p.keeps.answers_are;
  pairs = p.keeps.pairs;
  fed_is = taken.fed session.client session.server p.keeps.pairs p.keeps.fed_is;
  stands = p.keeps.stands;
}

-- and memory wasn't refused
pub taken-whole : (side : Side) (octets : List ℕ) (fed then : Fed) → IsTaken side octets fed then → then.has_failed ≡ false
taken-whole side octets fed then taken = ap (λ (f : Fed). f.has_failed) taken.value ∙ taken.worked

-- nothing is next where octets answer nothing
pub none-next : (class : PairClass) (left : Unpaired) → EndsForGood class left → (x : Paired) (behind : Unpaired) → IsNext left x behind → ⊥
none-next class left ends x behind next = next-no-end (pair_end class) left behind x next ends.0

-- where no exchange is lent, none comes next
pub no-next : (fed : Fed) (told : Peek) → IsPeek fed told → fed.has_failed ≡ false → ((pair : Paired) → told ≢ peek.Whole pair) → ¬ (HasNext (left_of fed))
no-next fed (peek.Whole pair) is works none = absurd (none pair refl)
no-next fed peek.Nothing is works none = is.1
no-next fed (peek.Bad index class) is works none = λ next. none-next class (left_of fed) is.2 next.0 next.1 next.2
no-next fed peek.Failed is works none = absurd (true≢false (sym is ∙ works))

-- ---- what is decided

-- a no at a whole answer is one for good, whatever has ended
pub whole-for-good : (ended : List Recorded) (j : JudgementOfAll) → IsNoAtWholeAnswer j → IsNoForGood ended j
whole-for-good ended j whole = grind arith

-- what is decided stays so with more octets of both streams
pub decided-more : (limit : Limit) (marks : Marks) (j : JudgementOfAll) (counts : OctetCounts) (before : List Recorded) (session : Recorded) (client server : List ℕ)
    → StandsForAll limit marks (decided j counts) before session
    → StandsForAll limit marks (decided j (counted client server counts)) before (with_more session client server)
decided-more limit marks j counts before session client server (d, came_client, came_server) = grind (arith, append_assoc, length-append)

-- and its judgement is the verdict on what came, whatever sessions follow
decided-from : (limit : Limit) (marks : Marks) (j : JudgementOfAll) (counts : OctetCounts) (before : List Recorded) (session : Recorded)
    → StandsForAll limit marks (decided j counts) before session → IsVerdictFrom limit marks before session j
decided-from limit marks j counts before session (d, came_client, came_server) =
    let same : with_more session [] [] ≡ session = (λ i. record { client = taken session.client.overviews (append-nil session.client.octets i); server = append-nil session.server i }) in
    subst (λ session. IsVerdictFrom limit marks before session j) same (d.verdict [] [])

pub decided-verdict : (limit : Limit) (marks : Marks) (j : JudgementOfAll) (counts : OctetCounts) (before : List Recorded) (session : Recorded)
    → StandsForAll limit marks (decided j counts) before session → IsVerdictOfAll limit marks (before ++ session ∷ []) j
decided-verdict limit marks j counts before session stands = decided-from limit marks j counts before session stands []

-- what is the verdict whatever sessions follow is a no at an answer of one that came
stays-no : (limit : Limit) (marks : Marks) (before : List Recorded) (session : Recorded) (j : JudgementOfAll) → IsVerdictFrom limit marks before session j → IsNoForGood (before ++ session ∷ []) j
stays-no limit marks before session (consistent_of_all L answers) verdict =
    let P : Recorded → ℕ → Type 0 = λ s n. IsAnsweredThroughout s.client s.server n in
    let next : Recorded = unrecorded session.client.overviews in
    let some = as_many_counts P (before ++ session ∷ []) answers (verdict []).throughout in
    let more = as_many_counts P (before ++ session ∷ next ∷ []) answers (verdict (next ∷ [])).throughout in
    absurd (omega (arith, some, more, length-append before (session ∷ []), length-append before (session ∷ next ∷ [])))
stays-no limit marks before session (bad_of_all j k class command reply) verdict = inl (placed (slice_get (before ++ session ∷ []) j) refl (verdict []).outcome.0)
  where
    placed : (o : Option Recorded) → slice_get (before ++ session ∷ []) j ≡ o
        → MatchOption o ⊥ (λ s. BadBehind (profile_of limit marks) (take j (before ++ session ∷ [])) s k) → j < length (before ++ session ∷ [])
    placed None e h = absurd h
    placed (Some s) e h = slice_get_within (before ++ session ∷ []) j s e

-- so it stays where the session has ended
pub decided-ended : (limit : Limit) (marks : Marks) (j : JudgementOfAll) (before : List Recorded) (session : Recorded) → IsVerdictFrom limit marks before session j
    → StandsForAll limit marks (decided j (record { client = 0; server = 0 })) (before ++ session ∷ []) (unrecorded session.client.overviews)
decided-ended limit marks j before session verdict = search (stays-no, append_assoc)

-- so it does where it was decided before
pub decided-goes-on : (limit : Limit) (marks : Marks) (j : JudgementOfAll) (counts : OctetCounts) (before : List Recorded) (session : Recorded)
    → StandsForAll limit marks (decided j counts) before session
    → StandsForAll limit marks (decided j (record { client = 0; server = 0 })) (before ++ session ∷ []) (unrecorded session.client.overviews)
decided-goes-on limit marks j counts before session stands = search (decided-ended, decided-from)

-- ---- what isn't taken

-- a checker that stands for some octets works, and counts them
stands-counts : (limit : Limit) (marks : Marks) (held : Checked) (before : List Recorded) (session : Recorded) → StandsForAll limit marks held before session
    → (has_failed held ≡ false) × ((counts_of held).client ≡ length session.client.octets) × ((counts_of held).server ≡ length session.server)
stands-counts limit marks (judging overviews facts answers fed) before session s = (refl, s.0.keeps.fed_is.client_came, s.0.keeps.fed_is.server_came)
stands-counts limit marks (decided j counts) before session s = (refl, s.1, s.2)
stands-counts limit marks failed before session s = absurd s

-- where there is room for octets, none but want of memory keeps it from taking them
pub untaken-memory : (error : PairError) (side : Side) (octets : List ℕ) (before after : Checked) (limit : Limit) (marks : Marks) (ended : List Recorded) (session : Recorded)
    → StandsForAll limit marks before ended session → length session.client.octets + length session.server + length octets < 2 ^ 64 → IsUntaken error side octets before after → error
    ≡ errors.Memory
untaken-memory error side octets before after limit marks ended session stands room is = grind (arith, false≢true, stands-counts)

-- what is so where a call succeeds, and where it doesn't
pub on-ok : {T E P Q : Type 0} (R : E → Type 0) (r : Result T E) → MatchResult r (λ _. P) R → (P → Q) → OnOk r Q
on-ok R r p f = grind arith

pub if-err : {T E : Type 0} (P : T → Type 0) (R S : E → Type 0) (r : Result T E) → MatchResult r P R → ((e : E) → R e → S e) → IfErr r S
if-err P R S r p f = grind arith

-- ---- what a step of a checker does

-- octets are taken by a judgement that goes on, where what is kept then stands for them
pub taken-judging : (side : Side) (octets : List ℕ) (overviews : Overviews) (facts : FactsKept) (answers : List ℕ) (fed then : Fed) (after : Checked) → IsTaken side octets fed then
    → ((limit : Limit) (marks : Marks) (before : List Recorded) (session : Recorded) → Keeps (profile_of limit marks) before session facts answers then
    → session.client.overviews ≡ overviews → StandsForAll limit marks after before session)
    → IsTakenBy side octets (judging overviews facts answers fed) after
taken-judging side octets overviews facts answers fed then after taken stands = record {
  worked = refl;
  room = taken.room;
  stands = λ limit marks ended session was.
      stands limit marks ended (with_more session (given Client side octets) (given Server side octets))
      (keeps-taken (profile_of limit marks) ended session facts answers fed then side octets was.0 taken) was.1;
}

-- and by one that is decided, where they are counted
pub taken-decided : (side : Side) (octets : List ℕ) (j : JudgementOfAll) (counts more : OctetCounts) → count_of side counts + length octets < 2 ^ 64
    → more ≡ counted (given Client side octets) (given Server side octets) counts → IsTakenBy side octets (decided j counts) (decided j more)
taken-decided side octets j counts more room is = record {
  worked = refl;
  room = room;
  stands = λ limit marks ended session stands.
      subst (λ c. StandsForAll limit marks (decided j c) ended (with_more session (given Client side octets) (given Server side octets))) (sym is)
      (decided-more limit marks j counts ended session (given Client side octets) (given Server side octets) stands);
}

-- the next session begins where a verdict stands
pub begun-decided : (j : JudgementOfAll) (counts : OctetCounts) → HasBegun (decided j counts) (decided j (record { client = 0; server = 0 }))
begun-decided j counts = record { worked = refl; stands = λ limit marks ended session stands. decided-goes-on limit marks j counts ended session stands }

-- and where octets of the session that ends answer nothing
pub begun-told : (overviews : Overviews) (facts : FactsKept) (answers : List ℕ) (fed : Fed) (j : JudgementOfAll)
    → ((limit : Limit) (marks : Marks) (ended : List Recorded) (session : Recorded) → HasPassed (profile_of limit marks) ended session facts answers fed
    → IsVerdictFrom limit marks ended session j)
    → HasBegun (judging overviews facts answers fed) (decided j (record { client = 0; server = 0 }))
begun-told overviews facts answers fed j told = record {
  worked = refl;
  stands = λ limit marks ended session was. decided-ended limit marks j ended session (told limit marks ended session was.0);
}

-- ---- what a judgement tells of a step

module _ {A : Type 0} (overviews : Overviews) (facts : FactsKept) (answers : List ℕ) (fed : Fed) (new : FactsKept) (counts : List ℕ) (last : Fed) where
  -- octets are taken, where so many came then
  pub taken-settled : (side : Side) (octets : List ℕ) (then : Fed) (told : Option (SessionsVerdict A)) → IsTaken side octets fed then
      → HasJudged facts answers then new counts last told
      → IsTakenBy side octets (judging overviews facts answers fed) (settled (judging overviews new counts last) (counted (given Client side octets) (given Server side octets) fed.counts) told)
  taken-settled side octets then None taken judged =
      taken-judging side octets overviews facts answers fed then (judging overviews new counts last) taken
      (λ limit marks before session keeps same. ((judged limit marks before session keeps).0, same))
  taken-settled side octets then (Some verdict) taken judged =
      let j = sessions_verdict_shown verdict in
      taken-judging side octets overviews facts answers fed then (decided j (counted (given Client side octets) (given Server side octets) fed.counts)) taken
      (λ limit marks before session keeps same.
      subst (λ n. StandsForAll limit marks (decided j n) before session) (ap (λ (f : Fed). f.counts) taken.value) (judged limit marks before session keeps))

  -- and what is held then is held of some sessions
  pub taken-sound : (side : Side) (octets : List ℕ) (then : Fed) (told : Option (SessionsVerdict A)) → IsHeld facts answers fed → IsTaken side octets fed then
      → HasJudged facts answers then new counts last told
      → MatchOption told (IsHeld new counts last) (λ _. ⊤)
  taken-sound side octets then None was taken judged =
      let session = with_more was.session (given Client side octets) (given Server side octets) in
      let keeps = keeps-taken (profile_kept facts) was.before was.session facts answers fed then side octets was.passed taken in
      let now = judged facts.limit facts.marks was.before session keeps in
      held (profile_kept facts) was.before session new counts last now.0 now.1
  taken-sound side octets then (Some verdict) was taken judged = tt

  -- the next session begins
  pub begun-settled : (told : Option (SessionsVerdict A)) → last ≡ unfed overviews → IsFed last (taken overviews []) [] []
      → HasEnded facts answers fed new counts told
      → HasBegun (judging overviews facts answers fed) (settled (judging overviews new counts last) (record { client = 0; server = 0 }) told)
  begun-settled None is fed_is ended = record {
    worked = refl;
    stands = λ limit marks before session was. (
      subst (λ o. HasPassed (profile_of limit marks) (before ++ session ∷ []) (unrecorded o) new counts last) (sym was.1)
          (session-begins (profile_of limit marks) (before ++ session ∷ []) overviews new counts last is fed_is (ended limit marks before session was.0.keeps)),
      was.1,
    );
  }
  begun-settled (Some verdict) is fed_is ended =
      begun-told overviews facts answers fed (sessions_verdict_shown verdict) (λ limit marks before session passed. ended limit marks before session passed.keeps)

  pub begun-sound : (told : Option (SessionsVerdict A)) → IsHeld facts answers fed → last ≡ unfed overviews → IsFed last (taken overviews []) [] []
      → HasEnded facts answers fed new counts told
      → MatchOption told (IsHeld new counts last) (λ _. ⊤)
  begun-sound None was is fed_is ended =
      let before = was.before ++ was.session ∷ [] in
      held (profile_kept facts) before (unrecorded overviews) new counts last
      (session-begins (profile_kept facts) before overviews new counts last is fed_is (ended facts.limit facts.marks was.before was.session was.passed.keeps))
      (ap (λ (f : Fed). f.has_failed) is)
  begun-sound (Some verdict) was is fed_is ended = tt

-- what a checker gives of several sessions is what it gives of one
pub finished-alone : (held : Checked) (j : JudgementOfAll) → IsFinishedOfAll held j → IsFinished held (verdict_of_last j)
finished-alone held j finished = grind (arith, alone)
