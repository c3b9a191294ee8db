-- How a judgement goes through the exchanges of sessions.
use Rattle.std.proofs.Common.{◌≡◌, ◌≢◌, ◌∙◌, sym, subst, refl, ℕ, zero, suc, ◌+◌, ◌<◌, ◌≤◌, ◌^◌, List, [], ◌∷◌, ◌++◌, map, take, drop, get_or, Option, None}
use Rattle.std.proofs.{Common.{Some, MatchOption, Result, IfOk, length, ap, ap₂, inr, arith, append_assoc, append-nil, length-append}, lemmas.List.{length-map}}
use Rattle.std.{proofs.lemmas.List.{map-append, take_more, take_all, drop_more, take-append-drop}, specs.Option.{option_map}}
use Rattle.nntp_wire.specs.{Limit.{greatest}, Octets.{crlf}, declared.{limit.Limit.{Limit}, marks.Marks.{Marks}}, Frame.{framed, frame_octets}}
use Rattle.nntp_wire.specs.Session.{ClientStream}
use Rattle.nntp_article.specs.{Session.{Limit.{profile_of}, Machine.{Visible, visible_after}}, declared.session.profile.Profile.{Profile}}
use Rattle.nntp_article.proofs.SessionLemmas.ClosingAnswers.{after-closes}
use Rattle.nntp_pair.specs.Pairing.{Paired, Unpaired, IsNext, AreNext, Ends, IsBad, end, bad as pair_end, line_ahead, streams, asked_at, asked_of, responses_of}
use Rattle.nntp_pair.specs.{Pairing.{HasNext}, declared.class.{PairClass.{PairClass}, Class.{Class, TheVariants.{OutOfPlace, Contradiction}}}}
use Rattle.nntp_pair.{specs.Classes.{class_of}, proofs.PairingLemmas.{AreNext-push, index-counts}}
use Rattle.nntp_theory.specs.{declared.noted.Noted.{Noted}, Answered.{facts_of_all}, Classes.{visible_from}, Given.{IsGiven}, Inner.Given.{size}}
use Rattle.nntp_theory.{specs.Permitted.{exchanged}, proofs.Given.SessionsGoOn.{facts_behind, small_behind}}
use Rattle.nntp_facts.{specs.Inner.Noted.{FactsKept, HasNotedBehind, IsDue, IsNotedBehind, begun}, proofs.Keeping.NotedSessions.{session_begins}}
use Rattle.nntp_store.{specs.{Limited.{LimitedSpool}, Inner.Text.{IsWritten}}, proofs.WholeSpools.{written_is_read}}
use Rattle.nntp_several.specs.{Outcome.{NoOfAll, IsOutcomeOfAll}, Inner.{Paired.{ArePaired}, Passing.{PassedOfAll}}, Sessions.{Recorded}}
use Rattle.nntp_several.proofs.PassingSessions.{paired_push, as_many_sessions, earlier_permitted, passing_stops, passing_contradicted, passing_unfitting}
use Rattle.nntp_witness.specs.Inner.Witness.{IsWitnessWithin}
use Rattle.nntp_printing.specs.BadAnswer.{IsFirstLine, shown}
use Rattle.nntp_verdict.specs.{declared.sessions_verdict.SessionsVerdict.{SessionsVerdict}, Judging.{StopsAt, SuitsClass, IsVerdict, IsVerdictOfAll}}
use Rattle.nntp_verdict.specs.{Judging.{pair_class_of}, Inner.{Judging.{IsVerdictFrom, HaveEnded, Passed, StopsHere, class_noted}, Verdict.{verdict_of_last}}}
use Rattle.nntp_verdict.specs.Verdict.{consistent, bad, JudgementOfAll, consistent_of_all, bad_of_all, sessions_verdict_shown}
use Rattle.nntp_verdict.proofs.VerdictLaws.{one_session_verdict, verdict_at_ends, verdict_within}
use Rattle.nntp_theory.specs.declared.noted.Noted.TheVariants as kinds

-- what is left of both streams is closed exactly if the visible state is
closed-by : (v : Visible) (before left : Unpaired) (pairs : List Paired) → before.is_closed ≡ v.closed
    → AreNext before pairs left → left.is_closed ≡ (visible_from v (asked_of pairs) (responses_of pairs)).closed
closed-by v before left [] same e = ap (λ (u : Unpaired). u.is_closed) (sym e) ∙ same
closed-by v before left (pair ∷ pairs) same (between, first, more) =
    closed-by (visible_after v (asked_at pair.place) pair.response) between left pairs (first.closing ∙ sym (after-closes v (asked_at pair.place) pair.response (sym same ∙ first.is_open))) more

-- the next exchange is due
pub is-due : (profile : Profile) (before : List Recorded) (session : Recorded) (facts : FactsKept) (answers : List ℕ) (left behind : Unpaired) (x : Paired)
    → Passed profile before session facts answers left → IsNext left x behind → IsDue facts x
is-due profile before session facts answers left behind x p next = grind (arith, index-counts, closed-by)

-- what is noted of an exchange behind facts
abbrev pub Notes : Profile → FactsKept → FactsKept → Paired → Noted → Type 0
Notes profile old new x noted = (earlier : List (List Paired)) (past : List Paired) → HasNotedBehind profile old earlier past → IsNotedBehind profile earlier past x old new noted

-- and then it has passed
pub one-more : (profile : Profile) (before : List Recorded) (session : Recorded) (old new : FactsKept) (answers : List ℕ) (left behind : Unpaired) (x : Paired)
    (noted : Noted) → (p : Passed profile before session old answers left) → IsNext left x behind → Notes profile old new x noted → class_noted noted ≡ None
    → (now : Passed profile before session new answers behind) × (now.passed.pairs ≡ p.passed.pairs ++ x ∷ [])
one-more profile before session old new answers left behind x noted p next notes good = by noted good (notes p.passed.earlier p.passed.pairs p.passed.stands)
  where
    by : (noted : Noted) → class_noted noted ≡ None → IsNotedBehind profile p.passed.earlier p.passed.pairs x old new noted
        → (now : Passed profile before session new answers behind) × (now.passed.pairs ≡ p.passed.pairs ++ x ∷ [])
    by kinds.Consistent none h = (
      record {
        passed = record {
          earlier = p.passed.earlier;
          ended = p.passed.ended;
          pairs = p.passed.pairs ++ x ∷ [];
          next = AreNext-push p.passed.pairs (streams session.client session.server) left behind x p.passed.next next;
          stands = h.1;
        };
        answers_are = p.answers_are;
      },
      refl,
    )
    by noted none h = cc

some-octets : (line rest : List ℕ) → line ++ crlf ++ rest ≢ []
some-octets [] rest e = cc
some-octets (b ∷ line) rest e = cc

frame-first : (server initial rest : List ℕ) (block : Option (List ℕ)) → server ≡ frame_octets initial block ++ rest → server ≡ initial ++ crlf ++ (framed block ++ rest)
frame-first server initial rest block whole = whole ∙ append_assoc (initial ++ crlf) (framed block) rest

-- the class of an exchange is no class of octets
of-exchange : (noted : Noted) (class : Class) → Some class ≡ class_noted noted → pair_class_of class ≡ None
of-exchange noted class is = grind arith

-- a bad exchange
pub at-exchange : (client : ClientStream) (server : List ℕ) (pairs : List Paired) (left behind : Unpaired) (x : Paired)
    (noted : Noted) (class : Class) → AreNext (streams client server) pairs left → IsNext left x behind
    → Some class ≡ class_noted noted
    → (k : ℕ) → k ≡ x.index → (line : Option (List ℕ)) → line ≡ x.place.line → (initial : List ℕ) → initial ≡ x.initial
    → StopsAt client server k class (option_map shown line) (shown initial)
at-exchange client server pairs left behind x noted class first next judged k at line line-is initial initial-is =
    let frame = next.answered.frame in
    let whole = frame-first left.server x.initial behind.server next.answered.block frame.whole in
    record {
      pairs = pairs;
      left = left;
      before = first;
      place = at ∙ next.index ∙ index-counts client server pairs left first;
      some = λ none. some-octets x.initial _ (sym whole ∙ none);
      suits = subst (λ o. MatchOption o (HasNext left) (λ c. IsBad c left)) (sym (of-exchange noted class judged)) (x, behind, next);
      command_is = ap (λ places. option_map shown places) (line-is ∙ sym (ap line_ahead next.place));
      line = x.initial;
      first = (frame.is_line, inr (_, whole));
      reply_is = ap shown initial-is;
    }

of-pair : (class : PairClass) (left : Unpaired) → IsBad class left → SuitsClass (class_of class) left
of-pair class left is = grind arith

-- octets that answer nothing
pub at-octets : (client : ClientStream) (server : List ℕ) (pairs : List Paired) (left : Unpaired) (index : ℕ) (class : PairClass) (line : Option (List ℕ)) (octets first : List ℕ)
    → AreNext (streams client server) pairs left → StopsHere left index class line octets → (of : Class) → of ≡ class_of class → IsFirstLine octets first
    → StopsAt client server index of (option_map shown line) (shown first)
at-octets client server pairs left index class line octets first before stop of of-is is-first = record {
  pairs = pairs;
  left = left;
  before = before;
  place = stop.index_is ∙ index-counts client server pairs left before;
  some = stop.ends.0;
  suits = subst (λ c. SuitsClass c left) (sym of-is) (of-pair class left stop.ends.1);
  command_is = ap (option_map shown) stop.line_is;
  line = first;
  first = stop.first first is-first;
  reply_is = refl;
}

-- ---- what a verdict says

-- an exchange that isn't accepted is bad, of its class
pub exchange-right : (profile : Profile) (before : List Recorded) (session : Recorded) (more : List Recorded) (old new : FactsKept) (left behind : Unpaired) (x : Paired)
    (noted : Noted) (class : Class) → PassedOfAll profile before session old left → IsNext left x behind → Notes profile old new x noted → Some class ≡ class_noted noted
    → (k : ℕ) → k ≡ x.index → IsOutcomeOfAll profile (before ++ session ∷ more) (NoOfAll (length before) k class)
exchange-right profile before session more old new left behind x noted class p next notes judged k at = search (place, by)
  where
    place : k ≡ length p.pairs
    place = at ∙ next.index ∙ index-counts session.client session.server p.pairs left p.next

    by : (noted : Noted) → Some class ≡ class_noted noted → IsNotedBehind profile p.earlier p.pairs x old new noted
        → IsOutcomeOfAll profile (before ++ session ∷ more) (NoOfAll (length before) (length p.pairs) class)
    by kinds.Consistent judged h = cc
    by kinds.OutOfPlace judged h =
        let same : OutOfPlace ≡ class = cc in
        subst (λ c. IsOutcomeOfAll profile (before ++ session ∷ more) (NoOfAll (length before) (length p.pairs) c)) same
        (passing_unfitting profile before session more old new left behind x p next h)
    by kinds.Contradiction judged h =
        let same : Contradiction ≡ class = cc in
        subst (λ c. IsOutcomeOfAll profile (before ++ session ∷ more) (NoOfAll (length before) (length p.pairs) c)) same
        (passing_contradicted profile before session more old new left behind x p next h)

-- octets that answer nothing are bad, of their class
pub octets-right : (profile : Profile) (before : List Recorded) (session : Recorded) (more : List Recorded) (facts : FactsKept) (left : Unpaired) (class : PairClass)
    → PassedOfAll profile before session facts left → Ends left (pair_end class)
    → (k : ℕ) → k ≡ left.index → (of : Class) → of ≡ class_of class → IsOutcomeOfAll profile (before ++ session ∷ more) (NoOfAll (length before) k of)
octets-right profile before session more facts left class p ends k at of is =
    let place : length p.pairs ≡ k = sym (at ∙ index-counts session.client session.server p.pairs left p.next) in
    subst (λ (x : ℕ × Class). IsOutcomeOfAll profile (before ++ session ∷ more) (NoOfAll (length before) x.0 x.1)) (λ i. (place i, sym is i))
    (passing_stops profile before session more facts left class p ends)

-- limits of which the greatest numbers are one are one
same-limit : (limit other : Limit) → greatest limit ≡ greatest other → limit ≡ other
same-limit limit other e = grind arith

-- facts that are judged by a limit hold it
limit-kept : (limit : Limit) (marks : Marks) (facts : FactsKept) (earlier : List (List Paired)) (past : List Paired) → HasNotedBehind (profile_of limit marks) facts earlier past → facts.limit ≡ limit
limit-kept limit marks facts earlier past noted = same-limit facts.limit limit (ap (λ (p : Profile). p.limit) noted.profile_is)

-- as many sessions have ended as there are numbers of answers
pub as-many-ended : (before : List Recorded) (earlier : List (List Paired)) (answers : List ℕ) → ArePaired before earlier → answers ≡ map length earlier → length answers ≡ length before
as-many-ended before earlier answers ended are = ap length are ∙ length-map earlier length ∙ sym (as_many_sessions before earlier ended)

-- where all sessions have ended, and the spool is a witness of their exchanges, it is a yes
pub at-end : (limit : Limit) (marks : Marks) (sessions : List Recorded) (facts : FactsKept) (answers : List ℕ) (L : LimitedSpool) → (e : HaveEnded (profile_of limit marks) sessions facts answers)
    → IsWitnessWithin facts.limit (profile_of limit marks) e.earlier [] L → IsWritten L → IsVerdictOfAll limit marks sessions (consistent_of_all L answers)
at-end limit marks sessions facts answers L e witness written =
    let profile = profile_of limit marks in
    let said = append-nil (facts_of_all marks (map exchanged e.earlier)) in
    let all = facts_behind marks (map exchanged e.earlier) (exchanged []) ∙ said in
    let small = subst (λ facts. size facts < 2 ^ 210) all (small_behind marks e.earlier [] e.stands.sessions e.stands.earlier_few (record { lines = tt; few = omega arith })) in
    subst (λ ns. IsVerdictOfAll limit marks sessions (consistent_of_all L ns)) (sym e.answers_are)
    (verdict_at_ends limit marks sessions e.earlier L (witness.1 ∙ limit-kept limit marks facts e.earlier [] e.stands) (written_is_read L written) e.ended
    (earlier_permitted profile facts e.earlier [] e.stands) small (subst (λ facts. IsGiven facts L.spool) said witness.0.given))

-- what is so of a judgement is so of a verdict that shows it
pub told : {A E : Type 0} (r : Result (SessionsVerdict A) E) (P : JudgementOfAll → Type 0) (j : JudgementOfAll) → P j → IfOk r (λ v. sessions_verdict_shown v ≡ j)
    → IfOk r (λ v. P (sessions_verdict_shown v))
told r P j p ok = grind arith

-- a no of the session behind those that ended, of which this is the number of answers
no-here : (limit : Limit) (marks : Marks) (before : List Recorded) (session : Recorded) (more : List Recorded) (j k : ℕ) (class : Class) (command : Option (List ℕ)) (reply : List ℕ) → j
    ≡ length before
    → IsOutcomeOfAll (profile_of limit marks) (before ++ session ∷ more) (NoOfAll (length before) k class) → StopsAt session.client session.server k class command reply
    → IsVerdictOfAll limit marks (before ++ session ∷ more) (bad_of_all j k class command reply)
no-here limit marks before session more j k class command reply is outcome place = grind (arith, verdict_within)

module _ (limit : Limit) (marks : Marks) (before : List Recorded) (session : Recorded) (answers : List ℕ) where
  -- an exchange that isn't accepted, with what is shown of it, is a verdict
  pub refused : (old new : FactsKept) (left behind : Unpaired)
      (x : Paired) (noted : Noted) (class : Class) → Passed (profile_of limit marks) before session old answers left → IsNext left x behind
      → Notes (profile_of limit marks) old new x noted → Some class ≡ class_noted noted → (j : ℕ) → j ≡ length answers → (k : ℕ) → k ≡ x.index
      → (line : Option (List ℕ)) → line ≡ x.place.line → (initial : List ℕ) → initial ≡ x.initial
      → IsVerdictFrom limit marks before session (bad_of_all j k class (option_map shown line) (shown initial))
  refused old new left behind x noted class p next notes judged j is k at line line-is initial initial-is more =
      no-here limit marks before session more j k class (option_map shown line) (shown initial) (is ∙ as-many-ended before p.passed.earlier answers p.passed.ended p.answers_are)
      (exchange-right (profile_of limit marks) before session more old new left behind x noted class p.passed next notes judged k at)
      (at-exchange session.client session.server p.passed.pairs left behind x noted class p.passed.next next judged k at line line-is initial initial-is)

  -- and so are octets that answer nothing
  pub stopped : (facts : FactsKept) (left : Unpaired) (index : ℕ) (class : PairClass) (line : Option (List ℕ)) (octets first : List ℕ)
      → Passed (profile_of limit marks) before session facts answers left → StopsHere left index class line octets → (j : ℕ) → j ≡ length answers → (of : Class)
      → of ≡ class_of class → IsFirstLine octets first
      → IsVerdictFrom limit marks before session (bad_of_all j index of (option_map shown line) (shown first))
  stopped facts left index class line octets first p stop j is of of-is is-first more =
      no-here limit marks before session more j index of (option_map shown line) (shown first) (is ∙ as-many-ended before p.passed.earlier answers p.passed.ended p.answers_are)
      (octets-right (profile_of limit marks) before session more facts left class p.passed stop.ends index stop.index_is of of-is)
      (at-octets session.client session.server p.passed.pairs left index class line octets first p.passed.next stop of of-is is-first)

-- ---- from one session to the next

-- a session has ended where no octet is left
pub ends : (profile : Profile) (before : List Recorded) (session : Recorded) (old new : FactsKept) (answers counts : List ℕ) (n unanswered : ℕ) (left : Unpaired)
    → Passed profile before session old answers left
    → n ≡ left.index → Ends left (end unanswered) → counts ≡ answers ++ n ∷ [] → length counts < 2 ^ 64 → new ≡ begun old → HaveEnded profile (before ++ session ∷ []) new counts
ends profile before session old new answers counts n unanswered left p at ended pushed few is =
    let q = p.passed in
    let count : n ≡ length q.pairs = at ∙ index-counts session.client session.server q.pairs left q.next in
    let many = ap length pushed ∙ length-append answers (n ∷ []) in
    let earlier = ap length p.answers_are ∙ length-map q.earlier length in
    record {
      earlier = q.earlier ++ q.pairs ∷ [];
      ended = paired_push before q.earlier session q.pairs q.ended (unanswered, record { left = left; paired = q.next; ends = ended });
      answers_are = pushed ∙ ap₂ (λ ns n. ns ++ n ∷ []) p.answers_are count ∙ sym (map-append length q.earlier (q.pairs ∷ []));
      stands = subst (λ facts. HasNotedBehind profile facts (q.earlier ++ q.pairs ∷ []) []) (sym is) (session_begins profile old q.earlier q.pairs q.stands (omega (arith, few, many, earlier)));
    }

-- what a verdict says from here on is the verdict on all sessions
pub from-here : (limit : Limit) (marks : Marks) (sessions : List Recorded) (i : ℕ) (s : Recorded) (j : JudgementOfAll) → i < length sessions → s ≡ get_or sessions i s
    → IsVerdictFrom limit marks (take i sessions) s j → IsVerdictOfAll limit marks sessions j
from-here limit marks sessions i s j within is verdict =
    let next : take i sessions ++ s ∷ drop (i + 1) sessions ≡ sessions = grind (arith, drop_more, take-append-drop) in
    subst (λ sessions. IsVerdictOfAll limit marks sessions j) next (verdict (drop (i + 1) sessions))

-- one session more of those that have ended
pub ended-next : (profile : Profile) (sessions : List Recorded) (i : ℕ) (s : Recorded) (facts : FactsKept) (answers : List ℕ) → i < length sessions → s ≡ get_or sessions i s
    → HaveEnded profile (take i sessions ++ s ∷ []) facts answers → HaveEnded profile (take (i + 1) sessions) facts answers
ended-next profile sessions i s facts answers within is e = grind (arith, take_more)

-- and of all of them
pub ended-all : (profile : Profile) (sessions : List Recorded) (i : ℕ) (facts : FactsKept) (answers : List ℕ) → length sessions ≤ i
    → HaveEnded profile (take i sessions) facts answers → HaveEnded profile sessions facts answers
ended-all profile sessions i facts answers past e = subst (λ sessions. HaveEnded profile sessions facts answers) (take_all i sessions past) e

-- of one session, what is said of several is what is said of that
pub alone : (limit : Limit) (marks : Marks) (client : ClientStream) (server : List ℕ) (j : JudgementOfAll) → IsVerdictOfAll limit marks (record { client = client; server = server } ∷ []) j
    → IsVerdict limit marks client server (verdict_of_last j)
alone limit marks client server (consistent_of_all L []) v = absurd v.throughout
alone limit marks client server (consistent_of_all L (n ∷ [])) v = (one_session_verdict limit marks (record { client = client; server = server }) (consistent L n)).0 v
alone limit marks client server (consistent_of_all L (n ∷ m ∷ ns)) v = absurd v.throughout.1
alone limit marks client server (bad_of_all zero k class command reply) v = (one_session_verdict limit marks (record { client = client; server = server }) (bad k class command reply)).0 v
alone limit marks client server (bad_of_all (suc j) k class command reply) v = absurd v.outcome.0

-- ---- what is told

-- what follows of each value from what is so of it
pub told_of : {T E : Type 0} (r : Result T E) (P Q : T → Type 0) → IfOk r P → ((v : T) → P v → Q v) → IfOk r Q
told_of r P Q p then = grind arith

-- where a verdict is told it is so of it, and else of what is left
pub refuses : {A : Type 0} (told : Option (SessionsVerdict A)) (v : SessionsVerdict A) (N : Type 0) (P : SessionsVerdict A → Type 0) → told ≡ Some v → MatchOption told N P → P v
refuses told v N P is h = subst (λ o. MatchOption o N P) is h

pub passes : {A : Type 0} (told : Option (SessionsVerdict A)) (N : Type 0) (P : SessionsVerdict A → Type 0) → told ≡ None → MatchOption told N P → N
passes told N P is h = subst (λ o. MatchOption o N P) is h
