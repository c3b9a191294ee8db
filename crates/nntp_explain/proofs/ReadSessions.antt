-- How the reading of a session ends, how sessions are read one after the other, and the reports on them.
use Rattle.std.proofs.Common.{◌≡◌, ◌≢◌, ◌∙◌, sym, subst, refl, ap, ℕ, ◌+◌, ◌<◌, ◌^◌, ◌==◌, Bool, List, [], ◌∷◌, ◌++◌, Option, None, Some, length, take, drop}
use Rattle.std.{proofs.{Common.{get_or, arith, append_assoc, append-nil, length-append}, lemmas.List.{take_more, length-take-le}}, specs.Prelude.{count_by}}
use Rattle.std.specs.Prelude.{codes, decimal}
use Rattle.nntp_wire.specs.{declared.{limit.Limit.{Limit}, marks.Marks.{Marks}}, Session.{ClientStream}}
use Rattle.nntp_article.specs.{declared.session.profile.Profile.{Profile}, Session.Limit.{profile_of}}
use Rattle.nntp_pair.specs.{Pairing.{Paired, Unpaired, end, bad as ends_at, Ends, line_ahead, streams, has_line}, declared.class.PairClass.{PairClass}}
use Rattle.nntp_pair.specs.{declared.class.PairClass.TheVariants.{Malformed as PairMalformed}, Classes.{class_of}}
use Rattle.nntp_theory.specs.{Permitted.{ArePermittedBehind}, Reading.{accepted_of, IsReadingBy}}
use Rattle.nntp_facts.specs.{Inner.Noted.{HasNoted}, declared.{standing.Standing.{Standing}, placed.Placed.{Placed as Cited}}}
use Rattle.nntp_facts.proofs.Keeping.NotedSessions.{session_begins}
use Rattle.nntp_printing.specs.BadAnswer.{IsFirstLine}
use Rattle.nntp_several.specs.{Reading.{ReadSession, AreReadings}, Sessions.{Named, unnamed}}
use Rattle.nntp_explain.specs.Explaining.{IsTold, IsEndReason, IsSessionExplained, Counts, counts_of, counts_text, count_bad, titled, none_counted}
use Rattle.nntp_explain.specs.{Explaining.{counted_with, AreSessionsExplained, IsExplanation, IsExplanationOfAll}, Inner.ExplainingView.{Kept, Before, begins}}
use Rattle.nntp_explain.specs.Inner.ExplainingView.{refuses, title_of, accepted_behind, AreKept, AreTold, IsRead, HaveRead, TellsBad}
use Rattle.nntp_explain.{specs.Standing.{number_behind}, proofs.SessionAnswers.{index_behind, cited_in_all, cited_with, behind_push, text_grows, all_counted}}
use Rattle.nntp_explain.proofs.{SessionAnswers.{few_more}, ToldAnswers.{begun_told, own_accepted, title_left}}

-- ---- one session ends

module _ {profile : Profile} {b : Before} {client : ClientStream} {server : List ℕ} {kept : Kept} {text : List ℕ} {left : Unpaired} (t : AreTold profile b client server kept text left) where
  -- where no octet is left
  pub read_at_end : {unanswered : ℕ} → Ends left (end unanswered) → IsRead profile b client server kept text unanswered
  read_at_end {unanswered = unanswered} ends =
      record {
        read = record { answers = t.answers; ending = end unanswered };
        reading = record { left = left; judged = t.judged; ends = ends; passed_over = λ e. absurd (let f : end unanswered ≡ ends_at PairMalformed = e in cc) };
        noted = t.noted;
        accepted_are = t.accepted_are;
        session_is = t.session_is;
        few = t.few;
        bad_are = t.bad_are;
        unanswered_are = refl;
        lines = t.told;
        explained = record { front = t.told; explained = t.explained; last = []; ended = refl; text_is = sym (append-nil t.told) };
        text_is = t.text_is;
      }

  -- at octets that answer nothing
  pub read_at_octets : {new : Kept} {after : List ℕ} {index : ℕ} {class : PairClass} {line : Option (List ℕ)} {octets : List ℕ} {unanswered : ℕ}
      → Ends left (ends_at class) → class ≢ PairMalformed → index ≡ left.index → line ≡ line_ahead left.places → octets ≡ left.server
      → unanswered ≡ count_by has_line (drop 1 left.places) → new ≡ refuses kept
      → ((first : List ℕ) × IsFirstLine octets first
      × TellsBad kept index (class_of class) line first (IsEndReason kept.session class (drop kept.others kept.accepted) octets) text after)
      → IsRead profile b client server new after unanswered
  read_at_octets {index = index} {class = class} {line = line} {octets = octets} {unanswered = unanswered} ends other at line-is octets-is unanswered-is new-is
      (first, is-first, (more, after-is, told)) =
      let count = at ∙ index_behind (ArePermittedBehind profile b.earlier) client server t.answers left t.judged in
      let bad = t.bad_are in
      let few = few_more kept.bad kept.stands index (class_of class) line first _ text (title_of kept) more told t.few in
      subst (λ (q : Kept × List ℕ). IsRead profile b client server q.0 q.1 unanswered) (λ i. (sym new-is i, sym after-is i)) (record {
        read = record { answers = t.answers; ending = ends_at class };
        reading = record { left = left; judged = t.judged; ends = ends; passed_over = λ e. other (cc) };
        noted = t.noted;
        accepted_are = t.accepted_are;
        session_is = t.session_is;
        few = few;
        bad_are = omega (arith, bad);
        unanswered_are = unanswered-is;
        lines = t.told ++ more;
        explained = record {
          front = t.told;
          explained = t.explained;
          last = more;
          ended = (
            first,
            subst (λ o. IsFirstLine o first) octets-is is-first,
            subst (λ (q : ℕ × Standing × ℕ × Option (List ℕ) × ℕ × List Cited × List ℕ). IsTold q.0 q.1 q.2 (class_of class) q.3 first (IsEndReason q.4 class q.5 q.6) more)
                (λ i. (bad i, t.stands_there i, count i, line-is i, t.session_is i, own_accepted t i, octets-is i)) told,
          );
          text_is = refl;
        };
        text_is = text_grows (number_behind b.earlier) b.title (count_bad t.answers) b.text t.told (title_of kept) more text t.silent t.text_is (title_left t);
      })

-- ---- one session more

-- of none this is kept
pub kept_first : {profile : Profile} {kept : Kept} → HasNoted profile kept.facts [] → kept.accepted ≡ [] → kept.session ≡ 0 → AreKept profile [] kept
kept_first h accepted-is session-is = search

module _ (profile : Profile) where
  -- it is read behind those before
  pub readings_push : (earlier : List (List Paired)) (sessions : List Named) (readings : List ReadSession) (s : Named) (read : ReadSession)
      → AreReadings profile earlier (unnamed sessions) readings
      → IsReadingBy (ArePermittedBehind profile (accepted_behind earlier readings)) s.session.client s.session.server read.answers read.ending
      → AreReadings profile earlier (unnamed (sessions ++ s ∷ [])) (readings ++ read ∷ [])
  readings_push earlier [] [] s read are reading = (reading, tt)
  readings_push earlier [] (r ∷ readings) s read are reading = absurd are
  readings_push earlier (t ∷ sessions) [] s read are reading = absurd are
  readings_push earlier (t ∷ sessions) (r ∷ readings) s read are reading = (are.0, readings_push (earlier ++ accepted_of r.answers ∷ []) sessions readings s read are.1 reading)

  -- and told behind them
  pub explained_push : (earlier : List (List Paired)) (before : Counts) (sessions : List Named) (readings : List ReadSession) (s : Named) (read : ReadSession)
      (are : AreReadings profile earlier (unnamed sessions) readings)
      (reading : IsReadingBy (ArePermittedBehind profile (accepted_behind earlier readings)) s.session.client s.session.server read.answers read.ending)
      (text lines : List ℕ) (after : Counts) → AreSessionsExplained profile earlier before sessions readings are text after
      → IsSessionExplained profile (accepted_behind earlier readings) after.bad read reading.left lines
      → AreSessionsExplained profile earlier before (sessions ++ s ∷ []) (readings ++ read ∷ []) (readings_push earlier sessions readings s read are reading)
      (text ++ titled (number_behind (accepted_behind earlier readings)) s.name (counts_of read reading.left).bad ++ lines) (counted_with after (counts_of read reading.left))
  unfolding readings_push
  explained_push earlier before [] [] s read are reading text lines after (none, same) is = grind (arith, append-nil)
  explained_push earlier before [] (r ∷ readings) s read are reading text lines after h is = absurd h
  explained_push earlier before (t ∷ sessions) [] s read are reading text lines after h is = absurd h
  explained_push earlier before (t ∷ sessions) (r ∷ readings) s read are reading text lines after (own, back, whole, first, rest) is =
      let counts = counts_of r are.0.left in
      let title = titled (number_behind earlier) t.name counts.bad in
      let last = titled (number_behind (accepted_behind (earlier ++ accepted_of r.answers ∷ []) readings)) s.name (counts_of read reading.left).bad in (
        own,
        back ++ last ++ lines,
        ap (λ t. t ++ last ++ lines) whole ∙ ap (λ t. t ++ lines) (append_assoc (title ++ own) back last) ∙ append_assoc (title ++ own) (back ++ last) lines,
        first,
        explained_push (earlier ++ accepted_of r.answers ∷ []) (counted_with before counts) sessions readings s read are.1 reading back lines after rest is,
      )

-- what a session is read behind, where these were read
abbrev pub behind_these : {profile : Profile} {sessions : List Named} {kept : Kept} {text : List ℕ} {unanswered : ℕ} → HaveRead profile sessions kept text unanswered → List ℕ → Before
behind_these {kept = kept} {text = text} h name = record { earlier = accepted_behind [] h.readings; bad = kept.bad; text = text; title = Some name }

-- one more was read
one_more_read : {profile : Profile} {sessions : List Named} (s : Named) {kept new : Kept} {text after : List ℕ} {before unanswered : ℕ} (h : HaveRead profile sessions kept text before)
    → IsRead profile (behind_these h s.name) s.session.client s.session.server new after unanswered → length sessions + 1 < 2 ^ 64
    → HaveRead profile (sessions ++ s ∷ []) new after (before + unanswered)
one_more_read {profile} {sessions} s {new = new} h r few =
    let earlier = accepted_behind [] h.readings in
    let past = accepted_of r.read.answers in
    let push = behind_push [] h.readings r.read in
    let c = counts_of r.read r.reading.left in
    let is = subst (λ n. IsSessionExplained profile earlier n r.read r.reading.left r.lines) h.bad_are r.explained in
    let many = h.as_many in
    record {
      readings = h.readings ++ r.read ∷ [];
      are_readings = readings_push profile [] sessions h.readings s r.read h.are_readings r.reading;
      are_kept = subst (λ earlier. AreKept profile earlier new) (sym push) (record {
        noted = session_begins profile new.facts earlier past r.noted (omega (arith, many, few));
        accepted_are = r.accepted_are ∙ cited_with earlier past;
        session_is = r.session_is ∙ sym (length-append earlier (past ∷ []));
      });
      as_many = grind (arith, length-append);
      few = r.few;
      counts = counted_with h.counts c;
      answers_are = grind (arith, cited_in_all, all_counted);
      bad_are = r.bad_are ∙ ap (λ n. n + c.bad) h.bad_are;
      unanswered_are = ap (λ (q : ℕ × ℕ). q.0 + q.1) (λ i. (h.unanswered_are i, r.unanswered_are i));
      explained = grind (arith, readings_push, explained_push);
    }

-- of a list of sessions the next one was read
pub next_read : {profile : Profile} (sessions : List Named) (i : ℕ) {s : Named} {kept new : Kept} {text after : List ℕ} {before unanswered added : ℕ}
    (h : HaveRead profile (take i sessions) kept text before)
    → i < length sessions → s ≡ get_or sessions i s → length sessions < 2 ^ 64
    → IsRead profile (behind_these h s.name) s.session.client s.session.server new after unanswered → added ≡ unanswered
    → HaveRead profile (take (i + 1) sessions) new after (before + added)
next_read {profile} sessions i {s} {new = new} {after = after} {before = before} h within is few r same =
    let here = take_more sessions i s within ∙ ap (λ s. take i sessions ++ s ∷ []) (sym is) in
    let count = length-take-le i sessions (omega (arith, within)) in
    subst (λ (q : List Named × ℕ). HaveRead profile q.0 new after (before + q.1)) (λ i. (sym here i, sym same i)) (one_more_read s h r (omega (arith, count, within, few)))

-- ---- the reports

-- that of one session, which was read alone, without a title
abbrev pub alone : Before
alone = record { earlier = []; bad = 0; text = []; title = None }

pub told_alone : {profile : Profile} {kept new : Kept} {text after : List ℕ} {client : ClientStream} {server : List ℕ} → AreKept profile [] kept → kept.bad ≡ 0 → text ≡ []
    → new ≡ begins None kept → after ≡ text → AreTold profile alone client server new after (streams client server)
told_alone k bad-is text-is new-is after-is = grind (arith, begun_told)

pub explained_alone : {limit : Limit} {marks : Marks} {client : ClientStream} {server : List ℕ} {kept : Kept} {text label whole : List ℕ} {unanswered printed : ℕ} {good : Bool}
    → IsRead (profile_of limit marks) alone client server kept text unanswered → printed ≡ unanswered → label ≡ text ++ codes "end "
    → whole ≡ label ++ counts_text (record { answers = length kept.accepted + kept.bad; bad = kept.bad; unanswered = printed }) → good ≡ (kept.bad == 0)
    → IsExplanation limit marks client server whole good
explained_alone {kept = kept} r printed-is label-is whole-is good-is =
    let c = counts_of r.read r.reading.left in
    let bad : kept.bad ≡ c.bad = (let all = r.bad_are in omega (arith, all)) in
    let cited = ap length r.accepted_are ∙ cited_in_all [] (accepted_of r.read.answers) in
    let own = all_counted r.read.answers r.reading.left r.read.ending in
    let all : length kept.accepted + kept.bad ≡ c.answers = omega (arith, bad, cited, own) in
    record { read = r.read; reading = r.reading; lines = r.lines; explained = r.explained; text_is = cc; without_fault_is = good-is ∙ ap (λ n. n == 0) bad }

-- that of several
pub explained_all : {limit : Limit} {marks : Marks} {sessions : List Named} {kept : Kept} {text one two whole : List ℕ} {unanswered : ℕ} {good : Bool}
    → HaveRead (profile_of limit marks) sessions kept text unanswered → one ≡ text ++ codes "end sessions=" ++ decimal (length sessions) → two ≡ one ++ 32 ∷ []
    → whole ≡ two ++ counts_text (record { answers = length kept.accepted + kept.bad; bad = kept.bad; unanswered = unanswered }) → good ≡ (kept.bad == 0)
    → IsExplanationOfAll limit marks sessions whole good
explained_all h one-is two-is whole-is good-is = grind arith

-- ---- that of one session as the only one of several

-- the text with the last line of several, which counts this of one
abbrev all_text : List ℕ → Counts → List ℕ
all_text text c = text ++ codes "end sessions=" ++ decimal 1 ++ codes " " ++ counts_text c

-- what is counted of one session alone
counted_alone : (c : Counts) → counted_with none_counted c ≡ c
counted_alone c = grind arith

-- as the only one of several, it has the same lines by itself
pub alone_of_all : (limit : Limit) (marks : Marks) (s : Named) (text : List ℕ) (good : Bool) → IsExplanationOfAll limit marks (s ∷ []) text good
    → (lines : List ℕ) × (c : Counts) × (text ≡ titled 1 s.name c.bad ++ lines ++ codes "end sessions=" ++ decimal 1 ++ codes " " ++ counts_text c)
    × IsExplanation limit marks s.session.client s.session.server (lines ++ codes "end " ++ counts_text c) good
alone_of_all limit marks s text good x = by x.readings x.are_readings x.lines x.counts x.explained x.text_is x.without_fault_is
  where
    by : (readings : List ReadSession) (are : AreReadings (profile_of limit marks) [] (s.session ∷ []) readings) (told : List ℕ) (after : Counts)
        → AreSessionsExplained (profile_of limit marks) [] none_counted (s ∷ []) readings are told after → text ≡ all_text told after → good ≡ (after.bad == 0)
        → (lines : List ℕ) × (c : Counts) × (text ≡ all_text (titled 1 s.name c.bad ++ lines) c)
        × IsExplanation limit marks s.session.client s.session.server (lines ++ codes "end " ++ counts_text c) good
    by [] are told after h whole is = absurd h
    by (r ∷ []) are told after (lines, back, told-is, one, (none, same)) whole is =
        let c = counts_of r are.0.left in
        let title = titled 1 s.name c.bad in (
          lines,
          c,
          whole ∙ ap (λ t. all_text t after) (told-is ∙ ap (λ t. title ++ lines ++ t) none ∙ append-nil (title ++ lines)) ∙ ap (all_text (title ++ lines)) (same ∙ counted_alone c),
          record {
            read = r;
            reading = are.0;
            lines = lines;
            explained = one;
            text_is = refl;
            without_fault_is = is ∙ ap (λ (c : Counts). c.bad == 0) (same ∙ counted_alone c);
          },
        )
    by (r ∷ q ∷ rest) are told after h whole is = absurd are.1

-- and back
pub all_of_alone : (limit : Limit) (marks : Marks) (s : Named) (text : List ℕ) (good : Bool) → IsExplanation limit marks s.session.client s.session.server text good
    → (lines : List ℕ) × (c : Counts) × (text ≡ lines ++ codes "end " ++ counts_text c)
    × IsExplanationOfAll limit marks (s ∷ []) (titled 1 s.name c.bad ++ lines ++ codes "end sessions=" ++ decimal 1 ++ codes " " ++ counts_text c) good
all_of_alone limit marks s text good x =
    let c = counts_of x.read x.reading.left in
    let title = titled 1 s.name c.bad in (
      x.lines,
      c,
      x.text_is,
      record {
        readings = x.read ∷ [];
        are_readings = (x.reading, tt);
        lines = title ++ x.lines;
        counts = c;
        explained = (x.lines, [], sym (append-nil (title ++ x.lines)), x.explained, (refl, sym (counted_alone c)));
        text_is = refl;
        without_fault_is = x.without_fault_is;
      },
    )
