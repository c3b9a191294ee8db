-- How a report goes on, exchange by exchange and session by session.
use Rattle.std.proofs.Common.{◌≡◌, ◌∙◌, sym, ap, refl, subst, ℕ, ◌+◌, ◌^◌, ◌<◌, ◌≤◌, ◌&&◌, Bool, true, false, List, [], ◌∷◌, ◌++◌, length, arith, append_assoc}
use Rattle.std.{proofs.{Common.{length-append}, lemmas.{Bool.{true≢false}, List.{append-nil, flat_map_more, Folds.{list_all-append}}}}, specs.List.{flat_map}}
use Rattle.nntp_pair.specs.{Pairing.{Paired, Unpaired, IsNext, Ends, Ending, bad}, Inner.{Feeding.{Fed, IsFed, IsTaken, IsUntaken, left_of}, Sides.{given}}}
use Rattle.nntp_pair.specs.declared.{class.{PairClass.{PairClass}, Class.{Class}}, pair_error.PairError.{PairError}, side.Side.{Side, TheVariants.{Client}}}
use Rattle.nntp_pair.{specs.{declared.side.Side.TheVariants.{Server}, Classes.{class_of}}, proofs.FedLaws.{fed-paired}}
use Rattle.nntp_printing.specs.{BadAnswer.{bad_line}, Title.{title_line}}
use Rattle.nntp_wire.specs.declared.overviews.Overviews.TheVariants.{Opaque}
use Rattle.nntp_several.specs.{Sessions.{Named, Recorded}, Told.{with_more}}
use Rattle.nntp_check.specs.{Capture.{Captured, session_as, sessions_as, sessions_of}, Inner.{Capture.{IsAlone}, Showing.{AreReported, IsShown, IsShownWhole}}}
use Rattle.nntp_check.specs.{Run.{ShowReports}, Show.{ShownSession, AreShown, IsShownAs, are_answered, exchange_text, ending_line, is_end, session_text}}
use Rattle.nntp_check.specs.Show.{shown_report}
use Rattle.nntp_pair.specs.declared.pair_error.PairError.TheVariants as errors

-- ---- a session

-- one exchange more is shown
pub one-more : (fed new : Fed) (text shown : List ℕ) (x : Paired) (behind : Unpaired) (session : Recorded) → IsShown fed text session → IsNext (left_of fed) x behind
    → ((pairs : List Paired) → IsFed fed session.client session.server pairs → IsFed new session.client session.server (pairs ++ x ∷ []))
    → new.has_failed ≡ fed.has_failed → shown ≡ text ++ exchange_text x → IsShown new shown session
one-more fed new text shown x behind session p next feeds works more = record {
  pairs = p.pairs ++ x ∷ [];
  fed_is = feeds p.pairs p.fed_is;
  works = works ∙ p.works;
  text_is = more ∙ ap (λ octets. octets ++ exchange_text x) p.text_is ∙ flat_map_more exchange_text [] p.pairs x;
}

-- behind the last one the ending is shown
pub at-ending : (fed : Fed) (text shown : List ℕ) (named : Named) (ending : Ending) → IsShown fed text named.session → Ends (left_of fed) ending → shown ≡ text ++ ending_line fed.index ending
    → IsShownWhole named shown (is_end ending)
at-ending fed text shown named ending p ends more =
    let paired = fed-paired fed named.session.client named.session.server p.pairs p.fed_is in
    record {
      shown = record { name = named.name; pairs = p.pairs; ending = ending };
      is_shown = (refl, record { left = left_of fed; paired = paired.0; ends = ends });
      text_is = more ∙ ap (λ octets. octets ++ ending_line fed.index ending) p.text_is ∙ ap (λ n. flat_map exchange_text p.pairs ++ ending_line n ending) paired.1;
      answered_is = refl;
    }

-- the same at octets that answer nothing
pub at-octets : (fed : Fed) (text shown : List ℕ) (named : Named) (class : PairClass) → IsShown fed text named.session → Ends (left_of fed) (bad class)
    → (index : ℕ) → index ≡ fed.index → (of : Class) → of ≡ class_of class → shown ≡ text ++ bad_line index of → IsShownWhole named shown false
at-octets fed text shown named class p ends index at of is more =
    at-ending fed text shown named (bad class) p ends (more ∙ ap (λ c. text ++ bad_line index c) is ∙ ap (λ n. text ++ bad_line n (class_of class)) at)

-- where there is room for octets, none but want of memory keeps a feed from taking them
pub untaken-memory : (error : PairError) (side : Side) (octets : List ℕ) (before after : Fed) (text : List ℕ) (session : Recorded) → IsShown before text session
    → length session.client.octets + length session.server + length octets < 2 ^ 64 → IsUntaken error side octets before after → error ≡ errors.Memory
untaken-memory error side octets before after text session p room is = grind (arith, true≢false)

-- octets that are taken are behind those that came
pub shown-more : (before after : Fed) (side : Side) (octets text : List ℕ) (session : Recorded) → IsTaken side octets before after → IsShown before text session
    → IsShown after text (with_more session (given Client side octets) (given Server side octets))
shown-more before after side octets text session taken p = record {
  pairs = p.pairs;
  fed_is = taken.fed session.client session.server p.pairs p.fed_is;
  works = ap (λ (f : Fed). f.has_failed) taken.value ∙ p.works;
  text_is = p.text_is;
}

-- ---- sessions

-- the title of a session has more than one octet
title-length : (number : ℕ) (name : List ℕ) → 8 ≤ length (title_line number name)
title-length number name = grind (arith, length-append)

-- so a report is longer than there are sessions
report-long : (number : ℕ) (shown : List ShownSession) → length shown + length shown ≤ length (shown_report true number shown)
report-long number [] = omega arith
report-long number (s ∷ shown) = grind (arith, title-length, length-append, report-long (number + 1) shown)

-- and the number of the next one fits
pub many-fits : (many : ℕ) (text : List ℕ) (answered : Bool) (sessions : List Named) → AreReported many text answered sessions → length text < 2 ^ 64 → many + 1 < 2 ^ 64
many-fits many text answered sessions h small = grind (arith, report-long)

-- the report on one session more
report-snoc : (number : ℕ) (shown : List ShownSession) (s : ShownSession)
    → shown_report true number (shown ++ s ∷ []) ≡ shown_report true number shown ++ (title_line (length shown + number) s.name ++ session_text s)
report-snoc number [] s = grind (arith, append-nil)
report-snoc number (x ∷ shown) s = grind (arith, append_assoc, report-snoc (number + 1) shown s)

-- sessions as they are shown, and one more
shown-snoc : (sessions : List Named) (shown : List ShownSession) (named : Named) (s : ShownSession) → AreShown sessions shown → IsShownAs named s → AreShown (sessions ++ named ∷ []) (shown ++ s ∷ [])
shown-snoc [] [] named s are is = (is, tt)
shown-snoc (n ∷ sessions) (x ∷ shown) named s are is = (are.0, shown-snoc sessions shown named s are.1 is)
shown-snoc sessions shown named s are is = grind arith

-- a session that is shown to its end stands behind those that have ended
pub session-ended : (many : ℕ) (before : List ℕ) (were : Bool) (sessions : List Named) (named : Named) (text : List ℕ) (answered : Bool) → AreReported many before were sessions
    → IsShownWhole named text answered
    → AreReported (many + 1) ((before ++ title_line (many + 1) named.name) ++ text) (were && answered) (sessions ++ named ∷ [])
session-ended many before were sessions named text answered h last = grind (arith, shown-snoc, length-append, append_assoc, report-snoc, answered-snoc)
  where
    answered-snoc : (shown : List ShownSession) (s : ShownSession) → (are_answered shown && is_end s.ending) ≡ are_answered (shown ++ s ∷ [])
    answered-snoc shown s = grind (arith, list_all-append)

-- ---- the report on all of them

-- of several
pub several-reported : (c : Captured) (many : ℕ) (text : List ℕ) (answered : Bool) → AreReported many text answered (sessions_of Opaque c.held) → c.is_several ≡ true → ShowReports c text answered
several-reported c many text answered h several = grind arith

-- of the only one
pub one-reported : (c : Captured) (text : List ℕ) (answered : Bool) → IsAlone c → c.is_several ≡ false → IsShownWhole (session_as Opaque c.held.last) text answered → ShowReports c text answered
one-reported c text answered alone one last =
    let s = last.shown in
    record {
      shown = s ∷ [];
      are_shown = subst (λ ended. AreShown (sessions_as Opaque ended ++ session_as Opaque c.held.last ∷ []) (s ∷ [])) (sym (alone one)) (last.is_shown, tt);
      text_is = last.text_is ∙ sym (append-nil (session_text s)) ∙ ap (λ b. shown_report b 1 (s ∷ [])) (sym one);
      answer_is = grind (arith, last.answered_is);
    }
