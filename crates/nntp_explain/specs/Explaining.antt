-- What `explain` prints of sessions: each bad answer, where its session stands there, and why it is bad.
use Rattle.std.specs.Prelude.{◌≡◌, ℕ, zero, suc, ◌+◌, ◌-◌, ◌*◌, ◌≤◌, ◌==◌, ◌||◌, ◌⊎◌, nat_lt, if◌then◌else◌, cond, Bool, List, [], ◌∷◌, ◌++◌, length, drop}
use Rattle.std.specs.{Prelude.{count_by, map, Option, Some, MatchOption, codes, decimal}, Option.{option_map, option_map_or}}
use Rattle.nntp_wire.specs.{Lines.{lines_of_stream}, declared.{limit.Limit.{Limit}, marks.Marks.{Marks}}, Misspelling.{misspelling}, Session.{ClientStream}}
use Rattle.nntp_article.specs.{Session.{Machine.{Visible, start}, Limit.{profile_of}, Misfit.{misfit}}, declared.session.profile.Profile.{Profile}}
use Rattle.nntp_said.specs.Facts.{Fact}
use Rattle.nntp_theory.specs.{Answered.{facts_in, facts_of_all}, Permitted.{exchanged}, Classes.{visible_from}, Conflict.{Placed, placed_behind, Core, IsFound}}
use Rattle.nntp_theory.specs.{Conflict.{places_of, told, told_with, Point, IsFirstPoint, SomeHas}, Reading.{Judged, Accepted, Refused, Unspelled, accepted_of}}
use Rattle.nntp_theory.specs.Reading.{class_behind, IsReading}
use Rattle.nntp_pair.specs.{Classes.{class_of}, declared.class.{Class.{Class, TheVariants.{Malformed, OutOfPlace, Contradiction}}, PairClass.{PairClass}}}
use Rattle.nntp_pair.specs.{declared.class.PairClass.TheVariants.{Surplus as PairSurplus, Cut as PairCut, Malformed as PairMalformed}, Pairing.{Paired}}
use Rattle.nntp_pair.specs.Pairing.{Unpaired, Ending, end, bad as ends_at, line_ahead, asked_at, asked_of, responses_of, has_line}
use Rattle.nntp_printing.specs.{BadAnswer.{IsFirstLine, bad_lines, shown}, Title.{title_line}}
use Rattle.nntp_several.specs.{Reading.{ReadSession, AreReadings, IsReadingOfAll}, Sessions.{Named, unnamed}}
use Rattle.nntp_explain.specs.{Reasons.{standing_line, unfitting_lines, misspelling_line, cut_line, surplus_lines}, Says.{conflict_lines}, Standing.{cited}}
use Rattle.nntp_explain.specs.Standing.{number_behind, cited_of_all}
use Rattle.nntp_facts.specs.{declared.{standing.Standing.{Standing}, placed.Placed.{Placed as Cited}}, Standing.{standing, stands_of}}

-- the visible state that accepted answers leave
abbrev pub visible_left : List Paired → Visible
visible_left accepted = visible_from start.visible (asked_of accepted) (responses_of accepted)

-- ---- one bad answer

-- which answer is bad, of which class, and the beginnings of the line that it answers and of its initial line
abbrev pub front_lines : ℕ → Class → Option (List ℕ) → List ℕ → List ℕ
front_lines index class line initial = bad_lines index class (option_map shown line) (shown initial)

-- where the session stands, if fewer than a hundred answers are bad before this one
abbrev pub place_lines : ℕ → Standing → List ℕ
place_lines before stands = if nat_lt before 100 then standing_line stands else []

-- the text is what is printed of a bad answer: its lines; and if fewer than a hundred are bad before it, where the session stands, and a reason
abbrev pub IsTold : ℕ → Standing → ℕ → Class → Option (List ℕ) → List ℕ → (List ℕ → Type 0) → List ℕ → Type 0
IsTold before stands index class line initial Reason text =
    (reason : List ℕ) × (text ≡ front_lines index class line initial ++ place_lines before stands ++ reason) × cond (nat_lt before 100) (Reason reason) (reason ≡ [])

-- ---- why it is bad, in the session of the number `here`

-- the text tells of a core what all its answers and the bad one conflict about: the first point of that
abbrev pub TellsCore : ℕ → Profile → Placed → List Cited → Core → List ℕ → Type 0
TellsCore here profile bad answers core text =
    (point : Point) × IsFirstPoint (told_with profile bad (map stands_of answers) (places_of core)) point × (text ≡ conflict_lines here profile.marks point bad answers core)

-- the text tells with which of these answers the bad one conflicts, and about what: at most four, and where there are more, the last of them
abbrev pub IsConflictOf : ℕ → Profile → Placed → List Cited → List ℕ → Type 0
IsConflictOf here profile bad answers text =
    (core : Core) × IsFound profile bad (map stands_of answers) core × MatchOption core.rest (length core.places ≤ 4) (λ bound. length core.places ≡ 4) × TellsCore here profile bad answers core text

-- whether the accepted answers that it conflicts with are looked for: behind so many bad answers and so many accepted ones that it takes little
abbrev pub are_looked_for : ℕ → ℕ → Bool
are_looked_for bad accepted = nat_lt bad 3 || nat_lt (bad * accepted) 20000

-- the text tells, where none is looked for, that the bad answer conflicts with some of these answers, and not with itself; and about what: the first point of what it and all of them say
abbrev pub IsConflictWithSome : ℕ → Profile → List Fact → Placed → List Cited → List ℕ → Type 0
IsConflictWithSome here profile facts bad answers text =
    (point : Point) × SomeHas profile (told profile bad) × IsFirstPoint (facts ++ told profile bad) point
    × (text ≡ conflict_lines here profile.marks point bad answers (record { places = []; rest = Some (length answers) }))

-- the text is the reason of a contradiction to these answers, which say these facts: where none is looked for the conflict is told all the same of one that was told before, and of one with itself
abbrev pub IsContradiction : Bool → Type 0 → ℕ → Profile → List Fact → Placed → List Cited → List ℕ → Type 0
IsContradiction looked_for WasTold here profile facts bad answers text = cond looked_for
    (IsConflictOf here profile bad answers text)
    ((IsConflictOf here profile bad answers text × (WasTold ⊎ (SomeHas profile (told profile bad) → ⊥))) ⊎ IsConflictWithSome here profile facts bad answers text)

-- what the accepted answers of earlier sessions and of this one say of the spool
abbrev pub accepted_facts : Marks → List (List Paired) → List Paired → List Fact
accepted_facts how earlier accepted = facts_of_all how (map exchanged earlier) ++ facts_in how (exchanged accepted)

-- one of these answers of its session was refused that said the same, from the same place
abbrev pub WasRefused : List Judged → Placed → Type 0
WasRefused past bad = (front : List Judged) × (pair : Paired) × (back : List Judged) × (past ≡ front ++ Refused pair ∷ back) × (placed_behind (accepted_of front) pair ≡ bad)

-- the text is the reason of an answer that is refused, by its class, behind so many bad answers, accepted ones of earlier sessions, and these of its own: what doesn't fit is by its own session
-- alone, and what it contradicts is of all
abbrev pub IsReason : Profile → List (List Paired) → ℕ → List Judged → Paired → Class → List ℕ → Type 0
IsReason profile earlier before past pair OutOfPlace text =
    let here = number_behind earlier in
    let accepted = accepted_of past in
    text ≡ option_map_or (unfitting_lines here (cited here accepted) pair.response) (misfit profile (visible_left accepted) (asked_at pair.place) pair.response) []
IsReason profile earlier before past pair Contradiction text =
    let bad = placed_behind (accepted_of past) pair in
    let answers = cited_of_all earlier (accepted_of past) in
    let facts = accepted_facts profile.marks earlier (accepted_of past) in
    IsContradiction (are_looked_for before (length answers)) (WasRefused past bad) (number_behind earlier) profile facts bad answers text
IsReason profile earlier before past pair class text = text ≡ []

-- ---- the answers of a reading, behind these accepted answers of earlier sessions, of which so many answers are bad

-- so many answers are bad before the one at this place, behind these of its session
abbrev pub bad_behind : ℕ → List Judged → ℕ → ℕ
bad_behind before past index = before + (index - length (accepted_of past))

-- the text is what is printed of an answer that is judged behind these of its session: of one that is accepted too nothing
abbrev pub IsExplained : Profile → List (List Paired) → ℕ → List Judged → Judged → List ℕ → Type 0
IsExplained profile earlier before past (Accepted pair) text = text ≡ []
IsExplained profile earlier before past (Refused pair) text =
    let bad = bad_behind before past pair.index in
    MatchOption (class_behind profile (accepted_of past) (Refused pair)) ⊥
    (λ class. IsTold bad (standing (accepted_of past)) pair.index class pair.place.line pair.initial (IsReason profile earlier bad past pair class) text)
IsExplained profile earlier before past (Unspelled index place initial block) text =
    MatchOption (misspelling (asked_at place) initial block) ⊥
    (λ why. IsTold (bad_behind before past index) (standing (accepted_of past)) index Malformed place.line initial (λ reason. reason ≡ misspelling_line why) text)

-- the text is what is printed of answers behind these of their session, one after the other
abbrev pub AreExplained : Profile → List (List Paired) → ℕ → List Judged → List Judged → List ℕ → Type 0
AreExplained profile earlier before past [] text = text ≡ []
AreExplained profile earlier before past (answer ∷ answers) text =
    (front : List ℕ) × (back : List ℕ) × (text ≡ front ++ back)
    × IsExplained profile earlier before past answer front × AreExplained profile earlier before (past ++ answer ∷ []) answers back

-- how many of the answers are bad
abbrev pub count_bad : List Judged → ℕ
count_bad answers = length answers - length (accepted_of answers)

-- the text is why octets that are left answer nothing, by their class and the accepted answers of the session; a frame that spells nothing is passed over instead
abbrev pub IsEndReason : ℕ → PairClass → List Cited → List ℕ → List ℕ → Type 0
IsEndReason here PairSurplus answers octets text = text ≡ surplus_lines here answers
IsEndReason here PairCut answers octets text = text ≡ cut_line (lines_of_stream octets)
IsEndReason here PairMalformed answers octets text = ⊥

-- the text is what is printed of what is left behind the answers: octets that answer nothing are one more bad answer
abbrev pub IsEnded : ℕ → ℕ → List Judged → Unpaired → Ending → List ℕ → Type 0
IsEnded here before answers left (end unanswered) text = text ≡ []
IsEnded here before answers left (ends_at class) text =
    (line : List ℕ) × IsFirstLine left.server line
    × IsTold (before + count_bad answers) (standing (accepted_of answers)) (length answers) (class_of class) (line_ahead left.places) line
    (IsEndReason here class (cited here (accepted_of answers)) left.server) text

-- ---- a session

-- the text is what is printed of the bad answers of a session as it is read
pub record IsSessionExplained (profile : Profile) (earlier : List (List Paired)) (before : ℕ) (read : ReadSession) (left : Unpaired) (text : List ℕ) : Type 0 where
  pub front : List ℕ
  pub explained : AreExplained profile earlier before [] read.answers front
  pub last : List ℕ
  pub ended : IsEnded (number_behind earlier) before read.answers left read.ending last
  pub text_is : text ≡ front ++ last

-- what the last line counts: the answers, those that are bad, and the lines that have none
pub record Counts : Type 0 where
  pub answers : ℕ
  pub bad : ℕ
  pub unanswered : ℕ

-- those of a session as it is read: octets that are left are one more answer, and the lines behind its place have none
abbrev pub counts_behind : List Judged → Unpaired → Ending → Counts
counts_behind answers left (end unanswered) = record { answers = length answers; bad = count_bad answers; unanswered = unanswered }
counts_behind answers left (ends_at class) = record { answers = length answers + 1; bad = count_bad answers + 1; unanswered = count_by has_line (drop 1 left.places) }

abbrev pub counts_of : ReadSession → Unpaired → Counts
counts_of read left = counts_behind read.answers left read.ending

-- what they are printed as
abbrev pub counts_text : Counts → List ℕ
counts_text c = codes "answers=" ++ decimal c.answers ++ codes " bad=" ++ decimal c.bad ++ codes " unanswered=" ++ decimal c.unanswered ++ codes "\n"

-- the text tells of both streams all that is bad, by the limit and the marks; and they are without fault, if no answer is bad
pub record IsExplanation (limit : Limit) (marks : Marks) (client : ClientStream) (server text : List ℕ) (without_fault : Bool) : Type 0 where
  pub read : ReadSession
  pub reading : IsReading (profile_of limit marks) client server read.answers read.ending
  pub lines : List ℕ
  pub explained : IsSessionExplained (profile_of limit marks) [] 0 read reading.left lines
  pub text_is : text ≡ lines ++ codes "end " ++ counts_text (counts_of read reading.left)
  pub without_fault_is : without_fault ≡ ((counts_of read reading.left).bad == 0)

-- ---- several sessions

-- the title of a session, where any of its answers are bad
abbrev pub titled : ℕ → List ℕ → ℕ → List ℕ
titled number name zero = []
titled number name (suc bad) = title_line number name

-- nothing is counted yet
abbrev pub none_counted : Counts
none_counted = record { answers = 0; bad = 0; unanswered = 0 }

-- with what is counted of one session more
abbrev pub counted_with : Counts → Counts → Counts
counted_with before c = record { answers = before.answers + c.answers; bad = before.bad + c.bad; unanswered = before.unanswered + c.unanswered }

-- the text is what is printed of sessions, one after the other, behind these accepted answers of earlier ones, of which so much is counted; and then so much is
abbrev pub AreSessionsExplained : (profile : Profile) (earlier : List (List Paired)) → Counts → (sessions : List Named) (readings : List ReadSession)
    → AreReadings profile earlier (unnamed sessions) readings → List ℕ → Counts → Type 0
AreSessionsExplained profile earlier before [] [] are text after = (text ≡ []) × (after ≡ before)
AreSessionsExplained profile earlier before (s ∷ more) (read ∷ readings) are text after =
    let counts = counts_of read are.0.left in
    (lines : List ℕ) × (back : List ℕ) × (text ≡ titled (number_behind earlier) s.name counts.bad ++ lines ++ back)
    × IsSessionExplained profile earlier before.bad read are.0.left lines
    × AreSessionsExplained profile (earlier ++ accepted_of read.answers ∷ []) (counted_with before counts) more readings are.1 back after
AreSessionsExplained profile earlier before sessions readings are text after = ⊥

-- the text tells of several sessions of one spool all that is bad, by the limit and the marks; and they are without fault, if no answer is bad
pub record IsExplanationOfAll (limit : Limit) (marks : Marks) (sessions : List Named) (text : List ℕ) (without_fault : Bool) : Type 0 where
  pub readings : List ReadSession
  pub are_readings : IsReadingOfAll (profile_of limit marks) (unnamed sessions) readings
  pub lines : List ℕ
  pub counts : Counts
  pub explained : AreSessionsExplained (profile_of limit marks) [] none_counted sessions readings are_readings lines counts
  pub text_is : text ≡ lines ++ codes "end sessions=" ++ decimal (length sessions) ++ codes " " ++ counts_text counts
  pub without_fault_is : without_fault ≡ (counts.bad == 0)
