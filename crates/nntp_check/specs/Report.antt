-- What is printed: of a verdict, and of what `verify` answers.
use Rattle.std.specs.{Prelude.{ℕ, ◌+◌, Bool, true, false, if◌then◌else◌, List, [], ◌++◌, length, map, sum, codes, decimal, slice_get, unwrap_or}, FinMap.{len}}
use Rattle.nntp_content.specs.Counts.{numbers_in}
use Rattle.nntp_store.specs.Text.{spool_text}
use Rattle.nntp_several.specs.{Sessions.{Named}, Verifying.{VerifiedOfAll, PermitsAll, RefusesOne}}
use Rattle.nntp_printing.specs.{BadAnswer.{bad_lines}, Title.{title_line}}
use Rattle.nntp_verdict.specs.Verdict.{JudgementOfAll, consistent_of_all, bad_of_all}

-- what is told of several sessions alone
abbrev pub if_several : Bool → List ℕ → List ℕ
if_several is_several text = if is_several then text else []

-- how many answers there are, behind the number of several sessions
abbrev pub answers_text : Bool → List ℕ → List ℕ
answers_text is_several answers = if_several is_several (codes "sessions=" ++ decimal (length answers) ++ codes " ") ++ codes "answers=" ++ decimal (sum answers)

-- what sessions are called
abbrev pub names_of : List Named → List (List ℕ)
names_of sessions = map (λ (s : Named). s.name) sessions

-- the title of this session, counted from 0, by the names of all
abbrev pub title_of : List (List ℕ) → ℕ → List ℕ
title_of names j = title_line (j + 1) (unwrap_or (slice_get names j) [])

-- the report of a verdict: how much explains how many answers, and the spool's text; or which answer is bad, and of several sessions behind the title of its own
abbrev pub report_of : Bool → List (List ℕ) → JudgementOfAll → List ℕ
report_of is_several names (consistent_of_all L answers) =
    codes "consistent " ++ answers_text is_several answers ++ codes " groups=" ++ decimal (len L.spool.groups)
    ++ codes " numbers=" ++ decimal (numbers_in L.spool) ++ codes " articles=" ++ decimal (len L.spool.articles) ++ codes "\n"
    ++ spool_text L
report_of is_several names (bad_of_all j k class command reply) =
    if_several is_several (title_of names j) ++ bad_lines k class command reply

-- the report on a given spool
abbrev pub verified_report : Bool → List (List ℕ) → VerifiedOfAll → List ℕ
verified_report is_several names (PermitsAll answers) = codes "permits " ++ answers_text is_several answers ++ codes "\n"
verified_report is_several names (RefusesOne j k) = if_several is_several (title_of names j) ++ codes "refuses answer " ++ decimal k ++ codes "\n"

-- the spool explains the sessions
abbrev pub is_permitted : VerifiedOfAll → Bool
is_permitted (PermitsAll answers) = true
is_permitted (RefusesOne j k) = false
