-- What is said with the words of `Report.antt`, and needn't be believed.
use Rattle.std.specs.Prelude.{ℕ, ◌<◌, ⊤, List, []}
use Rattle.nntp_store.specs.Text.{spool_text}
use Rattle.nntp_several.specs.Verifying.{VerifiedOfAll, PermitsAll, RefusesOne}
use Rattle.nntp_verdict.specs.Verdict.{JudgementOfAll, consistent_of_all, bad_of_all}

-- what of it stands behind its first lines: the spool's text
abbrev pub text_behind : JudgementOfAll → List ℕ
text_behind (consistent_of_all L answers) = spool_text L
text_behind (bad_of_all j k class command reply) = []

-- the bad answer is one of so many sessions
abbrev pub IsWithin : ℕ → JudgementOfAll → Type 0
IsWithin count (consistent_of_all L answers) = ⊤
IsWithin count (bad_of_all j k class command reply) = j < count

-- the answer that it refuses is one of so many sessions
abbrev pub IsVerifiedWithin : ℕ → VerifiedOfAll → Type 0
IsVerifiedWithin count (PermitsAll answers) = ⊤
IsVerifiedWithin count (RefusesOne j k) = j < count
