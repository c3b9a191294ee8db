-- What is said with the words of `Verdict.antt`, and needn't be believed.
use Rattle.std.specs.Prelude.{ℕ, ◌-◌, Bool, true, false, List, [], ◌∷◌, length, slice_get, unwrap_or}
use Rattle.nntp_verdict.specs.Verdict.{Judgement, consistent, bad, JudgementOfAll, consistent_of_all, bad_of_all}

-- some spool was found
abbrev pub is_consistent : Judgement → Bool
is_consistent (consistent spool answers) = true
is_consistent (bad answer class command reply) = false

-- ---- of several

-- a verdict on two streams, as one on the one session that they are
abbrev pub verdict_of_one : Judgement → JudgementOfAll
verdict_of_one (consistent L n) = consistent_of_all L (n ∷ [])
verdict_of_one (bad k class command reply) = bad_of_all 0 k class command reply

-- the last of these numbers, or none of them
abbrev pub last_of : List ℕ → ℕ
last_of ns = unwrap_or (slice_get ns (length ns - 1)) 0

-- a verdict on several, as what it says of the last one, or of the bad answer without its session
abbrev pub verdict_of_last : JudgementOfAll → Judgement
verdict_of_last (consistent_of_all L ns) = consistent L (last_of ns)
verdict_of_last (bad_of_all j k class command reply) = bad k class command reply
