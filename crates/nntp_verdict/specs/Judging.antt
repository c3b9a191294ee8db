-- What a verdict on sessions says, and where it stands: at the ends of their pairings, or at the exchange or the octets that are bad (RFC 3977, section 3.5).
use Rattle.std.specs.{Prelude.{◌≡◌, ◌≢◌, ℕ, List, [], Option, None, Some, MatchOption, Ok, length, slice_get}, Option.{option_map}}
use Rattle.nntp_wire.specs.{declared.{limit.Limit.{Limit}, marks.Marks.{Marks}}, Session.{ClientStream}}
use Rattle.nntp_pair.specs.{Pairing.{Paired, Unpaired, AreNext, IsBad, IsPairing, end, line_ahead, streams, HasNext}, declared.class.PairClass.{PairClass}}
use Rattle.nntp_pair.specs.declared.class.Class.{Class, TheVariants.{Surplus, Cut, Malformed, OutOfPlace, Contradiction}}
use Rattle.nntp_theory.specs.Outcome.{Yes, No, IsOutcome}
use Rattle.nntp_article.specs.{declared.session.profile.Profile.{Profile}, Session.Limit.{profile_of}}
use Rattle.nntp_store.specs.{Limited.{LimitedSpool}, Reading.{spool_at}, Text.{spool_text}}
use Rattle.nntp_spool.specs.{Verifying.{IsVerified}, declared.verification.verified.Verified.{Verified, TheVariants.{Permits}}}
use Rattle.nntp_several.specs.{Outcome.{YesOfAll, NoOfAll, IsOutcomeOfAll}, Sessions.{Recorded, OfEach}, Verifying.{VerifiedOfAll, PermitsAll, IsVerifiedOfAll}}
use Rattle.nntp_printing.specs.BadAnswer.{IsFirstLine, shown}
use Rattle.nntp_verdict.specs.Verdict.{Judgement, consistent, bad, JudgementOfAll, consistent_of_all, bad_of_all}
use Rattle.nntp_pair.specs.declared.class.PairClass.TheVariants as pair

-- the class of octets that answer nothing: the other classes are of an exchange
abbrev pub pair_class_of : Class → Option PairClass
pair_class_of Surplus = Some pair.Surplus
pair_class_of Cut = Some pair.Cut
pair_class_of Malformed = Some pair.Malformed
pair_class_of OutOfPlace = None
pair_class_of Contradiction = None

-- what is left suits the class of a bad answer: octets that answer nothing, or an exchange
abbrev pub SuitsClass : Class → Unpaired → Type 0
SuitsClass class left = MatchOption (pair_class_of class) (HasNext left) (λ c. IsBad c left)

-- behind so many exchanges octets are left, and the verdict shows the command and the reply there
pub record StopsAt (client : ClientStream) (server : List ℕ) (answer : ℕ) (class : Class) (command : Option (List ℕ)) (reply : List ℕ) : Type 0 where
  pub pairs : List Paired
  pub left : Unpaired
  pub before : AreNext (streams client server) pairs left
  pub place : answer ≡ length pairs
  pub some : left.server ≢ []
  pub suits : SuitsClass class left
  pub command_is : command ≡ option_map shown (line_ahead left.places)
  pub line : List ℕ
  pub first : IsFirstLine left.server line
  pub reply_is : reply ≡ shown line

-- the pairing of both streams ends with no octet left, behind so many exchanges
pub record IsAnsweredThroughout (client : ClientStream) (server : List ℕ) (answers : ℕ) : Type 0 where
  pub pairs : List Paired
  pub unanswered : ℕ
  pub pairing : IsPairing client server pairs (end unanswered)
  pub count : answers ≡ length pairs

-- a yes of both streams: the spool has the limit, and is their least explanation, of so many answers, at which their
-- pairing ends; it is read back from its text; and `verify` answers nothing of it but that it permits them
pub record IsYes (limit : Limit) (marks : Marks) (client : ClientStream) (server : List ℕ) (L : LimitedSpool) (answers : ℕ) : Type 0 where
  pub limit_is : L.limit ≡ limit
  pub outcome : IsOutcome (profile_of limit marks) client server (Yes L.spool answers)
  pub throughout : IsAnsweredThroughout client server answers
  pub read_back : spool_at (spool_text L) ≡ Ok L
  pub permits : (verified : Verified) → IsVerified (profile_of limit marks) L.spool client server verified → verified ≡ Permits answers

-- a no: the answer is the bad one, of its class, and the command and the reply are those at its place
pub record IsNo (profile : Profile) (client : ClientStream) (server : List ℕ) (answer : ℕ) (class : Class) (command : Option (List ℕ)) (reply : List ℕ) : Type 0 where
  pub outcome : IsOutcome profile client server (No answer class)
  pub place : StopsAt client server answer class command reply

-- what a verdict says of both streams is so, where article numbers are within the limit, and marks are read so
abbrev pub IsVerdict : Limit → Marks → ClientStream → List ℕ → Judgement → Type 0
IsVerdict limit marks client server (consistent L answers) = IsYes limit marks client server L answers
IsVerdict limit marks client server (bad answer class command reply) = IsNo (profile_of limit marks) client server answer class command reply

-- ---- of several sessions

-- a yes of all sessions: the spool has the limit, and is their least explanation, of so many answers of each, at which
-- their pairings end; it is read back from its text; and `verify_sessions` answers nothing of it but that it permits them
pub record IsYesOfAll (limit : Limit) (marks : Marks) (sessions : List Recorded) (L : LimitedSpool) (answers : List ℕ) : Type 0 where
  pub limit_is : L.limit ≡ limit
  pub outcome : IsOutcomeOfAll (profile_of limit marks) sessions (YesOfAll L.spool answers)
  pub throughout : OfEach (λ s n. IsAnsweredThroughout s.client s.server n) sessions answers
  pub read_back : spool_at (spool_text L) ≡ Ok L
  pub permits : (verified : VerifiedOfAll) → IsVerifiedOfAll (profile_of limit marks) L.spool sessions verified → verified ≡ PermitsAll answers

-- a no: the answer is the bad one, of its class, and the command and the reply are those at its place
pub record IsNoOfAll (profile : Profile) (sessions : List Recorded) (j k : ℕ) (class : Class) (command : Option (List ℕ)) (reply : List ℕ) : Type 0 where
  pub outcome : IsOutcomeOfAll profile sessions (NoOfAll j k class)
  pub place : MatchOption (slice_get sessions j) ⊥ (λ s. StopsAt s.client s.server k class command reply)

-- what a verdict says of sessions is so, where article numbers are within the limit, and marks are read so
abbrev pub IsVerdictOfAll : Limit → Marks → List Recorded → JudgementOfAll → Type 0
IsVerdictOfAll limit marks sessions (consistent_of_all L answers) = IsYesOfAll limit marks sessions L answers
IsVerdictOfAll limit marks sessions (bad_of_all j k class command reply) = IsNoOfAll (profile_of limit marks) sessions j k class command reply
