-- A session read to its end: an answer that is bad is passed over, and the next one is judged behind those that were accepted.
use Rattle.std.specs.Prelude.{◌≡◌, ◌≢◌, ℕ, List, [], ◌∷◌, ◌++◌, Option, None, Some}
use Rattle.nntp_article.specs.{declared.session.profile.Profile.{Profile}, Session.Machine.{start, fits}}
use Rattle.nntp_pair.specs.{declared.class.{PairClass.TheVariants.{Malformed as PairMalformed}, Class.{Class, TheVariants.{Malformed}}}, Pairing.{Paired}}
use Rattle.nntp_pair.specs.Pairing.{Unpaired, IsNext, IsPassedOver, Ending, bad, Ends, asked_at, asked_of, responses_of, streams, Place}
use Rattle.nntp_theory.specs.{Classes.{class_by, visible_from}, Permitted.{ArePermitted}}
use Rattle.nntp_wire.specs.Session.{ClientStream}

-- an answer as it is judged: accepted, refused, or a frame that spells nothing, with its place, its line, its initial line and its block
pub data Judged : Type 0 where
  Accepted : (pair : Paired) → Judged
  Refused : (pair : Paired) → Judged
  Unspelled : (index : ℕ) → (place : Place) → (initial : List ℕ) → (block : Option (List ℕ)) → Judged

-- those that are accepted
abbrev pub accepted_of : List Judged → List Paired
accepted_of [] = []
accepted_of (Accepted pair ∷ answers) = pair ∷ accepted_of answers
accepted_of (Refused pair ∷ answers) = accepted_of answers
accepted_of (Unspelled index place initial block ∷ answers) = accepted_of answers

-- these, and the answer if it is accepted
abbrev pub accepted_with : List Paired → Judged → List Paired
accepted_with past (Accepted pair) = past ++ pair ∷ []
accepted_with past (Refused pair) = past
accepted_with past (Unspelled index place initial block) = past

-- the answer comes next, and is judged so behind these that were accepted: a pair is accepted if they stand with it; and then this is left
abbrev pub IsJudged : (List Paired → Type 0) → List Paired → Unpaired → Judged → Unpaired → Type 0
IsJudged Stand past before (Accepted pair) after = IsNext before pair after × Stand (past ++ pair ∷ [])
IsJudged Stand past before (Refused pair) after = IsNext before pair after × (Stand (past ++ pair ∷ []) → ⊥)
IsJudged Stand past before (Unspelled index place initial block) after = (index ≡ before.index) × IsPassedOver before place initial block after

-- the answers come next, one after the other, and are judged so behind these that were accepted; and then this is left
abbrev pub AreJudged : (List Paired → Type 0) → List Paired → Unpaired → List Judged → Unpaired → Type 0
AreJudged Stand past before [] after = before ≡ after
AreJudged Stand past before (answer ∷ answers) after =
    (between : Unpaired) × IsJudged Stand past before answer between × AreJudged Stand (accepted_with past answer) between answers after

-- the class of an answer behind these that were accepted, if it is bad
abbrev pub class_behind : Profile → List Paired → Judged → Option Class
class_behind profile past (Accepted pair) = None
class_behind profile past (Refused pair) = Some (class_by (fits profile (visible_from start.visible (asked_of past) (responses_of past)) (asked_at pair.place) pair.response))
class_behind profile past (Unspelled index place initial block) = Some Malformed

-- the reading of both streams, by which exchanges stand: their answers as they are judged, and how the pairing ends behind them, which isn't at a frame that spells nothing
pub record IsReadingBy (Stand : List Paired → Type 0) (client : ClientStream) (server : List ℕ) (answers : List Judged) (ending : Ending) : Type 0 where
  pub left : Unpaired
  pub judged : AreJudged Stand [] (streams client server) answers left
  pub ends : Ends left ending
  pub passed_over : ending ≢ bad PairMalformed

-- the reading by which exchanges some spool permits
abbrev pub IsReading : Profile → ClientStream → List ℕ → List Judged → Ending → Type 0
IsReading profile client server answers ending = IsReadingBy (ArePermitted profile) client server answers ending
