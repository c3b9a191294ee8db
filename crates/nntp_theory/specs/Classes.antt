-- Why an answer is bad (RFC 3977, sections 3.1, 3.2 and 3.5).
use Rattle.std.specs.Prelude.{◌≡◌, ℕ, Bool, true, false, List, [], ◌∷◌, ◌++◌, length, Option, None, Some, ⊤}
use Rattle.nntp_wire.specs.{Answer.{Asked, Response, Spells}, Session.{prompts_of, Spelled, ClientStream}}
use Rattle.nntp_article.specs.{declared.session.profile.Profile.{Profile}, Session.Machine.{Visible, start, fits, visible_after}}
use Rattle.nntp_said.specs.{Asks.{position_after}, declared.position.Position.{Position}}
use Rattle.nntp_pair.specs.{Pairing.{IsCut, IsMalformed}, declared.class.Class.{Class, TheVariants.{Surplus, Cut, Malformed, OutOfPlace, Contradiction}}}

-- the visible state that answers leave
abbrev pub visible_from : Visible → List Asked → List Response → Visible
visible_from v ps [] = v
visible_from v [] (response ∷ more) = v
visible_from v (asked ∷ ps) (response ∷ more) = visible_from (visible_after v asked response) ps more

-- where answers leave the session in the selected group
abbrev pub position_from : Position → List Asked → List Response → Position
position_from at ps [] = at
position_from at [] (response ∷ more) = at
position_from at (asked ∷ ps) (response ∷ more) = position_from (position_after at asked response) ps more

-- what is asked behind the answers, if anything is
abbrev pub asked_next : List Asked → List Response → Option Asked
asked_next [] answers = None
asked_next (asked ∷ ps) [] = Some asked
asked_next (asked ∷ ps) (response ∷ more) = asked_next ps more

-- the server's octets begin with spellings of k answers, and go on with the rest
pub record AnswersFirst (client : ClientStream) (server : List ℕ) (k : ℕ) : Type 0 where
  pub answers : List Response
  pub octets : List ℕ
  pub rest : List ℕ
  pub count : length answers ≡ k
  pub spelled : Spelled (prompts_of client) answers octets
  pub whole : server ≡ octets ++ rest

-- the octets begin with a spelling of an answer that fits the visible state, or doesn't
pub record BeginsWithAnswer (profile : Profile) (v : Visible) (asked : Asked) (octets : List ℕ) (is_fitting : Bool) : Type 0 where
  pub response : Response
  pub front : List ℕ
  pub rest : List ℕ
  pub spells : Spells asked response front
  pub whole : octets ≡ front ++ rest
  pub fitting : fits profile v asked response ≡ is_fitting

-- the class of octets where this is asked on an open connection
abbrev pub IsOpenClass : Profile → Visible → Asked → List ℕ → Class → Type 0
IsOpenClass profile v asked octets Surplus = ⊥
IsOpenClass profile v asked octets Cut = IsCut asked octets
IsOpenClass profile v asked octets Malformed = IsMalformed asked octets
IsOpenClass profile v asked octets OutOfPlace = BeginsWithAnswer profile v asked octets false
IsOpenClass profile v asked octets Contradiction = BeginsWithAnswer profile v asked octets true

-- the class of octets where the connection may be closed, or nothing may be asked
abbrev pub IsClass : Bool → Profile → Visible → Option Asked → List ℕ → Class → Type 0
IsClass true profile v next octets class = class ≡ Surplus
IsClass false profile v None octets class = class ≡ Surplus
IsClass false profile v (Some asked) octets class = IsOpenClass profile v asked octets class

-- the visible state behind the answers
abbrev pub left_visible : (client : ClientStream) (server : List ℕ) (k : ℕ) → AnswersFirst client server k → Visible
left_visible client server k before = visible_from start.visible (prompts_of client) before.answers

-- the class of answer k, which is bad
pub record HasClass (profile : Profile) (client : ClientStream) (server : List ℕ) (k : ℕ) (class : Class) : Type 0 where
  pub before : AnswersFirst client server k
  pub is_class : IsClass (left_visible client server k before).closed profile (left_visible client server k before)
      (asked_next (prompts_of client) before.answers) before.rest class

-- the answers before k leave the connection closed
pub record IsClosedBefore (client : ClientStream) (server : List ℕ) (k : ℕ) : Type 0 where
  pub before : AnswersFirst client server k
  pub closed : (left_visible client server k before).closed ≡ true

-- no octets that follow can mend a bad answer k of this class: its frame is whole, or the connection is closed before it
abbrev pub IsSettled : ClientStream → List ℕ → ℕ → Class → Type 0
IsSettled client server k Surplus = IsClosedBefore client server k
IsSettled client server k Cut = ⊥
IsSettled client server k class = ⊤

-- the class of an answer that no spool permits together with those before, by whether it fits the visible state
abbrev pub class_by : Bool → Class
class_by true = Contradiction
class_by false = OutOfPlace
