-- Showing sessions as they come.
use Rattle.std.specs.{Prelude.{◌≡◌, ℕ, Bool, true, false, List, length}, List.{flat_map}}
use Rattle.nntp_pair.specs.{Pairing.{Paired, HasNext}, Inner.Feeding.{Fed, IsFed, left_of}}
use Rattle.nntp_several.specs.Sessions.{Recorded, Named}
use Rattle.nntp_wire.specs.declared.overviews.Overviews.TheVariants.{Opaque}
use Rattle.nntp_check.specs.{Capture.{Held, session_as, sessions_as}, Show.{ShownSession, AreShown, IsShownAs, are_answered, exchange_text, is_end}}
use Rattle.nntp_check.specs.{Show.{session_text, shown_report}, declared.session_printer.SessionPrinter.{SessionPrinter}}

-- octets of both streams of a session came, and the text shows the exchanges of them that have passed
pub record IsShown (fed : Fed) (text : List ℕ) (session : Recorded) : Type 0 where
  pub pairs : List Paired
  pub fed_is : IsFed fed session.client session.server pairs
  pub works : fed.has_failed ≡ false
  pub text_is : text ≡ flat_map exchange_text pairs

-- the text is the report on so many sessions, and tells whether all octets of their servers are answers
pub record AreReported (many : ℕ) (text : List ℕ) (is_answered : Bool) (sessions : List Named) : Type 0 where
  pub shown : List ShownSession
  pub are_shown : AreShown sessions shown
  pub many_is : many ≡ length shown
  pub text_is : text ≡ shown_report true 1 shown
  pub answered_is : is_answered ≡ are_answered shown

-- so it is with what a printer keeps of sessions that have ended
abbrev pub HaveEnded : {A : Type 0} → SessionPrinter A → List Named → Type 0
HaveEnded printer sessions = AreReported printer.many printer.ended.items printer.is_answered sessions

-- behind the sessions that have ended, the printer shows exchanges of the last one
pub record Shows {A : Type 0} (printer : SessionPrinter A) (held : Held) : Type 0 where
  pub ended : HaveEnded printer (sessions_as Opaque held.ended)
  pub name_is : printer.name.items ≡ held.last.name
  pub last : IsShown printer.feed printer.text.items (session_as Opaque held.last).session

-- and it shows all that are whole
abbrev pub ShowsWhole : {A : Type 0} → SessionPrinter A → Held → Type 0
ShowsWhole printer held = Shows printer held × (¬ (HasNext (left_of printer.feed)))

-- the text shows a session to its end, and whether all octets of its server are answers
pub record IsShownWhole (named : Named) (text : List ℕ) (is_answered : Bool) : Type 0 where
  pub shown : ShownSession
  pub is_shown : IsShownAs named shown
  pub text_is : text ≡ session_text shown
  pub answered_is : is_answered ≡ is_end shown.ending
