-- What octets spell is well formed.
use Rattle.nntp_wire.proofs.{AnswerLemmas.{says-ways}, ListingLemmas.{active_groups-named, overviews_of-named}, OctetLemmas.{octets-parts}}
use Rattle.nntp_wire.specs.Answer.{Asked, Response, group_is, numbers_are, sends, active_are, plain, Spells, SaysByLines, SaysGroup, SaysNumbers, SaysArticle}
use Rattle.nntp_wire.specs.{Answer.{SaysActive, SaysOverviews, SaysIds, SaysCapabilities, SaysCode, overviews_are}, Octets.{crlf}, declared.marks.Marks.{Marks}}
use Rattle.nntp_wire.specs.{Inner.Octets.{are_octets}, Listing.{active_groups, overviews_of}, Name.{IsGroupName, IsMessageId}, Block.{stuffed, sent, AreClean}}
use Rattle.std.{proofs.Common.{◌≡◌, ℕ, true, IsTrue, List, [], ◌∷◌, ◌++◌, ◌⊎◌, Option, arith}, specs.{Prelude.{IfSome, ⊤}, List.{AllByRecursion}}}
use Rattle.nntp_article.specs.{Session.{Spool.{is_line}, Machine.{Visible}}, declared.session.profile.Profile.{Profile}}
use Rattle.nntp_article.proofs.ArticleLemmas.WordsOfLines.{overview_has_words}
use Rattle.nntp_said.{specs.{declared.position.Position.{Position}, Facts.{Fact, facts_of}}, proofs.Rows.{Row, row}}
use Rattle.nntp_theory.{specs.Inner.Together.{IsProperOverview, IsWellFormed}, proofs.Members.{all_at, all_from}}

-- the lines of octets that send them are lines
sent_lines : (lines : List (List ℕ)) → AreClean lines → are_octets (sent lines) ≡ true → AllByRecursion (λ line. IsTrue (is_line line)) lines
sent_lines [] clean h = tt
sent_lines (line ∷ lines) clean h = grind (arith, octets-parts, sent_lines lines clean.1 (octets-parts (stuffed line ++ crlf) (sent lines) h).1)

-- names, ids and lines of the response are such
abbrev IsProper : Response → Type 0
IsProper (group_is m name) = IsGroupName name
IsProper (numbers_are m name lines) = IsGroupName name
IsProper (sends s) = IsMessageId s.id × IfSome s.block (λ lines. AllByRecursion (λ line. IsTrue (is_line line)) lines)
IsProper (active_are lines) = AllByRecursion (λ line. IsGroupName line.name) (active_groups lines)
IsProper (overviews_are lines) = AllByRecursion IsProperOverview (overviews_of lines)
IsProper (plain code) = ⊤

-- so are those of one that octets and a block say, in whatever way
said_proper : (code : ℕ) (bytes : List ℕ) (block : Option (List (List ℕ))) (response : Response) → IfSome block (λ lines. AllByRecursion (λ line. IsTrue (is_line line)) lines)
    → SaysGroup bytes response ⊎ (SaysByLines (SaysNumbers bytes) block response ⊎ (SaysArticle code bytes block response ⊎ (SaysByLines SaysActive block response
    ⊎ (SaysByLines SaysOverviews block response ⊎ (SaysByLines SaysIds block response ⊎ (SaysByLines (SaysCapabilities code) block response ⊎ SaysCode code response)))))) → IsProper response
said_proper code bytes block response lines h = grind (arith, active_groups-named, all_from, all_at, overviews_of-named, overview_has_words)

-- a row of such a response is well formed
row_formed : {profile : Profile} {v : Visible} {at : Position} {Fits : Type 0} {a : Response} {facts : List Fact} → Row profile v at Fits a facts → IsProper a → AllByRecursion IsWellFormed facts
row_formed r h = grind arith

-- what octets spell says well-formed facts
pub spelled_formed : (how : Marks) (v : Visible) (at : Position) (asked : Asked) (response : Response) (bytes : List ℕ)
    → Spells asked response bytes → IsTrue (are_octets bytes) → AllByRecursion IsWellFormed (facts_of how v at asked response)
spelled_formed how v at asked response bytes s h = row_formed (row (record { limit = 0; marks = how }) v at asked response) (grind (arith, said_proper, octets-parts, says-ways, sent_lines))
