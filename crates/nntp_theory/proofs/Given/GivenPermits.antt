-- The spool that is given for a session permits it.
use Rattle.std.{proofs.Common.{◌<◌, ◌^◌, List}, specs.List.{AllByRecursion}}
use Rattle.nntp_article.specs.{Session.{Spool.{Spool, IsSpool}, Machine.{Run, start}}, declared.session.profile.Profile.{Profile}}
use Rattle.nntp_said.{specs.{declared.position.Position.TheVariants.{Nowhere}, Facts.{Holds}, Inner.Facts.{FitsAll}}, proofs.CurrentArticle.{read_off}}
use Rattle.nntp_said.proofs.{CurrentArticle.{run_from}, FactsHold.{permits_by_facts}}
use Rattle.nntp_theory.specs.{Given.{IsGiven, facts_of_session, HasAtLeast}, Inner.{Given.{size}, Together.{Together}}}
use Rattle.nntp_theory.proofs.{Session.{NumbersOfShownGroups.{session_placed}, FittingFacts.{from_fitting}}, Together.FactsOfASpoolStand.{stand}}
use Rattle.nntp_theory.proofs.Given.GivenHasFacts.{given_has, least_of_facts}
use Rattle.nntp_wire.specs.Answer.{Asked, Response}

-- what a session that a spool permits says, and that it holds of the spool
pub said : (profile : Profile) (S : Spool) (ps : List Asked) (answers : List Response) → Run profile S start ps answers
    → FitsAll profile start.visible ps answers × AllByRecursion (Holds S) (facts_of_session profile.marks ps answers)
said profile S ps answers run = (permits_by_facts profile S start.visible Nowhere ps answers).0 (read_off profile S start.visible Nowhere ps answers run)

-- and back
pub permits : (profile : Profile) (S : Spool) (ps : List Asked) (answers : List Response) → FitsAll profile start.visible ps answers
    → AllByRecursion (Holds S) (facts_of_session profile.marks ps answers) → Run profile S start ps answers
permits profile S ps answers fits holds = run_from profile S start.visible Nowhere ps answers ((permits_by_facts profile S start.visible Nowhere ps answers).1 (fits, holds))

-- what some spool permits fits and stands together
pub stands : (profile : Profile) (S : Spool) (ps : List Asked) (answers : List Response) → IsSpool profile.limit S → Run profile S start ps answers → FitsAll profile start.visible ps answers
    × Together (facts_of_session profile.marks ps answers)
stands profile S ps answers spool run = let says = said profile S ps answers run in (says.0, stand profile.limit S (facts_of_session profile.marks ps answers) spool says.1)

-- the spool that is given for what fits and stands together is a spool and permits the session
pub given_permits : (profile : Profile) (G : Spool) (ps : List Asked) (answers : List Response) → FitsAll profile start.visible ps answers → Together (facts_of_session profile.marks ps answers)
    → size (facts_of_session profile.marks ps answers) < 2 ^ 210 → IsGiven (facts_of_session profile.marks ps answers) G → IsSpool profile.limit G × Run profile G start ps answers
given_permits profile G ps answers fits together small given =
    let facts = facts_of_session profile.marks ps answers in
    let has = given_has profile profile.marks G facts (from_fitting profile start.visible Nowhere ps answers fits) (session_placed profile ps answers fits) together small given in
    (has.0, permits profile G ps answers fits has.1)

-- a spool that permits a session has what the session shows, and as many numbers as are given
pub given_is_least : (profile : Profile) (S G : Spool) (ps : List Asked) (answers : List Response) → IsSpool profile.limit S
    → Run profile S start ps answers → IsGiven (facts_of_session profile.marks ps answers) G → HasAtLeast (facts_of_session profile.marks ps answers) G S
given_is_least profile S G ps answers spool run given = least_of_facts profile S G (facts_of_session profile.marks ps answers) spool (said profile S ps answers run).1 given
