-- The spool that is aimed at: what was said by exchanges that were noted has a given spool, which has all of it and permits them.
use Rattle.std.proofs.Common.{arith, List, [], ◌∷◌, ◌++◌, map, refl, sym, subst}
use Rattle.nntp_article.specs.{declared.session.profile.Profile.{Profile}, Session.Spool.{Spool}}
use Rattle.nntp_pair.specs.Pairing.{Paired}
use Rattle.nntp_theory.specs.{Answered.{Answered}, Given.{IsGiven}, Permitted.{exchanged}, Inner.Exchanged.{said_behind}}
use Rattle.nntp_theory.proofs.Given.{SessionsByFacts.{given_exists_of_all, given_permits_all, made_for_all, said_each, stand_each}, SessionsGoOn.{facts_behind}}
use Rattle.nntp_theory.proofs.Given.SessionsGoOn.{small_behind}
use Rattle.nntp_facts.specs.Inner.Noted.{FactsKept, HasNotedBehind, profile_kept}
use Rattle.nntp_kept_articles.specs.Inner.Articles.{AreKeptArticles}
use Rattle.nntp_said.specs.Facts.{Fact}
use Rattle.nntp_witness.specs.Inner.Witness.{HaveNoted, IsGivenSpool, IsWitness}

-- facts of some exchanges are so by the profile that they hold
pub noted_as_kept : (profile : Profile) (facts : FactsKept) (earlier : List (List Paired)) (past : List Paired) → HasNotedBehind profile facts earlier past
    → HasNotedBehind (profile_kept facts) facts earlier past
noted_as_kept profile facts earlier past noted = subst (λ p. HasNotedBehind p facts earlier past) (sym noted.profile_is) noted

-- what was said is what they say
pub noted_say : (facts : FactsKept) (earlier : List (List Paired)) (past : List Paired) → HasNotedBehind (profile_kept facts) facts earlier past
    → HaveNoted facts (said_behind facts.marks earlier past)
noted_say facts earlier past stands = record { earlier = earlier; past = past; stands = stands; said_is = refl }

-- what is so of what exchanges say that were noted is so of what was said
pub so_of_said : (facts : FactsKept) (said : List Fact) (P : List Fact → Type 0) → HaveNoted facts said
    → ((profile : Profile) (earlier : List (List Paired)) (past : List Paired) → HasNotedBehind profile facts earlier past → P (said_behind profile.marks earlier past)) → P said
so_of_said facts said P noted so = subst P noted.said_is (so (profile_kept facts) noted.earlier noted.past noted.stands)

-- what was said of ids is kept then
pub articles_noted : (facts : FactsKept) (said : List Fact) → HaveNoted facts said → AreKeptArticles said facts.kept.articles
articles_noted facts said noted = so_of_said facts said (λ said. AreKeptArticles said facts.kept.articles) noted (λ profile earlier past stands. stands.kept.articles)

-- exchanges that were noted have a witness
pub aim : (profile : Profile) (facts : FactsKept) (earlier : List (List Paired)) (past : List Paired) → HasNotedBehind profile facts earlier past → (G : Spool) × IsWitness profile earlier past G
aim profile facts earlier past s =
    let sessions : List Answered = map exchanged earlier ++ exchanged past ∷ [] in
    let small = small_behind profile.marks earlier past s.sessions s.earlier_few (record { lines = s.lines; few = s.few }) in
    let fits = stand_each profile s.permitted.0 sessions s.permitted.1 s.permitted.2 in
    let given = given_exists_of_all profile sessions fits.0 small in
    let permits = given_permits_all profile (made_for_all profile sessions) sessions fits.0 fits.1 small given in (
      made_for_all profile sessions,
      record {
        given = subst (λ said. IsGiven said (made_for_all profile sessions)) (facts_behind profile.marks (map exchanged earlier) (exchanged past)) given;
        is_spool = permits.0;
        permits = permits.1;
      },
    )

-- a witness is the given spool of what was said, and has all of it
pub witness_has : (facts : FactsKept) (earlier : List (List Paired)) (past : List Paired) (G : Spool) → IsWitness (profile_kept facts) earlier past G
    → IsGivenSpool facts.limit (said_behind facts.marks earlier past) G
witness_has facts earlier past G witness = grind (arith, facts_behind, said_each)
