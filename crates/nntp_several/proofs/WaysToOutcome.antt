-- How the pairings of sessions, and whether some spool permits their exchanges, lead to the outcome.
use Rattle.std.proofs.{Common.{◌≡◌, ◌<◌, ◌^◌, List, [], ◌∷◌, ◌++◌, length, map, sym, ap, ap₂, subst, ◌∙◌, arith}, lemmas.List.{length-map}}
use Rattle.nntp_wire.specs.Session.{prompts_of}
use Rattle.nntp_article.specs.{Session.{Spool.{Spool}, Machine.{Run, start, fits}}, declared.session.profile.Profile.{Profile}}
use Rattle.nntp_pair.specs.{declared.class.PairClass.{PairClass}, Pairing.{Paired, Unpaired, IsNext, AreNext, end, bad, IsPairing, asked_at, asked_of}}
use Rattle.nntp_pair.specs.{Pairing.{responses_of, streams}, Classes.{class_of}}
use Rattle.nntp_theory.specs.{Classes.{visible_from, class_by}, Given.{IsGiven, facts_of_session}, Inner.Given.{size}, Answered.{SomePermitsEach, facts_of_all}}
use Rattle.nntp_theory.{specs.Permitted.{exchanged, ArePermittedBehind}, proofs.Session.OneMoreAnswer.{facts_by_pairs, pairs_run}}
use Rattle.nntp_theory.proofs.Streams.{ExplainedPairs.{by_all_pairs}, PairedStreams.{explained_end}}
use Rattle.nntp_several.specs.{Outcome.{YesOfAll, NoOfAll, IsLeastOfAll, IsOutcomeOfAll}, Inner.Paired.{ArePaired}, Sessions.{Recorded, ExplainsEach}}
use Rattle.nntp_several.{specs.Sessions.{answered_by, counts_of}, proofs.{OneOutcomeOfAll.{given_explains_all}, SessionsRead.{Follows, octets_here, pair_here}}}
use Rattle.nntp_several.proofs.SessionsRead.{outcome_at}

-- to permit the exchanges of sessions is to explain these
pub follows : (profile : Profile) (sessions : List Recorded) (exchanges : List (List Paired)) → ArePaired sessions exchanges → Follows profile exchanges sessions
follows profile (s ∷ more) (pairs ∷ exchanges) ((unanswered, pairing), p) S spool =
    let rest = follows profile more exchanges p S spool in
    let runs = pairs_run profile S s.client s.server pairs pairing.left pairing.paired in (
      λ h. ((length pairs, explained_end profile S s.client s.server pairs unanswered pairing spool (runs.1 h.0)), rest.0 h.1),
      λ x.
          let answers = (by_all_pairs profile S s.client s.server x.0.0 pairs (end unanswered) pairing x.0.1).0 in
          (runs.0 (subst (λ answers. Run profile S start (prompts_of s.client) answers) (sym answers) x.0.1.run), rest.1 x.1),
    )
follows profile sessions exchanges p h spool = grind arith

-- they say what the explained answers say
facts_alike : (profile : Profile) (S : Spool) (sessions : List Recorded) (exchanges : List (List Paired)) → ArePaired sessions exchanges → (x : ExplainsEach profile S sessions)
    → facts_of_all profile.marks (map exchanged exchanges) ≡ facts_of_all profile.marks (answered_by profile S sessions x)
facts_alike profile S (s ∷ more) (pairs ∷ exchanges) ((unanswered, pairing), p) x =
    let rest = facts_alike profile S more exchanges p x.1 in
    let answers = (by_all_pairs profile S s.client s.server x.0.0 pairs (end unanswered) pairing x.0.1).0 in
    let here = sym (facts_by_pairs profile.marks s.client s.server pairs pairing.left pairing.paired) ∙ ap (facts_of_session profile.marks (prompts_of s.client)) answers in
    ap₂ (λ own others. own ++ others) here rest
facts_alike profile S sessions exchanges p x = grind arith

-- and are as many
counts_alike : (profile : Profile) (S : Spool) (sessions : List Recorded) (exchanges : List (List Paired)) → ArePaired sessions exchanges → (x : ExplainsEach profile S sessions)
    → counts_of (answered_by profile S sessions x) ≡ map length exchanges
counts_alike profile S (s ∷ more) (pairs ∷ exchanges) ((unanswered, pairing), p) x =
    let answers = (by_all_pairs profile S s.client s.server x.0.0 pairs (end unanswered) pairing x.0.1).0 in
    let here : length x.0.1.answers ≡ length pairs = sym (ap length answers) ∙ length-map pairs (λ pair. pair.response) in
    ap₂ (λ n ns. n ∷ ns) here (counts_alike profile S more exchanges p x.1)
counts_alike profile S sessions exchanges p x = grind arith

-- at the end of all sessions
pub outcome_at_all_ends : (profile : Profile) (sessions : List Recorded) (exchanges : List (List Paired)) (G : Spool)
    → size (facts_of_all profile.marks (map exchanged exchanges)) < 2 ^ 210 → ArePaired sessions exchanges → SomePermitsEach profile (map exchanged exchanges)
    → IsGiven (facts_of_all profile.marks (map exchanged exchanges)) G → IsOutcomeOfAll profile sessions (YesOfAll G (map length exchanges))
outcome_at_all_ends profile sessions exchanges G small p (S, spool, h) given =
    let x = (follows profile sessions exchanges p S spool).0 h in
    let facts = facts_alike profile S sessions exchanges p x in
    subst (IsLeastOfAll profile sessions G) (counts_alike profile S sessions exchanges p x)
    (given_explains_all profile S G sessions (spool, x) (subst (λ facts. size facts < 2 ^ 210) facts small) (subst (λ facts. IsGiven facts G) facts given))

-- below, sessions are paired to their ends, and their exchanges permitted; then comes a session
module _ (profile : Profile) (before : List Recorded) (earlier : List (List Paired)) (paired : ArePaired before earlier) (s : Recorded) (more : List Recorded) where
  -- at octets that answer nothing
  pub outcome_at_octets_of_all : (h : SomePermitsEach profile (map exchanged earlier)) (pairs : List Paired) (class : PairClass) → IsPairing s.client s.server pairs (bad class)
      → ArePermittedBehind profile earlier pairs
      → IsOutcomeOfAll profile (before ++ s ∷ more) (NoOfAll (length before) (length pairs) (class_of class))
  outcome_at_octets_of_all h pairs class pairing permitted =
      let is = octets_here profile earlier before (follows profile before earlier paired) h s pairs class pairing permitted in
      outcome_at profile before s more (length pairs) (class_of class) is.0 is.1

  -- at a response that no spool permits behind them
  pub outcome_at_response_of_all : (h : SomePermitsEach profile (map exchanged earlier)) (pairs : List Paired) (pair : Paired) (between after : Unpaired)
      → AreNext (streams s.client s.server) pairs between → IsNext between pair after → ArePermittedBehind profile earlier pairs → (ArePermittedBehind profile earlier (pairs ++ pair ∷ []) → ⊥)
      → IsOutcomeOfAll profile (before ++ s ∷ more)
      (NoOfAll (length before) (length pairs) (class_by (fits profile (visible_from start.visible (asked_of pairs) (responses_of pairs)) (asked_at pair.place) pair.response)))
  outcome_at_response_of_all h pairs pair between after first next permitted none =
      let is = pair_here profile earlier before (follows profile before earlier paired) h s pairs pair between after first next permitted none in
      outcome_at profile before s more (length pairs) _ is.0 is.1
