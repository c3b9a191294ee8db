-- One answer more of the last of several sessions: it is permitted exactly if it fits its own session and what it says joins what all said.
use Rattle.std.proofs.Common.{◌≡◌, ◌*◌, ◌<◌, ◌≤◌, ◌^◌, ◌↔◌, false, IsTrue, List, [], ◌∷◌, ◌++◌, length, map, Some, sym, ap, subst, ◌∙◌, arith, append_assoc}
use Rattle.std.{proofs.{Common.{append-nil}, lemmas.Grind.{flat_map-append}}, specs.List.{AllByRecursion}}
use Rattle.nntp_wire.specs.{Answer.{Asked, Response}, declared.marks.Marks.{Marks}}
use Rattle.nntp_article.specs.{declared.session.profile.Profile.{Profile}, Session.Machine.{start, fits}}
use Rattle.nntp_pair.specs.Pairing.{Paired}
use Rattle.nntp_said.specs.{declared.position.Position.TheVariants.{Nowhere}, Facts.{Fact, facts_of}, Inner.Facts.{FitsAll}}
use Rattle.nntp_theory.specs.{Classes.{visible_from, position_from, asked_next}, Given.{facts_of_session}, Inner.{Given.{size}, Permits.{SomePermits}}}
use Rattle.nntp_theory.specs.{Inner.{Together.{Together, Join}, Exchanged.{AreFew}}, Permitted.{exchanged}, Answered.{Answered, SomePermitsEach, facts_in}}
use Rattle.nntp_theory.{specs.Answered.{facts_of_all}, proofs.{Members.{all_both, all_front, all_back}, Given.FirstBadAnswer.{size-append}}}
use Rattle.nntp_theory.proofs.{Given.SessionsByFacts.{stand_each, permitted_together_of_all, permits_alone}, Ids.SizeOfASession.{session_size, pairs_weight}}
use Rattle.nntp_theory.proofs.{Session.OneMoreAnswer.{facts_grow, fitting_grows}, Together.FactsJoin.{together_more, answer_agrees}}

-- what sessions say, and one more
pub facts_behind : (how : Marks) (earlier : List Answered) (s : Answered) → facts_of_all how (earlier ++ s ∷ []) ≡ facts_of_all how earlier ++ facts_in how s
facts_behind how earlier s = flat_map-append (facts_in how) earlier (s ∷ []) ∙ ap (λ facts. facts_of_all how earlier ++ facts) (append-nil (facts_in how s))

module _ (profile : Profile) (earlier : List Answered) (ps : List Asked) (answers : List Response) (asked : Asked) (response : Response)
    (comes : asked_next ps answers ≡ Some asked) where
  -- the session before it
  abbrev past : Answered
  past = record { prompts = ps; answers = answers }

  -- the session with it
  abbrev next : Answered
  next = record { prompts = ps; answers = answers ++ response ∷ [] }

  -- what was said
  abbrev all : List Fact
  all = facts_of_all profile.marks earlier ++ facts_of_session profile.marks ps answers

  -- what it says
  abbrev new : List Fact
  new = facts_of profile.marks (visible_from start.visible ps answers) (position_from Nowhere ps answers) asked response

  -- behind sessions that some spool permits, some spool permits it exactly if it fits its session and what it says joins what all said
  pub permitted_more_behind : size (facts_of_all profile.marks (earlier ++ next ∷ [])) < 2 ^ 210 → SomePermitsEach profile (earlier ++ past ∷ []) → SomePermitsEach profile (earlier ++ next ∷ [])
      ↔ (((visible_from start.visible ps answers).closed ≡ false) × IsTrue (fits profile (visible_from start.visible ps answers) asked response) × Join all new)
  permitted_more_behind small h =
      let before = stand_each profile h.0 (earlier ++ past ∷ []) h.1 h.2 in
      let grown = fitting_grows profile start.visible ps answers asked response comes in
      let agrees = answer_agrees profile.marks (visible_from start.visible ps answers) (position_from Nowhere ps answers) asked response in
      let joins = together_more all new (subst Together (facts_behind profile.marks earlier past) before.1) agrees in (
        (grind (arith, stand_each, all_back, facts_behind, facts_grow, append_assoc)),
        λ j. (permitted_together_of_all profile (earlier ++ next ∷ []) small).1 (
          all_both Fits earlier (next ∷ []) (all_front Fits earlier (past ∷ []) before.0) (grown.1 ((all_back Fits earlier (past ∷ []) before.0).0, j.0, j.1), tt),
          subst Together (sym (grind (arith, facts_behind, facts_grow, append_assoc))) (joins.1 j.2),
        ),
      )
    where
      Fits : Answered → Type 0
      Fits s = FitsAll profile start.visible s.prompts s.answers

-- behind answers of one session that some spool permits, some spool permits one more exactly if it fits and what it says joins
pub permitted_more : (profile : Profile) (ps : List Asked) (answers : List Response) (asked : Asked) (response : Response) → asked_next ps answers ≡ Some asked
    → size (facts_of_session profile.marks ps (answers ++ response ∷ [])) < 2 ^ 210 → SomePermits profile ps answers → SomePermits profile ps (answers ++ response ∷ [])
    ↔ (((visible_from start.visible ps answers).closed ≡ false) × IsTrue (fits profile (visible_from start.visible ps answers) asked response)
    × Join (facts_of_session profile.marks ps answers) (facts_of profile.marks (visible_from start.visible ps answers) (position_from Nowhere ps answers) asked response))
permitted_more profile ps answers asked response comes small h =
    let before = permits_alone profile (record { prompts = ps; answers = answers }) in
    let after = permits_alone profile (record { prompts = ps; answers = answers ++ response ∷ [] }) in
    let whole = append-nil (facts_of_session profile.marks ps (answers ++ response ∷ [])) in
    let more = permitted_more_behind profile [] ps answers asked response comes (subst (λ facts. size facts < 2 ^ 210) (sym whole) small) (before.1 h) in
    (λ g. more.0 (after.1 g), λ j. after.0 (more.1 j))

-- what few exchanges of each of some sessions say
few_sizes : (how : Marks) (earlier : List (List Paired)) → AllByRecursion AreFew earlier → size (facts_of_all how (map exchanged earlier)) ≤ 2 ^ 129 * length earlier
few_sizes how [] f = omega arith
few_sizes how (pairs ∷ earlier) f = grind (arith, size-append, session_size, pairs_weight, few_sizes how earlier f.1)

-- what few sessions say is small, and there is room for more
pub room_behind : (how : Marks) (earlier : List (List Paired)) (past : List Paired) → length earlier < 2 ^ 64 → AllByRecursion AreFew earlier → AreFew past
    → size (facts_of_all how (map exchanged earlier ++ exchanged past ∷ [])) < 2 ^ 209
room_behind how earlier past count f g = grind (arith, facts_behind, size-append, session_size, pairs_weight, few_sizes)

pub small_behind : (how : Marks) (earlier : List (List Paired)) (past : List Paired) → length earlier < 2 ^ 64 → AllByRecursion AreFew earlier → AreFew past
    → size (facts_of_all how (map exchanged earlier ++ exchanged past ∷ [])) < 2 ^ 210
small_behind how earlier past count f g = let room = room_behind how earlier past count f g in omega (arith, room)
