-- A contradiction conflicts with what the accepted answers of all sessions say.
use Rattle.nntp_facts.proofs.Base.{◌≡◌, ◌<◌, ◌^◌, IsTrue, List, [], ◌∷◌, ◌++◌, Option, Some, map, refl, sym, ap, subst, ◌∙◌, arith, append_assoc, inl, inr}
use Rattle.nntp_facts.proofs.Base.{AllByRecursion, Asked, Response, Marks, Name, Visible, start, fits, Profile, Fact, group_of, Together, In, all_from, all_at}
use Rattle.nntp_facts.proofs.Base.{all_both, all_back, in_front, in_back, Paired, asked_at, asked_of, responses_of, lines_in, Holds, FitsAll, Contradiction}
use Rattle.nntp_facts.proofs.Base.{Answered, facts_of_all, size, said_behind, exchanged, ArePermittedBehind, Placed, the_group, all_front, in_cases}
use Rattle.nntp_facts.proofs.Base.{size-append, stand_each, facts_behind, as_many, ends, facts_next, FactsKept, IsNotedBehind, AreHeld, placed_behind}
use Rattle.nntp_facts.{proofs.Keeping.{NotedExchange.{stand_together}, ToldAnswers.{told_size}}, specs.Inner.{Noted.{HasNotedBehind, IsDue}, Points.{held_by}}}
use Rattle.nntp_theory.{specs.{Conflict.{told, said as said_there}, Inner.Answered.{FitEach}}, proofs.Conflicts.{there_said, group_fitting}}
use Rattle.nntp_theory.proofs.{PointsOfConflict.{stand_or_conflict}, Given.{GivenPermits.{said}, GivenHasFacts.{given_of_facts, given_has}}}
use Rattle.nntp_theory.proofs.Given.{ConstructedSpool.{made}, SessionsByFacts.{permits_each, all_fitting, all_placed}, SessionsGoOn.{room_behind}}
use Rattle.nntp_theory.proofs.Session.{LaterPrompts.{next_behind, run_longer, visible_longer}, OneMoreAnswer.{as_few, fitting_grows}, FittingFacts.{IsFitting}}
use Rattle.nntp_theory.proofs.Session.{PairsGoOn.{Runs}, NumbersOfShownGroups.{Placed as IsPlaced, IsSelectable}}

-- what is placed among facts is placed among more
wider : (how : Marks) (facts more : List Fact) → ((fact : Fact) → In fact facts → In fact more) → (fact : Fact) → IsPlaced how facts fact → IsPlaced how more fact
wider how facts more sub fact p = grind arith

-- the group of which placed facts speak is one that a 211 selected
group_selectable : (how : Marks) (all own : List Fact) → AllByRecursion (IsPlaced how all) own → (name : Name) → group_of own ≡ Some name → IsSelectable how all name
group_selectable how all [] placed name e = cc
group_selectable how all (fact ∷ own) placed name e = grind (arith, placed.0, group_selectable how all own placed.1 name)

-- so that there is such a group is placed
group_placed : (profile : Profile) (how : Marks) (all : List Fact) (group : Option Name) → ((name : Name) → group ≡ Some name → IsSelectable how all name)
    → AllByRecursion (IsPlaced how all) (the_group profile group)
group_placed profile how all group h = grind arith

module _ (profile : Profile) (facts : FactsKept) (earlier : List (List Paired)) (past : List Paired) (pair : Paired) (s : HasNotedBehind profile facts earlier past) where
  abbrev bad : Placed
  bad = placed_behind past pair

  abbrev before : List Answered
  before = map exchanged earlier

  -- the sessions with it
  abbrev sessions : List Answered
  sessions = before ++ exchanged (past ++ pair ∷ []) ∷ []

  abbrev Fits : Answered → Type 0
  Fits s = FitsAll profile start.visible s.prompts s.answers

  -- what all sessions say with it
  pub said_with : facts_of_all profile.marks sessions ≡ said_behind profile.marks earlier past ++ said_there profile.marks bad
  said_with = grind (arith, facts_behind, ends, facts_next, as_many, there_said, append_assoc)

  module _ (due : IsDue facts pair) (noted : IsNotedBehind profile earlier past pair facts facts Contradiction) where
    -- they fit with it
    pub fit_with : FitEach profile sessions
    fit_with =
        let ps = asked_of past in
        let own = responses_of past in
        let asked = asked_at pair.place in
        let seen = visible_longer start.visible ps (asked ∷ []) own (as_few past) in
        let run = (all_back (Runs profile s.permitted.0) before (exchanged past ∷ []) s.permitted.2).0 in
        let fit = (said profile s.permitted.0 (ps ++ asked ∷ []) own (run_longer profile s.permitted.0 start ps (asked ∷ []) own run)).0 in
        let others = (stand_each profile s.permitted.0 (before ++ exchanged past ∷ []) s.permitted.1 s.permitted.2).0 in
        all_both Fits before (exchanged (past ++ pair ∷ []) ∷ []) (all_front Fits before (exchanged past ∷ []) others) (
          subst (λ (q : List Asked × List Response). FitsAll profile start.visible q.0 q.1) (sym (ends past pair))
              ((fitting_grows profile start.visible (ps ++ asked ∷ []) own asked pair.response (next_behind ps [] asked own (as_many past))).1 (
                fit,
                ap (λ (v : Visible). v.closed) (seen ∙ sym s.visible) ∙ due.is_open,
                subst (λ v. IsTrue (fits profile v asked pair.response)) (s.visible ∙ sym seen) noted.0,
              )),
          tt,
        )

    -- it is held beside what they say without it
    pub held_refused : lines_in pair.response < 2 ^ 64 → AreHeld profile (said_behind profile.marks earlier past ++ told profile bad) (held_by facts bad)
    held_refused few = record {
      judged = s.profile_is;
      last = bad;
      listed = refl;
      fits = (facts.visible, ap (λ v. v.selected) s.visible, noted.0);
      facts = kept;
      kept = s.kept;
      together = stand_together profile facts earlier past s;
      whole = refl;
      conflict = λ formed none. elim (stand_or_conflict profile profile.marks all fitting placed formed) [
        | inl c ↦ none c.0 c.1.conflict
        | inr together ↦ noted.1 (permitted together)
      ];
    }
      where
        kept : List Fact
        kept = said_behind profile.marks earlier past

        own : List Fact
        own = said_there profile.marks bad

        all : List Fact
        all = kept ++ told profile bad

        -- what all say is among it
        among : (fact : Fact) → In fact (kept ++ own) → In fact all
        among fact i = grind (arith, in_front, in_back, in_cases fact kept own i)

        fitting : AllByRecursion (IsFitting profile) all
        fitting = grind (arith, said_with, all_fitting, fit_with, all_both, all_front, group_fitting, all_back)

        placed : AllByRecursion (IsPlaced profile.marks all) all
        placed =
            let whole = subst (λ facts. AllByRecursion (IsPlaced profile.marks facts) facts) said_with (all_placed profile sessions fit_with) in
            let more = all_from (IsPlaced profile.marks all) (kept ++ own)
            (λ fact i. wider profile.marks (kept ++ own) all among fact (all_at (IsPlaced profile.marks (kept ++ own)) fact (kept ++ own) whole i)) in
            search (all_back, all_both, all_front, group_placed, group_selectable)

        small : size all < 2 ^ 210
        small =
            let room = subst (λ facts. size facts < 2 ^ 209) (facts_behind profile.marks before (exchanged past))
            (room_behind profile.marks earlier past s.sessions s.earlier_few (record { lines = s.lines; few = s.few })) in
            grind (arith, size-append kept (told profile bad), told_size profile bad few)

        permitted : Together all → ArePermittedBehind profile earlier (past ++ pair ∷ [])
        permitted together =
            let G = made profile.limit (10 ^ 64) all in
            let has = given_has profile profile.marks G all fitting placed together small (given_of_facts profile profile.marks all fitting placed small) in
            let holds = all_from (Holds G) (kept ++ own) (λ fact i. all_at (Holds G) fact all has.1 (among fact i)) in
            (G, has.0, permits_each profile G sessions fit_with (subst (AllByRecursion (Holds G)) (sym said_with) holds))
