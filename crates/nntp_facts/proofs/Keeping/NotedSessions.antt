-- Exchanges of several sessions are noted one after the other: the next one is permitted exactly if it fits its own session and what it says joins what all said.
use Rattle.nntp_facts.proofs.Base.{◌≡◌, ◌+◌, ◌<◌, ◌^◌, List, [], ◌∷◌, ◌++◌, length, map, refl, sym, ap, subst, arith, append-nil, Profile, start, all_both}
use Rattle.nntp_facts.proofs.Base.{IsKept, length-append, Paired, said_behind, AreFew, exchanged, Answered, facts_behind, FactsKept, map-append, Run}
use Rattle.nntp_facts.{proofs.Base.{PermitsEach}, specs.Inner.Noted.{HasNotedBehind, begun}}

-- ---- the facts of sessions

-- a session begins behind one more
pub session_begins : (profile : Profile) (facts : FactsKept) (earlier : List (List Paired)) (past : List Paired) → HasNotedBehind profile facts earlier past
    → length earlier + 1 < 2 ^ 64 → HasNotedBehind profile (begun facts) (earlier ++ past ∷ []) []
session_begins profile facts earlier past h count = record {
  profile_is = h.profile_is;
  is_whole = h.is_whole;
  count = refl;
  visible = refl;
  position = refl;
  kept = subst (λ said. IsKept said facts.kept) said h.kept;
  permitted = (
    h.permitted.0,
    h.permitted.1,
    subst (PermitsEach profile h.permitted.0) (sym (ap (λ sessions. sessions ++ exchanged [] ∷ []) both))
        (all_both (λ (s : Answered). Run profile h.permitted.0 start s.prompts s.answers) (map exchanged earlier ++ exchanged past ∷ []) (exchanged [] ∷ []) h.permitted.2 (tt, tt)),
  );
  sessions = omega (arith, count, length-append earlier (past ∷ []));
  earlier_few = all_both AreFew earlier (past ∷ []) h.earlier_few (record { lines = h.lines; few = h.few }, tt);
  lines = tt;
  few = omega arith;
}
  where
    both : map exchanged (earlier ++ past ∷ []) ≡ map exchanged earlier ++ exchanged past ∷ []
    both = map-append exchanged earlier (past ∷ [])

    said : said_behind profile.marks earlier past ≡ said_behind profile.marks (earlier ++ past ∷ []) []
    said = grind (arith, append-nil, both, facts_behind)
