-- What `verify` answers of several sessions is one; and of a spool that explains them all it is that it permits them.
use Rattle.std.proofs.Common.{◌≡◌, ℕ, ◌+◌, ◌<◌, ◌≤◌, List, [], ◌∷◌, ◌++◌, length, take, get_or, Some, slice_get, inl, inr, sym, ap, ap₂, subst, ◌∙◌, arith}
use Rattle.std.proofs.lemmas.{Bool.{cases_order}, List.{take_more, take_all, length-take-le}, Option.{slice_get-get_or}}
use Rattle.nntp_article.specs.{Session.{Spool.{Spool}, Explains.{Explains}}, declared.session.profile.Profile.{Profile}}
use Rattle.nntp_theory.proofs.Streams.{ExplainedOrBad.{first_explained}, OneOutcome.{same_answers}}
use Rattle.nntp_spool.{specs.Sessions.{RefusesAt}, proofs.PermittedPairs.{explained-unrefused}}
use Rattle.nntp_several.specs.{Verifying.{VerifiedOfAll, PermitsAll, RefusesOne, IsVerifiedOfAll}, Sessions.{Recorded, ExplainsIt, ExplainsEach, OfEach}}
use Rattle.nntp_several.{specs.Sessions.{answered_by, counts_of}, proofs.ExplainedSessions.{each_to, taken_to}}
use Rattle.nntp_wire.specs.Session.{ClientStream}

-- an answer of a session is refused
abbrev Refused : Profile → Spool → List Recorded → ℕ → ℕ → Type 0
Refused profile S sessions j k = IsVerifiedOfAll profile S sessions (RefusesOne j k)

-- the session at which it is
record RefusedThere (profile : Profile) (S : Spool) (sessions : List Recorded) (j k : ℕ) : Type 0 where
  session : Recorded
  place : slice_get sessions j ≡ Some session
  before : ExplainsEach profile S (take j sessions)
  refused : RefusesAt profile S session.client session.server k

refused_there : (profile : Profile) (S : Spool) (sessions : List Recorded) (j k : ℕ) → Refused profile S sessions j k → RefusedThere profile S sessions j k
refused_there profile S sessions j k h = grind arith

-- what explains all refuses nothing
unrefused : (profile : Profile) (S : Spool) (sessions : List Recorded) (j k : ℕ) → ExplainsEach profile S sessions → Refused profile S sessions j k → ⊥
unrefused profile S sessions j k x h =
    let r = refused_there profile S sessions j k h in
    let e = (each_to (ExplainsIt profile S) sessions j r.session x r.place).0 in
    explained-unrefused profile S e.1.is_spool r.session.client r.session.server e.0 k e.1 r.refused

-- permitted sessions are explained
explained_by : (profile : Profile) (S : Spool) (sessions : List Recorded) (ns : List ℕ) → IsVerifiedOfAll profile S sessions (PermitsAll ns) → ExplainsEach profile S sessions
explained_by profile S (s ∷ more) (n ∷ ns) h = ((n, h.0), explained_by profile S more ns h.1)
explained_by profile S sessions ns h = grind arith

-- with as many answers
counted : (profile : Profile) (S : Spool) (sessions : List Recorded) (ns : List ℕ) (x : ExplainsEach profile S sessions) → IsVerifiedOfAll profile S sessions (PermitsAll ns)
    → ns ≡ counts_of (answered_by profile S sessions x)
counted profile S (s ∷ more) (n ∷ ns) x h =
    ap₂ (λ n ns. n ∷ ns) (sym h.0.count ∙ ap length (same_answers profile S S s.client s.server n x.0.0 h.0 x.0.1)) (counted profile S more ns x.1 h.1)
counted profile S sessions ns x h = grind arith

-- `verify` answers of a spool that explains all that it permits them
pub permits_alone : (profile : Profile) (S : Spool) (sessions : List Recorded) (x : ExplainsEach profile S sessions) (verified : VerifiedOfAll)
    → IsVerifiedOfAll profile S sessions verified → verified ≡ PermitsAll (counts_of (answered_by profile S sessions x))
permits_alone profile S sessions x verified h = grind (arith, counted, unrefused)

-- a later session isn't refused where an earlier one is
not_later : (profile : Profile) (S : Spool) (sessions : List Recorded) (j i k l : ℕ) → j < i → Refused profile S sessions j k → Refused profile S sessions i l → ⊥
not_later profile S sessions j i k l less h g =
    let r = refused_there profile S sessions j k h in
    let q = refused_there profile S sessions i l g in
    let e = (each_to (ExplainsIt profile S) (take i sessions) j r.session q.before (taken_to sessions j i r.session less r.place).0).0 in
    explained-unrefused profile S e.1.is_spool r.session.client r.session.server e.0 k e.1 r.refused

-- one answer is the first that isn't explained
first_once : (profile : Profile) (S : Spool) (client : ClientStream) (server : List ℕ) (k l : ℕ) → RefusesAt profile S client server k → RefusesAt profile S client server l → k ≡ l
first_once profile S client server k l h g = elim (cases_order k l) [
  | inl same ↦ same
  | inr (inl less) ↦ absurd (h.1 (first_explained profile S client server (k + 1) l g.0.0 (omega arith) g.0.1))
  | inr (inr more) ↦ absurd (g.1 (first_explained profile S client server (l + 1) k h.0.0 (omega arith) h.0.1))
]

-- what it answers is one
pub one_verified : (profile : Profile) (S : Spool) (sessions : List Recorded) (v w : VerifiedOfAll) → IsVerifiedOfAll profile S sessions v → IsVerifiedOfAll profile S sessions w → v ≡ w
one_verified profile S sessions (PermitsAll ns) w h g =
    let x = explained_by profile S sessions ns h in
    permits_alone profile S sessions x (PermitsAll ns) h ∙ sym (permits_alone profile S sessions x w g)
one_verified profile S sessions (RefusesOne j k) (PermitsAll ns) h g = absurd (unrefused profile S sessions j k (explained_by profile S sessions ns g) h)
one_verified profile S sessions (RefusesOne j k) (RefusesOne i l) h g = elim (cases_order j i) [
  | inl same ↦
      let r = refused_there profile S sessions i k (subst (λ j. Refused profile S sessions j k) same h) in
      let q = refused_there profile S sessions i l g in
      let session : r.session ≡ q.session = (let e = sym r.place ∙ q.place in cc) in
      let answer = first_once profile S q.session.client q.session.server k l (subst (λ s. RefusesAt profile S s.client s.server k) session r.refused) q.refused in
      ap₂ RefusesOne same answer
  | inr (inl less) ↦ absurd (not_later profile S sessions j i k l less h g)
  | inr (inr more) ↦ absurd (not_later profile S sessions i j l k more g h)
]

-- ---- one session after the other

-- there are as many numbers as sessions
pub as_many_counts : (P : Recorded → ℕ → Type 0) (sessions : List Recorded) (ns : List ℕ) → OfEach P sessions ns → length ns ≡ length sessions
as_many_counts P (s ∷ more) (n ∷ ns) h = let rest = as_many_counts P more ns h.1 in omega (arith, rest)
as_many_counts P sessions ns h = grind arith

-- one session more
of_each_push : (P : Recorded → ℕ → Type 0) (sessions : List Recorded) (ns : List ℕ) (s : Recorded) (n : ℕ) → OfEach P sessions ns → P s n → OfEach P (sessions ++ s ∷ []) (ns ++ n ∷ [])
of_each_push P (r ∷ more) (m ∷ ns) s n h x = (h.0, of_each_push P more ns s n h.1 x)
of_each_push P sessions ns s n h x = grind arith

module _ (profile : Profile) (S : Spool) (sessions : List Recorded) (i : ℕ) (ns : List ℕ) (before : IsVerifiedOfAll profile S (take i sessions) (PermitsAll ns)) where
  -- the next session is permitted, too
  pub permits_next : (s : Recorded) (new : List ℕ) (n : ℕ) → i < length sessions → s ≡ get_or sessions i s → Explains profile S s.client s.server n → new ≡ ns ++ n ∷ []
      → IsVerifiedOfAll profile S (take (i + 1) sessions) (PermitsAll new)
  permits_next s new n within is x pushed =
      let here = take_more sessions i s within ∙ ap (λ s. take i sessions ++ s ∷ []) (sym is) in
      grind (arith, of_each_push)

  -- or an answer of it is refused
  pub refuses_next : (s : Recorded) (j k : ℕ) → i < length sessions → s ≡ get_or sessions i s → j ≡ length ns → RefusesAt profile S s.client s.server k
      → IsVerifiedOfAll profile S sessions (RefusesOne j k)
  refuses_next s j k within is at refused = grind (arith, as_many_counts, length-take-le, slice_get-get_or, explained_by)

  -- behind the last one all are
  pub permits_last : length sessions ≤ i → IsVerifiedOfAll profile S sessions (PermitsAll ns)
  permits_last end = subst (λ sessions. IsVerifiedOfAll profile S sessions (PermitsAll ns)) (take_all i sessions end) before
