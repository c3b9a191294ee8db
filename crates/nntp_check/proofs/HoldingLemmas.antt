-- What pieces hold, with more octets and more pieces.
use Rattle.std.proofs.Common.{◌≡◌, ℕ, ◌+◌, ◌≤◌, false, List, [], ◌∷◌, ◌++◌, length, refl, sym, subst, append_assoc, arith, length-append, flat_map}
use Rattle.std.{proofs.lemmas.{Bool.{cases_Bool}, List.{append-nil, Sums.{fold-append}}}, specs.Prelude.{fold}}
use Rattle.nntp_check.specs.Capture.{Part, Held, Captured, spelled, nothing, with_octets, at_piece, continued, with_piece, captured_by, AreCapture}
use Rattle.nntp_check.specs.{Inner.Capture.{IsAlone}, declared.source.Source.{Source}}

-- one piece more
pub captured-snoc : (parts : List Part) (p : Part) → captured_by (parts ++ p ∷ []) ≡ with_piece (captured_by parts) p
captured-snoc parts p = fold-append with_piece (record { held = nothing; is_several = false }) parts (p ∷ [])

-- ---- octets

-- no octets
pub no-octets : (source : Source) (h : Held) → with_octets source [] h ≡ h
no-octets source h = grind (arith, append-nil)

-- and more octets
pub more-octets : (source : Source) (xs ys : List ℕ) (h : Held) → with_octets source ys (with_octets source xs h) ≡ with_octets source (xs ++ ys) h
more-octets source xs ys h = grind (arith, append_assoc, append-nil)

-- a piece with more octets
pub piece-grows : (c : Captured) (p : Part) (source : Source) (front : List ℕ) → p.source ≡ source → continued source front (with_piece c p) ≡ with_piece c (record p { octets = p.octets ++ front })
piece-grows c p source front is = grind (arith, more-octets)

-- a piece of which no octet has come
pub piece-begins : (c : Captured) (p : Part) (source : Source) → p.source ≡ source → p.octets ≡ [] → with_piece c p ≡ at_piece source c
piece-begins c p source is none = grind (arith, no-octets)

-- ---- how much they hold

-- the octets of both streams of the session that goes on
abbrev pub last_octets : Captured → ℕ
last_octets c = length c.held.last.session.client.octets + length c.held.last.session.server

-- a piece adds no more than it has
piece-few : (c : Captured) (p : Part) → last_octets (with_piece c p) ≤ last_octets c + length (spelled p)
piece-few c p = grind (arith, length-append, append-nil, cases_Bool)

-- so pieces hold no more octets than theirs
pieces-few : (c : Captured) (ps : List Part) → last_octets (fold with_piece c ps) ≤ last_octets c + length (flat_map spelled ps)
pieces-few c [] = omega arith
pieces-few c (p ∷ ps) = grind (arith, piece-few, length-append, pieces-few (with_piece c p) ps)

pub captured-few : (ps : List Part) → last_octets (captured_by ps) ≤ length (flat_map spelled ps)
captured-few ps = let few = pieces-few (record { held = nothing; is_several = false }) ps in omega arith

-- ---- without a piece of a session

-- there is one session then
alone : (c : Captured) (ps : List Part) → IsAlone c → IsAlone (fold with_piece c ps)
alone c [] is = is
alone c (p ∷ ps) is = alone (with_piece c p) ps (by p.source p.octets)
  where
    by : (s : Source) (octets : List ℕ) → IsAlone (continued s octets (at_piece s c))
    by s octets e = grind arith

pub capture-alone : (octets : List ℕ) (c : Captured) → AreCapture octets c → IsAlone c
capture-alone octets c a = subst IsAlone (sym a.captured_is) (alone (record { held = nothing; is_several = false }) a.parts (λ _. refl))
