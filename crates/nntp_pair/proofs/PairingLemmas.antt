-- A pairing is determined, and stays when more octets follow.
use Rattle.std.proofs.Common.{◌≡◌, ◌≢◌, ℕ, ◌+◌, List, [], ◌∷◌, ◌++◌, length, drop, map, arith, Option, Some, refl, sym, ◌∙◌, ap, subst, inl, append_assoc}
use Rattle.std.proofs.lemmas.List.{map-append}
use Rattle.nntp_wire.{specs.{Frame.{HasFrame}, Lines.{lines_of_stream}, Session.{ClientStream, further}}, proofs.StreamLemmas.{lines-joined}}
use Rattle.nntp_pair.specs.{declared.class.PairClass.{PairClass, TheVariants.{Surplus, Cut, Malformed}}, Pairing.{Paired, Unpaired, IsNext, AreNext, Awaits}}
use Rattle.nntp_pair.specs.{Pairing.{IsBad, Ending, bad, Ends, IsPairing, streams, asked_at, places_of, Place, place_of}, Inner.Pairing.{IsLasting, with_more}}
use Rattle.nntp_pair.proofs.NextLemmas.{one-next, next-no-end, one-end}

-- one more pair
pub AreNext-push : (pairs : List Paired) (a b c : Unpaired) (x : Paired) → AreNext a pairs b → IsNext b x c → AreNext a (pairs ++ (x ∷ [])) c
AreNext-push [] a b c x same next = (c, subst (λ u. IsNext u x c) (sym same) next, refl)
AreNext-push (y ∷ pairs) a b c x (between, first, run) next = (between, first, AreNext-push pairs between b c x run next)

-- the index counts the pairs
pub index-count : (pairs : List Paired) (a b : Unpaired) → AreNext a pairs b → b.index ≡ a.index + length pairs
index-count [] a b same = let e : a.index ≡ b.index = ap (λ u. u.index) same in omega arith
index-count (x ∷ pairs) a b (m, n, run) = grind (arith, index-count pairs m b run)

pub index-counts : (client : ClientStream) (server : List ℕ) (pairs : List Paired) (left : Unpaired) → AreNext (streams client server) pairs left → left.index ≡ length pairs
index-counts client server pairs left run = let all : left.index ≡ 0 + length pairs = index-count pairs (streams client server) left run in omega arith

run-places : (pairs : List Paired) (a b : Unpaired) → AreNext a pairs b → drop (length pairs) a.places ≡ b.places
run-places [] a b same = ap (λ u. u.places) same
run-places (x ∷ pairs) a b (m, n, run) = ap (drop (length (x ∷ pairs))) n.place ∙ run-places pairs m b run

-- the places that are left are those behind the pairs
pub places-left : (client : ClientStream) (server : List ℕ) (pairs : List Paired) (left : Unpaired) → AreNext (streams client server) pairs left → drop (length pairs) (places_of client) ≡ left.places
places-left client server pairs left run = run-places pairs (streams client server) left run

-- pairs that come next are the first of all pairs up to the end
pub first-pairs : (pairs others : List Paired) (a b c : Unpaired) (e : Ending) → AreNext a pairs b → Ends b e → AreNext a others c
    → (more : List Paired) × (pairs ≡ others ++ more) × AreNext c more b
first-pairs pairs [] a b c e run ends same = (pairs, refl, subst (λ u. AreNext u pairs b) same run)
first-pairs [] (y ∷ others) a b c e same ends (between, first, run) =
    absurd (next-no-end e a between y first (subst (λ u. Ends u e) (sym same) ends))
first-pairs (x ∷ pairs) (y ∷ others) a b c e (m, n, run) ends (k, o, also) =
    let one = one-next a m k x y n o in
    grind (arith, first-pairs pairs others k b c e (subst (λ u. AreNext u pairs b) one.1 run) ends also)

-- pairs up to an end are determined
pub one-run : (pairs others : List Paired) (a b c : Unpaired) (e f : Ending) → AreNext a pairs b → Ends b e → AreNext a others c → Ends c f → (pairs ≡ others) × (b ≡ c)
one-run [] [] a b c e f p ends q also = (refl, sym p ∙ q)
one-run [] (y ∷ others) a b c e f p ends (k, o, q) also = absurd (next-no-end e a k y o (subst (λ u. Ends u e) (sym p) ends))
one-run (x ∷ pairs) [] a b c e f (m, n, p) ends q also = absurd (next-no-end f a m x n (subst (λ u. Ends u f) (sym q) also))
one-run (x ∷ pairs) (y ∷ others) a b c e f (m, n, p) ends (k, o, q) also =
    let one = one-next a m k x y n o in
    grind (arith, one-run pairs others k b c e f (subst (λ u. AreNext u pairs b) one.1 p) ends q also)

-- streams have one pairing
pub one-pairing : (client : ClientStream) (server : List ℕ) (pairs others : List Paired) (ending other : Ending)
    → IsPairing client server pairs ending → IsPairing client server others other → (pairs ≡ others) × (ending ≡ other)
one-pairing client server pairs others ending other p q = grind (arith, one-run, one-end)

-- a frame stays with octets behind it
pub frame-more : (place : Place) (server line : List ℕ) (block : Option (List ℕ)) (rest octets : List ℕ)
    → HasFrame (asked_at place) server line block rest → HasFrame (asked_at place) (server ++ octets) line block (rest ++ octets)
frame-more place server line block rest octets f = grind (arith, append_assoc)

pub next-more : (places : List Place) (octets : List ℕ) (a b : Unpaired) (x : Paired) → IsNext a x b → IsNext (with_more places octets a) x (with_more places octets b)
next-more places octets a b x next = search (arith, frame-more)

run-more : (places : List Place) (octets : List ℕ) (pairs : List Paired) (a b : Unpaired) → AreNext a pairs b → AreNext (with_more places octets a) pairs (with_more places octets b)
run-more places octets [] a b same = ap (with_more places octets) same
run-more places octets (x ∷ pairs) a b (m, n, run) = (with_more places octets m, next-more places octets a m x n, run-more places octets pairs m b run)

-- the places of more octets behind a client's
pub places_more : (client : ClientStream) (more : List ℕ) → (later : List Place)
    × (map (place_of client.overviews) (map Some (lines_of_stream (client.octets ++ more))) ≡ map (place_of client.overviews) (map Some (lines_of_stream client.octets)) ++ later)
places_more client more =
    let joined = lines-joined client.octets more in
    let place = place_of client.overviews in (
      map place (map Some joined.0),
      grind (arith, map-append),
    )

-- streams with more octets behind both
streams-more : (client : ClientStream) (server client_more server_more : List ℕ)
    → streams (further client client_more) (server ++ server_more) ≡ with_more
    (places_more client client_more).0 server_more (streams client server)
streams-more client server client_more server_more = grind arith

-- with more octets behind both streams the pairs come next all the same
pub pairs-stay : (client : ClientStream) (server client_more server_more : List ℕ) (pairs : List Paired) (left : Unpaired) → AreNext (streams client server) pairs left
    → (places : List Place) × AreNext (streams (further client client_more) (server ++ server_more)) pairs (with_more places server_more left)
pairs-stay client server client_more server_more pairs left run =
    let places = (places_more client client_more).0 in (
      places,
      search (arith, streams-more, run-more),
    )

awaits-more : (places : List Place) (octets : List ℕ) (left : Unpaired) (place : Place) → Awaits left place → Awaits (with_more places octets left) place
awaits-more places octets left place awaits = record { is_open = awaits.is_open; places = awaits.places ++ places; first = ap (λ p. p ++ places) awaits.first }

-- what no octets can mend stays bad
pub bad-stays : (class : PairClass) (places : List Place) (octets : List ℕ) (left : Unpaired) → IsLasting class left → IsBad class left → IsBad class (with_more places octets left)
bad-stays Surplus places octets left lasting why = inl lasting
bad-stays Cut places octets left lasting why = absurd lasting
bad-stays Malformed places octets left lasting (place, awaits, why) = (
  place,
  awaits-more places octets left place awaits,
  record { initial = why.initial; block = why.block; rest = why.rest ++ octets; frame = frame-more place left.server why.initial why.block why.rest octets why.frame; nothing = why.nothing },
)

pub some-stay : (octets more : List ℕ) → octets ≢ [] → octets ++ more ≢ []
some-stay [] more some none = some refl
some-stay (b ∷ octets) more some none = cc

-- and so does the pairing
pub pairing-stays : (client : ClientStream) (server client_more server_more : List ℕ) (pairs : List Paired) (class : PairClass) (pairing : IsPairing client server pairs (bad class))
    → IsLasting class pairing.left → IsPairing (further client client_more) (server ++ server_more) pairs (bad class)
pairing-stays client server client_more server_more pairs class pairing lasting =
    let stays = pairs-stay client server client_more server_more pairs pairing.left pairing.paired in
    grind (arith, some-stay, bad-stays)
