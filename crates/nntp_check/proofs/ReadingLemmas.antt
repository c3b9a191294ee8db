-- How a reader of a capture goes on, octet by octet.
use Rattle.std.proofs.Common.{◌≡◌, ◌≢◌, ◌⊎◌, ◌∙◌, ℕ, ◌+◌, ◌*◌, ◌-◌, ◌<◌, ◌≤◌, ◌^◌, true, List, [], ◌∷◌, ◌++◌, Some, length, take, drop, get_or, inl, refl, sym}
use Rattle.std.proofs.{Common.{ap, append_assoc, arith, length-append, flat_map}, lemmas.List.{append-nil, append_cancel_left, Folds.{list_all-append}}}
use Rattle.std.proofs.lemmas.{Bool.{and_parts, true≢false, Decides.{nat_tests}}, Str.{digit_value_digit}, Int.Digits.{digits_value_push}}
use Rattle.std.{proofs.Math.Nat.{pow-le-pow_right}, specs.{List.{list_all}, Char.{is_ascii_digit}}}
use Rattle.nntp_wire.{specs.Number.{number_value}, proofs.NumberLemmas.{one_digit_more, digit_range}}
use Rattle.nntp_check.specs.Capture.{Part, Captured, word_of, spelled, count_of, continued, captured_by, has_session, AreCapture, BeginsNoPiece, IsBadPiece}
use Rattle.nntp_check.specs.Inner.CaptureReading.{IsAt, IsInWord, IsInDigits, IsInOctets, IsInLine, IsOpen, HasCome, HasRead, HasBadFront, CantGoOn, GoesOn}
use Rattle.nntp_check.specs.{Inner.CaptureReading.{captured, reached}, declared.source.Source.{Source, TheVariants.{Client, Server}}}
use Rattle.nntp_check.{specs.declared.capture_reader.{CaptureReader.{CaptureReader}, Place.{Place}}, proofs.CaptureLemmas.{one_word, one_line, spelled-append}}
use Rattle.nntp_check.proofs.{CaptureLemmas.{counted, spelled-longer}, HoldingLemmas.{captured-snoc, piece-begins, piece-grows}}
use Rattle.nntp_check.specs.declared.capture_reader.Place.TheVariants as places

-- ---- what came of a piece that has begun

-- within a first line no octet of a source has come
pub none-begun : (place : Place) (octets : List ℕ) (begun : List Part) → IsInLine place → IsAt place octets begun → begun ≡ []
none-begun place octets begun line at = grind arith

-- a front of no octets is none
pub front-nil : (a b : List ℕ) → a ++ b ≡ [] → (a ≡ []) × (b ≡ [])
front-nil [] b e = (refl, e)
front-nil (x ∷ a) b e = cc

-- ---- an octet of a first line

-- what pieces are, with one of which no octet has come
reaches : (place : Place) (octets : List ℕ) (begun parts : List Part) → IsAt place octets begun → flat_map (λ p. p.octets) begun ≡ [] → reached place (captured_by parts) ≡ captured_by (parts ++ begun)
reaches place octets begun parts at none = grind (arith, append-nil, front-nil, captured-snoc, piece-begins)

-- the next place
pub goes-on : (number octet : ℕ) (place next : Place) (came : List ℕ) (captured : Captured) → IsInLine place → HasCome number place came captured → GoesOn place octet next
    → HasCome number next (came ++ octet ∷ []) (reached next captured)
goes-on number octet place next came captured line h on = grind (arith, none-begun, append_assoc, append-nil, reaches)

-- the first octet of some
pub first-octet : (octets front rest : List ℕ) → 0 < length octets → front ≡ take 1 octets → rest ≡ drop 1 octets → (front ≡ get_or front 0 0 ∷ []) × (octets ≡ get_or front 0 0 ∷ rest)
first-octet octets front rest some f r = grind arith

-- octets do not end before one of them
pub not-nil : (xs : List ℕ) (x : ℕ) (ys : List ℕ) → xs ++ x ∷ ys ≢ []
not-nil xs x ys e = let none : x ∷ ys ≡ [] = (front-nil xs (x ∷ ys) e).1 in cc

-- or none
pub cant-go-on : (number octet : ℕ) (place : Place) (came : List ℕ) (captured : Captured) (octets rest : List ℕ) → IsInLine place
    → HasCome number place came captured → CantGoOn place octet → octets ≡ (octet ∷ []) ++ rest
    → HasBadFront came octets number
cant-go-on number octet place came captured octets rest line h cant cut =
    let none = none-begun place h.octets h.begun line h.at in
    record {
      front = octet ∷ [];
      rest = rest;
      cut = cut;
      bad = grind (arith, append_assoc, not-nil);
    }

-- ---- octets of a source

-- some of the octets that are to come
pub octets-come : (number left : ℕ) (source : Source) (came : List ℕ) (captured : Captured) (front : List ℕ) (behind : ℕ)
    → HasCome number (places.Octets source left) came captured → behind + length front ≡ left
    → HasCome number (places.Octets source behind) (came ++ front) (continued source front captured)
octets-come number left source came captured front behind h many =
    let at = h.at in
    let p = at.piece in
    let q : Part = record p { octets = p.octets ++ front } in
    record {
      parts = h.parts;
      each = h.each;
      number_is = h.number_is;
      octets = h.octets ++ front;
      begun = q ∷ [];
      at = grind (arith, append_assoc, length-append);
      whole = ap (λ t. t ++ front) h.whole ∙ append_assoc (flat_map spelled h.parts) h.octets front;
      captured_is = grind (arith, captured-snoc, piece-grows);
    }

-- pieces are at most half as many as octets
pieces-few : (ps : List Part) → length ps + length ps ≤ length (flat_map spelled ps)
pieces-few [] = omega arith
pieces-few (p ∷ ps) = grind (arith, spelled-longer, length-append, pieces-few ps)

-- and the number of a piece that has begun fits
pub number-fits : (number left : ℕ) (source : Source) (place : Place) (came : List ℕ) (captured : Captured)
    → place ≡ places.Octets source left → HasCome number place came captured → number + number ≤ length came
number-fits number left source place came captured is of-place = grind (arith, pieces-few, spelled-longer, length-append)

-- ---- what a reader has read

-- where it stands, and what it notes of sessions
pub read-on : (after : CaptureReader) (came : List ℕ) (c : Captured) → HasCome after.piece after.place came c → IsOpen after.place → after.is_several ≡ c.is_several
    → after.has_session ≡ has_session c → HasRead after came c.held
read-on after came c come open_there several session = grind arith

-- ---- at the end

-- behind whole pieces the octets are a capture
pub ends-whole : (number : ℕ) (came : List ℕ) (captured : Captured) → HasCome number places.Start came captured → AreCapture came captured
ends-whole number came captured h = grind (arith, append-nil)

-- digits up to LF are no fewer than those of which they begin
pub no-fewer : (ds es more after : List ℕ) → list_all is_ascii_digit ds ≡ true → ds ++ more ≡ es ++ 10 ∷ after → length ds ≤ length es
no-fewer [] es more after each e = omega arith
no-fewer (d ∷ ds) [] more after each e = let is : d ≡ 10 = cc in absurd (true≢false (sym each ∙ ap (λ x. list_all is_ascii_digit (x ∷ ds)) is))
no-fewer (d ∷ ds) (c ∷ es) more after each e = grind (arith, and_parts, no-fewer ds es more after)

-- digits have no line feed
pub no-line-feed : (es ds more : List ℕ) → list_all is_ascii_digit ds ≡ true → es ++ 10 ∷ more ≢ ds
no-line-feed es ds more each e = omega (arith, no-fewer ds es [] more each (append-nil ds ∙ sym e), ap length e, length-append es (10 ∷ more))

-- two letters begin no piece
cut-letters : (s : Source) (ds os more : List ℕ) → 115 ∷ 101 ∷ [] ≢ (word_of s ++ ds ++ 10 ∷ os) ++ more
cut-letters s ds os more e = grind arith

-- octets of a first line that is not whole begin no piece
cut-line : (place : Place) (octets : List ℕ) (begun : List Part) → IsAt place octets begun → IsOpen place → BeginsNoPiece octets
cut-line place octets begun at cut p more is e =
    search (arith, spelled-longer, length-append, cut-letters, append_assoc, spelled-append, append-nil, one_word, not-nil, no-line-feed, one_line, counted)

-- some octets came of a piece that has begun
some-octets : (place : Place) (octets : List ℕ) (begun : List Part) → IsAt place octets begun → place ≢ places.Start → octets ≢ []
some-octets places.Start octets begun at other e = other refl
some-octets places.LetterS octets begun at other e = let is : ◌≡◌ {A = List ℕ} (115 ∷ []) [] = sym at.0 ∙ e in cc
some-octets places.LettersSe octets begun at other e = let is : ◌≡◌ {A = List ℕ} (115 ∷ 101 ∷ []) [] = sym at.0 ∙ e in cc
some-octets (places.Word source rest) octets begun at other e =
    let client : Client ≡ source = at.0.one Client (word_of Client) [] (ap (λ t. t ++ word_of Client) e ∙ sym (append-nil (word_of Client))) in
    let server : Server ≡ source = at.0.one Server (word_of Server) [] (ap (λ t. t ++ word_of Server) e ∙ sym (append-nil (word_of Server))) in
    cc
some-octets place octets begun at other e = grind (arith, spelled-longer)

-- where a piece has begun and isn't whole, it is bad
pub ends-cut : (number : ℕ) (place : Place) (came : List ℕ) (captured : Captured) → HasCome number place came captured → IsOpen place → place ≢ places.Start → IsBadPiece came number
ends-cut number place came captured h cut other = grind (arith, some-octets, cut-line)

-- ---- digits

-- a value below a power of ten
pub value-small : (line : List ℕ) (source : Source) (many value : ℕ) → IsInDigits line source many value → value < 10 ^ 11
value-small line source many value h = grind (arith, pow-le-pow_right)

-- one digit more
pub digit-more : (line : List ℕ) (source : Source) (many value octet digit : ℕ) → IsInDigits line source many value → many < 10 → is_ascii_digit octet ≡ true → digit ≡ octet - 48
    → IsInDigits (line ++ octet ∷ []) source (many + 1) (value * 10 + digit)
digit-more line source many value octet digit h few is e =
    let range = digit_range octet is in
    let weight = digit_value_digit octet range in
    record {
      digits = h.digits ++ octet ∷ [];
      whole = ap (λ t. t ++ octet ∷ []) h.whole ∙ append_assoc (word_of source) h.digits (octet ∷ []);
      each = list_all-append is_ascii_digit h.digits (octet ∷ []) ∙ rw (h.each, is) refl;
      many_is = omega (arith, h.many_is, length-append h.digits (octet ∷ []));
      few = omega arith;
      value_is = rw (digits_value_push 10 h.digits octet) (omega (arith, h.value_is));
      small = one_digit_more many value digit h.small (omega arith);
    }

-- so many digits write a count
pub counts : (ds : List ℕ) → list_all is_ascii_digit ds ≡ true → 0 < length ds → length ds ≤ 10 → count_of ds ≡ Some (number_value ds)
counts ds each some few = grind arith

-- what writes a count is 1 to 10 digits
pub counted-few : (ds : List ℕ) (n : ℕ) → count_of ds ≡ Some n → (0 < length ds) × (length ds ≤ 10)
counted-few ds n h = (grind (arith, nat_tests), grind (arith, nat_tests))

-- behind them LF ends the first line
pub line-ends : (line : List ℕ) (source : Source) (many value octet : ℕ) → IsInDigits line source many value → 0 < many → octet ≡ 10
    → (begun : List Part) × IsInOctets (line ++ octet ∷ []) begun source value × (flat_map (λ p. p.octets) begun ≡ [])
line-ends line source many value octet h some is =
    let p : Part = record { source = source; digits = h.digits; octets = [] } in (
      p ∷ [],
      record {
        piece = p;
        begun_is = refl;
        source_is = refl;
        whole = ap (λ t. line ++ t ∷ []) is ∙ ap (λ t. t ++ 10 ∷ []) h.whole;
        count = counts h.digits h.each (omega (arith, h.many_is)) (omega (arith, h.many_is, h.few)) ∙ ap Some (omega (arith, h.value_is));
      },
      refl,
    )

-- an octet behind digits that go on to LF: it is this LF, or one of the digits
pub digits-then : (ds es : List ℕ) (c : ℕ) (x y : List ℕ) → list_all is_ascii_digit ds ≡ true → list_all is_ascii_digit es ≡ true → ds ++ c ∷ x ≡ es ++ 10 ∷ y
    → ((c ≡ 10) × (es ≡ ds)) ⊎ ((is_ascii_digit c ≡ true) × (length ds < length es))
digits-then [] [] c x y h i e = inl ((cc), refl)
digits-then [] (d ∷ es) c x y h i e = grind (arith, and_parts)
digits-then (b ∷ ds) [] c x y h i e = let is : b ≡ 10 = cc in absurd (true≢false (sym h ∙ ap (λ z. list_all is_ascii_digit (z ∷ ds)) is))
digits-then (b ∷ ds) (d ∷ es) c x y h i e = grind (arith, and_parts, digits-then ds es c x y)

-- no piece goes on with an octet that may not stand behind so many digits
pub no-digit : (line : List ℕ) (source : Source) (many value octet : ℕ) → IsInDigits line source many value → (octet ≡ 10 → many ≡ 0) → (is_ascii_digit octet ≡ true → 10 ≤ many)
    → (more : List ℕ) → BeginsNoPiece (line ++ octet ∷ more)
no-digit line source many value octet h none full more p after is e = search (arith, one_word, append_assoc, spelled-append, counted-few, digits-then, counted)

-- ---- letters

-- no piece goes on with another letter
pub no-letter : (line rest : List ℕ) (source : Source) (letter octet : ℕ) (behind : List ℕ) → IsInWord line rest source
    → rest ≡ letter ∷ behind → octet ≢ letter → (more : List ℕ) → BeginsNoPiece (line ++ octet ∷ more)
no-letter line rest source letter octet behind h is other more p after piece e = search (arith, spelled-append, append_assoc, append_cancel_left)
