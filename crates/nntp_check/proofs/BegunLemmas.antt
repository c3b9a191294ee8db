-- What came of a capture that isn't bad can be completed to one.
use Rattle.std.proofs.Common.{◌≡◌, ◌⊎◌, ◌∙◌, ℕ, zero, suc, ◌+◌, ◌≤◌, true, List, [], ◌∷◌, ◌++◌, Some, length, inl, inr, refl, sym, ap, append_assoc, arith}
use Rattle.std.{proofs.{Common.{length-append, flat_map, codes}, lemmas.List.{append-nil, flat_map_more}}, specs.List.{AllByRecursion, list_all}}
use Rattle.std.specs.Char.{is_ascii_digit}
use Rattle.nntp_wire.specs.Number.{number_value}
use Rattle.nntp_check.specs.Capture.{Part, word_of, spelled, IsPiece, count_of, Begins, Captured, captured_by, IsCapture, BeginsCapture}
use Rattle.nntp_check.specs.{Inner.CaptureReading.{IsAt, HasCome}, declared.{source.Source.{Source, TheVariants.{Server}}, capture_reader.Place.{Place}}}
use Rattle.nntp_check.proofs.{CaptureLemmas.{each-snoc}, ReadingLemmas.{counts}}
use Rattle.nntp_check.specs.declared.capture_reader.Place.TheVariants as places

-- so many octets
abbrev pub zeros : ℕ → List ℕ
zeros zero = []
zeros (suc n) = 0 ∷ zeros n

pub length-zeros : (n : ℕ) → length (zeros n) ≡ n
length-zeros zero = refl
length-zeros (suc n) = let behind = length-zeros n in omega arith

-- octets are completed to a piece
abbrev pub Completes : List ℕ → Type 0
Completes octets = (more : List ℕ) × (p : Part) × IsPiece p × (octets ++ more ≡ spelled p)

-- octets that lack some of a piece
pub complete-octets : (octets more : List ℕ) (p : Part) (left : ℕ) → octets ++ more ≡ spelled p → count_of p.digits ≡ Some (length p.octets + left) → Completes octets
complete-octets octets more p left whole count = (
  more ++ zeros left,
  record p { octets = p.octets ++ zeros left },
  count ∙ ap Some (omega (arith, length-append p.octets (zeros left), length-zeros left)),
  sym (append_assoc octets more (zeros left)) ∙ ap (λ t. t ++ zeros left) whole ∙ simp append_assoc,
)

-- a front of a word
pub complete-word : (octets rest : List ℕ) (source : Source) → octets ++ rest ≡ word_of source → Completes octets
complete-word octets rest source word =
    let whole = sym (append_assoc octets rest (48 ∷ 10 ∷ [])) ∙ ap (λ t. t ++ 48 ∷ 10 ∷ []) word ∙ sym (append_assoc (word_of source) (48 ∷ []) (10 ∷ [])) in
    complete-octets octets (rest ++ 48 ∷ 10 ∷ []) (record { source = source; digits = 48 ∷ []; octets = [] }) 0 whole (counts (48 ∷ []) refl (omega arith) (omega arith))

-- digits
pub complete-digits : (octets : List ℕ) (source : Source) (digits : List ℕ) → octets ≡ word_of source ++ digits → list_all is_ascii_digit digits ≡ true → length digits ≤ 10 → Completes octets
complete-digits octets source [] whole each few = complete-word octets [] source (append-nil octets ∙ whole ∙ append-nil (word_of source))
complete-digits octets source (d ∷ ds) whole each few =
    complete-octets octets (10 ∷ []) (record { source = source; digits = d ∷ ds; octets = [] }) (number_value (d ∷ ds))
    (ap (λ t. t ++ 10 ∷ []) whole) (counts (d ∷ ds) each (omega arith) few ∙ ap Some (omega arith))

-- what came of a piece
complete : (place : Place) (octets : List ℕ) (begun : List Part) → IsAt place octets begun → (octets ≡ []) ⊎ Completes octets
complete places.Start octets begun at = inl at.0
complete places.LetterS octets begun at = inr (complete-word octets (codes "erver ") Server (ap (λ t. t ++ codes "erver ") at.0))
complete places.LettersSe octets begun at = inr (complete-word octets (codes "rver ") Server (ap (λ t. t ++ codes "rver ") at.0))
complete (places.Word source rest) octets begun at = inr (complete-word octets rest.now source at.0.word)
complete (places.Digits source many value) octets begun at = inr (complete-digits octets source at.0.digits at.0.whole at.0.each (omega (arith, at.0.many_is, at.0.few)))
complete (places.Octets source left) octets begun at = inr (complete-octets octets [] at.piece left (append-nil octets ∙ at.whole) at.count)

-- a capture of these pieces
of-pieces : (octets : List ℕ) (parts : List Part) → Begins octets parts [] → IsCapture octets
of-pieces octets parts pieces = (captured_by parts, record { parts = parts; pieces = pieces; captured_is = refl })

-- pieces, and octets that are none or are completed to one
pub completed : (came : List ℕ) (parts : List Part) (octets : List ℕ) → came ≡ flat_map spelled parts ++ octets → AllByRecursion IsPiece parts
    → (octets ≡ []) ⊎ Completes octets → BeginsCapture came
completed came parts octets is each (inl none) =
    ([], of-pieces (came ++ []) parts (record { whole = append-nil came ∙ is ∙ ap (λ t. flat_map spelled parts ++ t) none; each = each }))
completed came parts octets is each (inr (more, p, piece, whole)) =
    let front = ap (λ t. t ++ more) is ∙ append_assoc (flat_map spelled parts) octets more ∙ ap (λ t. flat_map spelled parts ++ t) whole in
    let all = front ∙ flat_map_more spelled [] parts p ∙ sym (append-nil (flat_map spelled (parts ++ p ∷ []))) in
    (more, of-pieces (came ++ more) (parts ++ p ∷ []) (record { whole = all; each = each-snoc parts p each piece }))

-- what came begins a capture
pub begins-capture : (number : ℕ) (place : Place) (came : List ℕ) (captured : Captured) → HasCome number place came captured → BeginsCapture came
begins-capture number place came captured h = completed came h.parts h.octets h.whole h.each (complete place h.octets h.begun h.at)
