-- Octets are a capture or have a first bad piece, and that in one way.
use Rattle.std.proofs.Common.{◌≡◌, ◌≢◌, ◌⊎◌, ℕ, zero, suc, ◌+◌, ◌≤◌, List, [], ◌∷◌, ◌++◌, length, flat_map, inl, inr, refl, sym, ap, subst, ◌∙◌, append_assoc}
use Rattle.std.{proofs.Common.{arith, length-append}, specs.List.{AllByRecursion}}
use Rattle.nntp_check.specs.Capture.{Part, spelled, IsPiece, BeginsNoPiece, Begins, Captured, captured_by, AreCapture, IsCapture, IsBadPiece, BeginsCapture}
use Rattle.nntp_check.{specs.Capture.{IsBadPieceForGood}, proofs.{BegunLemmas.{Completes}, CaptureLemmas.{spelled-longer}, FirstPiece.{NeverBegins, one-piece}}}
use Rattle.nntp_check.proofs.FirstPiece.{front-of}

-- ---- one of both

-- pieces, and then the end, or octets that begin no piece: they are completed to one, or never begin one
abbrev pub HasEnd : List ℕ → Type 0
HasEnd bytes = (parts : List Part) × (rest : List ℕ) × Begins bytes parts rest × ((rest ≡ []) ⊎ ((rest ≢ []) × (BeginsNoPiece rest × (Completes rest ⊎ NeverBegins rest))))

-- octets, at most so many, have an end
pub has-end : (n : ℕ) (bytes : List ℕ) → length bytes ≤ n → HasEnd bytes
has-end n [] few = ([], [], record { whole = refl; each = tt }, inl refl)
has-end zero (b ∷ bytes) few = absurd (omega arith)
has-end (suc n) (b ∷ bytes) few = elim (front-of (b ∷ bytes)) [
  | inl (p, more, is, e) ↦
      let after = has-end n more (omega (arith, few, ap length e, length-append (spelled p) more, spelled-longer p)) in
      let whole = e ∙ ap (λ t. spelled p ++ t) after.2.whole ∙ sym (append_assoc (spelled p) (flat_map spelled after.0) after.1) in
      (p ∷ after.0, after.1, record { whole = whole; each = (is, after.2.each) }, after.3)
  | inr none ↦ ([], b ∷ bytes, record { whole = refl; each = tt }, inr ((λ e. cc), none))
]

-- a capture, or a first bad piece
pub capture-or-bad : (octets : List ℕ) → IsCapture octets ⊎ ((number : ℕ) × IsBadPiece octets number)
capture-or-bad octets = by (has-end (length octets) octets (omega arith))
  where
    by : HasEnd octets → IsCapture octets ⊎ ((number : ℕ) × IsBadPiece octets number)
    by (parts, rest, pieces, inl end) = inl (captured_by parts, record { parts = parts; pieces = subst (Begins octets parts) end pieces; captured_is = refl })
    by (parts, rest, pieces, inr (some, (none, more))) = inr (length parts + 1, record { parts = parts; rest = rest; pieces = pieces; some = some; none = none; place = refl })

-- ---- in one way

-- where no octets are, no piece is
nil-no-piece : BeginsNoPiece []
nil-no-piece p more is e = grind (arith, spelled-longer, length-append)

-- pieces up to what begins none are determined
same-parts : (parts others : List Part) (rest left : List ℕ) → AllByRecursion IsPiece parts → AllByRecursion IsPiece others → BeginsNoPiece rest → BeginsNoPiece left
    → flat_map spelled parts ++ rest ≡ flat_map spelled others ++ left → (parts ≡ others) × (rest ≡ left)
same-parts [] [] rest left each also none no_more e = (refl, e)
same-parts [] (q ∷ others) rest left each also none no_more e = absurd (none q (flat_map spelled others ++ left) also.0 (e ∙ append_assoc (spelled q) (flat_map spelled others) left))
same-parts (p ∷ parts) [] rest left each also none no_more e = absurd (no_more p (flat_map spelled parts ++ rest) each.0 (sym e ∙ append_assoc (spelled p) (flat_map spelled parts) rest))
same-parts (p ∷ parts) (q ∷ others) rest left each also none no_more e = grind (arith, one-piece, append_assoc, same-parts parts others rest left each.1 also.1 none no_more)

-- the same of octets
one-begin : (octets : List ℕ) (parts others : List Part) (rest left : List ℕ) → Begins octets parts rest
    → Begins octets others left → BeginsNoPiece rest → BeginsNoPiece left → (parts ≡ others) × (rest ≡ left)
one-begin octets parts others rest left b c none no_more = same-parts parts others rest left b.each c.each none no_more (sym b.whole ∙ c.whole)

-- never a capture with a bad piece
pub not-both : (octets : List ℕ) (number : ℕ) → IsCapture octets → IsBadPiece octets number → ⊥
not-both octets number (captured, s) b = b.some (sym (one-begin octets s.parts b.parts [] b.rest s.pieces b.pieces nil-no-piece b.none).1)

-- what it holds is determined
pub one-capture : (octets : List ℕ) (captured other : Captured) → AreCapture octets captured → AreCapture octets other → captured ≡ other
one-capture octets captured other s t = s.captured_is ∙ ap captured_by (one-begin octets s.parts t.parts [] [] s.pieces t.pieces nil-no-piece nil-no-piece).0 ∙ sym t.captured_is

-- and so is the number of the first bad piece
pub one-bad-piece : (octets : List ℕ) (number other : ℕ) → IsBadPiece octets number → IsBadPiece octets other → number ≡ other
one-bad-piece octets number other b c = b.place ∙ ap (λ parts. length parts + 1) (one-begin octets b.parts c.parts b.rest c.rest b.pieces c.pieces b.none c.none).0 ∙ sym c.place

-- a piece that is bad for good stays so
pub stays-bad : (octets : List ℕ) (number : ℕ) → IsBadPieceForGood octets number → (more : List ℕ) → IsBadPieceForGood (octets ++ more) number
stays-bad octets number b more after = subst (λ (all : List ℕ). IsBadPiece all number) (sym (append_assoc octets more after)) (b (more ++ after))

-- and the octets begin no capture
pub begins-none : (octets : List ℕ) (number : ℕ) → IsBadPieceForGood octets number → BeginsCapture octets → ⊥
begins-none octets number b (more, capture) = not-both (octets ++ more) number capture (b more)
