-- What a run has read, read by read.
use Rattle.std.proofs.Common.{◌≡◌, ◌||◌, Bool, true, false, ◌≢◌, ◌∙◌, ℕ, ◌+◌, ◌<◌, ◌≤◌, List, [], ◌∷◌, ◌++◌, Option, ◌^◌, length, take, drop, inl, sym, ap}
use Rattle.std.proofs.{Common.{subst, append_assoc, arith, length-append}, Math.{Bool.{or-false}, Seq.{take-append_seam}}, lemmas.Bool.{true≢false}}
use Rattle.std.{proofs.{lemmas.List.{append-nil, take-append-drop, take-take}, KnownBytes.{Consumes-trans}}, specs.Io.KnownBytes.{Consumes, Keeps, IsAtEnd}}
use Rattle.nntp_check.specs.{Capture.{Held, BeginsCapture, IsBadPiece}, Inner.{CaptureReading.{HasBadFront}, Sinks.{StopsWithin, BothStand, PassesOn}}}
use Rattle.nntp_check.specs.{Run.{ReadsFront, ReadsMore, ReadsBadPiece, IsInputFault}, declared.capture_reader.CaptureReader.{CaptureReader}}
use Rattle.nntp_check.specs.declared.run_fault.RunFault.{RunFault}
use Rattle.nntp_check.specs.declared.run_fault.RunFault.TheVariants as faults

-- a front of a front
pub take-split : (n m : ℕ) (xs : List ℕ) → n ≤ m → take m xs ≡ take n xs ++ drop n (take m xs)
take-split n m xs le = sym (take-append-drop n (take m xs)) ∙ ap (λ t. t ++ drop n (take m xs)) (take-take n m xs le)

-- where all octets are passed on, both stand for them
pub all-passed : (before after : CaptureReader) (Stood Stands : Held → Type 0) (came octets : List ℕ)
    → PassesOn before after Stood Stands octets [] → BothStand before Stood came → BothStand after Stands (came ++ octets)
all-passed before after Stood Stands came octets p both = subst (λ (front : List ℕ). BothStand after Stands (came ++ front)) (sym (p.cut ∙ append-nil p.front)) (p.stands came both)

-- at the input's end a piece is bad
pub ends-bad : (before old after : Option (List ℕ)) (most piece : ℕ) (octets got : List ℕ) → Consumes before old octets
    → Consumes old after got → length got ≡ 0 → IsAtEnd after → length octets ≤ most → IsBadPiece octets piece
    → ReadsBadPiece (record { before = before; after = after; most = most }) piece
ends-bad before old after most piece octets [] read gave none end few bad = search (arith, Consumes-trans)
ends-bad before old after most piece octets (b ∷ got) read gave none end few bad = absurd (omega arith)

-- within what may be read a piece is bad
bad-within : (before old after : Option (List ℕ)) (most piece : ℕ) (octets got fitting rest : List ℕ)
    → Consumes before old octets → Consumes old after got → got ≡ fitting ++ rest → length octets + length fitting ≤ most
    → length got ≤ 2 ^ 16 → HasBadFront octets fitting piece
    → ReadsBadPiece (record { before = before; after = after; most = most }) piece
bad-within before old after most piece octets got fitting rest read gave cut few near h =
    let all : octets ++ got ≡ (octets ++ h.front) ++ (h.rest ++ rest) = grind (arith, append_assoc) in
    let many : length fitting ≡ length h.front + length h.rest = ap length h.cut ∙ length-append h.front h.rest in
    record {
      front = octets ++ h.front;
      rest = h.rest ++ rest;
      consumed = subst (Consumes before after) all (Consumes-trans before old after octets got read gave);
      few = omega (arith, many, few, length-append octets h.front);
      near = omega (arith, many, near, length-append h.rest rest, ap length cut, length-append fitting rest);
      bad = inl h.bad;
    }

-- why reading stops within it
pub stops-bad : (before old after : Option (List ℕ)) (most : ℕ) (octets got fitting rest : List ℕ) (fault : RunFault)
    → Consumes before old octets → Consumes old after got → got ≡ fitting ++ rest → length octets + length fitting ≤ most
    → length got ≤ 2 ^ 16 → BeginsCapture octets
    → StopsWithin octets fitting fault → IsInputFault (record { before = before; after = after; most = most }) fault
stops-bad before old after most octets got fitting rest fault read gave cut few near begun stops = grind (arith, bad-within, Consumes-trans)

-- a read that fails leaves what was read
Consumes-kept : (before old after : Option (List ℕ)) (octets : List ℕ) → Consumes before old octets → Keeps old after → Consumes before after octets
Consumes-kept before old after octets read kept = grind arith

-- which begins a capture then
pub read-fails : (before old after : Option (List ℕ)) (most : ℕ) (octets : List ℕ) → Consumes before old octets → Keeps old after
    → length octets ≤ most → BeginsCapture octets → ReadsFront (record { before = before; after = after; most = most })
read-fails before old after most octets read kept few begun = search Consumes-kept

-- no failed read is a reason
pub stops-unread : (octets fitting : List ℕ) (fault : RunFault) → StopsWithin octets fitting fault → fault ≢ faults.Read
stops-unread octets fitting fault stops e = subst (StopsWithin octets fitting) e stops

-- more came than may be
pub reads-more : (before old after : Option (List ℕ)) (most : ℕ) (octets got fitting rest : List ℕ) → Consumes before old octets
    → Consumes old after got → got ≡ fitting ++ rest → length octets + length fitting ≡ most → 0 < length rest
    → length got ≤ 2 ^ 16 → BeginsCapture (octets ++ fitting) → ReadsMore (record { before = before; after = after; most = most })
reads-more before old after most octets got fitting rest read gave cut many some near begun =
    let all : octets ++ got ≡ (octets ++ fitting) ++ rest = ap (λ t. octets ++ t) cut ∙ sym (append_assoc octets fitting rest) in
    let front : length (octets ++ fitting) ≡ most = length-append octets fitting ∙ many in
    record {
      octets = octets ++ got;
      consumed = Consumes-trans before old after octets got read gave;
      many = omega (arith, ap length all, length-append (octets ++ fitting) rest);
      near = omega (arith, length-append octets got, many, near);
      begun = subst BeginsCapture (sym (ap (take most) all ∙ ap (λ n. take n ((octets ++ fitting) ++ rest)) (sym front) ∙ take-append_seam (octets ++ fitting) rest)) begun;
    }

-- a read that didn't fail leaves what is remembered
pub stays-same : (new old first : Bool) → new ≡ (old || false) → old ≡ first → new ≡ first
stays-same new old first e same = e ∙ or-false old ∙ same

-- so nothing failed where nothing had
pub still-fresh : (new old first : Bool) → new ≡ (old || false) → old ≡ first → first ≡ false → new ≡ true → ⊥
still-fresh new old first e same fresh failed = true≢false (sym failed ∙ stays-same new old first e same ∙ fresh)
