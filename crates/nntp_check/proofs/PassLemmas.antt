-- How octets of a capture are passed on to a sink.
use Rattle.std.proofs.Common.{◌≡◌, ◌∙◌, ℕ, ◌+◌, ◌<◌, ◌≤◌, ◌^◌, List, ◌++◌, length, sym, ap, subst, append_assoc, arith, length-append, flat_map}
use Rattle.std.proofs.lemmas.{List.{append-nil}, Grind.{flat_map-append}}
use Rattle.nntp_check.specs.{Capture.{Held, Part, spelled}, Inner.{CaptureReading.{IsAt, HasRead, HasBadFront, Reads}, Sinks.{HasRoom, Takes, BothStand}}}
use Rattle.nntp_check.specs.{Inner.Sinks.{PassesOn, StopsWithin}, declared.capture_reader.{CaptureReader.{CaptureReader}, Passage.{Passage}, Place.{Place}}}
use Rattle.nntp_check.{specs.declared.run_fault.RunFault.{RunFault}, proofs.HoldingLemmas.{last_octets, captured-few}}
use Rattle.nntp_check.specs.declared.run_fault.RunFault.TheVariants as faults

-- ---- streams are shorter than their capture

-- what came of a piece that has begun
begun-few : (place : Place) (octets : List ℕ) (begun : List Part) → IsAt place octets begun → length (flat_map spelled begun) ≤ length octets
begun-few place octets begun at = grind (arith, append-nil)

-- both streams of the session that goes on have no more octets than came
streams-few : (reader : CaptureReader) (came : List ℕ) (held : Held) → HasRead reader came held → length held.last.session.client.octets + length held.last.session.server ≤ length came
streams-few reader came held r =
    let h = r.come in
    grind (arith, last_octets, length-append, flat_map-append, begun-few reader.place h.octets h.begun h.at, captured-few (h.parts ++ h.begun))

-- so a sink has room for a front of what fits
pub has-room : (reader : CaptureReader) (Stands : Held → Type 0) (came octets front rest : List ℕ)
    → BothStand reader Stands came → length came + length octets < 2 ^ 64 → octets ≡ front ++ rest → HasRoom Stands front
has-room reader Stands came octets front rest both few cut = grind (arith, length-append, streams-few reader came both.0 both.1)

-- ---- octets that are passed on

-- as a reader tells of them
pub passed-on : (before after : CaptureReader) (Stood Stands : Held → Type 0) (passage : Passage) (octets front rest : List ℕ) → octets ≡ front ++ rest
    → Reads before after passage front → Takes Stood Stands passage front → PassesOn before after Stood Stands octets rest
passed-on before after Stood Stands passage octets front rest cut reads takes = record {
  front = front;
  cut = cut;
  stands = λ came both. (_, reads came both.0 both.1, takes both.0 both.2);
}

-- nothing was passed on yet
pub passed-none : (reader : CaptureReader) (Stands : Held → Type 0) (octets : List ℕ) → PassesOn reader reader Stands Stands octets octets
passed-none reader Stands octets = grind (arith, append-nil)

-- one after the other
pub passed-more : (before between after : CaptureReader) (Stood Standing Stands : Held → Type 0)
    (octets left rest : List ℕ) → PassesOn before between Stood Standing octets left
    → PassesOn between after Standing Stands left rest
    → PassesOn before after Stood Stands octets rest
passed-more before between after Stood Standing Stands octets left rest p q = record {
  front = p.front ++ q.front;
  cut = p.cut ∙ ap (λ t. p.front ++ t) q.cut ∙ sym (append_assoc p.front q.front rest);
  stands = λ came both. subst (BothStand after Stands) (append_assoc came p.front q.front) (q.stands (came ++ p.front) (p.stands came both));
}

-- what is left has room where all had
pub left-room : (before after : CaptureReader) (Stood Stands : Held → Type 0) (octets rest came : List ℕ)
    → PassesOn before after Stood Stands octets rest → BothStand before Stood came → length came + length octets < 2 ^ 64
    → (more : List ℕ) × BothStand after Stands more × (length more + length rest < 2 ^ 64)
left-room before after Stood Stands octets rest came p both few =
    (came ++ p.front, p.stands came both, omega (arith, ap length p.cut, length-append p.front rest, length-append came p.front))

-- a front that is bad behind some is bad behind all
pub bad-behind : (came octets front rest : List ℕ) (piece : ℕ) → octets ≡ front ++ rest → HasBadFront (came ++ front) rest piece → HasBadFront came octets piece
bad-behind came octets front rest piece cut bad = grind (arith, append_assoc)

-- and so is why no more is passed on
pub stops-behind : (came octets front rest : List ℕ) (fault : RunFault) → octets ≡ front ++ rest → StopsWithin (came ++ front) rest fault → StopsWithin came octets fault
stops-behind came octets front rest (faults.Capture piece) cut bad = bad-behind came octets front rest piece cut bad
stops-behind came octets front rest fault cut bad = search
