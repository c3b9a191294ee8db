-- What a feed holds stays when more octets follow.
use Rattle.std.proofs.Common.{arith, ◌≡◌, ◌∙◌, sym, ap, subst, ℕ, nat_lt, List, ◌∷◌, ◌++◌, Option, inl, inr, append_assoc}
use Rattle.nntp_wire.specs.{Octets.{crlf}, Frame.{framed}, Lines.{HasNoCrlf}}
use Rattle.nntp_pair.specs.{declared.class.PairClass.TheVariants.{Malformed}, Pairing.{Paired, Unpaired, IsNext, line_ahead, Place}, Inner.Pairing.{with_more}}
use Rattle.nntp_pair.{specs.Inner.Feeding.{Fed, EndsForGood, left_of, with_octets}, proofs.PairingLemmas.{next-more, bad-stays, some-stay}}
use Rattle.nntp_pair.proofs.{FedLaws.{left-more}, FeedLemmas.{places-more}}
use Rattle.nntp_printing.specs.BadAnswer.{IsFirstLine}
use Rattle.nntp_verdict.{specs.Inner.Judging.{StopsHere}, proofs.ShownPlaces.{no-line}}

-- the next exchange stays
pub next-longer : (fed : Fed) (client server : List ℕ) (x : Paired) (behind : Unpaired) → IsNext (left_of fed) x behind → (later : Unpaired) × IsNext (left_of (with_octets client server fed)) x later
next-longer fed client server x behind next =
    let places = (places-more (nat_lt 0 fed.index) fed.client client).0 in
    (with_more places server behind, subst (λ left. IsNext left x (with_more places server behind)) (sym (left-more fed client server)) (next-more places server (left_of fed) behind x next))

-- a line with CRLF behind it is the first one, whatever follows
first-longer : (octets initial rest more first : List ℕ) → octets ≡ initial ++ crlf ++ rest → IsFirstLine octets first → IsFirstLine (octets ++ more) first
first-longer octets initial rest more first whole (none, inl e) = absurd (no-line octets initial rest (subst HasNoCrlf (sym e) none) whole)
first-longer octets initial rest more first whole (none, inr (behind, e)) = grind (arith, append_assoc)

-- the line ahead, where there is a place
line-longer : (places more : List Place) (place : Place) (rest : List Place) → places ≡ place ∷ rest → line_ahead (places ++ more) ≡ line_ahead places
line-longer places more place rest e = ap (λ p. line_ahead (p ++ more)) e ∙ sym (ap line_ahead e)

-- and octets that spell nothing stay where they are
pub malformed-longer : (fed : Fed) (client server : List ℕ) (index : ℕ) (line : Option (List ℕ)) (octets : List ℕ)
    → EndsForGood Malformed (left_of fed) → index ≡ fed.index → line ≡ line_ahead (left_of fed).places → octets ≡ fed.server
    → StopsHere (left_of (with_octets client server fed)) index Malformed line octets
malformed-longer fed client server index line octets ((some, (place, awaits, why)), lasting) at line-is octets-are =
    let places = (places-more (nat_lt 0 fed.index) fed.client client).0 in
    subst (λ left. StopsHere left index Malformed line octets) (sym (left-more fed client server)) (record {
      ends = (some-stay fed.server server some, bad-stays Malformed places server (left_of fed) tt (place, awaits, why));
      index_is = at;
      line_is = line-is ∙ sym (line-longer (left_of fed).places places place awaits.places awaits.first);
      first = λ first is. first-longer fed.server why.initial (framed why.block ++ why.rest) server first
          (why.frame.whole ∙ append_assoc (why.initial ++ crlf) (framed why.block) why.rest)
          (subst (λ o. IsFirstLine o first) octets-are is);
    })
