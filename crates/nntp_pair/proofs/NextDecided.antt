-- At each place of a pairing a pair comes next, or the pairing ends.
use Rattle.std.proofs.Common.{arith, ◌≡◌, ◌⊎◌, ℕ, List, [], ◌∷◌, ◌++◌, Bool, true, false, count_by, inl, inr, refl, sym, ◌∙◌}
use Rattle.nntp_wire.{specs.Answer.{Response, Spells}, proofs.{SpellLemmas.{spelling-frame}, SpellsDecided.{dec_spelling}, FramesDecided.{dec_frame}}}
use Rattle.nntp_pair.specs.{declared.class.PairClass.{PairClass, TheVariants.{Surplus, Cut, Malformed}}, Pairing.{Unpaired, IsAnswered, IsBad, Awaits, Ending}}
use Rattle.nntp_pair.{specs.Pairing.{end, bad, Ends, asked_at, HasNext, Place, has_line}, proofs.FeedLemmas.{next-of}}

-- what a spelling at the front of the octets answers
spelling-answers : (place : Place) (server octets rest : List ℕ) (response : Response) → Spells (asked_at place) response octets → server ≡ octets ++ rest
    → (initial : List ℕ) × IsAnswered place server initial response rest
spelling-answers place server octets rest response spells whole =
    let found = spelling-frame (asked_at place) response octets rest spells in grind arith

-- where a place is awaited
awaited-next : (a : Unpaired) (place : Place) → Awaits a place → HasNext a ⊎ ((class : PairClass) × IsBad class a)
awaited-next a place awaits = elim (dec_spelling (asked_at place) a.server) [
  | inl (response, octets, rest, spells, whole) ↦
      let answers = spelling-answers place a.server octets rest response spells whole in
      let next = next-of a place (record { index = a.index; place = place; initial = answers.0; response = response }) rest awaits refl refl answers.1 in
      inl (record { index = a.index; place = place; initial = answers.0; response = response }, next.0, next.1)
  | inr none ↦ elim (dec_frame (asked_at place) a.server) [
    | inl (initial, block, rest, has) ↦ inr (
      Malformed,
      grind arith,
    )
    | inr no_frame ↦ inr (Cut, (place, awaits, λ initial block rest has. no_frame (initial, block, rest, has)))
  ]
]

-- where octets are left
octets-next : (a : Unpaired) → HasNext a ⊎ ((class : PairClass) × IsBad class a)
octets-next a = by a.is_closed refl a.places refl where
  by : (is_closed : Bool) → a.is_closed ≡ is_closed → (places : List Place) → a.places ≡ places → HasNext a ⊎ ((class : PairClass) × IsBad class a)
  by true closed places first = inr (Surplus, inl closed)
  by false is_open [] first = inr (Surplus, inr first)
  by false is_open (place ∷ places) first = awaited-next a place (record { is_open = is_open; places = places; first = first })

-- a pair comes next, or the pairing ends
pub next-or-end : (a : Unpaired) → HasNext a ⊎ ((ending : Ending) × Ends a ending)
next-or-end a = by a.server refl where
  by : (server : List ℕ) → a.server ≡ server → HasNext a ⊎ ((ending : Ending) × Ends a ending)
  by [] none = inr (end (count_by has_line a.places), (none, refl))
  by (octet ∷ server) whole = elim (octets-next a) [
    | inl next ↦ inl next
    | inr (class, is_bad) ↦ inr (bad class, ((λ none. let mixed : octet ∷ server ≡ [] = sym whole ∙ none in cc), is_bad))
  ]
