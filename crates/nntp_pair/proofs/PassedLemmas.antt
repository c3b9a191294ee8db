-- A frame that spells nothing is passed over in one way, and only where the pairing would end at it.
use Rattle.std.proofs.Common.{◌≡◌, ◌≢◌, ◌↔◌, ℕ, ◌+◌, ◌<◌, List, ◌∷◌, length, drop, Option, None, Some, MatchOption, false, not, refl, sym, ◌∙◌, ap, subst}
use Rattle.std.{proofs.Common.{arith, length-append}, specs.Prelude.{is_some}}
use Rattle.nntp_wire.specs.{Answer.{Asked, Spells, code_of, is_block_due}, Inner.Frame.{FrameParts, IsFrame}, Frame.{HasFrame, is_due_by, frame_octets}}
use Rattle.nntp_wire.specs.{Misspelling.{misspelling}, declared.misspelling.Misspelling.{Misspelling, TheVariants.{WrongBlock}}}
use Rattle.nntp_wire.proofs.{MisspelledFrames.{misspelled-alone}, MisspellingsAreSo.{so}, SpellLemmas.{one-frame}}
use Rattle.nntp_pair.specs.{declared.class.PairClass.TheVariants.{Malformed}, Pairing.{Unpaired, IsPassedOver, Awaits, IsBad, IsMalformed, bad, Ends, asked_at}}
use Rattle.nntp_pair.{specs.Pairing.{Place}, proofs.NextLemmas.{same_unpaired, one-awaited}}

-- a frame takes octets
pub frame-takes : (place : Place) (server initial : List ℕ) (block : Option (List ℕ)) (rest : List ℕ) → HasFrame (asked_at place) server initial block rest → length rest < length server
frame-takes place server initial block rest has = grind (arith, length-append)

pub passed-shorter : (a b : Unpaired) (line : Place) (initial : List ℕ) (block : Option (List ℕ)) → IsPassedOver a line initial block b → length b.server < length a.server
passed-shorter a b line initial block passed = frame-takes line a.server initial block b.server passed.frame

-- what is passed over is determined
pub one-passed : (a b c : Unpaired) (line also : Place) (initial other : List ℕ) (block next : Option (List ℕ))
    → IsPassedOver a line initial block b → IsPassedOver a also other next c → (line ≡ also) × (initial ≡ other) × (block ≡ next) × (b ≡ c)
one-passed a b c line also initial other block next p q =
    let places : line ∷ b.places ≡ also ∷ c.places = sym p.comes ∙ q.comes in
    let same : line ≡ also = cc in
    let behind : b.places ≡ c.places = cc in
    let here : HasFrame (asked_at also) a.server initial block b.server = subst (λ l. HasFrame (asked_at l) a.server initial block b.server) same p.frame in
    let one = one-frame (asked_at also) a.server initial other block next b.server c.server here q.frame in
    (same, one.0, one.1, same_unpaired b c (p.next_index ∙ sym q.next_index) behind one.2 (p.stays_open ∙ sym q.stays_open))

-- the pairing would end there
pub passed-ends : (a b : Unpaired) (line : Place) (initial : List ℕ) (block : Option (List ℕ)) → IsPassedOver a line initial block b → Ends a (bad Malformed)
passed-ends a b line initial block passed = grind arith

-- a frame that spells nothing is passed over
pub malformed-passed : (a : Unpaired) (place : Place) (awaits : Awaits a place) (why : IsMalformed (asked_at place) a.server)
    → IsPassedOver a place why.initial why.block (record { index = a.index + 1; places = awaits.places; server = why.rest; is_closed = false })
malformed-passed a place awaits why = grind arith

-- so there is one to pass over exactly where the pairing ends at one
pub passed-exactly : (a : Unpaired) → Ends a (bad Malformed)
    ↔ ((line : Place) × (initial : List ℕ) × (block : Option (List ℕ)) × (after : Unpaired) × IsPassedOver a line initial block after)
passed-exactly a = (
  λ ends. let why = ends.1.2 in (ends.1.0, why.initial, why.block, _, malformed-passed a ends.1.0 ends.1.1 why),
  λ some. passed-ends a some.3 some.0 some.1 some.2 some.4,
)

-- ---- why it spells nothing

-- a frame has a block exactly where one is due
as-due : (asked : Asked) (sent : Option (List ℕ)) (o : Option ℕ) → is_some sent ≡ is_due_by asked o → MatchOption o ⊥ (λ code. is_some sent ≡ not (is_block_due asked code)) → ⊥
as-due asked sent o due other = grind arith

-- so there is a reason, and it isn't that
pub passed-reason : (a b : Unpaired) (line : Place) (initial : List ℕ) (block : Option (List ℕ)) → IsPassedOver a line initial block b
    → MatchOption (misspelling (asked_at line) initial block) ⊥ (λ why. why ≢ WrongBlock)
passed-reason a b line initial block passed = by (misspelling (asked_at line) initial block) refl where
  parts : FrameParts
  parts = record { initial = initial; block = block; len = length (frame_octets initial block) }

  whole : IsFrame parts
  whole = record { is_line = passed.frame.is_line; before_dot_line = passed.frame.before_dot_line; len_is = refl }

  by : (o : Option Misspelling) → misspelling (asked_at line) initial block ≡ o → MatchOption o ⊥ (λ why. why ≢ WrongBlock)
  by None e = let some = (misspelled-alone (asked_at line) parts whole).0 e in passed.nothing some.0 some.1
  by (Some why) e = λ same. as-due (asked_at line) block (code_of initial) passed.frame.due (so (asked_at line) initial block WrongBlock (e ∙ ap Some same))

-- ---- behind the frame that was found

-- what is left behind it
abbrev behind-frame : Unpaired → List Place → List ℕ → Unpaired
behind-frame a places rest = record { index = a.index + 1; places = places; server = rest; is_closed = false }

passed-here : (a : Unpaired) (place : Place) (initial : List ℕ) (block : Option (List ℕ)) (behind : List Place) (rest : List ℕ)
    → IsBad Malformed a → a.places ≡ place ∷ behind → HasFrame (asked_at place) a.server initial block rest → IsPassedOver a place initial block (behind-frame a behind rest)
passed-here a place initial block behind rest (other, awaits, is) first has =
    let same = one-awaited a other place awaits (record { is_open = awaits.is_open; places = behind; first = first }) in
    let why : IsMalformed (asked_at place) a.server = subst (λ p. IsMalformed (asked_at p) a.server) same is in
    let one = one-frame (asked_at place) a.server initial why.initial block why.block rest why.rest has why.frame in
    let octets : frame_octets initial block ≡ frame_octets why.initial why.block = ap (λ l. frame_octets l block) one.0 ∙ ap (frame_octets why.initial) one.1 in
    record {
      is_open = awaits.is_open;
      comes = first;
      frame = has;
      nothing = λ response spells. why.nothing response (subst (Spells (asked_at place) response) octets spells);
      next_index = refl;
      stays_open = refl;
    }

-- it was searched for by what is asked, and cut off by its length
pub passed-found : (a left : Unpaired) (place : Place) (asked : Asked) (initial : List ℕ) (block : Option (List ℕ)) (len : ℕ) (behind : List Place) (rest : List ℕ)
    → a ≡ left → IsBad Malformed left → a.places ≡ place ∷ behind → asked ≡ asked_at place → HasFrame asked a.server initial block (drop len a.server) → rest ≡ drop len a.server
    → IsPassedOver left place initial block (behind-frame a behind rest)
passed-found a left place asked initial block len behind rest is why first same has cut =
    let here : HasFrame (asked_at place) a.server initial block rest = subst (λ (t : Asked × List ℕ). HasFrame t.0 a.server initial block t.1) (λ i. (same i, sym cut i)) has in
    let passed = passed-here a place initial block behind rest (subst (IsBad Malformed) (sym is) why) first here in
    subst (λ left. IsPassedOver left place initial block (behind-frame a behind rest)) is passed
