-- What comes next in a pairing is determined.
use Rattle.std.proofs.Common.{◌≡◌, ℕ, ◌<◌, List, ◌∷◌, length, sym, ◌∙◌, ap, subst, arith, length-append}
use Rattle.nntp_wire.{specs.{Answer.{Response, Spells}, Frame.{frame_octets}}, proofs.{SpellLemmas.{one-frame}, ResponseLemmas.{one-response}}}
use Rattle.nntp_pair.specs.{declared.class.PairClass.{PairClass, TheVariants.{Surplus, Cut, Malformed}}, Pairing.{Paired, Unpaired, IsAnswered, IsNext, Awaits}}
use Rattle.nntp_pair.specs.Pairing.{IsBad, Ending, end, bad, Ends, asked_at, Place}

pub same_unpaired : (a b : Unpaired) → a.index ≡ b.index → a.places ≡ b.places → a.server ≡ b.server → a.is_closed ≡ b.is_closed → a ≡ b
same_unpaired a b index places server is_closed = grind arith

-- octets begin with one response
pub one-answered : (place : Place) (server initial other : List ℕ) (response also : Response) (rest more : List ℕ)
    → IsAnswered place server initial response rest → IsAnswered place server other also more → (initial ≡ other) × (response ≡ also) × (rest ≡ more)
one-answered place server initial other response also rest more a b =
    let same = one-frame (asked_at place) server initial other a.block b.block rest more a.frame b.frame in
    let octets : frame_octets other b.block ≡ frame_octets initial a.block = ap (λ l. frame_octets l b.block) (sym same.0) ∙ ap (frame_octets initial) (sym same.1) in
    (same.0, one-response (asked_at place) response also (frame_octets initial a.block) a.spells (subst (Spells (asked_at place) also) octets b.spells), same.2)

-- a response takes octets
pub answered-shorter : (place : Place) (server initial : List ℕ) (response : Response) (rest : List ℕ) → IsAnswered place server initial response rest → length rest < length server
answered-shorter place server initial response rest a = grind (arith, length-append)

pub next-shorter : (a b : Unpaired) (x : Paired) → IsNext a x b → length b.server < length a.server
next-shorter a b x next = answered-shorter x.place a.server x.initial x.response b.server next.answered

-- one pair comes next
pub one-next : (a b c : Unpaired) (x y : Paired) → IsNext a x b → IsNext a y c → (x ≡ y) × (b ≡ c)
one-next a b c x y n m =
    let places : x.place ∷ b.places ≡ y.place ∷ c.places = sym n.place ∙ m.place in
    let line : x.place ≡ y.place = cc in
    let behind : b.places ≡ c.places = cc in
    let here : IsAnswered y.place a.server x.initial x.response b.server = subst (λ p. IsAnswered p a.server x.initial x.response b.server) line n.answered in
    let same = one-answered y.place a.server x.initial y.initial x.response y.response b.server c.server here m.answered in grind arith

-- the place that is awaited is that of the next pair
awaited : (a b : Unpaired) (x : Paired) (place : Place) → IsNext a x b → Awaits a place → x.place ≡ place
awaited a b x place next awaits = let places : x.place ∷ b.places ≡ place ∷ awaits.places = sym next.place ∙ awaits.first in cc

-- one place is awaited
pub one-awaited : (a : Unpaired) (place other : Place) → Awaits a place → Awaits a other → place ≡ other
one-awaited a place other p q = let places : place ∷ p.places ≡ other ∷ q.places = sym p.first ∙ q.first in cc

-- where a pair comes next, nothing is bad
next-no-bad : (class : PairClass) (a b : Unpaired) (x : Paired) → IsNext a x b → IsBad class a → ⊥
next-no-bad Surplus a b x next h = grind arith
next-no-bad Cut a b x next (place, awaits, none) = grind arith
next-no-bad Malformed a b x next (place, awaits, why) =
    let here : IsAnswered place a.server x.initial x.response b.server = subst (λ p. IsAnswered p a.server x.initial x.response b.server) (awaited a b x place next awaits) next.answered in
    let same = one-frame (asked_at place) a.server x.initial why.initial here.block why.block b.server why.rest here.frame why.frame in
    let octets : frame_octets x.initial here.block ≡ frame_octets why.initial why.block = ap (λ l. frame_octets l here.block) same.0 ∙ ap (frame_octets why.initial) same.1 in
    why.nothing x.response (subst (Spells (asked_at place) x.response) octets here.spells)

-- nor does a pairing end there
pub next-no-end : (e : Ending) (a b : Unpaired) (x : Paired) → IsNext a x b → Ends a e → ⊥
next-no-end (end unanswered) a b x next ends = let none : length a.server ≡ 0 = ap length ends.0 in let less = next-shorter a b x next in omega arith
next-no-end (bad class) a b x next ends = next-no-bad class a b x next ends.1

-- a pairing ends in one way
pub one-end : (e f : Ending) (a : Unpaired) → Ends a e → Ends a f → e ≡ f
one-end e f a p q = grind arith
