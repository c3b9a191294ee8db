-- Where a session stands is what its answers leave visible, and the position.
use Rattle.nntp_facts.proofs.Base.{◌≡◌, ◌∙◌, ap, refl, List, [], ◌∷◌, ◌++◌, arith, Visible, Position, visible_after, Paired, asked_at, asked_of, responses_of}
use Rattle.nntp_facts.{proofs.Base.{position_after, visible_from, position_from, placed_behind, stands_of}, specs.declared.standing.Standing.{Standing}}
use Rattle.nntp_facts.specs.{declared.placed.Placed.{Placed}, Standing.{standing_after, standing_from, standing}}

pub name_after : (pair : Paired) (s : Standing) (v : Visible) → s.selected ≡ v.selected
    → (standing_after s pair).selected ≡ (visible_after v (asked_at pair.place) pair.response).selected
name_after pair s v e = grind arith

pub position_next : (pair : Paired) (s : Standing) → (standing_after s pair).position ≡ position_after s.position (asked_at pair.place) pair.response
position_next pair s = grind arith

-- so it is behind answers
stands_from : (s : Standing) (v : Visible) (at : Position) (pairs : List Paired) → s.selected ≡ v.selected → s.position ≡ at
    → ((standing_from s pairs).selected ≡ (visible_from v (asked_of pairs) (responses_of pairs)).selected)
    × ((standing_from s pairs).position ≡ position_from at (asked_of pairs) (responses_of pairs))
stands_from s v at [] name position = (name, position)
stands_from s v at (pair ∷ pairs) name position =
    stands_from (standing_after s pair) (visible_after v (asked_at pair.place) pair.response) (position_after at (asked_at pair.place) pair.response) pairs
    (name_after pair s v name) (position_next pair s ∙ ap (λ at. position_after at (asked_at pair.place) pair.response) position)

-- an exchange stands there behind accepted ones
pub stands_behind : (p : Placed) (past : List Paired) → p.standing ≡ standing past → stands_of p ≡ placed_behind past p.exchange
stands_behind p past there = grind (arith, stands_from)

-- one more leads on from there
pub standing_push : (s : Standing) (pairs : List Paired) (pair : Paired) → standing_from s (pairs ++ pair ∷ []) ≡ standing_after (standing_from s pairs) pair
standing_push s [] pair = refl
standing_push s (first ∷ pairs) pair = standing_push (standing_after s first) pairs pair
