-- Where a session stands, and by which answers (RFC 3977, section 6.1).
use Rattle.std.specs.Prelude.{ℕ, ◌==◌, if◌then◌else◌, List, [], ◌∷◌, None, Some}
use Rattle.nntp_wire.specs.Answer.{Response, group_is, numbers_are}
use Rattle.nntp_article.specs.Session.Spool.{Name}
use Rattle.nntp_pair.specs.Pairing.{Paired, asked_at}
use Rattle.nntp_said.specs.{Asks.{position_after}, declared.position.Position.{Position, TheVariants.{Nowhere, First, Known}}}
use Rattle.nntp_theory.specs.Conflict.{Placed}
use Rattle.nntp_facts.specs.declared.{standing.Standing.{Standing}, placed.Placed.{Placed as PlacedCode}}

-- no group is selected, as where a session begins
abbrev pub nowhere : Standing
nowhere = record { selected = None; selected_by = 0; position = Nowhere; moved_by = 0 }

-- the answer that led to a position: this one, unless the session stood there before
abbrev pub mover : Position → Position → ℕ → ℕ → ℕ
mover (Known before) (Known after) old this = if before == after then old else this
mover before (Known after) old this = this
mover before after old this = old

-- the answer selected the group
abbrev pub selecting : Name → ℕ → Standing
selecting name index = record { selected = Some name; selected_by = index; position = First; moved_by = index }

-- the position behind an answer that selects none
abbrev pub moved : Paired → Standing → Standing
moved pair s =
    let position = position_after s.position (asked_at pair.place) pair.response in
    record s { position = position; moved_by = mover s.position position s.moved_by pair.index }

-- where an answer leaves the session
abbrev pub standing_by : Response → Paired → Standing → Standing
standing_by (group_is marks name) pair s = selecting name pair.index
standing_by (numbers_are marks name lines) pair s = selecting name pair.index
standing_by response pair s = moved pair s

abbrev pub standing_after : Standing → Paired → Standing
standing_after s pair = standing_by pair.response pair s

-- where answers leave it, one after the other
abbrev pub standing_from : Standing → List Paired → Standing
standing_from s [] = s
standing_from s (pair ∷ pairs) = standing_from (standing_after s pair) pairs

-- where these answers leave a session
abbrev pub standing : List Paired → Standing
standing pairs = standing_from nowhere pairs

-- an answer where it stands, without its session and the answers by which it stands there
abbrev pub stands_of : PlacedCode → Placed
stands_of p = record { selected = p.standing.selected; position = p.standing.position; asked = asked_at p.exchange.place; response = p.exchange.response }
