-- All that one answer says of numbers, it says of one group.
use Rattle.std.proofs.Common.{◌≡◌, ap}
use Rattle.nntp_wire.specs.{declared.marks.Marks.{Marks}, Answer.{Asked, Response}}
use Rattle.nntp_article.specs.Session.Machine.{Visible}
use Rattle.nntp_said.specs.{declared.position.Position.{Position}, Facts.{facts_of}}

-- of the visible state, an answer speaks of the selected group alone
pub same_selected : (how : Marks) (v w : Visible) → v.selected ≡ w.selected → (at : Position) (p : Asked) (a : Response) → facts_of how v at p a ≡ facts_of how w at p a
same_selected how v w e at p a = ap (λ s. facts_of how (record v { selected = s }) at p a) e
