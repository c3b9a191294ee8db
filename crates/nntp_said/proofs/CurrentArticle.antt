-- The current article of a session can be read off the session.
use Rattle.nntp_wire.specs.{declared.marks.Marks.{Marks}, Answer.{Asked, Response}}
use Rattle.std.proofs.Common.{◌≡◌, List, [], ◌∷◌, sym, arith}
use Rattle.nntp_article.specs.{Session.{Spool.{Spool}, Machine.{Visible, Agrees, Run, after, visible_after}}, declared.session.profile.Profile.{Profile}}
use Rattle.nntp_said.specs.{Inner.Asks.{RunsAt, state_at}, Asks.{position_after}, declared.position.Position.{Position}}

pub after-state_at : (how : Marks) (S : Spool) (v : Visible) (at : Position) (p : Asked) (a : Response)
    → Agrees how S (state_at S v at) p a → after S (state_at S v at) p a ≡ state_at S (visible_after v p a) (position_after at p a)
after-state_at how S v at p a h = grind arith

pub read_off : (profile : Profile) (S : Spool) (v : Visible) (at : Position) (ps : List Asked) (answers : List Response) → Run profile S (state_at S v at) ps answers → RunsAt profile S v at ps answers
read_off profile S v at (p ∷ ps) (a ∷ more) r = grind (arith, after-state_at profile.marks S v at p a r.1.may.agrees, read_off profile S (visible_after v p a) (position_after at p a) ps more)
read_off profile S v at ps [] r = tt
read_off profile S v at ps answers r = r

pub run_from : (profile : Profile) (S : Spool) (v : Visible) (at : Position) (ps : List Asked) (answers : List Response) → RunsAt profile S v at ps answers → Run profile S (state_at S v at) ps answers
run_from profile S v at (p ∷ ps) (a ∷ more) r =
    (_, record { may = r.0; leads = sym (after-state_at profile.marks S v at p a r.0.agrees) }, run_from profile S (visible_after v p a) (position_after at p a) ps more r.1)
run_from profile S v at ps [] r = tt
run_from profile S v at ps answers r = r
