use Rattle.std.proofs.Common.{◌≡◌, ℕ, true, false, Ok, refl}
use Rattle.nntp_article.specs.Session.Spool.{Name, Spool, Numbers}
use Rattle.nntp_wire.specs.Decided.{is_group_name}
use Rattle.nntp_content.specs.{Ascending.{is_last}, Content.{with_group}}
use Rattle.nntp_store.specs.{Inner.ReadingView.{turn_of}, Reading.{Place, On, numbers_at, group_at}}
use Rattle.nntp_store.proofs.text.read.group_at.Goals as goal

-- a group is read where its numbers are
all_read : (limit line count : ℕ) (name said : Name) (S T : Spool) (p : Place) (N : Numbers × Place) → is_group_name name ≡ true → said ≡ name → true ≡ is_last S.groups said
    → numbers_at limit count p ≡ Ok N → T ≡ with_group S said N.0 → turn_of false (group_at limit line name count S p) ≡ Ok (On false T N.1)
unfolding group_at
all_read limit line count name said S T p N right same last numbers is = rw (right, ← same, ← last, numbers, is) refl

pub returns : goal.returns
returns g c =
    all_read c.args.limit c.args.line c.args.count c.args.name.now _ _ _ _ _ c.in-Some.ensures.0 c.in-Some.ensures.1 c.if-not-is_after_groups.ensures c.in_ok-numbers.ensures c.in_ok-add_group.ensures
