-- The names of the groups that are shown.
use Rattle.std.{proofs.Common.{◌≡◌, true, List, arith}, specs.{List.{AllByRecursion}, Cmp.Lexicographic.{same_text}}}
use Rattle.nntp_wire.specs.Name.{IsGroupName}
use Rattle.nntp_article.specs.Session.Spool.{Name}
use Rattle.nntp_said.specs.Facts.{Fact}
use Rattle.nntp_theory.{specs.{Given.{is_shown_group}, Inner.Together.{IsWellFormed}}, proofs.Members.{all_at, found_in}}

-- a group that is shown has a name that is one
pub shown_named : (facts : List Fact) (name : Name) → AllByRecursion IsWellFormed facts → is_shown_group facts name ≡ true → IsGroupName name
shown_named facts name formed shown = grind (arith, found_in, all_at, same_text)
