-- What the readers of the facts show: the groups with their numbers, and the articles.
use Rattle.std.specs.{Prelude.{◌≡◌, ℕ, ◌==◌, List, map, Option}, List.{list_any, AllByRecursion, Sorted.{IsStrictlySortedBy}}, Ordering.{nat_cmp}}
use Rattle.std.specs.{Cmp.Lexicographic.{slice_cmp}, FinMap.{FinMap, get, entries}}
use Rattle.nntp_article.specs.{Article.Parts.{Id}, Session.{Spool.{Name}, Machine.{is_same}}}
use Rattle.nntp_said.specs.Facts.{Fact}
use Rattle.nntp_theory.specs.{Given.{asks_of, is_shown, is_shown_group, id_shown}, Inner.Unseen.{AreUnseen}}
use Rattle.nntp_numbers.specs.Inner.Unseen.{unseen_in, unseen_high_in}
use Rattle.nntp_kept.specs.Inner.Kept.{KeptGroup}

-- ---- what is shown

-- what is shown of a group: its numbers, each with its id, and the least and the greatest given number if unshown
pub record ShownGroup : Type 0 where
  pub name : Name
  pub numbers : List (ℕ × Option Id)
  pub unseen : Option ℕ
  pub unseen_high : Option ℕ

-- ---- that it is what the facts say

-- the numbers are those that are shown of the group, ascending, each with the id that is shown for it
pub record AreShownNumbers (facts : List Fact) (name : Name) (numbers : List (ℕ × Option Id)) : Type 0 where
  pub ascending : IsStrictlySortedBy nat_cmp (map (λ e. e.0) numbers)
  pub all : (n : ℕ) → list_any (λ e. e.0 == n) numbers ≡ is_shown (asks_of name facts) n
  pub ids : AllByRecursion (λ e. e.1 ≡ id_shown facts name e.0) numbers

-- the numbers of a group are those that are given for the facts
pub record HasShownNumbers (facts : List Fact) (g : ShownGroup) : Type 0 where
  pub numbers : AreShownNumbers facts g.name g.numbers
  pub unseen : AreUnseen (asks_of g.name facts) g.unseen g.unseen_high

-- the groups are those that are shown, in byte order of their names
pub record AreShownGroups (facts : List Fact) (groups : List ShownGroup) : Type 0 where
  pub ascending : IsStrictlySortedBy (slice_cmp nat_cmp) (map (λ g. g.name) groups)
  pub all : (name : Name) → list_any (λ g. is_same g.name name) groups ≡ is_shown_group facts name
  pub each : AllByRecursion (HasShownNumbers facts) groups

-- ---- where it is read off what is kept

-- the numbers, each with the id that is kept for it
abbrev pub with_ids : KeptGroup → List ℕ → List (ℕ × Option Id)
with_ids g ns = map (λ n. (n, get g.ids n)) ns

-- what is shown of a group that is kept
abbrev pub shown_group : Name → KeptGroup → ShownGroup
shown_group name g = record { name = name; numbers = with_ids g g.numbers.shown; unseen = unseen_in g.numbers; unseen_high = unseen_high_in g.numbers }

-- what is shown of groups that are kept, one after the other
abbrev pub shown_in : List (Name × KeptGroup) → List ShownGroup
shown_in entries = map (λ e. shown_group e.0 e.1) entries

-- what is shown of all groups that are kept
abbrev pub shown_groups : FinMap (slice_cmp nat_cmp) KeptGroup → List ShownGroup
shown_groups groups = shown_in (entries groups)
