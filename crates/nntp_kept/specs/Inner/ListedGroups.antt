-- When a list of groups joins what was said (RFC 3977, section 7.6.3).
use Rattle.std.specs.{Prelude.{◌≡◌, ℕ, Bool, true, if◌then◌else◌, IsTrue, IsFalse, List, [], ◌∷◌, ◌++◌, length, Option, Contains}, List.{AllByRecursion}}
use Rattle.std.specs.{List.{list_any, filter, flat_map}, Option.{option_map_or}}
use Rattle.nntp_wire.specs.{Listing.{ActiveValue}, Decided.{matches_name}}
use Rattle.nntp_article.specs.Session.{Spool.{Name}, Machine.{is_same, names_differ}}
use Rattle.nntp_said.specs.{Asks.{Ask, Bounds}, Facts.{Fact, GroupsAre}}
use Rattle.nntp_theory.specs.{Given.{asks_of, is_shown_group}, Inner.Together.{AsksStand}, Together.{denies_group}}

-- these lines may be listed: each group matches, and none stands twice
pub record MayList (p : Option (List ℕ)) (lines : List ActiveValue) : Type 0 where
  pub matching : AllByRecursion (λ line. IsTrue (option_map_or (λ w. matches_name w line.name) p true)) lines
  pub differ : names_differ lines ≡ true

-- so many groups were listed, by one of the facts
pub record WereListed (facts : List Fact) (p : Option (List ℕ)) (count : ℕ) : Type 0 where
  pub lines : List ActiveValue
  pub said : Contains facts (GroupsAre p lines)
  pub may : MayList p lines
  pub counted : length lines ≡ count

-- the group is listed
abbrev pub is_listed : List ActiveValue → Name → Bool
is_listed lines name = list_any (λ line. is_same line.name name) lines

-- the bounds between which the group is listed
abbrev pub bounds_of : Name → List ActiveValue → List Ask
bounds_of name lines = flat_map (λ line. if is_same line.name name then Bounds line.low line.high ∷ [] else []) lines

-- the lines of groups that are shown
abbrev pub shown_lines : List Fact → List ActiveValue → List ActiveValue
shown_lines facts lines = filter (λ line. is_shown_group facts line.name) lines

-- a listed group joins: it isn't denied, and its bounds stand together with what was asked
pub record LineJoins (facts : List Fact) (line : ActiveValue) : Type 0 where
  pub free : IsFalse (list_any (denies_group line.name) facts)
  pub bounds : AsksStand (asks_of line.name facts ++ Bounds line.low line.high ∷ [])

-- no group that is shown and matches is missing
abbrev pub NoneIsMissing : List Fact → Option (List ℕ) → List ActiveValue → Type 0
NoneIsMissing facts p lines = (name : Name) → is_shown_group facts name ≡ true → option_map_or (λ w. matches_name w name) p true ≡ true → is_listed lines name ≡ true
