-- What is said with the words of `Given.antt`, and needn't be believed.
use Rattle.std.specs.Prelude.{ℕ, ◌+◌, List, [], ◌∷◌, length}
use Rattle.nntp_said.specs.{Asks.{Estimates, ListsIn, StandsNowhere, IsTop, IsBottom}, Facts.{Fact, Asks, FieldsAre, OverviewsAre, GroupsAre}}
use Rattle.nntp_wire.specs.Answer.{Response}
use Rattle.nntp_pair.specs.Inner.Pairing.{lines_in}

-- a bound on the names, numbers and ids that a fact has from its answer
abbrev pub size_in : Fact → ℕ
size_in (Asks name (Estimates how m)) = 2
size_in (Asks name (ListsIn r ns)) = length ns
size_in (Asks name (StandsNowhere at)) = 0
size_in (Asks name (IsTop at)) = 0
size_in (Asks name (IsBottom at)) = 0
size_in (FieldsAre overviews) = length overviews
size_in (OverviewsAre name range overviews) = length overviews
size_in (GroupsAre p lines) = length lines
size_in fact = 1

-- a bound on the names, numbers and ids that all facts have from their answers
abbrev pub size : List Fact → ℕ
size [] = 0
size (fact ∷ facts) = size_in fact + size facts

-- a bound on what answers say: three for each, and one for each of its lines
abbrev pub weight : List Response → ℕ
weight [] = 0
weight (a ∷ more) = lines_in a + 3 + weight more
