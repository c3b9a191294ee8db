-- What the values of src/fact.rt mean.
use Rattle.std.specs.Prelude.{ℕ, List, [], ◌∷◌, Option, None, Some, option_map}
use Rattle.nntp_wire.specs.Listing.{active_groups, listed_numbers, overviews_of}
use Rattle.nntp_article.specs.Session.Machine.{overview_numbers}
use Rattle.nntp_said.specs.declared.fact.Ask.{Ask, TheVariants.{Estimates, Bounds, Lists, Lacks, StandsAt, StandsNowhere, StepsUp, StepsDown, IsTop, IsBottom}}
use Rattle.nntp_said.specs.declared.fact.{NumberLines.{NumberLines, TheVariants.{Nothing, Numbers, Overviews}}, Fact.{Fact, TheVariants.{ThereIs, ThereIsNo}}}
use Rattle.nntp_said.specs.declared.fact.Fact.TheVariants.{Asks, IdAt, TextIs, NoArticle, FieldsAre, OverviewsAre, GroupsAre}
use Rattle.nntp_said.specs.Asks as asks
use Rattle.nntp_said.specs.Facts as facts

-- the numbers that lines list
abbrev pub numbers_listed : NumberLines → List ℕ
numbers_listed Nothing = []
numbers_listed (Numbers block) = listed_numbers block.now
numbers_listed (Overviews block) = overview_numbers (overviews_of block.now)

-- what is asked of the numbers of a group, without where the lines of a list lie in memory
abbrev pub ask_of : Ask → asks.Ask
ask_of (Estimates how marks) = asks.Estimates how marks
ask_of (Bounds low high) = asks.Bounds low high
ask_of (Lists range lines) = asks.ListsIn range (numbers_listed lines)
ask_of (Lacks number) = asks.Lacks number
ask_of (StandsAt at number) = asks.StandsAt at number
ask_of (StandsNowhere at) = asks.StandsNowhere at
ask_of (StepsUp at number) = asks.StepsUp at number
ask_of (StepsDown at number) = asks.StepsDown at number
ask_of (IsTop at) = asks.IsTop at
ask_of (IsBottom at) = asks.IsBottom at

-- the fact, without where its octets lie in memory
abbrev pub fact_of : Fact → facts.Fact
fact_of (ThereIs name) = facts.ThereIs name.now
fact_of (ThereIsNo name) = facts.ThereIsNo name.now
fact_of (Asks name ask) = facts.Asks name.now (ask_of ask)
fact_of (IdAt name number id) = facts.IdAt name.now number id.now
fact_of (TextIs what id block) = facts.TextIs what id.now (option_map (λ b. b.now) block)
fact_of (NoArticle id) = facts.NoArticle id.now
fact_of (FieldsAre block) = facts.FieldsAre (overviews_of block.now)
fact_of (OverviewsAre name range block) = facts.OverviewsAre name.now range (overviews_of block.now)
fact_of (GroupsAre wildmat block) = facts.GroupsAre wildmat.now (active_groups block.now)

-- the facts up to the first place that has none
abbrev pub facts_at : List (Option Fact) → List facts.Fact
facts_at [] = []
facts_at (None ∷ places) = []
facts_at (Some fact ∷ places) = fact_of fact ∷ facts_at places
