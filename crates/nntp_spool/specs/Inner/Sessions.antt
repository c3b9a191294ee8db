-- What is said with the words of `Sessions.antt`, and needn't be believed.
use Rattle.std.specs.{Prelude.{true, ◌≡◌, ℕ, List, [], ◌∷◌, ⊤}, List.{AllByRecursion}}
use Rattle.nntp_pair.specs.Pairing.{Paired, asked_at}
use Rattle.nntp_article.specs.{Session.{Spool.{Spool}, Machine.{State, is_ascending, names_differ, overview_numbers, MayAnswer, after}}, Inner.Listed.{Lists}}
use Rattle.nntp_article.specs.declared.session.profile.Profile.{Profile}
use Rattle.nntp_said.specs.{Asks.{Ask, ListsIn}, Facts.{Fact, Asks, OverviewsAre, GroupsAre}}

-- the numbers that are listed, if any are, are these, and ascend
abbrev pub AsksThese : List ℕ → Ask → Type 0
AsksThese numbers (ListsIn range ns) = (ns ≡ numbers) × (is_ascending numbers ≡ true)
AsksThese numbers ask = ⊤

-- what is listed, if anything is, is this: the numbers, which ascend, by themselves or with the overviews, and the groups, none of which is listed twice
abbrev pub SaysThese : Lists → Fact → Type 0
SaysThese listed (Asks name ask) = AsksThese listed.numbers ask
SaysThese listed (OverviewsAre name range overviews) = (overviews ≡ listed.overviews) × AsksThese listed.numbers (ListsIn range (overview_numbers overviews))
SaysThese listed (GroupsAre p lines) = (lines ≡ listed.groups) × (names_differ listed.groups ≡ true)
SaysThese listed fact = ⊤

-- so of each fact
abbrev pub SayThese : Lists → List Fact → Type 0
SayThese listed facts = AllByRecursion (SaysThese listed) facts

-- the state that the responses of pairs lead to
abbrev pub state_after : Spool → State → List Paired → State
state_after S s [] = s
state_after S s (x ∷ pairs) = state_after S (after S s (asked_at x.place) x.response) pairs

-- each response is permitted in the state that those before it lead to
abbrev pub MayAnswerAll : Profile → Spool → State → List Paired → Type 0
MayAnswerAll profile S s [] = ⊤
MayAnswerAll profile S s (x ∷ pairs) = MayAnswer profile S s (asked_at x.place) x.response × MayAnswerAll profile S (after S s (asked_at x.place) x.response) pairs
