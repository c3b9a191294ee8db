use Rattle.nntp_kept.proofs.Base.{◌≡◌, true, List, map, take, drop, AllByRecursion, overview_value, TellsWords, Name, Fact, AreKept, AreKeptArticles, Told}
use Rattle.nntp_kept.proofs.{Base.{MayGive, HaveOwn}, Keeping.OverviewsJoin.{AreGiven}}
use Rattle.nntp_kept.proofs.kept.Kept.give_all.Given as goal

-- the overviews so far are told and kept, and those that are left have words
abbrev pub invariant-loop-overview : goal.invariant-loop-overview
invariant-loop-overview g l =
    AllByRecursion TellsWords (map overview_value (drop l.overview-index l.overviews))
    × (l.self.names ≡ l.initial.self.names)
    × ((facts : List Fact) (tells : Name → Told) → AreKept tells l.initial.self.groups → AreKeptArticles facts l.initial.self.articles → (tells l.name).is_shown ≡ true
    → HaveOwn (map overview_value l.overviews) → AllByRecursion (MayGive facts (tells l.name)) (map overview_value l.overviews)
    → AreGiven facts tells l.name (map overview_value (take l.overview-index l.overviews)) l.self)
