-- What a session says of numbers, it says of groups that it shows.
use Rattle.nntp_wire.specs.{declared.{marks.Marks.{Marks}, water_marks.WaterMarks.{WaterMarks}}, Answer.{Asked, Response}}
use Rattle.std.{proofs.Common.{◌≡◌, IsTrue, List, [], ◌∷◌, Some, is_some, arith}, specs.{Prelude.{⊤}, List.{AllByRecursion}}}
use Rattle.nntp_article.specs.{Session.{Spool.{Name}, Machine.{Visible, visible_after, start, fits}}, declared.session.profile.Profile.{Profile}}
use Rattle.nntp_said.specs.{Asks.{position_after, Estimates}, declared.position.Position.{Position, TheVariants.{Nowhere}}, Facts.{Fact, ThereIs, Asks, IdAt}}
use Rattle.nntp_said.{specs.{Facts.{OverviewsAre, here, facts_of, facts_from}, Inner.Facts.{FitsAll}}, proofs.Rows.{Row, row, nowhere, top, bottom}}
use Rattle.nntp_said.proofs.Rows.{none_within, lacks, within, marks, listing, up, down, text_at, text_here, overview_at, overview_here}
use Rattle.nntp_theory.{specs.Given.{facts_of_session}, proofs.Members.{In, all_both, all_front, all_back, all_from}}

-- a 211 said that there is such a group, with its marks, which are read so
pub record IsSelectable (how : Marks) (all : List Fact) (name : Name) : Type 0 where
  pub marks : WaterMarks
  pub there : In (ThereIs name) all
  pub estimated : In (Asks name (Estimates how marks)) all

-- the fact is among all
abbrev pub Among : List Fact → Fact → Type 0
Among all fact = In fact all

-- numbers that a fact speaks of are those of such a group
abbrev pub Placed : Marks → List Fact → Fact → Type 0
Placed how all (ThereIs name) = IsSelectable how all name
Placed how all (Asks name ask) = IsSelectable how all name
Placed how all (IdAt name n id) = IsSelectable how all name
Placed how all (OverviewsAre name r os) = IsSelectable how all name
Placed how all fact = ⊤

-- the facts of a 211
pub selectable : (how : Marks) (all : List Fact) (name : Name) (m : WaterMarks) → AllByRecursion (Among all) (ThereIs name ∷ Asks name (Estimates how m) ∷ []) → IsSelectable how all name
selectable how all name m h = record { marks = m; there = h.0; estimated = h.1.0 }

-- the selected group is one
abbrev pub HasNoted : Marks → List Fact → Visible → Type 0
HasNoted how all v = (name : Name) → v.selected ≡ Some name → IsSelectable how all name

-- the selected group, if one is selected, is there
here_stands : (how : Marks) (all : List Fact) (v : Visible) → HasNoted how all v → IsTrue (is_some v.selected) → IsSelectable how all (here v)
here_stands how all v stands some = grind arith

-- what a row says of numbers, it says of a group that is there
row_placed : (profile : Profile) (all : List Fact) (v : Visible) (at : Position) {F : Type 0} {a : Response} {facts : List Fact} → Row profile v at F a facts → F
    → HasNoted profile.marks all v → AllByRecursion (Among all) facts → AllByRecursion (Placed profile.marks all) facts
row_placed profile all v at (nowhere code is) f stands h = (here_stands profile.marks all v stands (is f), tt)
row_placed profile all v at (top code is) f stands h = (here_stands profile.marks all v stands (is f), tt)
row_placed profile all v at (bottom code is) f stands h = (here_stands profile.marks all v stands (is f), tt)
row_placed profile all v at (none_within code range is) f stands h = (here_stands profile.marks all v stands (is f), tt)
row_placed profile all v at (lacks code n is) f stands h = (here_stands profile.marks all v stands (is f), tt)
row_placed profile all v at (within range lines is) f stands h = (here_stands profile.marks all v stands (is f).0, tt)
row_placed profile all v at (marks m name is) f stands h = let g = selectable profile.marks all name m h in (g, (g, tt))
row_placed profile all v at (listing m name range lines is) f stands h = let g = selectable profile.marks all name m (h.0, (h.1.0, tt)) in (g, (g, (g, tt)))
row_placed profile all v at (up s is) f stands h = let g = here_stands profile.marks all v stands (is f).0 in (g, (g, tt))
row_placed profile all v at (down s is) f stands h = let g = here_stands profile.marks all v stands (is f).0 in (g, (g, tt))
row_placed profile all v at (text_at what s is) f stands h = (tt, (here_stands profile.marks all v stands (is f).1.0, tt))
row_placed profile all v at (text_here what s is) f stands h = let g = here_stands profile.marks all v stands (is f).1.0 in (tt, (g, (g, tt)))
row_placed profile all v at (overview_at lines o one is) f stands h = (tt, (here_stands profile.marks all v stands (is f).0, tt))
row_placed profile all v at (overview_here lines o one is) f stands h = let g = here_stands profile.marks all v stands (is f).0 in (tt, (g, (g, tt)))
row_placed profile all v at other f stands h = grind arith

-- what an answer that fits says of numbers, it says of a group that is there
answer_placed : (profile : Profile) (all : List Fact) (v : Visible) (at : Position) (p : Asked) (a : Response) → IsTrue (fits profile v p a) → HasNoted profile.marks all v
    → AllByRecursion (Among all) (facts_of profile.marks v at p a) → AllByRecursion (Placed profile.marks all) (facts_of profile.marks v at p a)
answer_placed profile all v at p a f stands h = row_placed profile all v at (row profile v at p a) f stands h

-- the group that is selected afterwards is there
pub still_stands : (profile : Profile) (all : List Fact) (v : Visible) (at : Position) (p : Asked) (a : Response)
    → HasNoted profile.marks all v → IsTrue (fits profile v p a) → AllByRecursion (Among all) (facts_of profile.marks v at p a) → HasNoted profile.marks all (visible_after v p a)
still_stands profile all v at p a h i j = grind arith

-- the same of all that a session says, from any state on
all_placed : (profile : Profile) (all : List Fact) (v : Visible) (at : Position) (ps : List Asked) (answers : List Response) → HasNoted profile.marks all v → FitsAll profile v ps answers
    → AllByRecursion (Among all) (facts_from profile.marks v at ps answers) → AllByRecursion (Placed profile.marks all) (facts_from profile.marks v at ps answers)
all_placed profile all v at (p ∷ ps) (a ∷ more) stands f h =
    search (arith, answer_placed, all_placed profile all (visible_after v p a) (position_after at p a) ps more, all_front, all_back, all_both, still_stands)
all_placed profile all v at ps answers stands f h = tt

-- in a session that fits, what is said of numbers is said of groups that a 211 selected, whatever else is said
pub placed_among : (profile : Profile) (all : List Fact) (ps : List Asked) (answers : List Response) → FitsAll profile start.visible ps answers
    → AllByRecursion (Among all) (facts_of_session profile.marks ps answers) → AllByRecursion (Placed profile.marks all) (facts_of_session profile.marks ps answers)
placed_among profile all ps answers f h = all_placed profile all start.visible Nowhere ps answers (λ name e. cc) f h

pub session_placed : (profile : Profile) (ps : List Asked) (answers : List Response) → FitsAll profile start.visible ps answers
    → AllByRecursion (Placed profile.marks (facts_of_session profile.marks ps answers)) (facts_of_session profile.marks ps answers)
session_placed profile ps answers f = search (arith, placed_among, all_from)
