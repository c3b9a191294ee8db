-- The table of what an answer says, by its rows: a list of facts each, with what is known of them where the answer fits.
use Rattle.std.proofs.{Common.{◌≡◌, ℕ, ◌==◌, ◌&&◌, ◌⊎◌, IsTrue, List, [], ◌∷◌, Option, Some, is_some, arith}, lemmas.Bool.{and_parts, or_cases, eqb-true}}
use Rattle.std.{proofs.lemmas.Bool.{true≢false, Decides.{nat_tests}}, specs.List.{list_all}}
use Rattle.nntp_article.specs.{Article.Parts.{Id}, Session.{Spool.{Name}, Machine.{Visible, fits, marks_fit, is_ascending, is_article_number, is_in_range}}}
use Rattle.nntp_article.specs.Session.Machine.{head_fits, active_fits, names_differ, is_one_of, none_in_range, overview_numbers, overview_ids, all_differ, only}
use Rattle.nntp_article.specs.declared.session.profile.Profile.{Profile}
use Rattle.nntp_said.specs.{Asks.{Estimates, ListsIn, Lacks, StandsAt, StandsNowhere, StepsUp, StepsDown, IsTop, IsBottom}, Facts.{Fact, ThereIs, ThereIsNo}}
use Rattle.nntp_said.specs.{Facts.{Asks, IdAt, TextIs, NoArticle, FieldsAre, OverviewsAre, GroupsAre, here, facts_of}, declared.position.Position.{Position}}
use Rattle.nntp_wire.specs.{Listing.{OverviewValue, listed_numbers, active_groups, overviews_of}, Answer.{Asked, Response, Success, to, group_is, numbers_are}}
use Rattle.nntp_wire.specs.{Answer.{sends, active_are, overviews_are, plain}, Command.{over}, declared.command.{OverviewKeyword.{OverviewKeyword}, What.{What}}}
use Rattle.nntp_wire.specs.declared.{range.Range.{Range}, water_marks.WaterMarks.{WaterMarks}}

-- of the codes that tell that a range has no article
pub none_cases : (keyword : OverviewKeyword) (code : ℕ) → IsTrue (is_one_of (none_in_range keyword) code) → IsTrue (code == 420) ⊎ IsTrue (code == 423)
none_cases keyword code t = grind (arith, or_cases, nat_tests)

-- ---- rows

-- numbers that are listed ascend, and each is an article number in the range
abbrev pub AreListed : Profile → Range → List ℕ → Type 0
AreListed profile range ns = IsTrue (is_ascending ns) × IsTrue (list_all (λ n. is_article_number profile.limit n && is_in_range range n) ns)

-- a group is selected, and this is an article number
abbrev pub IsInSelected : Profile → Visible → ℕ → Type 0
IsInSelected profile v n = IsTrue (is_some v.selected) × IsTrue (is_article_number profile.limit n)

-- a row: the response, the facts, and what is known of them if the answer fits
pub data Row (profile : Profile) (v : Visible) (at : Position) (Fits : Type 0) : Response → List Fact → Type 0 where
  nothing : (a : Response) → Row profile v at Fits a []
  no_group : (code : ℕ) (name : Name) → Row profile v at Fits (plain code) (ThereIsNo name ∷ [])
  no_article : (code : ℕ) (id : Id) → Row profile v at Fits (plain code) (NoArticle id ∷ [])
  nowhere : (code : ℕ) → (Fits → IsTrue (is_some v.selected)) → Row profile v at Fits (plain code) (Asks (here v) (StandsNowhere at) ∷ [])
  top : (code : ℕ) → (Fits → IsTrue (is_some v.selected)) → Row profile v at Fits (plain code) (Asks (here v) (IsTop at) ∷ [])
  bottom : (code : ℕ) → (Fits → IsTrue (is_some v.selected)) → Row profile v at Fits (plain code) (Asks (here v) (IsBottom at) ∷ [])
  none_within : (code : ℕ) (range : Range) → (Fits → IsTrue (is_some v.selected)) → Row profile v at Fits (plain code) (Asks (here v) (ListsIn range []) ∷ [])
  within : (range : Range) (lines : List (List ℕ))
      → (Fits → IsTrue (is_some v.selected) × AreListed profile range (overview_numbers (overviews_of lines)) × IsTrue (all_differ (overview_ids (overviews_of lines))))
      → Row profile v at Fits (overviews_are lines) (OverviewsAre (here v) range (overviews_of lines) ∷ [])
  lacks : (code n : ℕ) → (Fits → IsTrue (is_some v.selected)) → Row profile v at Fits (plain code) (Asks (here v) (Lacks n) ∷ [])
  marks : (m : WaterMarks) (name : Name) → (Fits → IsTrue (marks_fit profile v name m))
      → Row profile v at Fits (group_is m name) (ThereIs name ∷ Asks name (Estimates profile.marks m) ∷ [])
  listing : (m : WaterMarks) (name : Name) (range : Range) (lines : List (List ℕ)) → (Fits → IsTrue (marks_fit profile v name m) × AreListed profile range (listed_numbers lines))
      → Row profile v at Fits (numbers_are m name lines) (ThereIs name ∷ Asks name (Estimates profile.marks m) ∷ Asks name (ListsIn range (listed_numbers lines)) ∷ [])
  up : (s : Success) → (Fits → IsInSelected profile v s.number) → Row profile v at Fits (sends s) (Asks (here v) (StepsUp at s.number) ∷ IdAt (here v) s.number s.id ∷ [])
  down : (s : Success) → (Fits → IsInSelected profile v s.number) → Row profile v at Fits (sends s) (Asks (here v) (StepsDown at s.number) ∷ IdAt (here v) s.number s.id ∷ [])
  text : (what : What) (s : Success) → (Fits → IsTrue (head_fits what s.id s.block)) → Row profile v at Fits (sends s) (TextIs what s.id s.block ∷ [])
  text_at : (what : What) (s : Success) → (Fits → IsTrue (head_fits what s.id s.block) × IsInSelected profile v s.number)
      → Row profile v at Fits (sends s) (TextIs what s.id s.block ∷ IdAt (here v) s.number s.id ∷ [])
  text_here : (what : What) (s : Success) → (Fits → IsTrue (head_fits what s.id s.block) × IsInSelected profile v s.number)
      → Row profile v at Fits (sends s) (TextIs what s.id s.block ∷ Asks (here v) (StandsAt at s.number) ∷ IdAt (here v) s.number s.id ∷ [])
  overview : (lines : List (List ℕ)) (o : OverviewValue) → only (overviews_of lines) ≡ Some o → Row profile v at Fits (overviews_are lines) (FieldsAre (o ∷ []) ∷ [])
  overview_at : (lines : List (List ℕ)) (o : OverviewValue) → only (overviews_of lines) ≡ Some o → (Fits → IsInSelected profile v o.number)
      → Row profile v at Fits (overviews_are lines) (FieldsAre (o ∷ []) ∷ IdAt (here v) o.number o.id ∷ [])
  overview_here : (lines : List (List ℕ)) (o : OverviewValue) → only (overviews_of lines) ≡ Some o → (Fits → IsInSelected profile v o.number)
      → Row profile v at Fits (overviews_are lines) (FieldsAre (o ∷ []) ∷ Asks (here v) (StandsAt at o.number) ∷ IdAt (here v) o.number o.id ∷ [])
  active : (p : Option (List ℕ)) (lines : List (List ℕ)) → (Fits → IsTrue (list_all (active_fits profile p) (active_groups lines)) × IsTrue (names_differ (active_groups lines)))
      → Row profile v at Fits (active_are lines) (GroupsAre p (active_groups lines) ∷ [])

module _ (profile : Profile) (v : Visible) (at : Position) where
  -- the row of an answer, whose condition is that it fits
  abbrev RowOf : Asked → Response → List Fact → Type 0
  RowOf p a facts = Row profile v at (IsTrue (fits profile v p a)) a facts

  -- each answer has a row
  pub row : (p : Asked) (a : Response) → RowOf p a (facts_of profile.marks v at p a)
  row (to command) (plain code) = grind (arith, eqb-true, nothing, no_group, no_article, nowhere, top, bottom, none_within, lacks, and_parts, or_cases, none_cases, true≢false)
  row (to (over keyword which)) (overviews_are lines) = grind (arith, nothing, within, overview, overview_at, overview_here, and_parts, or_cases, eqb-true, true≢false)
  row p a = grind (arith, nothing, marks, listing, up, down, active, text, text_at, text_here, and_parts, or_cases, eqb-true, true≢false)
