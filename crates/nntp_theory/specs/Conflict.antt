-- With which earlier answers a bad answer conflicts.
use Rattle.std.specs.Prelude.{◌≡◌, ℕ, zero, suc, ◌<◌, ◌≤◌, not, List, [], ◌∷◌, ◌++◌, length, Option, None, Some, option_map, IsTrue, slice_get, Contains}
use Rattle.std.specs.{Prelude.{MatchOption}, List.{AllByRecursion, flat_map, list_any}, Option.{option_map_or}}
use Rattle.nntp_wire.specs.{Answer.{Asked, Response}, declared.{water_marks.WaterMarks.{WaterMarks}, marks.Marks.{Marks, TheVariants.{Lenient}}}}
use Rattle.nntp_article.specs.Session.{Spool.{Spool, IsSpool, Name, Numbers}, Machine.{Visible, visible_after, start, is_ascending}}
use Rattle.nntp_article.specs.{declared.{session.profile.Profile.{Profile}, article.field.Field.{Field}}, Article.{Parts.{Id}, Fields.{Word, words_in}}}
use Rattle.nntp_said.specs.{Asks.{position_after, Ask, Estimates}, declared.position.Position.{Position, TheVariants.{Nowhere}}, Facts.{Fact, Holds, ThereIs}}
use Rattle.nntp_said.specs.Facts.{Asks, facts_of, group_of}
use Rattle.nntp_pair.specs.Pairing.{Paired, asked_at, asked_of, responses_of}
use Rattle.nntp_theory.specs.{Classes.{visible_from, position_from}, Given.{is_known, is_denied, demand, IsGivenNumber, HasGivenNumbers, asks_of}}
use Rattle.nntp_theory.specs.{Given.{is_shown_group, id_in, head_in, fields_in, body_in}, Together.{is_possible, MeetsDemand, IsFewFor, denies_group}}
use Rattle.nntp_theory.specs.Together.{number_in, shows_article, denies_article, GiveOne}

-- an answer where it stands: the group that is selected before it, where the session stands in that group, what was asked, and the response
pub record Placed : Type 0 where
  pub selected : Option Name
  pub position : Position
  pub asked : Asked
  pub response : Response

-- the answers of a session, each where it stands
abbrev pub placed_from : Visible → Position → List Asked → List Response → List Placed
placed_from v at [] answers = []
placed_from v at (asked ∷ ps) [] = []
placed_from v at (asked ∷ ps) (response ∷ more) =
    record { selected = v.selected; position = at; asked = asked; response = response } ∷ placed_from (visible_after v asked response) (position_after at asked response) ps more

-- the exchanges, each where it stands
abbrev pub placed_of : List Paired → List Placed
placed_of past = placed_from start.visible Nowhere (asked_of past) (responses_of past)

-- one exchange more, where it stands behind those
abbrev pub placed_behind : List Paired → Paired → Placed
placed_behind past pair = record {
  selected = (visible_from start.visible (asked_of past) (responses_of past)).selected;
  position = position_from Nowhere (asked_of past) (responses_of past);
  asked = asked_at pair.place;
  response = pair.response;
}

-- what the answer says of the spool, where marks are read so: of the visible state it speaks of the selected group alone
abbrev pub said : Marks → Placed → List Fact
said how a = facts_of how (record start.visible { selected = a.selected }) a.position a.asked a.response

-- the marks that each group has: all article numbers, and room for them
abbrev pub widest : Profile → WaterMarks
widest profile = record { estimate = profile.limit; low = 1; high = profile.limit }

-- there is such a group, with numbers within the widest marks, which need be no numbers however marks are read
abbrev pub a_group : Profile → Name → List Fact
a_group profile name = ThereIs name ∷ Asks name (Estimates Lenient (widest profile)) ∷ []

-- there is the group, if one is given
abbrev pub the_group : Profile → Option Name → List Fact
the_group profile None = []
the_group profile (Some name) = a_group profile name

-- what facts say by themselves: where they speak of the numbers of a group, that there is such a group too
abbrev pub with_group : Profile → List Fact → List Fact
with_group profile facts = the_group profile (group_of facts) ++ facts

-- what the answer says by itself
abbrev pub told : Profile → Placed → List Fact
told profile a = with_group profile (said profile.marks a)

-- some spool has all the facts
abbrev pub SomeHas : Profile → List Fact → Type 0
SomeHas profile facts = (S : Spool) × IsSpool profile.limit S × AllByRecursion (Holds S) facts

-- what the answer at the place says, if there is one
abbrev pub told_at : Profile → List Placed → ℕ → List Fact
told_at profile answers k = option_map_or (told profile) (slice_get answers k) []

-- what an answer says with those at the places
abbrev pub told_with : Profile → Placed → List Placed → List ℕ → List Fact
told_with profile bad answers places = told profile bad ++ flat_map (told_at profile answers) places

-- the places below a bound
abbrev pub below : ℕ → List ℕ
below zero = []
below (suc k) = below k ++ k ∷ []

-- the bad answer conflicts with those at the places, and none of them can be left out: no spool has what they and it say, and without any one of them some spool has the rest
pub record IsCore (profile : Profile) (bad : Placed) (answers : List Placed) (places : List ℕ) : Type 0 where
  pub there : AllByRecursion (λ k. k < length answers) places
  pub conflict : SomeHas profile (told_with profile bad answers places) → ⊥
  pub needed : (front back : List ℕ) (k : ℕ) → places ≡ front ++ k ∷ back → SomeHas profile (told_with profile bad answers (front ++ back))

-- ---- what is found of it

-- all of these are among those
abbrev pub AreAmong : List ℕ → List ℕ → Type 0
AreAmong these those = (k : ℕ) → Contains these k → Contains those k

-- the end of a core, and the bound below which the rest of it is: with the answers below the bound the bad one conflicts, with these alone it doesn't, and each such conflict has all of these
pub record IsEndOfCore (profile : Profile) (bad : Placed) (answers : List Placed) (bound : ℕ) (places : List ℕ) : Type 0 where
  pub there : AllByRecursion (λ k. (bound ≤ k) × (k < length answers)) places
  pub conflict : SomeHas profile (told_with profile bad answers (below bound ++ places)) → ⊥
  pub stand : SomeHas profile (told_with profile bad answers places)
  pub in_each : (some : List ℕ) → AreAmong some (below bound ++ places) → (SomeHas profile (told_with profile bad answers some) → ⊥) → AreAmong places some

-- what was found: all places of a core; or the last ones, and the bound below which the rest is
pub record Core : Type 0 where
  pub places : List ℕ
  pub rest : Option ℕ

-- the places ascend, and are a core or the end of one
pub record IsFound (profile : Profile) (bad : Placed) (answers : List Placed) (core : Core) : Type 0 where
  pub ascending : IsTrue (is_ascending core.places)
  pub found : MatchOption core.rest (IsCore profile bad answers core.places) (λ bound. IsEndOfCore profile bad answers bound core.places)

-- all places of it: those that were found, and where they are the last ones all below the bound
abbrev pub places_of : Core → List ℕ
places_of core = option_map_or (λ bound. below bound ++ core.places) core.rest core.places

-- ---- where facts conflict

-- what facts conflict about
pub data Point : Type 0 where
  Step : (name : Name) → Point  -- a step, or the current article, can't be
  Group : (name : Name) → Point  -- whether there is such a group
  Number : (name : Name) → (number : ℕ) → Point  -- whether the group has the number
  Count : (name : Name) → Point  -- how many numbers the group has
  First : (name : Name) → Point  -- with which numbers the group begins
  IdOf : (name : Name) → (number : ℕ) → Point  -- which id is at the number
  PlaceOf : (name : Name) → (id : Id) → Point  -- at which number the id is
  Article : (id : Id) → Point  -- whether the id has an article
  HeadOf : (id : Id) → Point  -- which head the article has
  BodyOf : (id : Id) → Point  -- which body the article has
  FieldOf : (id : Id) → (field : Field) → Point  -- what a header of the article tells

-- the given numbers are more than is estimated
abbrev pub AreTooMany : List Ask → Type 0
AreTooMany asks = (N : Numbers) × HasGivenNumbers asks N × ¬ (AllByRecursion (IsFewFor N) asks)

-- the words of one header that are told of the id
abbrev pub words_told : Id → Field → Fact → Option (List Word)
words_told id field fact = option_map (λ fields. words_in fields field) (fields_in id fact)

-- the facts conflict there; of the numbers of a group each part of `AsksStand` has its point
abbrev pub ConflictAt : List Fact → Point → Type 0
ConflictAt facts (Step name) = IsTrue (list_any (λ ask. not (is_possible ask)) (asks_of name facts))
ConflictAt facts (Group name) = IsTrue (is_shown_group facts name) × IsTrue (list_any (denies_group name) facts)
ConflictAt facts (Number name n) = IsTrue (is_known (asks_of name facts) n) × IsTrue (is_denied (asks_of name facts) n)
ConflictAt facts (Count name) = AreTooMany (asks_of name facts)
ConflictAt facts (First name) = ¬ (MeetsDemand (demand (asks_of name facts)) (IsGivenNumber (asks_of name facts)))
ConflictAt facts (IdOf name n) = ¬ (GiveOne (id_in name n) facts)
ConflictAt facts (PlaceOf name id) = ¬ (GiveOne (number_in name id) facts)
ConflictAt facts (Article id) = IsTrue (list_any (shows_article id) facts) × IsTrue (list_any (denies_article id) facts)
ConflictAt facts (HeadOf id) = ¬ (GiveOne (head_in id) facts)
ConflictAt facts (BodyOf id) = ¬ (GiveOne (body_in id) facts)
ConflictAt facts (FieldOf id field) = ¬ (GiveOne (words_told id field) facts)

-- in which order points are told, by their kinds
abbrev pub rank : Point → ℕ
rank (Step name) = 0
rank (Group name) = 1
rank (Number name n) = 2
rank (Count name) = 3
rank (First name) = 4
rank (IdOf name n) = 5
rank (PlaceOf name id) = 6
rank (Article id) = 7
rank (HeadOf id) = 8
rank (BodyOf id) = 9
rank (FieldOf id field) = 10

-- the facts conflict at the point, and at none of a kind that is told before
pub record IsFirstPoint (facts : List Fact) (point : Point) : Type 0 where
  pub conflict : ConflictAt facts point
  pub first : (other : Point) → rank other < rank point → ¬ (ConflictAt facts other)
