-- What a bad answer and accepted ones say, each by itself, as points of conflict are looked for.
use Rattle.std.specs.Prelude.{◌≡◌, true, false, ◌<◌, ◌||◌, ◌&&◌, ◌==◌, not, ℕ, Bool, List, [], ◌∷◌, ◌++◌, Option, None, Some, option_map, if◌then◌else◌, ◌≢◌}
use Rattle.std.specs.{Prelude.{◌⊎◌, MatchOption}, List.{AllByRecursion}, Option.{option_map_or}, FinMap.{get}}
use Rattle.nntp_article.specs.{Article.{Parts.{Id}, Fields.{words_in}}, Session.{Spool.{Name}, Machine.{is_same}}, declared.article.field.Field.{Field}}
use Rattle.nntp_article.specs.{declared.session.profile.Profile.{Profile}, Inner.Misfit.{numbers_of}}
use Rattle.nntp_wire.specs.{Listing.{Fields, OverviewValue}, Decided.{matches_name}}
use Rattle.nntp_said.specs.Facts.{Fact, group_of}
use Rattle.nntp_theory.specs.{Inner.{Together.{IsWellFormed, AgreeWithin, Together, AreSame}, Conflict.{FitsThere}}, Conflict.{Placed, told, with_group, Point}}
use Rattle.nntp_theory.specs.Conflict.{Number, Count, First, IdOf, PlaceOf, FieldOf, rank, ConflictAt}
use Rattle.nntp_kept.specs.Inner.{Kept.{Kept, IsKept}, ListedGroups.{is_listed}, KeptSaying.{id_said, place_said}, Saying.{Saying, Tells}}
use Rattle.nntp_kept_articles.specs.Inner.Articles.{said_kept}
use Rattle.nntp_facts.specs.Inner.Noted.{FactsKept, profile_kept}

-- ---- what the last answer of a conflict says

-- what an answer says, and the group of which it speaks
pub record Statement : Type 0 where
  pub group : Option Name
  pub saying : Saying

-- by itself the answer tells these facts
pub record TellsAlone (profile : Profile) (t : Statement) (facts : List Fact) : Type 0 where
  pub own : List Fact
  pub whole : with_group profile own ≡ facts
  pub before : List Fact
  pub tells : Tells before t.saying own
  pub group : t.group ≡ group_of own
  pub named : option_map (λ g. g.name) t.saying.group ≡ t.group
  pub formed : AllByRecursion IsWellFormed facts
  pub agree : AgreeWithin own

-- ---- what is looked at

-- it says what can't be
abbrev pub is_impossible : Name → Statement → Bool
is_impossible name t = option_map_or (λ g. is_same g.name name && not g.numbers.possible) t.saying.group false

-- it shows the group
abbrev pub shows_name : Name → Statement → Bool
shows_name name t = option_map_or (λ g. is_same g name) t.group false || option_map_or (λ l. is_listed l.1 name) t.saying.groups false

-- it says that there is no such group
abbrev pub denies_name : Name → Statement → Bool
denies_name name t = option_map_or (λ g. is_same g name) t.saying.there_is_no false || option_map_or (λ l. option_map_or (λ w. matches_name w name) l.0 true && not
    (is_listed l.1 name)) t.saying.groups false

-- the id that it shows at the number
abbrev pub id_told : Name → ℕ → Statement → Option Id
id_told name n t = option_map_or (λ g. if is_same g.name name then id_said t.saying g.id n else None) t.saying.group None

-- the number at which it shows the id
abbrev pub place_told : Name → Id → Statement → Option ℕ
place_told name id t = option_map_or (λ g. if is_same g.name name then place_said t.saying g.id id else None) t.saying.group None

-- the number as a point, if it has another id than this
abbrev pub other_id_at : (ℕ → Option Id) → Name → ℕ × Id → Option Point
other_id_at ids name e = if option_map_or (λ other. is_same other e.1) (ids e.0) true then None else Some (IdOf name e.0)

-- the id, if it has another number than this
abbrev pub other_place_of : (Id → Option ℕ) → Name → ℕ × Id → Option Point
other_place_of places name e = if option_map_or (λ other. other == e.0) (places e.1) true then None else Some (PlaceOf name e.1)

-- ---- points

-- at no point of the rank the facts conflict, or they conflict at this one
abbrev pub IsPointOf : List Fact → ℕ → Option Point → Type 0
IsPointOf facts k point = MatchOption point ((other : Point) → rank other ≡ k → ¬ (ConflictAt facts other)) (λ point. ConflictAt facts point × (rank point ≡ k))

-- at no point of a kind that is told before the facts conflict
abbrev pub NoneBefore : List Fact → ℕ → Type 0
NoneBefore facts k = (other : Point) → rank other < k → ¬ (ConflictAt facts other)

-- the point is about the numbers of the group
abbrev pub IsAbout : Name → Point → Type 0
IsAbout name (Number other n) = name ≡ other
IsAbout name (Count other) = name ≡ other
IsAbout name (First other) = name ≡ other
IsAbout name point = ⊥

-- at no point of the rank that is about the numbers of the group the facts conflict, or they conflict at this one
abbrev pub IsPointIn : List Fact → Name → ℕ → Option Point → Type 0
IsPointIn facts name k point = MatchOption point ((other : Point) → rank other ≡ k → IsAbout name other → ¬ (ConflictAt facts other)) (λ point. ConflictAt facts point × (rank point ≡ k))

-- ---- what is told of headers

-- the point is the id, and a header of which other words are told than are kept
abbrev pub IsOtherField : Kept → Id → Option Fields → Point → Type 0
IsOtherField k id told point =
    (field : Field) × (point ≡ FieldOf id field)
    × MatchOption told ⊥ (λ fields. MatchOption (said_kept (get k.articles id)).fields ⊥ (λ before. words_in fields field ≢ words_in before field))

-- where fields are told of the id, nothing else is kept of it; or the point is the id, and a header of which other words are told than are kept
abbrev pub IsFieldOf : Kept → Id → Option Fields → Option Point → Type 0
IsFieldOf k id told point = MatchOption point (AreSame told (said_kept (get k.articles id)).fields) (IsOtherField k id told)

-- the point is that of one of the overviews
abbrev pub OneTellsOther : Kept → Point → List OverviewValue → Type 0
OneTellsOther k point [] = ⊥
OneTellsOther k point (o ∷ overviews) = IsOtherField k o.id o.told point ⊎ OneTellsOther k point overviews

-- of none of the overviews anything else is kept; or the point is that of one of them
abbrev pub IsFieldAmong : Kept → List OverviewValue → Option Point → Type 0
IsFieldAmong k overviews point =
    MatchOption point (AllByRecursion (λ o. AreSame o.told (said_kept (get k.articles o.id)).fields) overviews)
    (λ point. OneTellsOther k point overviews)

-- ---- the last answer beside the others

-- the facts stand together and are kept, and the answer tells more of them by itself
pub record IsBeside (profile : Profile) (facts : List Fact) (k : Kept) (t : Statement) (more : List Fact) : Type 0 where
  pub kept : IsKept facts k
  pub together : Together facts
  pub tells : TellsAlone profile t more

-- an answer with the numbers that it lists
abbrev pub with_numbers : Placed → Placed × List ℕ
with_numbers a = (a, numbers_of a.response)

-- what is held of answers that conflict: what is kept of all but the last, and the last one with the numbers that it lists
pub record Answers : Type 0 where
  pub profile : Profile
  pub kept : Kept
  pub last : Placed × List ℕ

-- this is held of facts: what is kept of some, and an answer that tells the others and fits; they conflict at some point, where all are well formed
pub record AreHeld (profile : Profile) (all : List Fact) (held : Answers) : Type 0 where
  pub judged : held.profile ≡ profile
  pub last : Placed
  pub listed : held.last ≡ with_numbers last
  pub fits : FitsThere profile last
  pub facts : List Fact
  pub kept : IsKept facts held.kept
  pub together : Together facts
  pub whole : facts ++ told profile last ≡ all
  pub conflict : AllByRecursion IsWellFormed all → ((point : Point) → ConflictAt all point → ⊥) → ⊥

-- what is held of an answer beside facts that are kept
abbrev pub held_by : FactsKept → Placed → Answers
held_by facts bad = record { profile = profile_kept facts; kept = facts.kept; last = with_numbers bad }
