-- The spool that is given for what a session says.
use Rattle.std.specs.Prelude.{◌≡◌, ℕ, ◌+◌, ◌<◌, ◌≤◌, Bool, true, false, not, ◌&&◌, ◌||◌, ◌==◌, nat_lt, if◌then◌else◌, IsTrue, IsFalse, IsSome, ◌↔◌, ◌⊎◌, List}
use Rattle.std.specs.{Prelude.{[], ◌∷◌, ◌++◌, Option, None, Some, is_some, ⊤, option_map, unwrap_or, codes, decimal}, List.{list_any, flat_map}}
use Rattle.std.specs.{Option.{option_or}, FinMap.{get, entries, len}}
use Rattle.nntp_article.specs.{Article.{Parts.{head_part, body_part, Id, Line}, Fields.{fields_of_head, made_head}}, Session.Spool.{Spool, Text, Numbers}}
use Rattle.nntp_article.specs.Session.{Spool.{IsNumber, IsGroup, numbers, Name}, Machine.{is_in_range, is_same, overview_numbers, start}}
use Rattle.nntp_wire.specs.{Listing.{Fields, OverviewValue}, Answer.{Asked, Response}, declared.marks.Marks.{Marks, TheVariants.{Strict}}}
use Rattle.nntp_wire.specs.declared.command.What.TheVariants.{Article, Head, Body}
use Rattle.nntp_said.specs.Asks.{Ask, Estimates, Bounds, ListsIn, Has, Lacks, StandsAt, StandsNowhere, StepsUp, StepsDown, IsTop, IsBottom}
use Rattle.nntp_said.specs.{declared.position.Position.TheVariants.{Nowhere, First, Known}, Facts.{Fact, ThereIs, Asks, IdAt, TextIs, NoArticle, FieldsAre}}
use Rattle.nntp_said.specs.Facts.{OverviewsAre, GroupsAre, facts_from}
use Rattle.nntp_theory.specs.declared.demand.Demand.{Demand, TheVariants.{NoDemand, NotEmpty, OnlyOne, SecondIs, Impossible}}

-- the ask shows the number
abbrev pub shows : Ask → ℕ → Bool
shows (ListsIn r ns) n = list_any (λ m. n == m) ns
shows (Has m) n = m == n
shows (StandsAt First m) n = m == n
shows (StepsUp at m) n = m == n
shows (StepsDown at m) n = m == n
shows ask n = false

-- n is between a and b, and neither
abbrev pub is_strictly_between : ℕ → ℕ → ℕ → Bool
is_strictly_between a b n = nat_lt a n && nat_lt n b

-- the ask says that the number isn't there
abbrev pub denies : Ask → ℕ → Bool
denies (Estimates how m) n = nat_lt n m.low || nat_lt m.high n
denies (Bounds low high) n = nat_lt n low || nat_lt high n
denies (ListsIn r ns) n = is_in_range r n && not (list_any (λ m. n == m) ns)
denies (Lacks m) n = m == n
denies (StandsAt First m) n = nat_lt n m
denies (StandsNowhere First) n = true
denies (StepsUp (Known c) m) n = is_strictly_between c m n
denies (StepsDown (Known c) m) n = is_strictly_between m c n
denies (IsTop (Known c)) n = nat_lt c n
denies (IsBottom (Known c)) n = nat_lt n c
denies ask n = false

-- an answer shows the number
abbrev pub is_shown : List Ask → ℕ → Bool
is_shown asks n = list_any (λ ask. shows ask n) asks

-- the ask says that there is a number: it shows one, or none is above or below the first one
abbrev pub says_some : Ask → Bool
says_some (ListsIn r (n ∷ ns)) = true
says_some (Has m) = true
says_some (StandsAt First m) = true
says_some (StepsUp at m) = true
says_some (StepsDown at m) = true
says_some (IsTop First) = true
says_some (IsBottom First) = true
says_some ask = false

-- the number is a mark that is read strictly
abbrev pub is_end : Ask → ℕ → Bool
is_end (Estimates Strict m) n = m.low == n || m.high == n
is_end ask n = false

-- it is said that there is a number, and n is a strict mark
abbrev pub is_given_end : List Ask → ℕ → Bool
is_given_end asks n = list_any says_some asks && list_any (λ ask. is_end ask n) asks

-- the number is known: an answer shows it; or it is a strict mark, and it is said that there is a number
abbrev pub is_known : List Ask → ℕ → Bool
is_known asks n = is_shown asks n || is_given_end asks n

-- an answer says that the number isn't there
abbrev pub is_denied : List Ask → ℕ → Bool
is_denied asks n = list_any (λ ask. denies ask n) asks

-- what the ask says of the first number of the group where it isn't shown
abbrev pub demand_in : Ask → Demand
demand_in (IsBottom First) = NotEmpty
demand_in (IsTop First) = OnlyOne
demand_in (StepsUp First m) = SecondIs m
demand_in ask = NoDemand

-- two demands as one
abbrev pub join : Demand → Demand → Demand
join NoDemand e = e
join Impossible e = Impossible
join d NoDemand = d
join NotEmpty e = e
join d NotEmpty = d
join OnlyOne OnlyOne = OnlyOne
join (SecondIs m) (SecondIs k) = if m == k then SecondIs m else Impossible
join d e = Impossible

-- the demand of all that is asked
abbrev pub demand : List Ask → Demand
demand [] = NoDemand
demand (ask ∷ asks) = join (demand_in ask) (demand asks)

-- n would do as the first number
abbrev pub wants : Demand → ℕ → Bool
wants NotEmpty n = true
wants OnlyOne n = true
wants (SecondIs m) n = nat_lt n m
wants d n = false

-- n is the first number from k on that isn't taken
abbrev pub IsFirstFree : (ℕ → Bool) → ℕ → ℕ → Type 0
IsFirstFree taken k n = (k ≤ n) × IsFalse (taken n) × ((m : ℕ) → k ≤ m → m < n → IsTrue (taken m))

-- n is the one more number: where no number is known that the demand wants, the first from 1 on that isn't denied, if the demand wants it
pub record IsOneMore (asks : List Ask) (n : ℕ) : Type 0 where
  pub needed : (m : ℕ) → IsTrue (is_known asks m) → IsFalse (wants (demand asks) m)
  pub wanted : IsTrue (wants (demand asks) n)
  pub first : IsFirstFree (is_denied asks) 1 n

-- the number is given: it is known, or it is the one more
abbrev pub IsGivenNumber : List Ask → ℕ → Type 0
IsGivenNumber asks n = IsTrue (is_known asks n) ⊎ IsOneMore asks n

-- N has the numbers that are given
abbrev pub HasGivenNumbers : List Ask → Numbers → Type 0
HasGivenNumbers asks N = (n : ℕ) → IsNumber N n ↔ IsGivenNumber asks n

-- ---- the whole spool

-- what is asked of the numbers of one group
abbrev pub asks_in : Name → Fact → List Ask
asks_in name (Asks g ask) = if is_same g name then ask ∷ [] else []
asks_in name (IdAt g n id) = if is_same g name then Has n ∷ [] else []
asks_in name (OverviewsAre g range overviews) = if is_same g name then ListsIn range (overview_numbers overviews) ∷ [] else []
asks_in name (GroupsAre p lines) = flat_map (λ line. if is_same line.name name then Bounds line.low line.high ∷ [] else []) lines
asks_in name fact = []

-- what is asked of the numbers of one group by all facts
abbrev pub asks_of : Name → List Fact → List Ask
asks_of name facts = flat_map (asks_in name) facts

-- the fact shows the group
abbrev pub shows_group : Name → Fact → Bool
shows_group name (ThereIs g) = is_same g name
shows_group name (GroupsAre p lines) = list_any (λ line. is_same line.name name) lines
shows_group name fact = false

-- one of the facts shows the group
abbrev pub is_shown_group : List Fact → Name → Bool
is_shown_group facts name = list_any (shows_group name) facts

-- what the first of them that gives something gives
abbrev pub first_given : {A B : Type 0} → (B → Option A) → List B → Option A
first_given f [] = None
first_given f (x ∷ xs) = option_or (f x) (first_given f xs)

-- the id of an overview at a number
abbrev pub id_of_overview : ℕ → OverviewValue → Option Id
id_of_overview n o = if o.number == n then Some o.id else None

-- the id that a fact shows for a number of a group; of overviews the first at the number
abbrev pub id_in : Name → ℕ → Fact → Option Id
id_in name n (IdAt g m id) = if is_same g name && m == n then Some id else None
id_in name n (OverviewsAre g range overviews) = if is_same g name then first_given (id_of_overview n) overviews else None
id_in name n fact = None

-- the id that is shown first for a number of a group
abbrev pub id_shown : List Fact → Name → ℕ → Option Id
id_shown facts name n = first_given (id_in name n) facts

-- one of the overviews has the id
abbrev pub has_overview_of : Id → List OverviewValue → Bool
has_overview_of id overviews = list_any (λ o. is_same o.id id) overviews

-- the fact mentions the id: a success or a step names it, an overview has it, or it is denied
abbrev pub mentions : Id → Fact → Bool
mentions id (IdAt name n other) = is_same other id
mentions id (TextIs what other lines) = is_same other id
mentions id (NoArticle other) = is_same other id
mentions id (FieldsAre overviews) = has_overview_of id overviews
mentions id (OverviewsAre name range overviews) = has_overview_of id overviews
mentions id fact = false

-- one of the facts mentions the id
abbrev pub is_mentioned : List Fact → Id → Bool
is_mentioned facts id = list_any (mentions id) facts

-- the fact is of a success that names the id
abbrev pub gives_article : Id → Fact → Bool
gives_article id (TextIs what other lines) = is_same other id
gives_article id (FieldsAre overviews) = has_overview_of id overviews
gives_article id fact = false

-- a success names the id
abbrev pub is_sent : List Fact → Id → Bool
is_sent facts id = list_any (gives_article id) facts

-- the head that is sent for the id
abbrev pub head_in : Id → Fact → Option (List Line)
head_in id (TextIs Article other (Some lines)) = if is_same other id then Some (head_part lines) else None
head_in id (TextIs Head other (Some lines)) = if is_same other id then Some lines else None
head_in id fact = None

-- the body that is sent for the id
abbrev pub body_in : Id → Fact → Option (List Line)
body_in id (TextIs Article other (Some lines)) = if is_same other id then Some (body_part lines) else None
body_in id (TextIs Body other (Some lines)) = if is_same other id then Some lines else None
body_in id fact = None

-- what an overview tells of headers, if it has the id
abbrev pub fields_of_overview : Id → OverviewValue → Option Fields
fields_of_overview id o = if is_same o.id id then o.told else None

-- what is told of four headers of the id: by the first overview that has it and tells of them, or by a head that is sent
abbrev pub fields_in : Id → Fact → Option Fields
fields_in id (FieldsAre overviews) = first_given (fields_of_overview id) overviews
fields_in id (OverviewsAre name range overviews) = first_given (fields_of_overview id) overviews
fields_in id fact = option_map fields_of_head (head_in id fact)

-- the id that is invented with the number k
abbrev pub invented : ℕ → Id
invented k = codes "<w" ++ decimal k ++ codes "@invented.invalid>"

-- the ids are invented in turn, each with the first number from k on whose invented id isn't mentioned
abbrev pub AreInvented : List Fact → ℕ → List Id → Type 0
AreInvented facts k [] = ⊤
AreInvented facts k (id ∷ ids) =
    (j : ℕ) × IsFirstFree (λ i. is_mentioned facts (invented i)) k j × (id ≡ invented j) × AreInvented facts (j + 1) ids

-- the ids of a group at numbers for which none is shown
abbrev pub unshown_in : List Fact → Name → List (ℕ × Id) → List Id
unshown_in facts name [] = []
unshown_in facts name (e ∷ es) = (if is_some (id_shown facts name e.0) then [] else e.1 ∷ []) ++ unshown_in facts name es

-- the ids of a spool at numbers for which none is shown, groups in byte order and numbers ascending
abbrev pub unshown_ids : List Fact → Spool → List Id
unshown_ids facts G = flat_map (λ g. unshown_in facts g.0 (entries g.1)) (entries G.groups)

-- the id stands at a number of a group
abbrev pub IsUsed : Spool → Id → Type 0
IsUsed G id = (name : Name) × (n : ℕ) × (get (numbers G name) n ≡ Some id)

-- the spool that is given for what a session says
pub record IsGiven (facts : List Fact) (G : Spool) : Type 0 where
  pub groups : (name : Name) → IsGroup G name ↔ IsTrue (is_shown_group facts name)
  pub numbers_given : (name : Name) → IsGroup G name → HasGivenNumbers (asks_of name facts) (numbers G name)
  pub ids_shown : (name : Name) (n : ℕ) (id : Id) → IsNumber (numbers G name) n → id_shown facts name n ≡ Some id → get (numbers G name) n ≡ Some id
  pub ids_invented : AreInvented facts 0 (unshown_ids facts G)
  pub articles : (id : Id) → IsSome (get G.articles id) ↔ (IsUsed G id ⊎ IsTrue (is_sent facts id))
  pub heads : (id : Id) (t : Text) → get G.articles id ≡ Some t → t.head ≡ unwrap_or (first_given (head_in id) facts) (made_head id (first_given (fields_in id) facts))
  pub bodies : (id : Id) (t : Text) → get G.articles id ≡ Some t → t.body ≡ unwrap_or (first_given (body_in id) facts) []

-- S has what is shown, and no fewer numbers in a group than G
pub record HasAtLeast (facts : List Fact) (G S : Spool) : Type 0 where
  pub groups : (name : Name) → IsGroup G name → IsGroup S name
  pub numbers_shown : (name : Name) (n : ℕ) → IsTrue (is_shown (asks_of name facts) n) → IsNumber (numbers S name) n
  pub ids_shown : (name : Name) (n : ℕ) (id : Id) → id_shown facts name n ≡ Some id → get (numbers S name) n ≡ Some id
  pub heads_sent : (id : Id) (lines : List Line) → first_given (head_in id) facts ≡ Some lines → (t : Text) × (get S.articles id ≡ Some t) × (t.head ≡ lines)
  pub fields_told : (id : Id) (fields : Fields) → first_given (fields_in id) facts ≡ Some fields → (t : Text) × (get S.articles id ≡ Some t) × (fields_of_head t.head ≡ fields)
  pub bodies_sent : (id : Id) (lines : List Line) → first_given (body_in id) facts ≡ Some lines → (t : Text) × (get S.articles id ≡ Some t) × (t.body ≡ lines)
  pub counts : (name : Name) → IsGroup G name → len (numbers G name) ≤ len (numbers S name)

-- what a session says, where marks are read so
abbrev pub facts_of_session : Marks → List Asked → List Response → List Fact
facts_of_session how prompts answers = facts_from how start.visible Nowhere prompts answers
