-- What the facts hold of the exchanges that were noted, one session behind the other.
use Rattle.std.specs.Prelude.{◌≡◌, ℕ, ◌+◌, ◌<◌, ◌≤◌, ◌^◌, Bool, false, true, IsTrue, IsFalse, List, [], ◌∷◌, ◌++◌, length, Result, Ok, Err}
use Rattle.std.specs.List.{AllByRecursion}
use Rattle.nntp_article.specs.{declared.session.profile.Profile.{Profile}, Session.{Machine.{Visible, start, fits, visible_after}, Limit.{profile_of}}}
use Rattle.nntp_wire.specs.declared.{limit.Limit.{Limit}, marks.Marks.{Marks}}
use Rattle.nntp_pair.specs.{Pairing.{Paired, asked_at, asked_of, responses_of}, Inner.Pairing.{lines_in}}
use Rattle.nntp_said.specs.{declared.position.Position.{Position, TheVariants.{Nowhere}}, Facts.{Fact, facts_of}, Asks.{position_after}}
use Rattle.nntp_theory.specs.{Classes.{visible_from, position_from}, declared.noted.Noted.{Noted, TheVariants.{Consistent, OutOfPlace, Contradiction}}}
use Rattle.nntp_theory.specs.{Permitted.{ArePermittedBehind}, Inner.Exchanged.{said_behind, AreFew}}
use Rattle.nntp_kept.specs.Inner.Kept.{Kept, IsKept}
use Rattle.nntp_facts.specs.declared.facts_error.FactsError.{FactsError, TheVariants.{Memory}}

-- the limit and the marks, how many exchanges of the session were accepted, the visible state and the place in the selected group that they leave, what those of all sessions say, and whether memory
-- was refused
pub record FactsKept : Type 0 where
  pub limit : Limit
  pub marks : Marks
  pub count : ℕ
  pub visible : Visible
  pub position : Position
  pub kept : Kept
  pub has_failed : Bool

-- the profile by which the facts judge
abbrev pub profile_kept : FactsKept → Profile
profile_kept facts = profile_of facts.limit facts.marks

-- the facts are those of these exchanges of a session and of those of earlier sessions, which some spool permits; the visible state and the place in the group are of this session alone
pub record HasNotedBehind (profile : Profile) (facts : FactsKept) (earlier : List (List Paired)) (past : List Paired) : Type 0 where
  pub profile_is : profile_kept facts ≡ profile
  pub is_whole : facts.has_failed ≡ false
  pub count : facts.count ≡ length past
  pub visible : facts.visible ≡ visible_from start.visible (asked_of past) (responses_of past)
  pub position : facts.position ≡ position_from Nowhere (asked_of past) (responses_of past)
  pub kept : IsKept (said_behind profile.marks earlier past) facts.kept
  pub permitted : ArePermittedBehind profile earlier past
  pub sessions : length earlier < 2 ^ 64
  pub earlier_few : AllByRecursion AreFew earlier
  pub lines : AllByRecursion (λ pair. lines_in pair.response < 2 ^ 64) past
  pub few : length past < 2 ^ 64

-- the facts are those of these exchanges of a first session, which some spool permits
abbrev pub HasNoted : Profile → FactsKept → List Paired → Type 0
HasNoted profile facts past = HasNotedBehind profile facts [] past

-- the facts as a session begins: what was said is kept, and nothing else
abbrev pub begun : FactsKept → FactsKept
begun facts = record {
  limit = facts.limit;
  marks = facts.marks;
  count = 0;
  visible = start.visible;
  position = Nowhere;
  kept = facts.kept;
  has_failed = facts.has_failed;
}

-- the exchange may come next: its place is behind those of the accepted ones, and none of them closed the connection
pub record IsDue (facts : FactsKept) (pair : Paired) : Type 0 where
  pub index : facts.count ≤ pair.index
  pub is_open : facts.visible.closed ≡ false

-- it is due, has an index below 2^63 and fewer than 2^64 lines, and fits
pub record MayBeNoted (profile : Profile) (facts : FactsKept) (pair : Paired) : Type 0 where
  pub due : IsDue facts pair
  pub low : pair.index < 2 ^ 63
  pub few : lines_in pair.response < 2 ^ 64
  pub fitting : IsTrue (fits profile facts.visible (asked_at pair.place) pair.response)

-- what an exchange says behind the facts
abbrev pub said_then : Profile → FactsKept → Paired → List Fact
said_then profile facts pair = facts_of profile.marks facts.visible facts.position (asked_at pair.place) pair.response

-- the facts with one exchange more, of which this is kept
abbrev pub advanced : FactsKept → Paired → Kept → FactsKept
advanced facts pair kept = record {
  limit = facts.limit;
  marks = facts.marks;
  count = facts.count + 1;
  visible = visible_after facts.visible (asked_at pair.place) pair.response;
  position = position_after facts.position (asked_at pair.place) pair.response;
  kept = kept;
  has_failed = facts.has_failed;
}

-- what was said of one more exchange is so, behind earlier sessions: some spool permits it behind those before, and it
-- is added; it doesn't fit the visible state; or it fits, and no spool permits it behind them; and where it isn't added,
-- the facts are as before
abbrev pub IsNotedBehind : Profile → List (List Paired) → List Paired → Paired → FactsKept → FactsKept → Noted → Type 0
IsNotedBehind profile earlier past pair old new Consistent = ArePermittedBehind profile earlier (past ++ pair ∷ []) × HasNotedBehind profile new earlier (past ++ pair ∷ [])
IsNotedBehind profile earlier past pair old new OutOfPlace = IsFalse (fits profile old.visible (asked_at pair.place) pair.response) × (new ≡ old)
IsNotedBehind profile earlier past pair old new Contradiction =
    IsTrue (fits profile old.visible (asked_at pair.place) pair.response) × (ArePermittedBehind profile earlier (past ++ pair ∷ []) → ⊥) × (new ≡ old)

-- in a first session
abbrev pub IsNoted : Profile → List Paired → Paired → FactsKept → FactsKept → Noted → Type 0
IsNoted profile past pair old new noted = IsNotedBehind profile [] past pair old new noted

-- what is answered of one more exchange, where memory wasn't refused before
abbrev pub NotesBehind : Profile → List (List Paired) → List Paired → Paired → FactsKept → FactsKept → Result Noted FactsError → Type 0
NotesBehind profile earlier past pair old new (Ok noted) = IsNotedBehind profile earlier past pair old new noted
NotesBehind profile earlier past pair old new (Err e) = (e ≡ Memory) × (new.has_failed ≡ true)
