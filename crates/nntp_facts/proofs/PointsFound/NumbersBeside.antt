-- Points that are about the numbers of a group.
use Rattle.nntp_facts.proofs.Base.{arith, ℕ, ◌≡◌, ◌<◌, ◌++◌, ◌∷◌, List, subst, sym, ◌∙◌, true≢false, Name, Profile, Ask, Estimates, Fact, asks_of, denies}
use Rattle.nntp_facts.proofs.Base.{demand, IsGivenNumber, AreBounded, cases_Bool, greatest, Limit, Lenient, MeetsDemand, AreApart, widest, Point, Number, Count}
use Rattle.nntp_facts.{proofs.Base.{rank, ConflictAt, AreTooMany, any_back, NoneBefore, rank_of_numbers, NumbersKind}, specs.Inner.Points.{IsAbout}}

-- their ranks are these
pub above_one : (kind : NumbersKind) → 1 < rank_of_numbers kind
above_one kind = grind arith

pub below_five : (kind : NumbersKind) → rank_of_numbers kind < 5
below_five kind = grind arith

-- what is bounded behind is bounded
pub bounded_behind : (asks more : List Ask) → AreBounded more → AreBounded (asks ++ more)
bounded_behind asks more bounded n large = any_back (λ ask. denies ask n) asks more (bounded n large)

-- the widest marks bound
pub bounded_widest : (profile : Profile) (limit : Limit) (more : List Ask) → profile.limit ≡ greatest limit → AreBounded (Estimates Lenient (widest profile) ∷ more)
bounded_widest profile limit more e n large = grind arith

module _ (all : List Fact) (name : Name) where
  -- no known number is denied where no number is a point
  pub apart : (k : ℕ) → 2 < k → NoneBefore all k → AreApart (asks_of name all)
  apart k l before n known = grind (arith, cases_Bool, before (Number name n) l)

  abbrev IsFreeAt : ℕ → Type 0
  IsFreeAt k = (other : Point) → rank other ≡ k → IsAbout name other → ConflictAt all other → ⊥

  pub number_free : AreApart (asks_of name all) → IsFreeAt 2
  number_free apart (Number other n) e is c = true≢false (sym c.1 ∙ subst (λ nm. AreApart (asks_of nm all)) is apart n c.0)
  number_free apart point e is c = grind arith

  pub count_free : (AreTooMany (asks_of name all) → ⊥) → IsFreeAt 3
  count_free few (Count other) e is c = subst (λ nm. AreTooMany (asks_of nm all) → ⊥) is few c
  count_free few point e is c = grind arith

  pub first_free : MeetsDemand (demand (asks_of name all)) (IsGivenNumber (asks_of name all)) → IsFreeAt 4
  first_free met point e is c = grind arith
