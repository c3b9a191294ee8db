-- Kinds of points that are looked for one after the other.
use Rattle.nntp_facts.proofs.Base.{get_or, ◌≡◌, ℕ, ◌+◌, ◌<◌, ◌≤◌, ◌++◌, ◌∙◌, ap, arith, List, [], ◌∷◌, Option, inl, inr, sym, subst, AllByRecursion, option_map}
use Rattle.nntp_facts.proofs.Base.{MatchOption, Profile, numbers_of, Fact, IsWellFormed, Together, all_at, all_from, all_both, Lenient, FitsThere, Placed}
use Rattle.nntp_facts.{proofs.Base.{told_with, Point, ConflictAt, AreHeld, IsPointOf, NoneBefore, point_of}, specs.Inner.Points.{Answers, Statement}}
use Rattle.nntp_facts.specs.{Inner.{Points.{TellsAlone, IsBeside}, StatementView.{rank_of}}, declared.{point.Point.{Point as CodePoint}, points.Kind.{Kind}}}
use Rattle.nntp_theory.{specs.Conflict.{told, IsFirstPoint}, proofs.{Conflicts.{with_told, told_fitting, told_placed}, PointsOfConflict.{stand_or_conflict}}}
use Rattle.nntp_facts.specs.declared.points.Kind.TheVariants as kind
use Rattle.nntp_facts.specs.declared.points.NumbersKind.TheVariants as numbers

-- where facts that answers tell conflict nowhere they stand together
pub none_at_all : (profile : Profile) (bad : Placed) (answers : List Placed) (places : List ℕ) → AllByRecursion (FitsThere profile) (bad ∷ answers)
    → AllByRecursion IsWellFormed (told_with profile bad answers places)
    → ((point : Point) → ConflictAt (told_with profile bad answers places) point → ⊥) → Together (told_with profile bad answers places)
none_at_all profile bad answers places fits formed none =
    let all = told_with profile bad answers places in
    let source = (with_told profile bad answers places fits.0 fits.1).source in
    elim (stand_or_conflict profile Lenient all
    (all_from _ all (λ fact j. let s = source fact j in all_at _ fact (told profile s.0) (told_fitting profile s.0 s.1) s.2))
    (all_from _ all (λ fact j. let s = source fact j in all_at _ fact (told profile s.0) (told_placed profile all s.0 (all_from _ (told profile s.0) s.3)) s.2))
    formed) [ inl c ↦ absurd (none c.0 c.1.conflict) | inr together ↦ together ]

-- all kinds, in their order
abbrev pub kinds : List Kind
kinds =
    kind.Step ∷ kind.Group ∷ kind.Numbers numbers.Number ∷ kind.Numbers numbers.Count ∷ kind.Numbers numbers.First
    ∷ kind.IdOf ∷ kind.PlaceOf ∷ kind.Article ∷ kind.HeadOf ∷ kind.BodyOf ∷ kind.FieldOf ∷ []

-- each stands at its rank
pub kind_ranked : (i : ℕ) (d : Kind) → i < 11 → rank_of (get_or kinds i d) ≡ i
kind_ranked i d l = grind arith

module _ (profile : Profile) (all : List Fact) (held : Answers) (h : AreHeld profile all held) (t : Statement)
    (tell : (judge : Profile) → judge.marks ≡ held.profile.marks → FitsThere judge held.last.0 → held.last.1 ≡ numbers_of held.last.0.response → TellsAlone judge t (told judge held.last.0)) where
  -- by itself the last answer tells its facts
  tells : TellsAlone profile t (told profile h.last)
  tells =
      let same = ap (λ (p : Placed × List ℕ). p.0) h.listed in
      subst (λ a. TellsAlone profile t (told profile a)) same (tell profile (ap (λ p. p.marks) (sym h.judged)) (subst (FitsThere profile) (sym same) h.fits)
      (ap (λ (p : Placed × List ℕ). p.1) h.listed ∙ ap (λ a. numbers_of a.response) (sym same)))

  -- one more kind has the first point, or none
  pub next_kind : (k i : ℕ) → k ≡ i → NoneBefore all i → (o : Option CodePoint) → ((facts more : List Fact) → profile.limit ≡ held.profile.limit → IsBeside profile facts held.kept t more
      → NoneBefore (facts ++ more) k → IsPointOf (facts ++ more) k (option_map point_of o)) → MatchOption (option_map point_of o) (NoneBefore all (i + 1)) (IsFirstPoint all)
  next_kind k i is before o found =
      let beside : IsBeside profile h.facts held.kept t (told profile h.last) = record { kept = h.kept; together = h.together; tells = tells } in
      grind (arith, found h.facts (told profile h.last), h.whole, h.judged)

  -- and behind all kinds they conflict nowhere, which can't be
  pub not_nowhere : (i : ℕ) → 11 ≤ i → NoneBefore all i → ⊥
  not_nowhere i end none =
      h.conflict (subst (AllByRecursion IsWellFormed) h.whole (all_both IsWellFormed h.facts (told profile h.last) h.together.well_formed tells.formed)) (λ point c. grind arith)
