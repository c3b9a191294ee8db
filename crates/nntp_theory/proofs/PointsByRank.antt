-- Kinds of points in their order, one looked at after the other.
use Rattle.std.{proofs.Common.{◌≡◌, ℕ, zero, suc, ◌⊎◌, List, [], ◌∷◌, inr, arith}, specs.{Prelude.{⊤}, List.{AllByRecursion}}}
use Rattle.nntp_article.specs.{Article.Parts.{Id}, Session.Spool.{Name}, declared.article.field.Field.{Field}}
use Rattle.nntp_theory.{specs.Conflict.{Point, Step, Group, Number, Count, First, IdOf, PlaceOf, Article, HeadOf, BodyOf, FieldOf, rank}, proofs.Members.{In}}

-- one of the elements has the one, or each has the other
pub each : {A : Type 0} (C : Type 0) (P : A → Type 0) (xs : List A) → ((x : A) → In x xs → C ⊎ P x) → C ⊎ AllByRecursion P xs
each C P [] test = inr tt
each C P (x ∷ xs) test = grind (arith, each C P xs (λ y i. test y (inr i)))

-- where the one isn't so, what comes next is looked at
pub or_next : {C A B : Type 0} → C ⊎ A → (A → C ⊎ B) → C ⊎ B
or_next h i = grind arith

-- ---- points by their order

-- what holds of the points of one rank
abbrev pub PointsOf : (Point → Type 0) → ℕ → Type 0
PointsOf P zero = (name : Name) → P (Step name)
PointsOf P (suc zero) = (name : Name) → P (Group name)
PointsOf P (suc (suc zero)) = (name : Name) (n : ℕ) → P (Number name n)
PointsOf P (suc (suc (suc zero))) = (name : Name) → P (Count name)
PointsOf P (suc (suc (suc (suc zero)))) = (name : Name) → P (First name)
PointsOf P (suc (suc (suc (suc (suc zero))))) = (name : Name) (n : ℕ) → P (IdOf name n)
PointsOf P (suc (suc (suc (suc (suc (suc zero)))))) = (name : Name) (id : Id) → P (PlaceOf name id)
PointsOf P (suc (suc (suc (suc (suc (suc (suc zero))))))) = (id : Id) → P (Article id)
PointsOf P (suc (suc (suc (suc (suc (suc (suc (suc zero)))))))) = (id : Id) → P (HeadOf id)
PointsOf P (suc (suc (suc (suc (suc (suc (suc (suc (suc zero))))))))) = (id : Id) → P (BodyOf id)
PointsOf P (suc (suc (suc (suc (suc (suc (suc (suc (suc (suc zero)))))))))) = (id : Id) (field : Field) → P (FieldOf id field)
PointsOf P n = ⊤

-- holds of each of them
pub of_rank : (P : Point → Type 0) (n : ℕ) → PointsOf P n → (point : Point) → rank point ≡ n → P point
of_rank P n point h i = grind arith
