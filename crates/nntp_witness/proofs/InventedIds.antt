-- The first id, of those that are invented, that isn't mentioned.
use Rattle.std.proofs.{Common.{◌≡◌, ℕ, ◌+◌, ◌<◌, ◌≤◌, Bool, true, false, IsTrue, List, sym, ap, subst, ◌∙◌, arith, inl, inr}, lemmas.Bool.{cases_lt}}
use Rattle.nntp_article.specs.Article.Parts.{Id}
use Rattle.nntp_said.specs.Facts.{Fact}
use Rattle.nntp_theory.specs.Given.{is_mentioned, invented, IsFirstFree}

-- the ids that are invented with these numbers are mentioned
abbrev pub AreTaken : List Fact → ℕ → ℕ → Type 0
AreTaken facts k n = (m : ℕ) → k ≤ m → m < n → IsTrue (is_mentioned facts (invented m))

-- the first that isn't mentioned
pub first_unmentioned : (facts : List Fact) (k n : ℕ) (id : Id) (answer : Bool) → id ≡ invented n → answer ≡ is_mentioned facts id → answer ≡ false → k ≤ n → AreTaken facts k n
    → IsFirstFree (λ j. is_mentioned facts (invented j)) k n
first_unmentioned facts k n id answer is answers not le taken = (le, ap (is_mentioned facts) (sym is) ∙ sym answers ∙ not, taken)

-- and one more is mentioned
pub one_more_taken : (facts : List Fact) (k n : ℕ) (id : Id) (answer : Bool) → id ≡ invented n → answer ≡ is_mentioned facts id → answer ≡ true → AreTaken facts k n → AreTaken facts k (n + 1)
one_more_taken facts k n id answer is answers there taken m from below =
    let here : IsTrue (is_mentioned facts (invented n)) = ap (is_mentioned facts) (sym is) ∙ sym answers ∙ there in
    elim (cases_lt m n) [
      | inl lt ↦ taken m from lt
      | inr ge ↦ (let same : n ≡ m = omega arith in subst (λ j. IsTrue (is_mentioned facts (invented j))) same here)
    ]
