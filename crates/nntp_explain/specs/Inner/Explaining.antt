-- What is said with the words of `Explaining.antt`, and needn't be believed.
use Rattle.std.specs.Prelude.{ℕ, List}
use Rattle.nntp_theory.specs.Conflict.{Placed}

-- a contradiction that was told: the bad answer where it stands, and the text of its reason
pub record ToldContradiction : Type 0 where
  pub bad : Placed
  pub reason : List ℕ
