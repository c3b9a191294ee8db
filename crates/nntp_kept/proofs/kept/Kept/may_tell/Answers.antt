use Rattle.nntp_kept.proofs.Base.{◌≡◌, Bool, not, IsTrue, Some, Option, is_some, arith, ◌↔◌, MatchOption, ◌≢◌, AreSame, Fields, Field, words_in, sym, ◌∙◌, get}
use Rattle.nntp_kept.proofs.Base.{said_kept}
use Rattle.nntp_kept.proofs.kept.Kept.may_tell.Goals as goal

-- no other words are told exactly where the same fields are
same_if_none : (f : Fields) (told kept before : Option Fields) (other : Option Field) (none : Bool) → told ≡ Some f → kept ≡ before → is_some other ≡ not none
    → MatchOption other (AreSame (Some f) kept) (λ x. MatchOption kept ⊥ (λ b. words_in f x ≢ words_in b x)) → IsTrue none ↔ AreSame told before
same_if_none f told kept before other none e v is h = grind arith

pub returns-in-Some : goal.returns-in-Some
returns-in-Some g c = same_if_none c.in-Some.told _ _ _ c.other_field.result c.is_none.result (sym c.of_overview.ensures ∙ c.in-Some.is)
    (λ i. (said_kept (get (c.self.view_is i).articles (c.as_str.ensures.value i))).fields) c.is_none.ensures c.other_field.ensures
