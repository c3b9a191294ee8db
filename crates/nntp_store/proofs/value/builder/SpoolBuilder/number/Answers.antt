use Rattle.std.{proofs.{Common.{arith, ◌≡◌, ℕ, Result, subst, ◌∙◌}, lemmas.Result.{err_from_is_err_and}}, specs.FinMap.{insert}}
use Rattle.nntp_wire.specs.Limit.{greatest}
use Rattle.nntp_article.specs.{Article.Parts.{Id}, Session.Spool.{Name, numbers}}
use Rattle.nntp_content.specs.Content.{with_group}
use Rattle.nntp_store.specs.{Inner.Building.{Building, Builds, number_fault}, declared.value.spool_fault.SpoolFault.{SpoolFault}}
use Rattle.nntp_store.proofs.NumberFaults.{misplaced, repeated, unheld}
use Rattle.nntp_store.proofs.value.builder.SpoolBuilder.number.Goals as goal

pub returns-in_err-name : goal.returns-in_err-name
returns-in_err-name g c = grind (arith, err_from_is_err_and, misplaced)

pub returns-then-has_id : goal.returns-then-has_id
returns-then-has_id g c = grind (arith, repeated)

pub returns-in_default : goal.returns-in_default
returns-in_default g c = grind (arith, unheld)

-- the same of the octets that the texts are
same_put : (B C : Building) (r : Result (Unit {0}) SpoolFault) (n : ℕ) (name said : Name) (id text : Id) → said ≡ name → text ≡ id
    → Builds (number_fault (greatest B.limit) B.spool said n text) (with_group B.spool said (insert (numbers B.spool said) n text)) r B C
    → Builds (number_fault (greatest B.limit) B.spool name n id) (with_group B.spool name (insert (numbers B.spool name) n id)) r B C
same_put B C r n name said id text e f p = subst (λ k. Builds (number_fault (greatest B.limit) B.spool k n id) (with_group B.spool k (insert (numbers B.spool k) n id)) r B C) e
    (subst (λ i. Builds (number_fault (greatest B.limit) B.spool said n i) (with_group B.spool said (insert (numbers B.spool said) n i)) r B C) f p)

pub returns : goal.returns
returns g c = same_put _ _ c.put_number.result c.args.number _ _ _ _ c.in_ok-name.ensures.1 (c.in-Ok.ensures.ok ∙ c.in_ok-name.ensures.2) c.put_number.ensures
