use Rattle.std.{proofs.Common.{arith, ◌≡◌, ℕ, Bool, true, false, not, None, Ok, Err, ◌∙◌, ap}, specs.{FinMap.{insert}, Rc.{rc_str_bytes}}}
use Rattle.nntp_wire.specs.{declared.limit.Limit.{Limit}, Limit.{greatest}}
use Rattle.nntp_article.specs.{Article.Parts.{Id}, Session.Spool.{Name, Spool, numbers}}
use Rattle.nntp_content.specs.{Content.{with_group}, Inner.Content.{with_number_in}, Numbers.{has_id}}
use Rattle.nntp_store.{specs.Inner.Building.{Building, Builds, number_fault, place_fault}, proofs.BuiltContent.{number_added}}
use Rattle.nntp_store.specs.declared.value.spool_fault.SpoolFault.TheVariants as faults
use Rattle.nntp_store.proofs.value.builder.SpoolBuilder.put_number.Goals as goal

module _ (B : Building) (limit : Limit) (S T : Spool) (failed added : Bool) (name : Name) (n : ℕ) (id : Id) (seen : record { limit = limit; spool = S; failed = failed } ≡ B)
    (faultless : place_fault (greatest B.limit) B.spool name n id ≡ None) (fine : B.failed ≡ false) (is : added ≡ not (has_id (numbers S name) id))
    (made : T ≡ with_number_in S name n id) where
  -- the number is added, where the group doesn't have its id
  done : added ≡ true → Builds (number_fault (greatest B.limit) B.spool name n id) (with_group B.spool name (insert (numbers B.spool name) n id)) (Ok tt) B
      (record { limit = limit; spool = T; failed = failed })
  done e = grind arith

  -- and where it does, nothing is
  refused : added ≡ false → Builds (number_fault (greatest B.limit) B.spool name n id) (with_group B.spool name (insert (numbers B.spool name) n id)) (Err faults.DuplicateId) B
      (record { limit = limit; spool = T; failed = failed })
  refused e = grind arith

pub returns-in-Ok-true : goal.returns-in-Ok-true
returns-in-Ok-true g c = done _ _ _ _ _ _ _ _ _ c.self.view_is c.requires.faultless c.requires.failed c.in-Ok-true.ensures.added c.in-Ok-true.ensures.ok c.in-Ok-true.field-0-test

pub returns-in-Ok-false : goal.returns-in-Ok-false
returns-in-Ok-false g c = refused _ _ _ _ _ _ _ _ _ c.self.view_is c.requires.faultless c.requires.failed c.in-Ok-false.ensures.added c.in-Ok-false.ensures.ok c.in-Ok-false.field-0-test

pub invariant_of-self : goal.invariant_of-self
invariant_of-self g c =
    let faultless = ap (λ b. place_fault (greatest b.limit) b.spool c.args.name.now c.args.number (rc_str_bytes c.args.id.now)) c.self.view_is ∙ c.requires.faultless in
    rw c.in-Ok-true.ensures.ok (number_added _ _ c.self.invariant _ _ _ faultless)

pub invariant_of-self-in-Ok-false : goal.invariant_of-self-in-Ok-false
invariant_of-self-in-Ok-false g c = search (arith, number_added)
