-- What a builder answers to a number that has a fault, or that no memory is left for.
use Rattle.std.{proofs.Common.{arith, ◌≡◌, ◌∙◌, refl, ap, ℕ, Bool, true, false, Option, Some, None, Result, Err}, specs.Prelude.{if◌then◌else◌}}
use Rattle.std.specs.FinMap.{insert}
use Rattle.nntp_wire.specs.Limit.{greatest}
use Rattle.nntp_article.specs.{Article.Parts.{Id}, Session.Spool.{Name, Spool, numbers}}
use Rattle.nntp_content.specs.{Numbers.{has_id}, Content.{with_group}}
use Rattle.nntp_store.specs.{declared.value.spool_fault.SpoolFault.{SpoolFault}, Inner.Building.{Building, Builds, BuildsBy, number_fault, place_fault}}
use Rattle.nntp_store.specs.declared.value.spool_fault.SpoolFault.TheVariants as faults

-- where four tests find no fault the fifth decides
fifth : (a b c d e : Bool) (w x y z last : SpoolFault) → (if a then Some w else (if b then Some x else (if c then Some y else (if d then Some z else None)))) ≡ None
    → (if a then Some w else (if b then Some x else (if c then Some y else (if d then Some z else (if e then Some last else None))))) ≡ (if e then Some last else None)
fifth a b c d e w x y z last is = grind arith

module _ (old : Building) (name : Name) (n : ℕ) (id : Id) where
  -- the fault of the number at its place
  abbrev placed : Option SpoolFault
  placed = place_fault (greatest old.limit) old.spool name n id

  -- what the builder answers
  abbrev builds : Result (Unit {0}) SpoolFault → Building → Type 0
  builds r new = Builds (number_fault (greatest old.limit) old.spool name n id) (with_group old.spool name (insert (numbers old.spool name) n id)) r old new

  by : (failed : Bool) (fault : Option SpoolFault) (made : Spool) (f : SpoolFault) → failed ≡ false → fault ≡ Some f → BuildsBy failed fault made (Err f) old old
  by failed fault made f works is = rw (works, is) (refl, refl)

  wants : (failed : Bool) (fault : Option SpoolFault) (made : Spool) (new : Building) → failed ≡ false → fault ≡ None → new.failed ≡ true → BuildsBy failed fault made (Err faults.Memory) old new
  wants failed fault made new works is fails = rw (works, is) (refl, fails)

  -- the number has a fault at its place
  pub misplaced : (f : SpoolFault) → old.failed ≡ false → placed ≡ Some f → builds (Err f) old
  misplaced f works is = grind arith

  -- with none there, only another number of its id is a fault
  has : placed ≡ None → number_fault (greatest old.limit) old.spool name n id ≡ (if has_id (numbers old.spool name) id then Some faults.DuplicateId else None)
  has is = grind (arith, fifth)

  -- another number has the id
  pub repeated : old.failed ≡ false → placed ≡ None → has_id (numbers old.spool name) id ≡ true → builds (Err faults.DuplicateId) old
  repeated works is there = by old.failed _ _ faults.DuplicateId works (has is ∙ ap (λ b. if b then Some faults.DuplicateId else None) there)

  -- no memory is left for the id
  pub unheld : (new : Building) → old.failed ≡ false → placed ≡ None → has_id (numbers old.spool name) id ≡ false → new.failed ≡ true → builds (Err faults.Memory) new
  unheld new works is there fails = wants old.failed _ _ new works (has is ∙ ap (λ b. if b then Some faults.DuplicateId else None) there) fails
