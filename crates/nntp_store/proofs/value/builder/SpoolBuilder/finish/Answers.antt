use Rattle.std.proofs.Common.{◌≡◌, Bool, true, false, Ok, Err, refl, sym, ◌∙◌}
use Rattle.nntp_wire.specs.declared.limit.Limit.{Limit}
use Rattle.nntp_article.specs.Session.Spool.{Spool}
use Rattle.nntp_content.specs.Content.{ids_have_articles}
use Rattle.nntp_store.{specs.{Inner.Building.{Building, finished}, Limited.{LimitedSpool}}, proofs.WholeSpools.{to_spool}}
use Rattle.nntp_store.specs.declared.value.spool_fault.SpoolFault.TheVariants as faults
use Rattle.nntp_store.proofs.value.builder.SpoolBuilder.finish.Goals as goal

module _ (B : Building) (limit : Limit) (S : Spool) (failed : Bool) (seen : record { limit = limit; spool = S; failed = failed } ≡ B) (fine : failed ≡ false) where
  -- each id of a number has its article
  given : (L : LimitedSpool) → true ≡ ids_have_articles S → L ≡ record { limit = limit; spool = S } → Ok L ≡ finished B
  given L known is = rw (← seen, fine, ← known, is) refl

  -- some id has none
  refused : false ≡ ids_have_articles S → Err faults.UnknownId ≡ finished B
  refused known = rw (← seen, fine, ← known) refl

pub returns-clause-value : goal.returns-clause-value
returns-clause-value g c = given _ _ _ _ c.self.view_is c.if-self.false c.new.result c.if-not-has_articles.ensures.value c.new.ensures

pub returns-then-not-has_articles-clause-value : goal.returns-then-not-has_articles-clause-value
returns-then-not-has_articles-clause-value g c = refused _ _ _ _ c.self.view_is c.if-self.false c.if-not-has_articles.ensures.value

pub new-requires : goal.new-requires
new-requires g c = to_spool _ _ c.self.invariant (sym c.has_articles.ensures.value ∙ c.if-not-has_articles.false)

pub returns-clause-is_written : goal.returns-clause-is_written
returns-clause-is_written g c = rw c.new.ensures (record {
  is_spool = to_spool _ _ c.self.invariant (sym c.has_articles.ensures.value ∙ c.if-not-has_articles.false);
  line_counts = c.has_articles.ensures.line_counts;
})
