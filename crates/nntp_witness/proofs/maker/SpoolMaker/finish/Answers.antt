use Rattle.std.proofs.Common.{◌≡◌, refl, sym, subst, ◌∙◌}
use Rattle.nntp_witness.{specs.Inner.Making.{Makes}, proofs.WholeWitness.{finished_is_given}}
use Rattle.nntp_witness.proofs.maker.SpoolMaker.finish.Goals as goal

pub returns-clause-given : goal.returns-clause-given
returns-clause-given g c limit said G witness left =
    subst (λ r. Makes r (λ spool. spool ≡ record { limit = limit; spool = G })) (sym (c.finish.ensures.value ∙ finished_is_given limit said G c.args.self.builder witness left)) refl
