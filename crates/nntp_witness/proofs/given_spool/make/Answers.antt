use Rattle.std.proofs.Common.{[], sym, subst}
use Rattle.nntp_kept_articles.specs.Inner.Articles.{AreKeptArticles}
use Rattle.nntp_kept.specs.Inner.Readers.{AreShownGroups}
use Rattle.nntp_witness.{specs.Inner.{Making.{ArticlesLeft}, Witness.{IsGivenSpool}}, proofs.{Faults.{memory_passed}, Aims.{so_of_said, articles_noted}}}
use Rattle.nntp_witness.proofs.given_spool.make.Goals as goal

pub returns-in_err-maker-clause-given : goal.returns-in_err-maker-clause-given
returns-in_err-maker-clause-given g c said G noted given =
    let old = c.args.facts.now in
    let taken = c.take_groups-groups in
    let articles = subst (AreKeptArticles said) (sym taken.ensures.articles) (articles_noted old said noted) in
    let shown = so_of_said old said (λ said. AreShownGroups said taken.result) noted taken.ensures.groups in
    let given_now = subst (λ limit. IsGivenSpool limit said G) (sym taken.ensures.limit) given in
    memory_passed c.from_residual.result _ c.in_err-maker.field-0.0 c.from_residual.ensures (c.in_err-maker.ensures said G articles shown given_now)

pub returns-in_err-add_articles-clause-given : goal.returns-in_err-add_articles-clause-given
returns-in_err-add_articles-clause-given g c said G noted given =
    let old = c.args.facts.now in
    let taken = c.take_groups-groups in
    let articles = subst (AreKeptArticles said) (sym taken.ensures.articles) (articles_noted old said noted) in
    let shown = so_of_said old said (λ said. AreShownGroups said taken.result) noted taken.ensures.groups in
    let given_now = subst (λ limit. IsGivenSpool limit said G) (sym taken.ensures.limit) given in
    memory_passed c.from_residual-in_err-add_articles.result _ c.in_err-add_articles.field-0.0 c.from_residual-in_err-add_articles.ensures
    (c.in_err-add_articles.ensures taken.new.self.limit said G (c.take_articles.ensures said articles) given_now (c.in_ok-maker.ensures said G articles shown given_now))

pub returns-clause-given : goal.returns-clause-given
returns-clause-given g c said G noted given =
    let old = c.args.facts.now in
    let taken = c.take_groups-groups in
    let articles = subst (AreKeptArticles said) (sym taken.ensures.articles) (articles_noted old said noted) in
    let shown = so_of_said old said (λ said. AreShownGroups said taken.result) noted taken.ensures.groups in
    let given_now = subst (λ limit. IsGivenSpool limit said G) (sym taken.ensures.limit) given in
    c.finish.ensures.given old.limit said G given (subst (λ limit. ArticlesLeft limit said G [] c.add_articles.new.self.builder) taken.ensures.limit
    (c.in_ok-add_articles.ensures taken.new.self.limit said G (c.take_articles.ensures said articles) given_now
    (c.in_ok-maker.ensures said G articles shown given_now)))
