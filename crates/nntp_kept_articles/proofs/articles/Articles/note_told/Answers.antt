use Rattle.nntp_kept_articles.proofs.Base.{true, sym, subst, ◌∙◌, OverviewValue, overviews_of, overview_value, if_ok, telling, is_added, IsSaidAdded}
use Rattle.nntp_kept_articles.proofs.{Base.{said_alone}, SaidOfArticles.{first_said}}
use Rattle.nntp_kept_articles.proofs.articles.Articles.note_told.Goals as goal

pub returns-in-Some-clause-added : goal.returns-in-Some-clause-added
returns-in-Some-clause-added g c = if_ok c.tell.result (λ added adds facts id kept may.
    let o : OverviewValue = overview_value c.in-Some.overview in
    let listed = sym c.overviews.ensures.listed ∙ c.in-Some.ensures.steps in
    let is = first_said (overviews_of c.args.block.now) o _ id listed may in
    subst (λ said. IsSaidAdded facts said c.args.self.now c.tell.new.self (is_added added)) is
    (subst (λ told. IsSaidAdded facts (said_alone o.id (telling true told)) c.args.self.now c.tell.new.self (is_added added)) c.of_overview.ensures
    (subst (λ id. IsSaidAdded facts (said_alone id (telling true c.of_overview.result)) c.args.self.now c.tell.new.self (is_added added)) c.as_str-id.ensures.value
    (adds facts kept)))) c.tell.ensures.added
