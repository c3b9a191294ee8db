use Rattle.std.proofs.Common.{List, ◌∷◌, sym, subst, ap, ◌∙◌}
use Rattle.nntp_kept_articles.specs.Inner.Readers.{ShownArticle}
use Rattle.nntp_witness.{specs.Inner.Making.{ArticlesLeft}, proofs.{Faults.{memory_passed}, ArticleSteps.{articles_start}}}
use Rattle.nntp_witness.proofs.maker.SpoolMaker.add_articles.Goals as goal

pub loop-article-init : goal.loop-article-init
loop-article-init g c limit said G shown witness groups = articles_start limit said G
    c.args.articles c.args.self.now.builder c.args.self.now.next witness shown groups

pub loop-article-preserved : goal.loop-article-preserved
loop-article-preserved g c limit said G shown witness groups =
    let left : ArticlesLeft limit said G (c.shown.result ∷ c.next.new.self) c.loop-article.self.builder =
    subst (λ (articles : List ShownArticle). ArticlesLeft limit said G articles c.loop-article.self.builder)
    (c.in-Some.ensures.steps ∙ ap (λ article. article ∷ c.next.new.self) (sym c.shown.ensures)) (c.loop-article.invariant limit said G shown witness groups) in
    c.in_ok-add_article.ensures limit said G c.next.new.self witness left

pub returns-in_err-add_article : goal.returns-in_err-add_article
returns-in_err-add_article g c limit said G shown witness groups =
    let left : ArticlesLeft limit said G (c.shown.result ∷ c.next.new.self) c.loop-article.self.builder =
    subst (λ (articles : List ShownArticle). ArticlesLeft limit said G articles c.loop-article.self.builder)
    (c.in-Some.ensures.steps ∙ ap (λ article. article ∷ c.next.new.self) (sym c.shown.ensures)) (c.loop-article.invariant limit said G shown witness groups) in
    memory_passed c.from_residual.result _ c.in_err-add_article.field-0.0 c.from_residual.ensures (c.in_err-add_article.ensures limit said G c.next.new.self witness left)

pub returns : goal.returns
returns g c limit said G shown witness groups =
    subst (λ (articles : List ShownArticle). ArticlesLeft limit said G articles c.loop-article.self.builder) c.in_default.ensures.steps.0
    (c.loop-article.invariant limit said G shown witness groups)
