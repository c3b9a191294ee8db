use Rattle.nntp_facts.proofs.Base.{rules, cond, ap, refl, sym, ◌∙◌, None, Some, option_map, overviews_of, first_given, Lacks, Exists, Sends, Describes}
use Rattle.nntp_facts.proofs.{Base.{article_said, Article, overviews_said, point_of, statement_of}, PointsFound.ArticlesBeside.{lacks, has, listed_article}}
use Rattle.nntp_facts.proofs.PointsFound.ArticlesBeside.{no_article}
use Rattle.nntp_kept_articles.proofs.KeptArticles.{denied_kept}
use Rattle.nntp_facts.proofs.beside.articles.denied_article.Goals as goal

pub returns-in-Some : goal.returns-in-Some
returns-in-Some g c profile facts more h =
    listed_article profile facts c.args.kept.now (statement_of c.args.told.now) more h (overviews_said c.in-Some.list) (ap (option_map overviews_said) c.in-Some.is)
    (option_map point_of c.lacked_listed_article.result) (c.lacked_listed_article.ensures
    ∙ (λ i. first_given (λ o. cond (sym (denied_kept facts c.args.kept.now.articles o.id h.kept.articles) i) (Some (Article o.id)) None) (overviews_said c.in-Some.list).1))

pub returns-in-None : goal.returns-in-None
returns-in-None g c profile facts more h =
    no_article profile facts c.args.kept.now (statement_of c.args.told.now) more h (ap (option_map overviews_said) c.in_default.is) (ap (option_map article_said) c.in-None.is)

pub returns-in-Some-Lacks : goal.returns-in-Some-Lacks
returns-in-Some-Lacks g c profile facts more h = lacks profile facts c.args.kept.now (statement_of c.args.told.now) more h c.in-Some-Lacks.id.now Lacks (search rules) refl
    (option_map point_of c.shown_article.result) c.shown_article.ensures

pub returns-in-Some-Exists : goal.returns-in-Some-Exists
returns-in-Some-Exists g c profile facts more h = has profile facts c.args.kept.now (statement_of c.args.told.now) more h c.in-Some-Exists.id.now Exists (search rules) refl
    (option_map point_of c.lacked_article.result) c.lacked_article.ensures

pub returns-in-Some-Sends : goal.returns-in-Some-Sends
returns-in-Some-Sends g c profile facts more h =
    let w = c.in-Some-Sends in
    has profile facts c.args.kept.now (statement_of c.args.told.now) more h w.id.now (Sends w.field-0-1 (option_map (λ b. b.now) w.field-0-2)) (search rules) refl
    (option_map point_of c.lacked_article-in-Some-Sends.result) c.lacked_article-in-Some-Sends.ensures

pub returns-in-Some-Describes : goal.returns-in-Some-Describes
returns-in-Some-Describes g c profile facts more h =
    has profile facts c.args.kept.now (statement_of c.args.told.now) more h c.in-Some-Describes.id.now (Describes (overviews_of c.in-Some-Describes.field-0-1.now)) (search rules) refl
    (option_map point_of c.lacked_article-in-Some-Describes.result) c.lacked_article-in-Some-Describes.ensures
