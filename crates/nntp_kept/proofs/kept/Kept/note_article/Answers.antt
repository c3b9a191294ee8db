use Rattle.nntp_kept.proofs.Base.{true, Some, sym, subst, ◌∙◌, IfSome, option_map, said_of, if_ok, article_said, is_added, AreKeptArticles, MayBeSaid}
use Rattle.nntp_kept.proofs.Base.{IsThereAlready, IsArticleAdded, arith}
use Rattle.nntp_kept_articles.proofs.SaidOfArticles.{nothing_more, nothing_joins}
use Rattle.nntp_kept.proofs.kept.Kept.note_article.Goals as goal

pub returns-in-Again-Some-clause-added : goal.returns-in-Again-Some-clause-added
returns-in-Again-Some-clause-added g c =
    if_ok c.note_again.result (λ added adds facts kept may already.
    let said = subst (λ o. IfSome (option_map article_said o) MayBeSaid) c.in-Again-Some.is-1 may in
    let there = subst (λ o. IsThereAlready facts (option_map article_said o)) c.in-Again-Some.is-1 (already c.in-Again-Some.is-0) in
    subst (λ o. IsArticleAdded facts (option_map article_said o) c.args.self.now.articles c.note_again.new.self (is_added added)) (sym c.in-Again-Some.is-1)
    (subst (λ k. IsArticleAdded facts (Some (article_said c.in-Again-Some.article)) k.articles c.note_again.new.self (is_added added)) c.self.view_is
    (adds facts (subst (λ k. AreKeptArticles facts k.articles) (sym c.self.view_is) kept) said there))) c.note_again.ensures

pub returns-in_default-Some-clause-added : goal.returns-in_default-Some-clause-added
returns-in_default-Some-clause-added g c =
    if_ok c.note.result (λ added adds facts kept may already.
    let said = subst (λ o. IfSome (option_map article_said o) MayBeSaid) c.in_default-Some.is-1 may in
    subst (λ o. IsArticleAdded facts (option_map article_said o) c.args.self.now.articles c.note.new.self (is_added added)) (sym c.in_default-Some.is-1)
    (subst (λ k. IsArticleAdded facts (Some (article_said c.in_default-Some.article)) k.articles c.note.new.self (is_added added)) c.self.view_is
    (adds facts (subst (λ k. AreKeptArticles facts k.articles) (sym c.self.view_is) kept) said))) c.note.ensures.added

pub returns-in_default-Some-clause-text : goal.returns-in_default-Some-clause-text
returns-in_default-Some-clause-text g c = grind (arith, if_ok)

pub returns-in_default-None-clause-added : goal.returns-in_default-None-clause-added
returns-in_default-None-clause-added g c facts kept may already =
    subst (λ o. IsArticleAdded facts (option_map article_said o) c.args.self.now.articles c.args.self.now.articles true) (sym c.in_default-None.is-1)
    (λ id. nothing_joins (said_of facts id), λ id. nothing_more (said_of facts id) ∙ kept id)
