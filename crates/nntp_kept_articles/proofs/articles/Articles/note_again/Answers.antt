use Rattle.nntp_kept_articles.proofs.Base.{true, false, Some, refl, sym, subst, ◌∙◌, arith, not-true, true≢false, option_map, if_ok, unsent, IsArticleAdded}
use Rattle.nntp_kept_articles.proofs.{Base.{IsThereAlready, article_said}, KeptArticles.{shown_kept, new_kept}}
use Rattle.nntp_kept_articles.proofs.articles.Articles.note_again.Goals as goal

pub returns-in-Exists : goal.returns-in-Exists
returns-in-Exists g c facts kept may already =
    let M = c.args.self.now in
    let id = c.in-Exists.field-0.now in
    let there = sym (shown_kept facts M id kept) ∙ subst (λ p. IsThereAlready facts (Some (article_said p))) c.in-Exists.is already in
    subst (λ p. IsArticleAdded facts (Some (article_said p)) M M true) (sym c.in-Exists.is)
    (new_kept facts M id unsent kept false refl M (grind (arith, there, true≢false)) (grind (arith, there, true≢false, not-true)))

pub returns-in-Sends : goal.returns-in-Sends
returns-in-Sends g c =
    let s = c.in-Sends in
    if_ok c.send_again.result (λ added adds facts kept may already.
    grind (arith, adds facts s.what (option_map (λ b. b.now) s.block) kept, c.of.ensures.head s.id.now, c.of.ensures.body s.id.now)) c.send_again.ensures
