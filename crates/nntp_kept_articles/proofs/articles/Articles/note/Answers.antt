use Rattle.nntp_kept_articles.proofs.Base.{Some, sym, subst, arith, option_map, if_ok, Lacks, is_added, IsArticleAdded, article_said}
use Rattle.nntp_kept_articles.proofs.articles.Articles.note.Goals as goal

pub returns-in-Exists-clause-added : goal.returns-in-Exists-clause-added
returns-in-Exists-clause-added g c =
    if_ok c.stand.result (λ added adds facts kept may.
    subst (λ p. IsArticleAdded facts (Some (article_said p)) c.args.self.now c.stand.new.self (is_added added)) (sym c.in-Exists.is) (adds facts kept)) c.stand.ensures.added

pub returns-in-Sends-clause-added : goal.returns-in-Sends-clause-added
returns-in-Sends-clause-added g c =
    let s = c.in-Sends in
    if_ok c.send.result (λ added adds facts kept may.
    grind (arith, adds facts s.what (option_map (λ b. b.now) s.block) kept, c.of.ensures.head s.id.now, c.of.ensures.body s.id.now)) c.send.ensures.added

pub returns-in_ok-note_lack-in-Lacks-clause-added : goal.returns-in_ok-note_lack-in-Lacks-clause-added
returns-in_ok-note_lack-in-Lacks-clause-added g c facts kept may =
    subst (λ p. IsArticleAdded facts (Some (article_said p)) c.args.self.now c.note_lack.new.self (is_added c.unnamed_if.result)) (sym c.in-Lacks.is)
    (subst (λ does. IsArticleAdded facts (Some (c.in-Lacks.id.now, Lacks)) c.args.self.now c.note_lack.new.self does) (sym c.unnamed_if.ensures.added) (c.in_ok-note_lack-in-Lacks.ensures facts kept))

pub returns-in-Describes-clause-added : goal.returns-in-Describes-clause-added
returns-in-Describes-clause-added g c = if_ok c.note_told.result (λ added adds facts kept may. grind (arith, adds facts c.in-Describes.id.now kept)) c.note_told.ensures.added

pub returns-in-Describes-clause-text : goal.returns-in-Describes-clause-text
returns-in-Describes-clause-text g c = if_ok c.note_told.result (λ added gives may is id exists. grind (arith, gives c.in-Describes.id.now)) c.note_told.ensures.text
