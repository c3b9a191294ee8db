use Rattle.std.{proofs.Common.{inl, inr, ◌∙◌, ap}, specs.Rc.{rc_str_bytes}}
use Rattle.nntp_content.specs.Inner.ArticleLines.{text_stored}
use Rattle.nntp_store.{specs.Inner.Building.{article_fault}, proofs.BuiltContent.{article_added, articles_dropped}}
use Rattle.nntp_store.proofs.value.builder.SpoolBuilder.put_article.Goals as goal

pub invariant_of-self : goal.invariant_of-self
invariant_of-self g c =
    let faultless = ap (λ b. article_fault b.spool (rc_str_bytes c.args.id) (text_stored c.args.article)) c.self.view_is ∙ c.requires.faultless in
    rw c.in-Ok.ensures.ok (article_added _ _ c.self.invariant _ _ faultless)

pub invariant_of-self-in_default : goal.invariant_of-self-in_default
invariant_of-self-in_default g c = elim c.in_default.ensures.err [ inl same ↦ rw same c.self.invariant | inr none ↦ rw none (articles_dropped _ _ c.self.invariant) ]
