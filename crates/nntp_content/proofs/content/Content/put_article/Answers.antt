use Rattle.std.specs.Rc.{rc_str_bytes}
use Rattle.nntp_content.{specs.Inner.{ArticleLines.{text_stored}, ContentView.{spool_stored}}, proofs.ShownMaps.{one_of, still_counted}}
use Rattle.nntp_content.proofs.content.Content.put_article.Goals as goal

pub invariant_of-self : goal.invariant_of-self
invariant_of-self g c = (
  still_counted (spool_stored c.self.inside.groups.entries c.self.inside.articles) c.insert.new.self (rc_str_bytes c.args.id) (text_stored c.args.article) c.self.invariant.0 c.requires
      (one_of c.insert.result c.insert.ensures.ok c.insert.ensures.err),
  c.self.invariant.1,
)
