use Rattle.std.{proofs.Common.{inl, inr, ⊎_elim}, specs.Rc.{rc_str_bytes}}
use Rattle.nntp_content.{specs.Inner.{ArticleLines.{text_stored}, ContentView.{spool_stored}}, proofs.ShownMaps.{one_of, still_counted}}
use Rattle.nntp_content.proofs.gathered.Gathered.push_article.Goals as goal

pub invariant_of-self : goal.invariant_of-self
invariant_of-self g c = record {
  names = c.self.invariant.names;
  line_counts = still_counted (spool_stored c.self.inside.groups.items c.self.inside.articles) c.push.new.self (rc_str_bytes c.args.id) (text_stored c.args.article)
      c.self.invariant.line_counts c.requires.line_count (⊎_elim (λ made. inl made) (λ same. inr (inl same)) (one_of c.push.result c.push.ensures.ok c.push.ensures.err));
}
