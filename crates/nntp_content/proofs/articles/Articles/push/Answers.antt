use Rattle.std.{proofs.Common.{ap, ◌∙◌}, specs.{Ordering.{nat_cmp}, Cmp.Lexicographic.{slice_cmp, nat_list_cmp_total}, Rc.{rc_str_bytes}}}
use Rattle.nntp_content.specs.{Inner.{ArticleLines.{text_stored}, ArticlesView.{articles_shown, entries_held}}, Ascending.{is_last}}
use Rattle.nntp_content.proofs.{GatheredEntries.{one_more}, ShownMaps.{octet_keys}, articles.Articles.push.Goals.{in-InOrder+in_ok-push-in-InOrder}}
use Rattle.nntp_content.proofs.articles.Articles.push.Goals.{in-InAnyOrder+in_ok-insert-in-InAnyOrder}
use Rattle.nntp_article.proofs.ShownMaps.{insert-shown}
use Rattle.std.specs.FinMap as map
use Rattle.nntp_content.proofs.articles.Articles.push.Goals as goal

pub invariant_of-self-2 : goal.invariant_of-self-2
invariant_of-self-2 g c = elim c.match-self.branch [
  | in-InOrder+in_ok-push-in-InOrder w ↦
      let last = ap (λ m. is_last m (rc_str_bytes c.args.id)) (rw w.in-InOrder.is at c.self.view_is) ∙ c.requires in
      let more = one_more (slice_cmp nat_cmp) rc_str_bytes text_stored nat_list_cmp_total octet_keys w.in-InOrder.articles.items _ c.args.id c.args.article
      (rw w.in-InOrder.is at c.self.invariant) last w.in_ok-push-in-InOrder.ensures.items in
      rw w.self-inside-is more.0
  | in-InAnyOrder+in_ok-insert-in-InAnyOrder w ↦ rw w.self-inside-is tt
]

pub returns-clause-ok : goal.returns-clause-ok
returns-clause-ok g c = elim c.match-self.branch [
  | in-InOrder+in_ok-push-in-InOrder w ↦
      let shows = rw w.in-InOrder.is at c.self.view_is in
      let more = one_more (slice_cmp nat_cmp) rc_str_bytes text_stored nat_list_cmp_total octet_keys w.in-InOrder.articles.items _ c.args.id c.args.article
      (rw w.in-InOrder.is at c.self.invariant) (ap (λ m. is_last m (rc_str_bytes c.args.id)) shows ∙ c.requires) w.in_ok-push-in-InOrder.ensures.items in
      rw w.result-is (ap (λ i. articles_shown (entries_held i.held)) w.self-inside-is ∙ more.1 ∙ ap (λ m. map.insert m (rc_str_bytes c.args.id) (text_stored c.args.article)) shows)
  | in-InAnyOrder+in_ok-insert-in-InAnyOrder w ↦
      let more = insert-shown (slice_cmp nat_cmp) rc_str_bytes text_stored nat_list_cmp_total octet_keys w.in-InAnyOrder.articles.entries _ c.args.id c.args.article
      w.in_ok-insert-in-InAnyOrder.ensures.entries in
      rw w.result-is (ap (λ i. articles_shown (entries_held i.held)) w.self-inside-is ∙ more
      ∙ ap (λ m. map.insert m (rc_str_bytes c.args.id) (text_stored c.args.article)) (rw w.in-InAnyOrder.is at c.self.view_is))
]
