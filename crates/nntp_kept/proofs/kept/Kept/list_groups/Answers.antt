use Rattle.nntp_kept.proofs.Base.{[], ◌∷◌, map, sym, subst, active_value, GroupsAre, on_ok, IsKept, said_of, ◌∙◌, ◌++◌, AreKeptArticles, length-map}
use Rattle.nntp_kept_articles.proofs.SaidOfArticles.{said_append, nothing_more}
use Rattle.nntp_kept.proofs.kept.Kept.list_groups.Goals as goal

pub returns : goal.returns
returns g c = on_ok c.list.result (λ listed facts kept may join.
    let k = subst (IsKept facts) (sym c.self.view_is) kept in
    let lines = map active_value c.args.groups.now in
    let more = GroupsAre c.args.wildmat.now lines ∷ [] in
    let articles : AreKeptArticles (facts ++ more) c.self.inside.articles = λ id. said_append facts more id ∙ nothing_more (said_of facts id) ∙ k.articles id in
    assumption (
      c.in_ok-bound_all.ensures facts c.args.wildmat.now k.groups,
      listed facts lines k.names may (length-map c.args.groups.now active_value),
      articles,
    )) c.list.ensures
