use Rattle.nntp_kept.proofs.{Base.{map, sym, subst, arith, true≢false, overview_value, IsKept, told, of_group}, Keeping.OverviewsJoin.{asks, overviews_join}}
use Rattle.nntp_kept.proofs.kept.Kept.may_list_overviews.Goals as goal

pub returns-then-at_all : goal.returns-then-at_all
returns-then-at_all g c facts range kept t formed may =
    let name = (of_group c.args.group.now).name in
    let os = map overview_value c.args.overviews.now in
    let joins = c.joins.ensures.at_all (told facts) (asks facts name range os) (subst (IsKept facts) (sym c.self.view_is) kept).groups in
    grind (arith, true≢false, overviews_join facts name range os t formed may.own, t.numbers name, joins, c.may_give_all.ensures facts kept)

pub returns-else-at_all : goal.returns-else-at_all
returns-else-at_all g c facts range kept t formed may =
    let name = (of_group c.args.group.now).name in
    let os = map overview_value c.args.overviews.now in
    let joins = c.joins.ensures.at_all (told facts) (asks facts name range os) (subst (IsKept facts) (sym c.self.view_is) kept).groups in
    grind (arith, true≢false, overviews_join facts name range os t formed may.own, t.numbers name, joins)
