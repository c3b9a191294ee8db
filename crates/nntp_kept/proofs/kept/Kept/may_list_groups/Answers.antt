use Rattle.nntp_kept.proofs.{Base.{map, arith, active_value, Decides-eqb}, Keeping.{ListedGroups.{listing_joins}, CountedGroups.{as_many_shown}}}
use Rattle.nntp_kept.proofs.kept.Kept.may_list_groups.Goals as goal

pub returns-in-Some : goal.returns-in-Some
returns-in-Some g c facts kept t formed may =
    let p = c.args.wildmat.now in
    let lines = map active_value c.args.groups.now in
    let joins = listing_joins facts p lines t formed may.differ in
    let counted = c.in-Some.ensures facts kept t in
    grind (arith, as_many_shown facts c.args.self.now.groups kept.groups t p lines may, Decides-eqb c.in-Some.shown c.count_asked.result)
