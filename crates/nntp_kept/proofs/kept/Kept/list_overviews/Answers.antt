use Rattle.nntp_kept.proofs.Base.{◌≡◌, None, map, refl, sym, ap, subst, ◌∙◌, true≢false, AllByRecursion, overview_value, on_ok, IsKept, Told, told, Agree}
use Rattle.nntp_kept.proofs.{Base.{MayShow, with_part, IsTextOf, MayGive, of_group}, Keeping.OverviewsJoin.{asks, put, put_there, put_changes, asked_told}}
use Rattle.nntp_kept.{proofs.Keeping.OverviewsJoin.{all_given, overviews_kept}, specs.Inner.Kept.{Kept as KeptValue}}
use Rattle.nntp_kept.proofs.kept.Kept.list_overviews.Goals as goal

pub returns : goal.returns
returns g c = on_ok c.give_all.result (λ given facts range kept together may joins.
    let k = subst (IsKept facts) (sym c.self.view_is) kept in
    let name = (of_group c.args.group.now).name in
    let os = map overview_value c.args.overviews.now in
    let t = asked_told facts name range os in
    let here = put_there (told facts) name t in
    let numbers = c.in_ok-add.ensures (told facts) (asks facts name range os) (subst (IsTextOf None) (sym may.id) tt) k.groups may.numbers
    (λ not_shown. absurd (true≢false (sym may.shown ∙ not_shown)))
    (subst (Agree (told facts name).ids (told facts name).places) (sym may.id) tt) (subst (MayShow (told facts name)) (sym may.id) tt) (put (told facts) name t)
    (put_changes (told facts) (told facts) name t _ (λ other apart. refl) (subst (λ id. t ≡ with_part (told facts name) (asks facts name range os) id) (sym may.id) refl)) in
    overviews_kept facts name range os may.shown c.args.self.now c.give_all.new.self kept (c.give_all.ensures.names ∙ ap (λ (k : KeptValue). k.names) c.self.view_is)
    (given facts (put (told facts) name t) numbers k.articles (ap (λ (t : Told). t.is_shown) here) may.own
    (subst (λ t. AllByRecursion (MayGive facts t) os) (sym here) (all_given facts name range os together may.own joins)))) c.give_all.ensures.kept
