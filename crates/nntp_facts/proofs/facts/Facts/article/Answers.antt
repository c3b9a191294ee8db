use Rattle.nntp_facts.proofs.Base.{refl, sym, ◌∙◌, nth_from_yields_List, YieldsList-from_first, option_map_id}
use Rattle.nntp_facts.proofs.facts.Facts.article.Goals as goal

pub returns : goal.returns
returns g c profile earlier past stands =
    let at = sym (option_map_id _) ∙ nth_from_yields_List c.nth.result _ c.args.index c.nth.ensures.ran (YieldsList-from_first (λ x. x) (λ w. w) c.articles.result refl) in
    (c.articles.result, c.articles.ensures.noted profile earlier past stands, at)
