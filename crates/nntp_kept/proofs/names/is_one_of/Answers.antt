use Rattle.nntp_kept.proofs.Base.{◌∙◌}
use Rattle.nntp_kept_articles.proofs.TextKeys.{is_key}
use Rattle.nntp_kept.proofs.names.is_one_of.Goals as goal

pub returns : goal.returns
returns g c = c.contains.ensures ∙ is_key (λ k. k.items) c.args.name.now c.args.names.now.keys
