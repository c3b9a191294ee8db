use Rattle.nntp_kept_articles.proofs.{Base.{◌∙◌}, KeptIds.{there}}
use Rattle.nntp_kept_articles.proofs.articles.Articles.has_octets.Goals as goal

pub returns : goal.returns
returns g c = c.has_key.ensures ∙ there c.self.inside.known.entries c.self.inside.denied.keys c.args.self.now c.self.view_is c.args.id.now
