use Rattle.nntp_kept_articles.proofs.{Base.{arith}, KeptIds.{denied_there}}
use Rattle.nntp_kept_articles.proofs.articles.Articles.is_denied.Goals as goal

pub returns-then-contains : goal.returns-then-contains
returns-then-contains g c = grind (arith, denied_there c.self.inside.known.entries c.self.inside.denied.keys c.args.self.now c.self.view_is c.args.id.now)

pub returns-else-contains : goal.returns-else-contains
returns-else-contains g c = grind (arith, denied_there c.self.inside.known.entries c.self.inside.denied.keys c.args.self.now c.self.view_is c.args.id.now)
