use Rattle.nntp_kept_articles.{proofs.{Base.{true≢false, not-false, arith, true, refl}, KeptArticles.{refused, new_kept}}, specs.Inner.Articles.{denied}}
use Rattle.nntp_kept_articles.proofs.articles.Articles.note_lack.Goals as goal

pub returns-then-has_octets : goal.returns-then-has_octets
returns-then-has_octets g c = λ facts kept. refused facts c.args.self.now c.args.id.now denied kept (λ may. grind (arith, may, true≢false))

pub returns : goal.returns
returns g c = λ facts kept. new_kept facts c.args.self.now c.args.id.now denied kept true refl c.deny.new.self c.in_ok-deny.ensures (grind (arith, not-false))
