use Rattle.nntp_kept_articles.proofs.{Base.{is_some, ap, sym}, KeptIds.{no_key}}
use Rattle.nntp_kept_articles.proofs.articles.has_key.Goals as goal

pub returns-in-Err : goal.returns-in-Err
returns-in-Err g c = ap is_some (sym (no_key c.args.key.now c.in-Err.ensures.cases.0 c.args.map.now.entries))
