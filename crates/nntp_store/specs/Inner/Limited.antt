-- What is said with the words of `Limited.antt`, and needn't be believed.
use Rattle.std.specs.{Prelude.{refl}, Coded.{Coded, code_by, coded×}}
use Rattle.nntp_article.specs.Inner.Coded.{coded_limit}
use Rattle.nntp_content.specs.Inner.Codes.{coded_spool}
use Rattle.nntp_store.specs.Limited.{LimitedSpool}

abbrev pub coded_limited : Coded LimitedSpool
coded_limited = code_by _ (coded× coded_limit coded_spool) (λ l. (l.limit, l.spool)) (λ p. record { limit = p.0; spool = p.1 }) (λ _. refl)
