-- What the values of src/article_part.rt mean.
use Rattle.std.specs.Prelude.{option_map}
use Rattle.nntp_wire.specs.Listing.{overviews_of}
use Rattle.nntp_article.specs.Article.Parts.{Id}
use Rattle.nntp_kept_articles.specs.declared.article_part.ArticlePart.{ArticlePart, TheVariants.{Lacks, Exists, Sends, Describes}}
use Rattle.nntp_kept_articles.specs.Inner.ArticleSaid as said_of

-- the id, and what is said of it
abbrev pub article_said : ArticlePart → Id × said_of.OfArticle
article_said (Lacks id) = (id.now, said_of.Lacks)
article_said (Exists id) = (id.now, said_of.Exists)
article_said (Sends id what block) = (id.now, said_of.Sends what (option_map (λ b. b.now) block))
article_said (Describes id block) = (id.now, said_of.Describes (overviews_of block.now))
