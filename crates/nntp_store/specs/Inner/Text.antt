-- What is said with the words of `Text.antt`, and needn't be believed.
use Rattle.nntp_content.specs.Inner.ArticleLines.{HasLineCounts}
use Rattle.nntp_store.specs.Limited.{LimitedSpool, IsWithinLimit}

-- a spool whose counts fit 64 bits, as those of each spool in memory do; a count of numbers is within the limit of article numbers
pub record IsWritten (L : LimitedSpool) : Type 0 where
  pub is_spool : IsWithinLimit L
  pub line_counts : HasLineCounts L.spool
