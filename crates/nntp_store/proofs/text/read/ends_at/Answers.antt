use Rattle.std.proofs.Common.{◌≡◌, ℕ, true, Ok, refl, ◌∙◌}
use Rattle.nntp_article.specs.Session.Spool.{Spool}
use Rattle.nntp_content.specs.Content.{ids_have_articles}
use Rattle.nntp_store.specs.Reading.{Place, Done, end_at}
use Rattle.nntp_store.proofs.text.read.ends_at.Goals as goal

-- the end is read where each id has its article
all_read : (line : ℕ) (S T : Spool) (p : Place) → T ≡ S → true ≡ ids_have_articles T → end_at line S p ≡ Ok (Done T p)
all_read line S T p same known = rw (← same, ← known) refl

pub returns-then-has_articles : goal.returns-then-has_articles
returns-then-has_articles g c = all_read c.args.line _ _ _ (c.in_ok-content.ensures ∙ c.replace.ensures.value) c.if-has_articles.ensures.value
