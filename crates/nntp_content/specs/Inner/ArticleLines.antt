-- The article that a value of the code shows.
use Rattle.std.specs.{Prelude.{◌<◌, ◌^◌, IsTrue, length, ◌≡◌, Some}, List.{list_all}, FinMap.{get}}
use Rattle.nntp_wire.specs.Inner.Held.{held}
use Rattle.nntp_article.specs.{Session.Spool.{Text, is_line, Spool}, Article.Parts.{Id}}
use Rattle.nntp_content.specs.declared.article.{Article.{Article}, StoredArticle.{StoredArticle}}

-- the octets of an article's lines
abbrev pub text_of_article : {A : Type 0} → Article A → Text
text_of_article a = record { head = held a.head.items; body = held a.body.items }

-- the lines of an article that is stored
abbrev pub text_stored : {A : Type 0} → StoredArticle A → Text
text_stored a = record { head = a.head.value; body = a.body.value }

-- no line holds NUL, CR or LF
abbrev pub AreLines : Text → Type 0
AreLines t = IsTrue (list_all is_line t.head) × IsTrue (list_all is_line t.body)

-- the head and the body have fewer than 2^64 lines
abbrev pub HasLineCount : Text → Type 0
HasLineCount t = (length t.head < 2 ^ 64) × (length t.body < 2 ^ 64)

-- each head and each body has fewer than 2^64 lines, as those of articles in memory have
abbrev pub HasLineCounts : Spool → Type 0
HasLineCounts S = (id : Id) (t : Text) → get S.articles id ≡ Some t → HasLineCount t
