-- The articles that the code's lists and maps show.
use Rattle.std.specs.{Prelude.{◌≡◌, ⊤, true, List, map}, FinMap.{FinMap, is_sorted}, Ordering.{nat_cmp}, Cmp.Lexicographic.{slice_cmp}}
use Rattle.std.specs.{declared.rc.RcStr.{RcStr}, Rc.{rc_str_bytes}}
use Rattle.nntp_article.specs.{Inner.ShownMap.{shown, shown_entry}, Session.Spool.{Text}}
use Rattle.nntp_content.specs.{Inner.ArticleLines.{text_stored}, declared.{article.StoredArticle.{StoredArticle}, articles.Held.{Held, TheVariants.{InOrder}}}}
use Rattle.nntp_content.specs.declared.articles.Held.TheVariants.{InAnyOrder}

-- the articles by the octets of their ids
abbrev pub articles_shown : {A : Type 0} → List (RcStr A × StoredArticle A) → FinMap (slice_cmp nat_cmp) Text
articles_shown articles = shown (slice_cmp nat_cmp) rc_str_bytes text_stored articles

-- each id is greater than those before it
abbrev pub Ascend : {A : Type 0} → List (RcStr A × StoredArticle A) → Type 0
Ascend articles = is_sorted (slice_cmp nat_cmp) (map (shown_entry rc_str_bytes text_stored) articles) ≡ true

-- the articles that are held, with their ids
abbrev pub entries_held : {A : Type 0} → Held A → List (RcStr A × StoredArticle A)
entries_held (InOrder articles) = articles.items
entries_held (InAnyOrder articles) = articles.entries

-- those that came in the order of their ids stand in it
abbrev pub AreInOrder : {A : Type 0} → Held A → Type 0
AreInOrder (InOrder articles) = Ascend articles.items
AreInOrder (InAnyOrder articles) = ⊤
